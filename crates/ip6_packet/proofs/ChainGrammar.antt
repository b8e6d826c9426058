-- Reading extension headers from left to right finds the chain that their grammar says.
use Rattle.std.proofs.Common.{◌≡◌, ◌≢◌, ℕ, zero, suc, ◌+◌, ◌-◌, ◌*◌, ◌≤◌, ◌<◌, Bool, true, false, ◌||◌, eqb, ltb, List, [], ◌∷◌, ◌++◌, length, get_or, take, drop, Option, None, Some, ◌⊎◌, inl, inr, refl, sym, ap, ◌∙◌, subst, arith, add-zero}
use Rattle.std.specs.Option.{option_or}
use Rattle.std.specs.List.{concat}
use Rattle.std.proofs.lemmas.Bool.{cases_lt, eq-eqb, ne_eqb, ltb-false, le-ltb, false≢true}
use Rattle.std.proofs.lemmas.Bool.Decides.{eqb_tells}
use Rattle.std.proofs.lemmas.List.{length-take-le, take-append-drop, length-append, length-drop, drop_at, take_at}
use Rattle.std.proofs.lemmas.Option.{none-some, same_Some}
use Rattle.ip6_packet.specs.declared.chain.Chain.{Chain}
use Rattle.ip6_packet.specs.Chain.{is_sized, route_at, behind, frag_of, fragment_end, end_of, chain_in, IsFirstHeader}
use Rattle.ip6_packet.specs.Headers.{IsSizedHeader, AreHeaders, first_left, EndsUpper, EndsInFragment, IsChain}
use Rattle.ip6_packet.proofs.ChainLemmas.{missing, stands, tail}

-- ---- the end of a chain

abbrev Ends : ℕ → ℕ → List ℕ → Chain → Type 0
Ends place last rest chain = EndsUpper place last chain ⊎ EndsInFragment place last rest chain

either : (b : Bool) → (b ≡ true) ⊎ (b ≡ false)
either true = inl refl
either false = inr refl

or_false : (p q : Bool) → (p || q) ≡ false → (p ≡ false) × (q ≡ false)
or_false true q e = cc
or_false false q e = (refl, e)

not_true : (b : Bool) → ¬ (b ≡ true) → b ≡ false
not_true true never = absurd (never refl)
not_true false never = refl

-- no other chain behind the same end
pub record EndTells (place last : ℕ) (rest : List ℕ) (chain : Chain) : Type 0 where
  ends : Ends place last rest chain
  left : chain.left ≡ None

upper-told : (place last : ℕ) (rest : List ℕ) (chain : Chain) → last ≢ 44 → Some (record { upper = last; start = place; frag = None; left = None }) ≡ Some chain → EndTells place last rest chain
upper-told place last rest chain other e =
    let end : Chain = record { upper = last; start = place; frag = None; left = None } in
    let same : chain ≡ end = sym (same_Some end chain e) in
    record {
      ends = inl (record { other = other; upper = ap (λ (c : Chain). c.upper) same; start = ap (λ (c : Chain). c.start) same; frag = ap (λ (c : Chain). c.frag) same });
      left = ap (λ (c : Chain). c.left) same;
    }

fragment-told : (place last : ℕ) (rest : List ℕ) (chain : Chain) → last ≡ 44 → fragment_end place rest ≡ Some chain → EndTells place last rest chain
fragment-told place last rest chain is e =
    elim (either (ltb (length rest) 8 || eqb (get_or rest 0 0) 44)) [
      | inl bad ↦ let f : None ≡ Some chain = rw bad at e in absurd (none-some chain f)
      | inr good ↦
          let end : Chain = record { upper = get_or rest 0 0; start = place + 8; frag = Some (frag_of rest); left = None } in
          let f : Some end ≡ Some chain = rw good at e in
          let same : chain ≡ end = sym (same_Some end chain f) in
          let both = or_false (ltb (length rest) 8) (eqb (get_or rest 0 0) 44) good in
          record {
            ends = inr (record {
              number = is;
              whole = ltb-false (length rest) 8 both.0;
              other = λ second. false≢true (sym both.1 ∙ eq-eqb (get_or rest 0 0) 44 second);
              upper = ap (λ (c : Chain). c.upper) same;
              start = ap (λ (c : Chain). c.start) same;
              frag = ap (λ (c : Chain). c.frag) same;
            });
            left = ap (λ (c : Chain). c.left) same;
          }
    ]

end-told : (place last : ℕ) (rest : List ℕ) (chain : Chain) → end_of place last rest ≡ Some chain → EndTells place last rest chain
end-told place last rest chain e =
    elim (eqb_tells last 44) [
      | inl t ↦ fragment-told place last rest chain t.1 (rw t.0 at e)
      | inr t ↦ upper-told place last rest chain t.1 (rw t.0 at e)
    ]

same_chain : (c d : Chain) → c.upper ≡ d.upper → c.start ≡ d.start → c.frag ≡ d.frag → c.left ≡ d.left → c ≡ d
same_chain c d upper start frag left = λ i. record { upper = upper i; start = start i; frag = frag i; left = left i }

end-again : (place last : ℕ) (rest : List ℕ) (chain : Chain) → Ends place last rest chain → chain.left ≡ None → end_of place last rest ≡ Some chain
end-again place last rest chain (inl is) left =
    let end : Chain = record { upper = last; start = place; frag = None; left = None } in
    rw (ne_eqb last 44 is.other) (ap (λ (c : Chain). Some c) (same_chain end chain (sym is.upper) (sym is.start) (sym is.frag) (sym left)))
end-again place last rest chain (inr is) left =
    let end : Chain = record { upper = get_or rest 0 0; start = place + 8; frag = Some (frag_of rest); left = None } in
    rw (eq-eqb last 44 is.number, le-ltb (length rest) 8 is.whole, ne_eqb (get_or rest 0 0) 44 is.other) (ap (λ (c : Chain). Some c) (same_chain end chain (sym is.upper) (sym is.start) (sym is.frag) (sym left)))

-- the same end at the same place
ends-as : (p q last : ℕ) (rest : List ℕ) (c d : Chain) → p ≡ q → d.upper ≡ c.upper → d.start ≡ c.start → d.frag ≡ c.frag → Ends p last rest c → Ends q last rest d
ends-as p q last rest c d same upper start frag (inl is) =
    inl (record { other = is.other; upper = upper ∙ is.upper; start = start ∙ is.start ∙ same; frag = frag ∙ is.frag })
ends-as p q last rest c d same upper start frag (inr is) =
    inr (record {
      number = is.number;
      whole = is.whole;
      other = is.other;
      upper = upper ∙ is.upper;
      start = start ∙ is.start ∙ ap (λ (n : ℕ). n + 8) same;
      frag = frag ∙ is.frag;
    })

-- ---- from left to right

pub record Behind (left : Option ℕ) (later : Option Chain) (chain : Chain) : Type 0 where
  other : Chain
  there : later ≡ Some other
  upper : chain.upper ≡ other.upper
  start : chain.start ≡ other.start
  frag : chain.frag ≡ other.frag
  left_is : chain.left ≡ option_or left other.left

behind-told : (left : Option ℕ) (later : Option Chain) (chain : Chain) → behind left later ≡ Some chain → Behind left later chain
behind-told left None chain e = absurd (none-some chain e)
behind-told left (Some c) chain e =
    let with_left : Chain = record { upper = c.upper; start = c.start; frag = c.frag; left = option_or left c.left } in
    let same : chain ≡ with_left = sym (same_Some with_left chain e) in
    record {
      other = c;
      there = refl;
      upper = ap (λ (c : Chain). c.upper) same;
      start = ap (λ (c : Chain). c.start) same;
      frag = ap (λ (c : Chain). c.frag) same;
      left_is = ap (λ (c : Chain). c.left) same;
    }

-- a header in front of a chain
in-front : (place number : ℕ) (header others : List ℕ) (chain : Chain) (c : Chain) → is_sized number ≡ true → IsSizedHeader header
    → chain.upper ≡ c.upper → chain.start ≡ c.start → chain.frag ≡ c.frag → chain.left ≡ option_or (route_at number (place + 3) (get_or header 3 0)) c.left
    → IsChain (place + length header) (get_or header 0 0) others c → IsChain place number (header ++ others) chain
in-front place number header others chain c sized is upper start frag left r = record {
  headers = header ∷ r.headers;
  last = r.last;
  rest = r.rest;
  are = (sized, is, (others, refl, r.are));
  no_more = r.no_more;
  ends = ends-as (place + length header + length (concat r.headers)) (place + length (header ++ concat r.headers)) r.last r.rest c chain (omega (arith, length-append header (concat r.headers))) upper start frag r.ends;
  left = left ∙ ap (λ (o : Option ℕ). option_or (route_at number (place + 3) (get_or header 3 0)) o) r.left;
}

cut_header : (octets : List ℕ) (n : ℕ) → n ≡ (get_or octets 1 0 + 1) * 8 → n ≤ length octets → IsSizedHeader (take n octets)
cut_header [] n e whole = absurd (omega arith)
cut_header (next ∷ []) n e whole = absurd (omega arith)
cut_header (next ∷ units ∷ rest) n e whole =
    let split : n ≡ suc (suc (n - 2)) = omega arith in
    record {
      next = next;
      units = units;
      content = take (n - 2) rest;
      spelled = ap (λ (m : ℕ). take m (next ∷ units ∷ rest)) split;
      long = length-take-le n (next ∷ units ∷ rest) whole ∙ (let sizes : n ≡ 8 * units + 8 = omega arith in sizes);
    }

sized-read : (place number : ℕ) (octets : List ℕ) (chain : Chain) → is_sized number ≡ true → (get_or octets 1 0 + 1) * 8 ≤ length octets → chain_in place number 0 octets ≡ Some chain
    → ((place' number' : ℕ) (others : List ℕ) (c : Chain) → length others < length octets → chain_in place' number' 0 others ≡ Some c → IsChain place' number' others c)
    → IsChain place number octets chain
sized-read place number octets chain sized whole e ih =
    let n : ℕ = (get_or octets 1 0 + 1) * 8 in
    let header : List ℕ = take n octets in
    let others : List ℕ = drop n octets in
    let first : IsFirstHeader header octets = stands octets n refl whole in
    let long : length header ≡ n = length-take-le n octets whole in
    let rest_is : drop (length header) octets ≡ others = ap (λ (m : ℕ). drop m octets) long in
    let opened : chain_in place number 0 octets ≡ behind (route_at number (place + 3) (get_or header 3 0)) (chain_in (place + length header) (get_or header 0 0) 0 others) =
    first.2 place number sized ∙ ap (λ (xs : List ℕ). behind (route_at number (place + 3) (get_or header 3 0)) (chain_in (place + length header) (get_or header 0 0) 0 xs)) rest_is in
    let b = behind-told (route_at number (place + 3) (get_or header 3 0)) (chain_in (place + length header) (get_or header 0 0) 0 others) chain (sym opened ∙ e) in
    let later : IsChain (place + length header) (get_or header 0 0) others b.other = ih (place + length header) (get_or header 0 0) others b.other (omega (arith, length-drop n octets)) b.there in
    let P : List ℕ → Type 0 = λ xs. IsChain place number xs chain in
    subst P (take-append-drop n octets) (in-front place number header others chain b.other sized (cut_header octets n refl whole) b.upper b.start b.frag b.left_is later)

last-read : (place number : ℕ) (octets : List ℕ) (chain : Chain) → is_sized number ≡ false → chain_in place number 0 octets ≡ Some chain → IsChain place number octets chain
last-read place number octets chain upper e =
    let end = end-told place number octets chain (sym (tail place number octets upper) ∙ e) in
    record {
      headers = [];
      last = number;
      rest = octets;
      are = (refl, refl);
      no_more = λ sized. false≢true (sym upper ∙ sized);
      ends = ends-as place (place + 0) number octets chain chain (sym (add-zero place)) refl refl refl end.ends;
      left = end.left;
    }

read-by : (place number : ℕ) (octets : List ℕ) (chain : Chain) → chain_in place number 0 octets ≡ Some chain
    → ((place' number' : ℕ) (others : List ℕ) (c : Chain) → length others < length octets → chain_in place' number' 0 others ≡ Some c → IsChain place' number' others c)
    → IsChain place number octets chain
read-by place number octets chain e ih =
    elim (either (is_sized number)) [
      | inr upper ↦ last-read place number octets chain upper e
      | inl sized ↦ elim (cases_lt (length octets) ((get_or octets 1 0 + 1) * 8)) [
        | inl short ↦ absurd (none-some chain (sym (missing octets short place number sized) ∙ e))
        | inr whole ↦ sized-read place number octets chain sized whole e ih
      ]
    ]

read-within : (n place number : ℕ) (octets : List ℕ) (chain : Chain) → length octets ≤ n → chain_in place number 0 octets ≡ Some chain → IsChain place number octets chain
read-within zero place number octets chain le e = read-by place number octets chain e (λ place' number' others c lt later. absurd (omega arith))
read-within (suc n) place number octets chain le e =
    read-by place number octets chain e (λ place' number' others c lt later. read-within n place' number' others c (omega arith) later)

pub read : (place number : ℕ) (octets : List ℕ) (chain : Chain) → chain_in place number 0 octets ≡ Some chain → IsChain place number octets chain
read place number octets chain e = read-within (length octets) place number octets chain (omega arith) e

-- ---- and back

first-again : (next units : ℕ) (content others : List ℕ) → length (next ∷ units ∷ content) ≡ 8 * units + 8 → IsFirstHeader (next ∷ units ∷ content) ((next ∷ units ∷ content) ++ others)
first-again next units content others long =
    let n : ℕ = length (next ∷ units ∷ content) in
    let P : List ℕ → Type 0 = λ xs. IsFirstHeader xs ((next ∷ units ∷ content) ++ others) in
    subst P (take_at (next ∷ units ∷ content) others n refl) (stands ((next ∷ units ∷ content) ++ others) n (omega arith) (omega (arith, length-append (next ∷ units ∷ content) others)))

first-of : (header others : List ℕ) → IsSizedHeader header → IsFirstHeader header (header ++ others)
first-of header others is =
    let P : List ℕ → Type 0 = λ xs. IsFirstHeader xs (xs ++ others) in
    subst P (sym is.spelled) (first-again is.next is.units is.content others (sym (ap length is.spelled) ∙ is.long))

header-again : (place number : ℕ) (header others : List ℕ) (left : Option ℕ) (chain : Chain) → is_sized number ≡ true → IsSizedHeader header
    → chain.left ≡ option_or (route_at number (place + 3) (get_or header 3 0)) left
    → chain_in (place + length header) (get_or header 0 0) 0 others ≡ Some (record { upper = chain.upper; start = chain.start; frag = chain.frag; left = left })
    → chain_in place number 0 (header ++ others) ≡ Some chain
header-again place number header others left chain sized is left_is later =
    let found : Option ℕ = route_at number (place + 3) (get_or header 3 0) in
    (first-of header others is).2 place number sized
    ∙ ap (λ (xs : List ℕ). behind found (chain_in (place + length header) (get_or header 0 0) 0 xs)) (drop_at header others (length header) refl)
    ∙ ap (behind found) later
    ∙ ap (λ (o : Option ℕ). Some (record { upper = chain.upper; start = chain.start; frag = chain.frag; left = o })) (sym left_is)

again : (headers : List (List ℕ)) (place number : ℕ) (octets : List ℕ) (last : ℕ) (rest : List ℕ) (chain : Chain) → AreHeaders number octets headers last rest → is_sized last ≡ false
    → Ends (place + length (concat headers)) last rest chain → chain.left ≡ first_left place number headers → chain_in place number 0 octets ≡ Some chain
again [] place number octets last rest chain are upper ends left =
    let number_upper : is_sized number ≡ false = ap is_sized are.0 ∙ upper in
    tail place number octets number_upper
    ∙ ap (λ (n : ℕ). end_of place n octets) are.0
    ∙ ap (λ (xs : List ℕ). end_of place last xs) are.1
    ∙ end-again place last rest chain (ends-as (place + 0) place last rest chain chain (add-zero place) refl refl refl ends) left
again (header ∷ headers) place number octets last rest chain are upper ends left =
    let others : List ℕ = are.2.0 in
    let at : ℕ = place + length header in
    let next : ℕ = get_or header 0 0 in
    let left' : Option ℕ = first_left at next headers in
    let c : Chain = record { upper = chain.upper; start = chain.start; frag = chain.frag; left = left' } in
    let there : place + length (header ++ concat headers) ≡ at + length (concat headers) = omega (arith, length-append header (concat headers)) in
    let later : chain_in at next 0 others ≡ Some c = again headers at next others last rest c are.2.2 upper (ends-as (place + length (header ++ concat headers)) (at + length (concat headers)) last rest chain c there refl refl refl ends) refl in
    ap (λ (xs : List ℕ). chain_in place number 0 xs) are.2.1 ∙ header-again place number header others left' chain are.0 are.1 left later

pub chain-exactly : (place number : ℕ) (octets : List ℕ) (chain : Chain) → (chain_in place number 0 octets ≡ Some chain → IsChain place number octets chain) × (IsChain place number octets chain → chain_in place number 0 octets ≡ Some chain)
chain-exactly place number octets chain =
    (read place number octets chain, λ is. again is.headers place number octets is.last is.rest chain is.are (not_true (is_sized is.last) is.no_more) is.ends is.left)

nothing : (o : Option Chain) → ((chain : Chain) → ¬ (o ≡ Some chain)) → o ≡ None
nothing None never = refl
nothing (Some c) never = absurd (never c refl)

pub none-exactly : (place number : ℕ) (octets : List ℕ) → (chain_in place number 0 octets ≡ None → (chain : Chain) → ¬ IsChain place number octets chain) × (((chain : Chain) → ¬ IsChain place number octets chain) → chain_in place number 0 octets ≡ None)
none-exactly place number octets =
    (λ none chain is. none-some chain (sym none ∙ (chain-exactly place number octets chain).1 is), λ never. nothing (chain_in place number 0 octets) (λ chain e. never chain (read place number octets chain e)))
