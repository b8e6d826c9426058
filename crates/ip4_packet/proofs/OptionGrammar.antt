-- Reading options from left to right finds what their grammar says.
use Rattle.std.proofs.Common.{◌≡◌, ℕ, zero, suc, ◌+◌, ◌-◌, ◌≤◌, Bool, true, false, cond, ◌||◌, List, [], ◌∷◌, ◌++◌, length, get_or, take, drop, Option, None, Some, inl, inr, refl, sym, ap, ◌∙◌, subst, arith}
use Rattle.std.specs.List.{list_any}
use Rattle.std.proofs.lemmas.Bool.{cases_lt}
use Rattle.std.proofs.lemmas.List.{length-take-le, get_or-take, get_or_append_left, take-append-drop, length-append, drop_at}
use Rattle.std.proofs.lemmas.Option.{none-some, same_Some}
use Rattle.ip4_packet.specs.Options.{is_source_route, least_length, is_unspent, beside, routed_in}
use Rattle.ip4_packet.specs.OptionList.{IsSizedOption, IsOption, IsListEnd, AreOptions, is_unspent_route, AreRouted}
use Rattle.ip4_packet.proofs.OptionLemmas.{skipped, passes, two_or_more, unspent_alike, ends, passed_over, unsized, too_short, opens}

-- ---- from left to right

-- a source route is one exactly where three octets are asked
route-least : (kind : ℕ) → 3 ≤ least_length kind → is_source_route kind ≡ true
route-least kind = elim (is_source_route kind) as (λ b. 3 ≤ cond b 3 2 → b ≡ true) [
  | true ↦ λ (h : 3 ≤ 3). refl
  | false ↦ λ (h : 3 ≤ 2). absurd (omega arith)
]

least-route : (kind : ℕ) → is_source_route kind ≡ true → 3 ≤ least_length kind
least-route kind e = rw e (omega arith)

least-fits : (kind n : ℕ) → (is_source_route kind ≡ true → 1 ≤ n) → least_length kind ≤ 2 + n
least-fits kind n = elim (is_source_route kind) as (λ b. (b ≡ true → 1 ≤ n) → cond b 3 2 ≤ 2 + n) [
  | true ↦ λ (h : true ≡ true → 1 ≤ n). let one : 1 ≤ n = h refl in omega arith
  | false ↦ λ (h : false ≡ true → 1 ≤ n). omega arith
]

-- what was found of an option and of those behind it
beside-found : (found : Bool) (later : Option Bool) (routed : Bool) → beside found later ≡ Some routed → (b : Bool) × (later ≡ Some b) × (routed ≡ found || b)
beside-found found None routed e = absurd (none-some routed e)
beside-found found (Some b) routed e = (b, refl, sym (same_Some (found || b) routed e))

joined : (option rest : List ℕ) (routed found later : Bool) → IsOption option → found ≡ is_unspent_route option → routed ≡ found || later → AreRouted rest later → AreRouted (option ++ rest) routed
joined option rest routed found later is here all r = record {
  options = option ∷ r.options;
  are = (rest, refl, is, r.are);
  told = all ∙ ap (λ (b : Bool). b || later) here ∙ ap (λ (b : Bool). is_unspent_route option || b) r.told;
}

no_end : (octets : List ℕ) (routed : Bool) → IsListEnd octets → routed_in 0 octets ≡ Some false → routed_in 0 octets ≡ Some routed → AreRouted octets routed
no_end octets routed is none e = record { options = []; are = is; told = sym (same_Some false routed (sym none ∙ e)) }

-- an option that stands whole, by the octets behind its length
sized-read : (kind len : ℕ) (rest : List ℕ) (routed : Bool) → 2 ≤ kind → least_length kind ≤ len → routed_in 0 (kind ∷ len ∷ rest) ≡ Some routed
    → ((behind : List ℕ) (later : Bool) → length behind ≤ length rest → routed_in 0 behind ≡ Some later → AreRouted behind later)
    → AreRouted (kind ∷ len ∷ rest) routed
sized-read kind len rest routed large fits e ih =
    let n : ℕ = len - 2 in
    let two = two_or_more kind in
    let split = beside-found (is_unspent kind len (get_or rest 0 0)) (routed_in n rest) routed (sym (opens kind len rest large fits) ∙ e) in
    elim (cases_lt (length rest) n) [
      | inl lt ↦ absurd (none-some split.0 (sym (passes n rest lt) ∙ split.1))
      | inr le ↦
          let content : List ℕ = take n rest in
          let behind : List ℕ = drop n rest in
          let long : length content ≡ n = length-take-le n rest le in
          let whole : content ++ behind ≡ rest = take-append-drop n rest in
          let len_is : len ≡ 2 + length content = omega (arith, long) in
          let is : IsSizedOption (kind ∷ len ∷ content) = record {
            kind = kind;
            content = content;
            sized = large;
            spelled = ap (λ (x : ℕ). kind ∷ x ∷ content) len_is;
            pointed = λ route. let three = least-route kind route in omega (arith, long);
          } in
          let found : is_unspent kind len (get_or rest 0 0) ≡ is_unspent_route (kind ∷ len ∷ content) = unspent_alike kind len (get_or rest 0 0) (get_or content 0 0) (λ (three : 3 ≤ least_length kind). sym (get_or-take n rest 0 0 (omega arith))) in
          let later : AreRouted behind split.0 = ih behind split.0 (omega (arith, ap length whole, length-append content behind)) (sym (skipped n rest le) ∙ split.1) in
          let P : List ℕ → Type 0 = λ xs. AreRouted (kind ∷ len ∷ xs) routed in
          subst P whole (joined (kind ∷ len ∷ content) behind routed (is_unspent kind len (get_or rest 0 0)) split.0 (inr is) found split.2 later)
    ]

read-sized : (kind : ℕ) (rest : List ℕ) (routed : Bool) → 2 ≤ kind → routed_in 0 (kind ∷ rest) ≡ Some routed
    → ((behind : List ℕ) (later : Bool) → length behind ≤ length rest → routed_in 0 behind ≡ Some later → AreRouted behind later)
    → AreRouted (kind ∷ rest) routed
read-sized kind [] routed large e ih = absurd (none-some routed (sym (unsized (kind ∷ []) (omega arith) large) ∙ e))
read-sized kind (len ∷ rest) routed large e ih =
    elim (cases_lt len (least_length kind)) [
      | inl short ↦ absurd (none-some routed (sym (too_short (kind ∷ len ∷ rest) (omega arith) large short) ∙ e))
      | inr fits ↦ sized-read kind len rest routed large fits e (λ behind later le read. ih behind later (omega arith) read)
    ]

read-first : (kind : ℕ) (rest : List ℕ) (routed : Bool) → routed_in 0 (kind ∷ rest) ≡ Some routed
    → ((behind : List ℕ) (later : Bool) → length behind ≤ length rest → routed_in 0 behind ≡ Some later → AreRouted behind later)
    → AreRouted (kind ∷ rest) routed
read-first zero rest routed e ih = no_end (0 ∷ rest) routed (inr (rest, refl)) (ends (0 ∷ rest) (inr refl)) e
read-first (suc zero) rest routed e ih =
    joined (1 ∷ []) rest routed false routed (inl refl) refl refl (ih rest routed (omega arith) (sym (passed_over (1 ∷ rest) refl) ∙ e))
read-first (suc (suc kind)) rest routed e ih = read-sized (suc (suc kind)) rest routed (omega arith) e ih

read-within : (n : ℕ) (octets : List ℕ) (routed : Bool) → length octets ≤ n → routed_in 0 octets ≡ Some routed → AreRouted octets routed
read-within n [] routed le e = no_end [] routed (inl refl) (ends [] (inl refl)) e
read-within zero (kind ∷ rest) routed le e = absurd (omega arith)
read-within (suc n) (kind ∷ rest) routed le e =
    read-first kind rest routed e (λ behind later short read. read-within n behind later (omega arith) read)

pub read : (octets : List ℕ) (routed : Bool) → routed_in 0 octets ≡ Some routed → AreRouted octets routed
read octets routed e = read-within (length octets) octets routed (omega arith) e

-- ---- and back

sized-again : (option rest : List ℕ) (later : Bool) → IsSizedOption option → routed_in 0 rest ≡ Some later → routed_in 0 (option ++ rest) ≡ Some (is_unspent_route option || later)
sized-again option rest later is read =
    let kind : ℕ = is.kind in
    let content : List ℕ = is.content in
    let len : ℕ = 2 + length content in
    let fits : least_length kind ≤ len = least-fits kind (length content) is.pointed in
    let n_is : len - 2 ≡ length content = omega arith in
    let on : routed_in (len - 2) (content ++ rest) ≡ Some later =
    ap (λ (n : ℕ). routed_in n (content ++ rest)) n_is
    ∙ skipped (length content) (content ++ rest) (omega (arith, length-append content rest))
    ∙ ap (routed_in 0) (drop_at content rest (length content) refl)
    ∙ read in
    let found : is_unspent kind len (get_or (content ++ rest) 0 0) ≡ is_unspent kind len (get_or content 0 0) = unspent_alike kind len (get_or (content ++ rest) 0 0) (get_or content 0 0) (λ (three : 3 ≤ least_length kind). let one : 1 ≤ length content = is.pointed (route-least kind three) in get_or_append_left content rest 0 0 (omega arith)) in
    let P : List ℕ → Type 0 = λ xs. routed_in 0 (xs ++ rest) ≡ Some (is_unspent_route xs || later) in
    subst P (sym is.spelled) (opens kind len (content ++ rest) is.sized fits ∙ ap (beside (is_unspent kind len (get_or (content ++ rest) 0 0))) on ∙ ap (λ (b : Bool). Some (b || later)) found)

one-again : (option rest : List ℕ) (later : Bool) → IsOption option → routed_in 0 rest ≡ Some later → routed_in 0 (option ++ rest) ≡ Some (is_unspent_route option || later)
one-again option rest later (inl is) read =
    let P : List ℕ → Type 0 = λ xs. routed_in 0 (xs ++ rest) ≡ Some (is_unspent_route xs || later) in
    subst P (sym is) (passed_over (1 ∷ rest) refl ∙ read)
one-again option rest later (inr is) read = sized-again option rest later is read

end-again : (octets : List ℕ) → IsListEnd octets → routed_in 0 octets ≡ Some false
end-again octets (inl e) = ap (routed_in 0) e ∙ ends [] (inl refl)
end-again octets (inr (padding, e)) = ap (routed_in 0) e ∙ ends (0 ∷ padding) (inr refl)

again : (options : List (List ℕ)) (octets : List ℕ) → AreOptions octets options → routed_in 0 octets ≡ Some (list_any is_unspent_route options)
again [] octets is = end-again octets is
again (option ∷ options) octets is =
    ap (routed_in 0) is.1 ∙ one-again option is.0 (list_any is_unspent_route options) is.2 (again options is.0 is.3)

pub read-exactly : (octets : List ℕ) (routed : Bool) → (routed_in 0 octets ≡ Some routed → AreRouted octets routed) × (AreRouted octets routed → routed_in 0 octets ≡ Some routed)
read-exactly octets routed = (read octets routed, λ r. again r.options octets r.are ∙ ap (λ (b : Bool). Some b) (sym r.told))

nothing : (o : Option Bool) → ((routed : Bool) → ¬ (o ≡ Some routed)) → o ≡ None
nothing None never = refl
nothing (Some b) never = absurd (never b refl)

pub none-exactly : (octets : List ℕ) → (routed_in 0 octets ≡ None → (options : List (List ℕ)) → ¬ AreOptions octets options) × (((options : List (List ℕ)) → ¬ AreOptions octets options) → routed_in 0 octets ≡ None)
none-exactly octets =
    (λ none options are. none-some (list_any is_unspent_route options) (sym none ∙ again options octets are), λ never. nothing (routed_in 0 octets) (λ routed e. let r = read octets routed e in never r.options r.are))
