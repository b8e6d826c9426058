-- The forms of the code are the words that ask for something, and the number of Usage counts how many words begin one.
use Rattle.std.proofs.Common.{◌≡◌, ◌⊎◌, ℕ, zero, suc, ◌+◌, ◌^◌, ◌≤◌, ◌<◌, Bool, true, false, List, [], ◌∷◌, ◌++◌, length, get_or, take, drop, map, max, Option, Some, None, refl, sym, ap, subst, ◌∙◌, inl, inr, arith}
use Rattle.std.specs.Prelude.{◌≢◌, codes, is_some, not, ◌==◌, if◌then◌else◌}
use Rattle.std.specs.Fmt.{decimal}
use Rattle.std.specs.Str.{bytes_eq}
use Rattle.std.proofs.lemmas.List.{take-append-drop, length-take}
use Rattle.std.proofs.lemmas.Bool.{false≢true, true≢false}
use Rattle.std.proofs.lemmas.Option.{same_Some}
use Rattle.std.proofs.Math.Dec.{eqb-suc-zero}
use Rattle.std.proofs.lemmas.Slice.Eq.{bytes_eq-Decides}
use Rattle.octets.specs.Text4.{IsText4, text4, addr4_at}
use Rattle.octets.proofs.Spelling4.{addr4_again, addr4_found, one_text4, text4_spells}
use Rattle.mapt_tool.specs.declared.words.Kind.{Kind}
use Rattle.mapt_tool.specs.declared.words.Kind.TheVariants.{Verb, FileName, Text, Generation, Address, Port}
use Rattle.mapt_tool.specs.declared.words.Verb.TheVariants.{Replay, Rules, Owner, Options}
use Rattle.mapt_tool.specs.declared.words.TheConstants.{REPLAY, RULES, OWNER, OPTIONS}
use Rattle.mapt_tool.specs.Request.{Request, replay, rules, owner, options, words_of, IsAskable, Asks, Begins, IsUsage}
use Rattle.mapt_tool.specs.Words.{keyword_of, number_up_to, fits, fitting, usage_number}
use Rattle.mapt_tool.proofs.Numbers.{number_found, number_again}

-- each word fits its place of the form, and there are as many words as places
abbrev pub AllFit : List Kind → List (List ℕ) → Type 0
AllFit [] [] = Unit {0}
AllFit [] (word ∷ words) = ⊥
AllFit (kind ∷ form) [] = ⊥
AllFit (kind ∷ form) (word ∷ words) = (fits kind word ≡ true) × AllFit form words

-- a word that fits
fill : Kind → List ℕ
fill (Verb verb) = keyword_of verb
fill FileName = codes "0"
fill Text = []
fill Generation = codes "0"
fill Address = text4 0
fill Port = codes "0"

fill_fits : (kind : Kind) → fits kind (fill kind) ≡ true
unfolding fill
fill_fits (Verb Replay) = refl
fill_fits (Verb Rules) = refl
fill_fits (Verb Owner) = refl
fill_fits (Verb Options) = refl
fill_fits FileName = refl
fill_fits Text = refl
fill_fits Generation = refl
fill_fits Address = rw (addr4_again (text4 0) 0 (text4_spells 0 (omega arith))) refl
fill_fits Port = refl

all_filled : (form : List Kind) → AllFit form (map fill form)
all_filled [] = tt
all_filled (kind ∷ form) = (fill_fits kind, all_filled form)

-- the first words of a form are completed by words that fit
counted : (kind : Kind) (form : List Kind) (word : List ℕ) (words : List (List ℕ)) (i : ℕ) (b : Bool) → fits kind word ≡ b → suc i ≤ (if b then fitting form words + 1 else 0) → (fits kind word ≡ true) × (i ≤ fitting form words)
counted kind form word words i true e within = (e, omega arith)
counted kind form word words i false e within = absurd (omega arith)

completed : (form : List Kind) (words : List (List ℕ)) (i : ℕ) → i ≤ fitting form words → AllFit form (take i words ++ drop i (map fill form))
completed form words zero within = all_filled form
completed [] words (suc i) within = absurd (omega arith)
completed (kind ∷ form) [] (suc i) within = absurd (omega arith)
completed (kind ∷ form) (word ∷ words) (suc i) within =
    let one = counted kind form word words i (fits kind word) refl within in
    (one.0, completed form words i one.1)

-- words of a form begin it
begin_form : (form : List Kind) (front others more : List (List ℕ)) → AllFit form (front ++ others) → length front ≤ fitting form (front ++ more)
begin_form form [] others more fit = omega arith
begin_form [] (word ∷ front) others more fit = absurd fit
begin_form (kind ∷ form) (word ∷ front) others more fit = rw fit.0 (omega (arith, begin_form form front others more fit.1))

one_within : (b : Bool) (m n : ℕ) → m ≤ n → (if b then m + 1 else 0) ≤ suc n
one_within true m n le = omega arith
one_within false m n le = omega arith

fitting_within : (form : List Kind) (words : List (List ℕ)) → fitting form words ≤ length words
fitting_within [] words = omega arith
fitting_within (kind ∷ form) [] = omega arith
fitting_within (kind ∷ form) (word ∷ words) = one_within (fits kind word) (fitting form words) (length words) (fitting_within form words)

-- ---- what a word says that fits

same_bytes : (xs ys : List ℕ) → bytes_eq xs ys ≡ true → xs ≡ ys
same_bytes xs ys e = (bytes_eq-Decides xs ys).0 e

bytes_same : (xs ys : List ℕ) → xs ≡ ys → bytes_eq xs ys ≡ true
bytes_same xs ys e = (bytes_eq-Decides xs ys).1 e

named : (word : List ℕ) → not (length word == 0) ≡ true → word ≢ []
named [] e same = false≢true e
named (c ∷ cs) e same = cc

has_name : (word : List ℕ) → word ≢ [] → not (length word == 0) ≡ true
has_name [] other = absurd (other refl)
has_name (c ∷ cs) other = ap not (eqb-suc-zero (length cs))

numbered_by : (most : ℕ) (word : List ℕ) → most ≤ 65535 → (o : Option ℕ) → number_up_to most word ≡ o → is_some o ≡ true → (n : ℕ) × (n ≤ most) × (word ≡ decimal n)
numbered_by most word bound None read e = absurd (false≢true e)
numbered_by most word bound (Some n) read e = let found = number_found most n word bound read in (n, found.0, found.1)

numbered : (most : ℕ) (word : List ℕ) → most ≤ 65535 → is_some (number_up_to most word) ≡ true → (n : ℕ) × (n ≤ most) × (word ≡ decimal n)
numbered most word bound e = numbered_by most word bound (number_up_to most word) refl e

address_below : (text : List ℕ) (n : ℕ) → IsText4 text n → n < 2 ^ 32
address_below text n h = omega (arith, h.value, h.below)

addressed_by : (word : List ℕ) (o : Option ℕ) → addr4_at word ≡ o → is_some o ≡ true → (n : ℕ) × (n < 2 ^ 32) × (word ≡ text4 n)
addressed_by word None read e = absurd (false≢true e)
addressed_by word (Some n) read e = let spelled = addr4_found word n read in (n, address_below word n spelled, one_text4 word n spelled)

addressed : (word : List ℕ) → is_some (addr4_at word) ≡ true → (n : ℕ) × (n < 2 ^ 32) × (word ≡ text4 n)
addressed word e = addressed_by word (addr4_at word) refl e

-- ---- words of a form ask for something

replay_asked : (words : List (List ℕ)) → AllFit REPLAY words → (request : Request) × Asks words request
replay_asked [] fit = absurd fit
replay_asked (verb ∷ []) fit = absurd fit.1
replay_asked (verb ∷ config ∷ []) fit = absurd fit.1.1
replay_asked (verb ∷ config ∷ prefix ∷ []) fit = (
  replay config prefix,
  record {
    spelled = ap (λ (w : List ℕ). w ∷ config ∷ prefix ∷ []) (same_bytes verb (codes "replay") fit.0);
    askable = named config fit.1.0;
  },
)
replay_asked (verb ∷ config ∷ prefix ∷ more ∷ words) fit = absurd fit.1.1.1

rules_asked : (words : List (List ℕ)) → AllFit RULES words → (request : Request) × Asks words request
rules_asked [] fit = absurd fit
rules_asked (verb ∷ []) fit = absurd fit.1
rules_asked (verb ∷ config ∷ []) fit = absurd fit.1.1
rules_asked (verb ∷ config ∷ generation ∷ []) fit =
    let n = numbered 64 generation (omega arith) fit.1.1.0 in (
      rules config n.0,
      record {
        spelled = ap (λ (w : List ℕ). w ∷ config ∷ generation ∷ []) (same_bytes verb (codes "rules") fit.0) ∙ ap (λ (w : List ℕ). codes "rules" ∷ config ∷ w ∷ []) n.2;
        askable = (named config fit.1.0, n.1);
      },
    )
rules_asked (verb ∷ config ∷ generation ∷ more ∷ words) fit = absurd fit.1.1.1

owner_asked : (words : List (List ℕ)) → AllFit OWNER words → (request : Request) × Asks words request
owner_asked [] fit = absurd fit
owner_asked (verb ∷ []) fit = absurd fit.1
owner_asked (verb ∷ config ∷ []) fit = absurd fit.1.1
owner_asked (verb ∷ config ∷ generation ∷ []) fit = absurd fit.1.1.1
owner_asked (verb ∷ config ∷ generation ∷ addr ∷ []) fit = absurd fit.1.1.1.1
owner_asked (verb ∷ config ∷ generation ∷ addr ∷ port ∷ []) fit =
    let n = numbered 64 generation (omega arith) fit.1.1.0 in
    let a = addressed addr fit.1.1.1.0 in
    let x = numbered 65535 port (omega arith) fit.1.1.1.1.0 in (
      owner config n.0 a.0 x.0,
      record {
        spelled = ap (λ (w : List ℕ). w ∷ config ∷ generation ∷ addr ∷ port ∷ []) (same_bytes verb (codes "owner") fit.0)
            ∙ ap (λ (w : List ℕ). codes "owner" ∷ config ∷ w ∷ addr ∷ port ∷ []) n.2
            ∙ ap (λ (w : List ℕ). codes "owner" ∷ config ∷ decimal n.0 ∷ w ∷ port ∷ []) a.2
            ∙ ap (λ (w : List ℕ). codes "owner" ∷ config ∷ decimal n.0 ∷ text4 a.0 ∷ w ∷ []) x.2;
        askable = (named config fit.1.0, n.1, a.1, x.1);
      },
    )
owner_asked (verb ∷ config ∷ generation ∷ addr ∷ port ∷ more ∷ words) fit = absurd fit.1.1.1.1.1

options_asked : (words : List (List ℕ)) → AllFit OPTIONS words → (request : Request) × Asks words request
options_asked [] fit = absurd fit
options_asked (verb ∷ []) fit = absurd fit.1
options_asked (verb ∷ file ∷ []) fit =
    (options file, record { spelled = ap (λ (w : List ℕ). w ∷ file ∷ []) (same_bytes verb (codes "options") fit.0); askable = named file fit.1.0 })
options_asked (verb ∷ file ∷ more ∷ words) fit = absurd fit.1.1

-- ---- and what asks for something is of a form

form_of : Request → List Kind
form_of (replay config prefix) = REPLAY
form_of (rules config generation) = RULES
form_of (owner config generation addr port) = OWNER
form_of (options file) = OPTIONS

spelled_fits : (request : Request) → IsAskable request → AllFit (form_of request) (words_of request)
unfolding form_of
spelled_fits (replay config prefix) askable = (refl, (has_name config askable, (refl, tt)))
spelled_fits (rules config generation) askable = (refl, (has_name config askable.0, (rw (number_again 64 generation (omega arith) askable.1) refl, tt)))
spelled_fits (options file) askable = (refl, (has_name file askable, tt))
spelled_fits (owner config generation addr port) askable =
    (refl, (has_name config askable.0, (rw (number_again 64 generation (omega arith) askable.1) refl, (rw (addr4_again (text4 addr) addr (text4_spells addr askable.2)) refl, (rw (number_again 65535 port (omega arith) askable.3) refl, tt)))))

asked_fits : (words : List (List ℕ)) (request : Request) → Asks words request → AllFit (form_of request) words
asked_fits words request asks = subst (λ (w : List (List ℕ)). AllFit (form_of request) w) (sym asks.spelled) (spelled_fits request asks.askable)

-- ---- words ask for one thing at most

same_number : (most m n : ℕ) → most ≤ 65535 → m ≤ most → n ≤ most → decimal m ≡ decimal n → m ≡ n
same_number most m n bound left right same =
    same_Some m n (sym (number_again most m bound left) ∙ ap (number_up_to most) same ∙ number_again most n bound right)

same_address : (a b : ℕ) → a < 2 ^ 32 → b < 2 ^ 32 → text4 a ≡ text4 b → a ≡ b
same_address a b left right same =
    same_Some a b (sym (addr4_again (text4 a) a (text4_spells a left)) ∙ ap addr4_at same ∙ addr4_again (text4 b) b (text4_spells b right))

other_verb : (a b : List ℕ) (words others : List (List ℕ)) → a ∷ words ≡ b ∷ others → bytes_eq a b ≡ false → ⊥
other_verb a b words others same differ = true≢false (sym (bytes_same a b (ap (λ (w : List (List ℕ)). get_or w 0 []) same)) ∙ differ)

one_words : (r s : Request) → IsAskable r → IsAskable s → words_of r ≡ words_of s → r ≡ s
one_words (replay config prefix) (replay config' prefix') a b same =
    let first : config ≡ config' = ap (λ (w : List (List ℕ)). get_or w 1 []) same in
    let second : prefix ≡ prefix' = ap (λ (w : List (List ℕ)). get_or w 2 []) same in
    rw (first, second) refl
one_words (rules config g) (rules config' g') a b same =
    let first : config ≡ config' = ap (λ (w : List (List ℕ)). get_or w 1 []) same in
    let second : g ≡ g' = same_number 64 g g' (omega arith) a.1 b.1 (ap (λ (w : List (List ℕ)). get_or w 2 []) same) in
    rw (first, second) refl
one_words (owner config g addr port) (owner config' g' addr' port') a b same =
    let first : config ≡ config' = ap (λ (w : List (List ℕ)). get_or w 1 []) same in
    let second : g ≡ g' = same_number 64 g g' (omega arith) a.1 b.1 (ap (λ (w : List (List ℕ)). get_or w 2 []) same) in
    let third : addr ≡ addr' = same_address addr addr' a.2 b.2 (ap (λ (w : List (List ℕ)). get_or w 3 []) same) in
    let fourth : port ≡ port' = same_number 65535 port port' (omega arith) a.3 b.3 (ap (λ (w : List (List ℕ)). get_or w 4 []) same) in
    rw (first, second, third, fourth) refl
one_words (replay config prefix) (rules config' g') a b same = absurd (other_verb (codes "replay") (codes "rules") (config ∷ prefix ∷ []) (config' ∷ decimal g' ∷ []) same refl)
one_words (replay config prefix) (owner config' g' addr' port') a b same = absurd (other_verb (codes "replay") (codes "owner") (config ∷ prefix ∷ []) (config' ∷ decimal g' ∷ text4 addr' ∷ decimal port' ∷ []) same refl)
one_words (rules config g) (replay config' prefix') a b same = absurd (other_verb (codes "rules") (codes "replay") (config ∷ decimal g ∷ []) (config' ∷ prefix' ∷ []) same refl)
one_words (rules config g) (owner config' g' addr' port') a b same = absurd (other_verb (codes "rules") (codes "owner") (config ∷ decimal g ∷ []) (config' ∷ decimal g' ∷ text4 addr' ∷ decimal port' ∷ []) same refl)
one_words (owner config g addr port) (replay config' prefix') a b same = absurd (other_verb (codes "owner") (codes "replay") (config ∷ decimal g ∷ text4 addr ∷ decimal port ∷ []) (config' ∷ prefix' ∷ []) same refl)
one_words (owner config g addr port) (rules config' g') a b same = absurd (other_verb (codes "owner") (codes "rules") (config ∷ decimal g ∷ text4 addr ∷ decimal port ∷ []) (config' ∷ decimal g' ∷ []) same refl)
one_words (options file) (options file') a b same =
    let first : file ≡ file' = ap (λ (w : List (List ℕ)). get_or w 1 []) same in
    rw first refl
one_words (replay config prefix) (options file') a b same = absurd (other_verb (codes "replay") (codes "options") (config ∷ prefix ∷ []) (file' ∷ []) same refl)
one_words (options file) (replay config' prefix') a b same = absurd (other_verb (codes "options") (codes "replay") (file ∷ []) (config' ∷ prefix' ∷ []) same refl)
one_words (rules config g) (options file') a b same = absurd (other_verb (codes "rules") (codes "options") (config ∷ decimal g ∷ []) (file' ∷ []) same refl)
one_words (options file) (rules config' g') a b same = absurd (other_verb (codes "options") (codes "rules") (file ∷ []) (config' ∷ decimal g' ∷ []) same refl)
one_words (owner config g addr port) (options file') a b same = absurd (other_verb (codes "owner") (codes "options") (config ∷ decimal g ∷ text4 addr ∷ decimal port ∷ []) (file' ∷ []) same refl)
one_words (options file) (owner config' g' addr' port') a b same = absurd (other_verb (codes "options") (codes "owner") (file ∷ []) (config' ∷ decimal g' ∷ text4 addr' ∷ decimal port' ∷ []) same refl)

pub one_request : (words : List (List ℕ)) (r s : Request) → Asks words r → Asks words s → r ≡ s
one_request words r s first second = one_words r s first.askable second.askable (sym first.spelled ∙ second.spelled)

-- ---- the number of Usage

form_counts : (request : Request) (words : List (List ℕ)) → fitting (form_of request) words ≤ usage_number words
unfolding form_of
form_counts (replay config prefix) words = omega arith
form_counts (rules config generation) words = omega arith
form_counts (owner config generation addr port) words = omega arith
form_counts (options file) words = omega arith

begun_by : (form : List Kind) (words : List (List ℕ)) (number : ℕ) → number ≤ fitting form words → ((w : List (List ℕ)) → AllFit form w → (request : Request) × Asks w request) → Begins (take number words)
begun_by form words number within asked =
    let request = asked (take number words ++ drop number (map fill form)) (completed form words number within) in
    record { request = request.0; others = drop number (map fill form); whole = request.1 }

one_of_four : (a b c d : ℕ) → let m = max a (max b (max c (max d 0))) in (m ≤ a) ⊎ ((m ≤ b) ⊎ ((m ≤ c) ⊎ (m ≤ d)))
one_of_four a b c d = grind arith

usage_begun : (words : List (List ℕ)) → Begins (take (usage_number words) words)
usage_begun words =
    elim (one_of_four (fitting REPLAY words) (fitting RULES words) (fitting OWNER words) (fitting OPTIONS words)) [
      | inl le ↦ begun_by REPLAY words (usage_number words) le replay_asked
      | inr others ↦ elim others [
        | inl le ↦ begun_by RULES words (usage_number words) le rules_asked
        | inr more ↦ elim more [
          | inl le ↦ begun_by OWNER words (usage_number words) le owner_asked
          | inr le ↦ begun_by OPTIONS words (usage_number words) le options_asked
        ]
      ]
    ]

usage_within : (words : List (List ℕ)) → usage_number words ≤ length words
usage_within words = omega (arith, fitting_within REPLAY words, fitting_within RULES words, fitting_within OWNER words, fitting_within OPTIONS words)

usage_most : (words : List (List ℕ)) → usage_number words < length words → Begins (take (suc (usage_number words)) words) → ⊥
usage_most words less begins =
    let number = usage_number words in
    let front = take (suc number) words in
    let fit = asked_fits (front ++ begins.others) begins.request begins.whole in
    let counts = begin_form (form_of begins.request) front begins.others (drop (suc number) words) fit in
    let whole : front ++ drop (suc number) words ≡ words = take-append-drop (suc number) words in
    let len : length front ≡ suc number = omega (arith, length-take (suc number) words) in
    let more : suc number ≤ fitting (form_of begins.request) words = subst (λ (w : List (List ℕ)). suc number ≤ fitting (form_of begins.request) w) whole (omega (arith, counts, len)) in
    absurd (omega (arith, more, form_counts begins.request words))

pub usage_counted : (words : List (List ℕ)) → ((request : Request) → Asks words request → ⊥) → IsUsage words (usage_number words)
usage_counted words none = record { none = none; within = usage_within words; begun = usage_begun words; most = usage_most words }
