use Rattle.std.proofs.Common.{arith, inl, ◌≤◌, ap, sym, ◌∙◌, ◌≡◌, ◌<◌, ◌+◌, Bool, ℕ, cond, ◌||◌, ◌++◌, ◌∷◌, [], length, get_or, take, Some}
use Rattle.std.specs.List.{count_by, list_any}
use Rattle.octets.specs.Field.{word}
use Rattle.s46_options.specs.declared.fault.OptionFault.TheVariants.{BadLength}
use Rattle.s46_options.specs.Raw.{option_of, options_of, cut_of}
use Rattle.s46_options.specs.Options.{spelled_all}
use Rattle.s46_options.specs.Faults.{item_faults, item_faults_beside, item_judge, begun_item_faults, all_faults, missing, first, place_behind, has_code}
use Rattle.s46_options.specs.Reading.{ReadsItem}
use Rattle.s46_options.specs.Items.{item_option}
use Rattle.s46_options.specs.Accepted.{item_fits}
use Rattle.s46_options.proofs.Walks.{place_bound, place_next, walk_next, any_next, count_next, once_next, map_next, all_next, zip_next, all_taken, walked, begun_first, nil}
use Rattle.s46_options.proofs.Contents.{first_left}
use Rattle.s46_options.proofs.Counts.{dmr_alone, rules_next, accepted_by, no_rule, no_dmr, none_missing}
use Rattle.s46_options.proofs.read.read_items.Goals as goal

pub read_item-requires : goal.read_item-requires
read_item-requires c =
    let t : c.loop-option.option-index < length c.args.parts.now.options.items = rw c.deref-option-items.ensures.value at c.loop-option-test.true in
    rw c.deref-option-items.ensures.value (omega (arith, place_bound c.args.parts.now.options.items c.loop-option.option-index nil t, c.loop-option.invariant.place, c.requires))

pub overflow_cast-place-in-loop-option : goal.overflow_cast-place-in-loop-option
overflow_cast-place-in-loop-option c =
    let t : c.loop-option.option-index < length c.args.parts.now.options.items = rw c.deref-option-items.ensures.value at c.loop-option-test.true in
    rw c.deref-option-items.ensures.value (omega (arith, place_bound c.args.parts.now.options.items c.loop-option.option-index nil t, c.requires))

pub overflow_add-place-in-loop-option : goal.overflow_add-place-in-loop-option
overflow_add-place-in-loop-option c =
    let t : c.loop-option.option-index < length c.args.parts.now.options.items = rw c.deref-option-items.ensures.value at c.loop-option-test.true in
    rw c.deref-option-items.ensures.value (omega (arith, place_bound c.args.parts.now.options.items c.loop-option.option-index nil t, c.loop-option.invariant.place, c.requires))

pub loop-option-preserved : goal.loop-option-preserved
loop-option-preserved c =
    let raws = c.args.parts.now.options.items in
    let i = c.loop-option.option-index in
    let before = c.loop-option.invariant in
    let seen = c.loop-option.seen in
    let t : i < length raws = rw c.deref-option-items.ensures.value at c.loop-option-test.true in
    let option = option_of (get_or raws i nil) in
    let sound : item_faults_beside seen.rules seen.dmr c.loop-option.place option ≡ [] = rw c.deref-option-items.ensures.value at c.in_ok-read_item.ensures.sound in
    let same : item_option c.in_ok-read_item.field-0 ≡ option = rw c.deref-option-items.ensures.value at c.in_ok-read_item.ensures.option in
    let read : ReadsItem option c.in_ok-read_item.field-0 = rw c.deref-option-items.ensures.value at c.in_ok-read_item.ensures.reads in
    let judged : item_faults c.loop-option.place (options_of (take i raws)) option ≡ [] = ap (λ (n : ℕ). item_faults_beside n (list_any (has_code 91) (options_of (take i raws))) c.loop-option.place option) (sym before.rules) ∙ ap (λ (b : Bool). item_faults_beside seen.rules b c.loop-option.place option) (sym before.dmr) ∙ sound in
    let rules : c.with-seen.result.rules ≡ seen.rules + cond (has_code 89 option) 1 0 = rw c.deref-option-items.ensures.value at c.with-seen.ensures.rules in
    let dmr : c.with-seen.result.dmr ≡ (seen.dmr || has_code 91 option) = rw c.deref-option-items.ensures.value at c.with-seen.ensures.dmr in
    let alone = once_next (has_code 91 option) seen.dmr (count_by (has_code 91) (options_of (take i raws))) (count_by (has_code 91) (options_of (take (i + 1) raws))) (dmr_alone seen.rules seen.dmr c.loop-option.place option sound) before.once (count_next (has_code 91) raws i nil t) in
    rw c.deref-option-items.ensures.value (record {
      walk = walk_next item_faults 4 c.loop-option.place raws i nil t before.place judged before.walk;
      place = place_next 4 c.loop-option.place raws i nil t before.place;
      rules = rules ∙ ap (λ (n : ℕ). n + cond (has_code 89 option) 1 0) before.rules ∙ sym (count_next (has_code 89) raws i nil t);
      few = rw rules (rules_next seen.rules seen.dmr c.loop-option.place option sound before.few);
      dmr = dmr ∙ any_next (has_code 91) seen.dmr raws i nil t before.dmr;
      once = rw dmr alone;
      items = rw c.in_ok-push.ensures.items (map_next item_option c.loop-option.items.items c.in_ok-read_item.field-0 raws i nil t same before.items);
      reads = rw c.in_ok-push.ensures.items (zip_next ReadsItem c.loop-option.items.items c.in_ok-read_item.field-0 raws i nil t read before.reads);
      fits = rw c.in_ok-push.ensures.items (all_next item_fits c.loop-option.items.items c.in_ok-read_item.field-0 before.fits c.in_ok-read_item.ensures.fits);
    })

pub returns-then-seen-eq0-clause-refused : goal.returns-then-seen-eq0-clause-refused
returns-then-seen-eq0-clause-refused c =
    let raws = c.args.parts.now.options.items in
    let i = c.loop-option.option-index in
    let end : length raws ≤ i = rw c.deref-option-items.ensures.value at c.loop-option-test.false in
    inl (no_rule (cut_of c.args.parts.now) (walked item_faults 4 raws i end c.loop-option.invariant.walk) c.if-parts-ge-HEAD_LEN.false (ap (count_by (has_code 89)) (sym (all_taken raws i end)) ∙ sym c.loop-option.invariant.rules ∙ c.if-seen-eq0.true))

pub returns-then-not-seen-clause-refused : goal.returns-then-not-seen-clause-refused
returns-then-not-seen-clause-refused c =
    let raws = c.args.parts.now.options.items in
    let i = c.loop-option.option-index in
    let end : length raws ≤ i = rw c.deref-option-items.ensures.value at c.loop-option-test.false in
    let some : 1 ≤ count_by (has_code 89) (options_of raws) = rw (← all_taken raws i end, ← c.loop-option.invariant.rules) (omega (arith, c.if-seen-eq0.false)) in
    inl (no_dmr (cut_of c.args.parts.now) (walked item_faults 4 raws i end c.loop-option.invariant.walk) c.if-parts-ge-HEAD_LEN.false some (ap (list_any (has_code 91)) (sym (all_taken raws i end)) ∙ sym c.loop-option.invariant.dmr ∙ c.if-not-seen.true))

pub returns-clause-last : goal.returns-clause-last
returns-clause-last c =
    let raws = c.args.parts.now.options.items in
    let i = c.loop-option.option-index in
    let end : length raws ≤ i = rw c.deref-option-items.ensures.value at c.loop-option-test.false in
    let some : 1 ≤ count_by (has_code 89) (options_of raws) = rw (← all_taken raws i end, ← c.loop-option.invariant.rules) (omega (arith, c.if-seen-eq0.false)) in
    none_missing (options_of raws) some (ap (list_any (has_code 91)) (sym (all_taken raws i end)) ∙ sym c.loop-option.invariant.dmr ∙ c.if-not-seen.false)

pub returns-clause-accepted : goal.returns-clause-accepted
returns-clause-accepted c =
    let raws = c.args.parts.now.options.items in
    let i = c.loop-option.option-index in
    let before = c.loop-option.invariant in
    let end : length raws ≤ i = rw c.deref-option-items.ensures.value at c.loop-option-test.false in
    let short : length (spelled_all (options_of (take i raws))) ≤ 65535 = rw (all_taken raws i end) (omega (arith, c.requires)) in
    accepted_by c.loop-option.items.items (options_of (take i raws)) c.loop-option.seen.rules c.loop-option.seen.dmr before.fits before.items before.rules (omega (arith, c.if-seen-eq0.false)) before.few before.once c.if-not-seen.false short

pub long_item-requires-clause-place : goal.long_item-requires-clause-place
long_item-requires-clause-place c =
    let raws = c.args.parts.now.options.items in
    let i = c.loop-option.option-index in
    let end : length raws ≤ i = rw c.deref-option-items.ensures.value at c.loop-option-test.false in
    let here : c.loop-option.place ≡ place_behind 4 (options_of raws) = c.loop-option.invariant.place ∙ ap (place_behind 4) (all_taken raws i end) in
    omega (arith, here, c.requires, c.if-parts-ge-HEAD_LEN.true)

pub returns-then-parts-ge-HEAD_LEN-clause-refused : goal.returns-then-parts-ge-HEAD_LEN-clause-refused
returns-then-parts-ge-HEAD_LEN-clause-refused c =
    let raws = c.args.parts.now.options.items in
    let i = c.loop-option.option-index in
    let left = c.args.parts.now.left.now in
    let place = c.loop-option.place in
    let end : length raws ≤ i = rw c.deref-option-items.ensures.value at c.loop-option-test.false in
    let here : place ≡ place_behind 4 (options_of raws) = c.loop-option.invariant.place ∙ ap (place_behind 4) (all_taken raws i end) in
    let rules : c.loop-option.seen.rules ≡ count_by (has_code 89) (options_of raws) = c.loop-option.invariant.rules ∙ ap (count_by (has_code 89)) (all_taken raws i end) in
    let dmr : c.loop-option.seen.dmr ≡ list_any (has_code 91) (options_of raws) = c.loop-option.invariant.dmr ∙ ap (list_any (has_code 91)) (all_taken raws i end) in
    let told : first (begun_item_faults (count_by (has_code 89) (options_of raws)) (list_any (has_code 91) (options_of raws)) place (word left 0) ++ BadLength (place + 2) ∷ []) ≡ Some c.long_item.result = rw (← rules, ← dmr) c.long_item.ensures in
    let all = begun_first item_judge 4 place (options_of raws) left c.long_item.result (walked item_faults 4 raws i end c.loop-option.invariant.walk) here c.if-parts-ge-HEAD_LEN.true told in
    inl (first_left (all_faults item_judge 4 (cut_of c.args.parts.now)) (missing (options_of raws)) c.long_item.result all)
