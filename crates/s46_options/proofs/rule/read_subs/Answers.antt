use Rattle.std.proofs.Common.{arith, ap, sym, ◌∙◌, ◌≡◌, ◌<◌, ◌≤◌, ◌+◌, ◌++◌, ◌∷◌, Bool, [], length, get_or, take, Some, inl}
use Rattle.std.specs.List.{count_by, list_any}
use Rattle.octets.specs.Field.{word}
use Rattle.s46_options.specs.declared.fault.OptionFault.TheVariants.{BadLength}
use Rattle.s46_options.specs.Raw.{option_of, options_of}
use Rattle.s46_options.specs.Faults.{sub_faults, sub_faults_beside, sub_judge, begun_sub_faults, first, place_behind, has_code}
use Rattle.s46_options.specs.Reading.{ReadsSub}
use Rattle.s46_options.specs.Items.{sub_option}
use Rattle.s46_options.specs.Accepted.{sub_fits}
use Rattle.s46_options.proofs.Walks.{place_bound, place_next, walk_next, any_next, count_next, once_next, map_next, all_next, zip_next, all_taken, walked, begun_first, nil}
use Rattle.s46_options.proofs.Counts.{params_count, params_alone, once_most}
use Rattle.s46_options.proofs.rule.read_subs.Goals as goal

pub read_sub-requires : goal.read_sub-requires
read_sub-requires c =
    let t : c.loop-option.option-index < length c.args.parts.now.options.items = rw c.deref-option-items.ensures.value at c.loop-option-test.true in
    rw c.deref-option-items.ensures.value (omega (arith, place_bound c.args.parts.now.options.items c.loop-option.option-index nil t, c.loop-option.invariant.place, c.requires))

pub overflow_cast-place : goal.overflow_cast-place
overflow_cast-place c =
    let t : c.loop-option.option-index < length c.args.parts.now.options.items = rw c.deref-option-items.ensures.value at c.loop-option-test.true in
    rw c.deref-option-items.ensures.value (omega (arith, place_bound c.args.parts.now.options.items c.loop-option.option-index nil t, c.requires))

pub overflow_add-place-in-loop-option : goal.overflow_add-place-in-loop-option
overflow_add-place-in-loop-option c =
    let t : c.loop-option.option-index < length c.args.parts.now.options.items = rw c.deref-option-items.ensures.value at c.loop-option-test.true in
    rw c.deref-option-items.ensures.value (omega (arith, place_bound c.args.parts.now.options.items c.loop-option.option-index nil t, c.loop-option.invariant.place, c.requires))

pub loop-option-preserved : goal.loop-option-preserved
loop-option-preserved c =
    let raws = c.args.parts.now.options.items in
    let i = c.loop-option.option-index in
    let before = c.loop-option.invariant in
    let t : i < length raws = rw c.deref-option-items.ensures.value at c.loop-option-test.true in
    let option = option_of (get_or raws i nil) in
    let sound : sub_faults_beside c.loop-option.second c.loop-option.place option ≡ [] = rw c.deref-option-items.ensures.value at c.in_ok-read_sub.ensures.sound in
    let same : sub_option c.in_ok-read_sub.field-0 ≡ option = rw c.deref-option-items.ensures.value at c.in_ok-read_sub.ensures.option in
    let read : ReadsSub option c.in_ok-read_sub.field-0 = rw c.deref-option-items.ensures.value at c.in_ok-read_sub.ensures.reads in
    let judged : sub_faults c.loop-option.place (options_of (take i raws)) option ≡ [] = ap (λ (b : Bool). sub_faults_beside b c.loop-option.place option) (sym before.second) ∙ sound in
    rw c.deref-option-items.ensures.value (record {
      walk = walk_next sub_faults c.args.at c.loop-option.place raws i nil t before.place judged before.walk;
      place = place_next c.args.at c.loop-option.place raws i nil t before.place;
      second = any_next (has_code 93) c.loop-option.second raws i nil t before.second;
      once = once_next (has_code 93 option) c.loop-option.second (count_by (has_code 93) (options_of (take i raws))) (count_by (has_code 93) (options_of (take (i + 1) raws))) (params_alone c.loop-option.second c.loop-option.place option sound) before.once (count_next (has_code 93) raws i nil t);
      subs = rw c.in_ok-push.ensures.items (map_next sub_option c.loop-option.subs.items c.in_ok-read_sub.field-0 raws i nil t same before.subs);
      reads = rw c.in_ok-push.ensures.items (zip_next ReadsSub c.loop-option.subs.items c.in_ok-read_sub.field-0 raws i nil t read before.reads);
      fits = rw c.in_ok-push.ensures.items (all_next sub_fits c.loop-option.subs.items c.in_ok-read_sub.field-0 before.fits c.in_ok-read_sub.ensures.fits);
    })

pub returns-clause-once : goal.returns-clause-once
returns-clause-once c =
    let counted = params_count c.loop-option.subs.items c.loop-option.invariant.fits in
    let all = ap (count_by (has_code 93)) c.loop-option.invariant.subs in
    rw c.from_vec.ensures (omega (arith, counted, all, c.loop-option.invariant.once, once_most c.loop-option.second))

pub long_sub-requires-clause-place : goal.long_sub-requires-clause-place
long_sub-requires-clause-place c =
    let raws = c.args.parts.now.options.items in
    let i = c.loop-option.option-index in
    let end : length raws ≤ i = rw c.deref-option-items.ensures.value at c.loop-option-test.false in
    let here : c.loop-option.place ≡ place_behind c.args.at (options_of raws) = c.loop-option.invariant.place ∙ ap (place_behind c.args.at) (all_taken raws i end) in
    omega (arith, here, c.requires, c.if-parts-ge-HEAD_LEN.true)

pub returns-then-parts-ge-HEAD_LEN-clause-refused : goal.returns-then-parts-ge-HEAD_LEN-clause-refused
returns-then-parts-ge-HEAD_LEN-clause-refused c =
    let raws = c.args.parts.now.options.items in
    let i = c.loop-option.option-index in
    let left = c.args.parts.now.left.now in
    let end : length raws ≤ i = rw c.deref-option-items.ensures.value at c.loop-option-test.false in
    let here : c.loop-option.place ≡ place_behind c.args.at (options_of raws) = c.loop-option.invariant.place ∙ ap (place_behind c.args.at) (all_taken raws i end) in
    let second : c.loop-option.second ≡ list_any (has_code 93) (options_of raws) = c.loop-option.invariant.second ∙ ap (list_any (has_code 93)) (all_taken raws i end) in
    let told : first (begun_sub_faults (list_any (has_code 93) (options_of raws)) c.loop-option.place (word left 0) ++ BadLength (c.loop-option.place + 2) ∷ []) ≡ Some c.long_sub.result = rw (← second) c.long_sub.ensures in
    inl (begun_first sub_judge c.args.at c.loop-option.place (options_of raws) left c.long_sub.result (walked sub_faults c.args.at raws i end c.loop-option.invariant.walk) here c.if-parts-ge-HEAD_LEN.true told)
