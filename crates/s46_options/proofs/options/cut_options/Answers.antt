use Rattle.std.proofs.Common.{sym, ap, ◌∷◌, []}
use Rattle.std.proofs.lemmas.List.{map-append}
use Rattle.s46_options.specs.Raw.{option_of}
use Rattle.s46_options.specs.Options.{Cut}
use Rattle.s46_options.proofs.Cuts.{goes_on, ends}
use Rattle.s46_options.proofs.options.cut_options.Goals as goal

pub loop-option-preserved : goal.loop-option-preserved
loop-option-preserved c =
    let more = goes_on _ _ _ c.loop-option.invariant c.in-Some.ensures.some in
    rw (c.in_ok-push.ensures.items, map-append option_of c.loop-option.options.items (c.in-Some.option ∷ []), c.in-Some.ensures.option, c.in-Some.ensures.rest) more

pub returns-clause-options : goal.returns-clause-options
returns-clause-options c = ap (λ (parts : Cut). parts.options) (sym (ends _ _ _ c.loop-option.invariant c.in_default.ensures.none))

pub returns-clause-left : goal.returns-clause-left
returns-clause-left c = ap (λ (parts : Cut). parts.left) (sym (ends _ _ _ c.loop-option.invariant c.in_default.ensures.none))
