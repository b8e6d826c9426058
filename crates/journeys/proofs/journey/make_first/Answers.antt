use Rattle.std.proofs.Common.{◌≡◌, ◌++◌, ◌∷◌, [], List, Option, sym, ap, ◌∙◌, subst, arith}
use Rattle.std.specs.Option.{option_map, option_to_list}
use Rattle.journeys.specs.declared.made.MadeHop.{MadeHop}
use Rattle.journeys.specs.declared.stand.Stand.{Stand}
use Rattle.journeys.specs.Waiting.{Waiting, at_stand}
use Rattle.journeys.specs.Level.{Gains}
use Rattle.journeys.proofs.Levels.{gains_one}
use Rattle.journeys.proofs.journey.make_first.Goals as goal

pub returns : goal.returns
returns g c =
    let setup = c.args.round.now.setup.now in
    let taking = c.args.round.now.taking.now in
    let Makes = g.M.MakesHops.Makes setup taking in
    let from = c.args.round.now.from in
    let w : Waiting = at_stand c.args.octets.now c.in-Some.stand in
    let one : Gains Makes setup taking from (w ∷ []) [] (c.in_ok-made.made ∷ []) c.args.maker.now c.make.new.self =
    gains_one Makes setup taking from from w c.in_ok-made.made [] c.args.maker.now c.make.new.self (omega arith) c.in_ok-made.ensures in
    let alone : c.push.new.self.items ≡ c.in_ok-made.made ∷ [] =
    c.in_ok-push.ensures.items ∙ ap (λ (m : List MadeHop). m ++ c.in_ok-made.made ∷ []) c.new-level.ensures.items in
    subst (λ (first : Option Stand). Gains Makes setup taking from (option_to_list (option_map (at_stand c.args.octets.now) first)) [] c.push.new.self.items c.args.maker.now c.make.new.self) (sym c.in-Some.is)
    (subst (λ (kept : List MadeHop). Gains Makes setup taking from (w ∷ []) [] kept c.args.maker.now c.make.new.self) (sym alone) one)
