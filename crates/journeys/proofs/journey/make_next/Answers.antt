use Rattle.std.proofs.Common.{◌≡◌, ◌++◌, ◌∷◌, [], ℕ, List, Some, sym, ap, ◌∙◌, subst, arith}
use Rattle.std.specs.Option.{option_map, option_to_list}
use Rattle.journeys.specs.declared.made.MadeHop.{MadeHop}
use Rattle.journeys.specs.Waiting.{Waiting, at_stand, onward, octets_of}
use Rattle.journeys.specs.Level.{Gains}
use Rattle.journeys.proofs.Levels.{gains_one}
use Rattle.journeys.proofs.journey.make_next.Goals as goal

pub returns : goal.returns
returns g c =
    let setup = c.args.round.now.setup.now in
    let taking = c.args.round.now.taking.now in
    let Makes = g.M.MakesHops.Makes setup taking in
    let from = c.args.round.now.from in
    let level = c.args.level.now.items in
    let w : Waiting = at_stand c.octets_of.result.now c.in-Some.stand in
    let one : Gains Makes setup taking from (w ∷ []) level (level ++ c.in_ok-made.made ∷ []) c.args.maker.now c.make.new.self =
    gains_one Makes setup taking from c.in_ok-hop.hop w c.in_ok-made.made level c.args.maker.now c.make.new.self (omega (arith, c.in_ok-hop.ensures, c.len.ensures)) c.in_ok-made.ensures in
    let goes : onward setup c.args.here c.args.out.now ≡ Some w =
    ap (option_map (at_stand (octets_of c.args.out.now))) (sym c.in-Some.ensures.next) ∙ ap (λ (xs : List ℕ). option_map (at_stand xs) (Some c.in-Some.stand)) (sym c.octets_of.ensures) in
    subst (λ (ws : List Waiting). Gains Makes setup taking from ws level c.push.new.self.items c.args.maker.now c.make.new.self) (sym (ap option_to_list goes))
    (subst (λ (kept : List MadeHop). Gains Makes setup taking from (w ∷ []) level kept c.args.maker.now c.make.new.self) (sym c.in_ok-push.ensures.items) one)
