-- What the NAPT44 machine of an edge answered to a packet that crosses: for one that goes out, and for one that comes in from the
-- access network. A fragment that was freed has the answer to the first fragment that freed it, which had the same addresses.
use Rattle.std.specs.Prelude.{◌≡◌, ℕ, ◌<◌, ◌^◌, Bool}
use Rattle.std.specs.List.{All}
use Rattle.octets.specs.declared.address.Addr4.{Addr4}
use Rattle.octets.specs.declared.address.Addr6.{Addr6}
use Rattle.octets.specs.declared.prefix.Prefix6.{Prefix6}
use Rattle.octets.specs.declared.proto.Proto.{Proto}
use Rattle.map_rules.specs.declared.rule.Rule.{Rule}
use Rattle.map_rules.specs.declared.dmr.Dmr.{Dmr}
use Rattle.rule_book.specs.Valid.{IsValid}
use Rattle.nat_model.specs.declared.answer.Answer.{Answer}
use Rattle.nat_model.specs.declared.ask.Ask.{Ask}
use Rattle.nat_model.specs.declared.ask.Ask.TheVariants.{Outward, Inward}
use Rattle.nat_model.specs.declared.ask.End4.{End4}
use Rattle.nat_model.specs.declared.ask.Far.TheVariants.{Six}
use Rattle.nat_model.specs.declared.ask.Part.{Part}
use Rattle.nat_model.specs.Machine.{nat, renewed}
use Rattle.nat_model.specs.State.{Generation, NatState, Moment}

-- one step of an edge's machine: the edge's prefix, the state before it, and what it is told
pub record Step : Type 0 where
  pub prefix : Prefix6
  pub state : NatState
  pub moment : Moment

-- the rules by which it answers, and its answer to an ask
abbrev pub rules_of_step : Step → Generation
rules_of_step step = (renewed step.prefix step.moment.seen step.state).book

abbrev pub answer_to : Step → Ask → Answer
answer_to step ask = (nat step.prefix step.state step.moment ask).answer

-- rules that a book may have, beside this default mapping rule, which never changes
pub record AreRulesOf (dmr : Dmr) (book : Generation) : Type 0 where
  pub fixed : book.dmr ≡ dmr
  pub valid : IsValid book.rules dmr
  pub fit : All (λ (r : Rule). r.prefix4.bits < 2 ^ 32) book.rules

-- the answer to a packet for this destination
pub record AnsweredOut (step : Step) (dst : Addr4) (answer : Answer) : Type 0 where
  pub fault : Bool
  pub proto : Proto
  pub near : End4
  pub port : ℕ
  pub flags : ℕ
  pub part : Part
  pub is : answer_to step (Outward fault proto near (record { addr = dst; port = port }) flags part) ≡ answer

-- the answer to a packet from this source, whose flow has this remote address
pub record AnsweredIn (step : Step) (src peer : Addr6) (answer : Answer) : Type 0 where
  pub fault : Bool
  pub proto : Proto
  pub port : ℕ
  pub dst : Addr6
  pub far_port : ℕ
  pub flags : ℕ
  pub part : Part
  pub is : answer_to step (Inward fault proto port (Six dst src peer far_port) flags part) ≡ answer
