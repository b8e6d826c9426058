use Rattle.std.proofs.Common.{◌≡◌, ◌⊎◌, subst, inl, inr, ap, ◌∙◌, List, ℕ}
use Rattle.std.specs.Prelude.{Bool, Result, Ok, Err, Option, None}
use Rattle.octets.specs.declared.cause.Cause.{Cause}
use Rattle.octets.specs.declared.cause.Fault.{Fault}
use Rattle.octets.specs.declared.cause.Fault.TheVariants.{Drop, NoMemory}
use Rattle.frag_table.specs.declared.ask.FragAsk.{FragAsk}
use Rattle.frag_table.specs.declared.answer.FragAnswer.{FragAnswer}
use Rattle.relay_node.specs.Asked.{AsksFrom, IsDroppedFrom, MayBeTold, IsTold}
use Rattle.hop_rows.proofs.relay.is_told.Goals as goal

-- a packet that asks is told what its ask may be told
told_asked : (six : Bool) (octets : List ℕ) (r : Result (Option FragAsk) Fault) (given : Option FragAsk) (told : Option FragAnswer)
    → r ≡ Ok given → MayBeTold given told
    → ((ask : Option FragAsk) → AsksFrom six octets ask → (r ≡ Ok ask) ⊎ (r ≡ Err NoMemory))
    → ((cause : Cause) → IsDroppedFrom six cause octets → (r ≡ Err (Drop cause)) ⊎ (r ≡ Err NoMemory))
    → IsTold six octets told
told_asked six octets r given told is may only caused = record { kind = λ ask asks. by ask (only ask asks); unread = λ cause dropped. absurd (never cause (caused cause dropped)) }
  where
    by : (ask : Option FragAsk) → (r ≡ Ok ask) ⊎ (r ≡ Err NoMemory) → MayBeTold ask told
    by ask (inl f) = let e : given ≡ ask = cc in subst (λ (a : Option FragAsk). MayBeTold a told) e may
    by ask (inr f) = absurd (let e : ◌≡◌ {A = Result (Option FragAsk) Fault} (Ok given) (Err NoMemory) = cc in cc)

    never : (cause : Cause) → (r ≡ Err (Drop cause)) ⊎ (r ≡ Err NoMemory) → ⊥
    never cause (inl f) = let e : ◌≡◌ {A = Result (Option FragAsk) Fault} (Ok given) (Err (Drop cause)) = cc in cc
    never cause (inr f) = let e : ◌≡◌ {A = Result (Option FragAsk) Fault} (Ok given) (Err NoMemory) = cc in cc

-- one that is dropped is told nothing
told_nothing : (six : Bool) (octets : List ℕ) (r : Result (Option FragAsk) Fault) (given : Cause) (told : Option FragAnswer)
    → r ≡ Err (Drop given) → told ≡ None
    → ((ask : Option FragAsk) → AsksFrom six octets ask → (r ≡ Ok ask) ⊎ (r ≡ Err NoMemory))
    → IsTold six octets told
told_nothing six octets r given told is none only = record { kind = λ ask asks. absurd (never ask (only ask asks)); unread = λ cause dropped. none }
  where
    never : (ask : Option FragAsk) → (r ≡ Ok ask) ⊎ (r ≡ Err NoMemory) → ⊥
    never ask (inl f) = let e : ◌≡◌ {A = Result (Option FragAsk) Fault} (Err (Drop given)) (Ok ask) = cc in cc
    never ask (inr f) = let e : ◌≡◌ {A = Result (Option FragAsk) Fault} (Err (Drop given)) (Err NoMemory) = cc in cc

pub returns-in-Ok : goal.returns-in-Ok
returns-in-Ok c = λ yes. told_asked c.args.six c.args.packet.now c.frag_of.result c.in-Ok.ask _ c.in-Ok.is (c.may_be_told.ensures yes) c.frag_of.ensures.only c.frag_of.ensures.cause

pub returns-in-Err-Drop : goal.returns-in-Err-Drop
returns-in-Err-Drop c = λ yes. told_nothing c.args.six c.args.packet.now c.frag_of.result c.in-Err-Drop.field-0-0 _ (c.in-Err-Drop.is ∙ ap Err c.in-Err-Drop.field-0-is) (c.is_nothing.ensures yes) c.frag_of.ensures.only
