use Rattle.std.proofs.Common.{◌≡◌, ℕ, ◌^◌, ◌<◌, List, Option, None, Some, refl, sym, subst, arith}
use Rattle.octets.specs.Text4.{IsText4, text4, addr4_at}
use Rattle.octets.proofs.Spelling4.{addr4_again, addr4_found, one_text4, text4_spells}
use Rattle.mapt_tool.proofs.words.address_of.Goals as goal

-- a text that spells no address is read as none
none_spelled : (text : List ℕ) (read : Option ℕ) → addr4_at text ≡ read → ((n : ℕ) → IsText4 text n → ⊥) → None ≡ read
none_spelled text None e none = refl
none_spelled text (Some n) e none = absurd (none n (addr4_found text n e))

address_below : (text : List ℕ) (n : ℕ) → IsText4 text n → n < 2 ^ 32
address_below text n h = omega (arith, h.value, h.below)

not_spelled : (text : List ℕ) (n : ℕ) → ((m : ℕ) → IsText4 text m → ⊥) → n < 2 ^ 32 → text ≡ text4 n → ⊥
not_spelled text n none lt is = none n (subst (λ (t : List ℕ). IsText4 t n) (sym is) (text4_spells n lt))

pub returns-in-Ok : goal.returns-in-Ok
returns-in-Ok c = record {
  value = sym (addr4_again c.args.word.now c.in-Ok.addr.0 c.in-Ok.ensures.found);
  found = (address_below c.args.word.now c.in-Ok.addr.0 c.in-Ok.ensures.found, one_text4 c.args.word.now c.in-Ok.addr.0 c.in-Ok.ensures.found);
  none = tt;
}

pub returns-in-Err : goal.returns-in-Err
returns-in-Err c = record {
  value = none_spelled c.args.word.now (addr4_at c.args.word.now) refl (λ n spelled. c.in-Err.ensures.only n spelled);
  found = tt;
  none = λ n lt is. not_spelled c.args.word.now n (λ m spelled. c.in-Err.ensures.only m spelled) lt is;
}
