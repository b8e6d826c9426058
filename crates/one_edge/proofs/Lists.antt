-- Records and packets from the first on: one more of each.
use Rattle.octets.specs.declared.proto.Proto.TheVariants.{Tcp}
use Rattle.std.proofs.Common.{◌≡◌, ℕ, zero, suc, ◌+◌, ◌<◌, false, List, [], ◌∷◌, ◌++◌, length, get_or, append_assoc, refl, sym, ap, ◌∙◌, subst, arith}
use Rattle.std.specs.List.{flat_map}
use Rattle.std.proofs.lemmas.Grind.{flat_map-append}
use Rattle.std.proofs.lemmas.List.{append-nil}
use Rattle.pcap_files.specs.declared.records.Record.{Record}
use Rattle.pcap_files.specs.Written.{written, entry, empty_capture}
use Rattle.one_edge.specs.declared.taken.Taken.{Taken}
use Rattle.one_edge.specs.Edge.{Edge}
use Rattle.one_edge.specs.Served.{IsServed, AreServed}
use Rattle.one_edge.specs.Crossed.{IsCrossed, AreCrossed}

pub one_more : (e : Edge) (rs : List Record) (ts : List Taken) (r : Record) (t : Taken) → AreServed e rs ts → IsServed e t r.bytes → AreServed e (rs ++ r ∷ []) (ts ++ t ∷ [])
one_more e [] [] r t are is = (is, tt)
one_more e [] (u ∷ ts) r t are is = absurd are
one_more e (q ∷ rs) [] r t are is = absurd are
one_more e (q ∷ rs) (u ∷ ts) r t are is = (are.0, one_more e rs ts r t are.1 is)

pub served_length : (e : Edge) (rs : List Record) (ts : List Taken) → AreServed e rs ts → length ts ≡ length rs
served_length e [] [] are = refl
served_length e [] (u ∷ ts) are = absurd are
served_length e (q ∷ rs) [] are = absurd are
served_length e (q ∷ rs) (u ∷ ts) are = ap suc (served_length e rs ts are.1)

pub served_at : (e : Edge) (rs : List Record) (ts : List Taken) (i : ℕ) (r : Record) (t : Taken) → AreServed e rs ts → i < length rs → IsServed e (get_or ts i t) (get_or rs i r).bytes
served_at e [] ts i r t are small = absurd (omega arith)
served_at e (q ∷ rs) [] i r t are small = absurd are
served_at e (q ∷ rs) (u ∷ ts) zero r t are small = are.0
served_at e (q ∷ rs) (u ∷ ts) (suc i) r t are small = served_at e rs ts i r t are.1 (omega arith)

next_number : (number n : ℕ) → number + suc n ≡ number + 1 + n
next_number number n = omega arith

no_number : (number : ℕ) → number + 0 ≡ number
no_number number = omega arith

pub one_more_crossed : (e : Edge) (number : ℕ) (rs accesses cores : List Record) (r a c : Record) → AreCrossed e number rs accesses cores → a.time ≡ r.time → c.time ≡ r.time → IsCrossed e (number + length rs) r.bytes a.bytes c.bytes
    → AreCrossed e number (rs ++ r ∷ []) (accesses ++ a ∷ []) (cores ++ c ∷ [])
one_more_crossed e number [] [] [] r a c are at bt is = (at, bt, subst (λ (n : ℕ). IsCrossed e n r.bytes a.bytes c.bytes) (no_number number) is, tt)
one_more_crossed e number (q ∷ rs) (b ∷ accesses) (d ∷ cores) r a c are at bt is =
    (are.0, are.1, are.2, one_more_crossed e (number + 1) rs accesses cores r a c are.3 at bt (subst (λ (n : ℕ). IsCrossed e n r.bytes a.bytes c.bytes) (next_number number (length rs)) is))
one_more_crossed e number [] (b ∷ accesses) cores r a c are at bt is = absurd are
one_more_crossed e number [] [] (d ∷ cores) r a c are at bt is = absurd are
one_more_crossed e number (q ∷ rs) [] cores r a c are at bt is = absurd are
one_more_crossed e number (q ∷ rs) (b ∷ accesses) [] r a c are at bt is = absurd are

-- the octets of a capture with one more record
pub one_more_written : (rs : List Record) (r : Record) → written (rs ++ r ∷ []) ≡ written rs ++ entry r.time r.bytes
one_more_written rs r =
    ap (λ (xs : List ℕ). empty_capture ++ xs) (flat_map-append (λ (x : Record). entry x.time x.bytes) rs (r ∷ []) ∙ ap (λ (xs : List ℕ). flat_map (λ (x : Record). entry x.time x.bytes) rs ++ xs) (append-nil (entry r.time r.bytes)))
    ∙ sym (append_assoc empty_capture (flat_map (λ (x : Record). entry x.time x.bytes) rs) (entry r.time r.bytes))

-- a packet, for places behind the last one
abbrev pub some_packet : Taken
some_packet = record {
  head = record { tos = 0; id = 0; df = false; mf = false; offset = 0; ttl = 0; proto = 0; src = record { 0 = 0 }; dst = record { 0 = 0 }; head_len = 0; total = 0; routed = false };
  proto = Tcp;
  ports = record { src = 0; dst = 0 };
}
