-- Pieces that are sent one after the other.
use Rattle.std.proofs.Common.{◌≡◌, ◌<◌, ◌+◌, ℕ, List, [], ◌∷◌, ◌++◌, take, length, get_or, sym, ◌∙◌, ap, append_assoc}
use Rattle.std.specs.Prelude.{map}
use Rattle.std.proofs.lemmas.List.{append-nil, map_more}
use Rattle.octets.specs.declared.cause.Cause.{Cause}
use Rattle.octets.specs.declared.parcel.Parcel.{Parcel}
use Rattle.hops.specs.declared.hop.Hop.{Hop}
use Rattle.hops.specs.declared.hop.Out.{Out}
use Rattle.hops.specs.declared.exit.Exit.{Exit}
use Rattle.hops.specs.Hop.{leaving, then, sends, sends_pieces}

-- nothing more
pub no_pieces : (hop : Hop) (exit : Exit) → then hop (sends_pieces exit []) ≡ hop
no_pieces hop exit = ap_hop (append-nil hop.outs) (append-nil hop.drops)
  where
    ap_hop : {outs : List Out} {drops : List Cause} → outs ≡ hop.outs → drops ≡ hop.drops → ◌≡◌ {A = Hop} (record { outs = outs; drops = drops }) hop
    ap_hop a b = λ i. record { outs = a i; drops = b i }

-- one more
pub piece_more : (hop : Hop) (exit : Exit) (pieces : List Parcel) (k : ℕ) (d : Parcel) → k < length pieces
    → then (then hop (sends_pieces exit (take k pieces))) (sends exit (get_or pieces k d).bytes) ≡ then hop (sends_pieces exit (take (k + 1) pieces))
piece_more hop exit pieces k d within = λ i. record {
  outs = (append_assoc hop.outs (map (λ (piece : Parcel). leaving exit piece.bytes) (take k pieces)) (leaving exit (get_or pieces k d).bytes ∷ [])
      ∙ ap (λ (more : List Out). hop.outs ++ more) (sym (map_more (λ (piece : Parcel). leaving exit piece.bytes) pieces k d within))) i;
  drops = append_assoc hop.drops [] [] i;
}
