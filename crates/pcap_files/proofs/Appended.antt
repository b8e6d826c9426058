-- A record behind what was written before.
use Rattle.std.proofs.Common.{◌≡◌, ℕ, List, ◌++◌, length, ap, ◌∙◌, append_assoc}
use Rattle.pcap_files.specs.Written.{entry_header, entry}

pub appended : (time : ℕ) (old header packet made all : List ℕ) → header ≡ entry_header time (length packet) → made ≡ old ++ header → all ≡ made ++ packet → all ≡ old ++ entry time packet
unfolding entry
appended time old header packet made all h m e =
    e
    ∙ ap (λ (x : List ℕ). x ++ packet) (m ∙ ap (λ (x : List ℕ). old ++ x) h)
    ∙ append_assoc old (entry_header time (length packet)) packet
