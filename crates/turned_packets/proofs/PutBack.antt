-- A part of a list that begins with other octets, put back into the list.
use Rattle.std.proofs.Common.{◌≡◌, ℕ, ◌+◌, ◌-◌, ◌≤◌, List, ◌++◌, length, take, drop, ap, ◌∙◌, arith, length-drop}
use Rattle.std.proofs.lemmas.List.{append-nil, take_all, drop_all, drop-drop}
use borrow.Rule.Slice.PartMut.{put_mid}

pub put_back : (at width : ℕ) (new xs : List ℕ) → at ≤ length xs
    → put_mid at (length xs - at) xs (new ++ drop width (take (length xs - at) (drop at xs))) ≡ take at xs ++ (new ++ drop (at + width) xs)
put_back at width new xs fits =
    let left : ℕ = length xs - at in
    let short : length (drop at xs) ≤ left = rw (length-drop at xs) (omega arith) in
    let behind = new ++ drop width (drop at xs) in
    ap (λ (z : List ℕ). take at xs ++ z)
    (ap (λ (p : List ℕ). (new ++ drop width p) ++ drop left (drop at xs)) (take_all left (drop at xs) short)
    ∙ ap (λ (z : List ℕ). behind ++ z) (drop_all left (drop at xs) short)
    ∙ append-nil behind
    ∙ ap (λ (z : List ℕ). new ++ z) (drop-drop width at xs))
