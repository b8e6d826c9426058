use Rattle.std.proofs.Common.{◌≡◌, ℕ, ◌+◌, ◌-◌, ◌≤◌, length, min, take, List, ap, arith}
use Rattle.std.proofs.lemmas.List.{length-take}
use Rattle.mapt_tool.proofs.Steps.{ends_unread}
use Rattle.mapt_tool.proofs.reading.read_whole.Goals as goal

-- no more is asked for than one octet past the limit
within_limit : (bytes now buffer : List ℕ) (asked limit : ℕ) → now ≡ bytes → asked ≡ min (limit + 1 - length now) 65536 → length now ≤ limit → length bytes + length (take asked buffer) ≤ limit + 1
within_limit bytes now buffer asked limit same is le = omega (arith, length-take asked buffer, ap length same)

bytes_within : (bytes now : List ℕ) (limit : ℕ) → now ≡ bytes → length now ≤ limit → length bytes ≤ limit
bytes_within bytes now limit same le = omega (arith, ap length same)

pub returns-in-Err : goal.returns-in-Err
returns-in-Err g c =
    let seen = g.F.Folder.seen in
    ends_unread (seen c.args.folder.now) (seen c.pieces.folder) (seen c.read_piece.new.folder) c.args.file c.args.name.now c.pieces.bytes c.args.limit (length (take c.min-asked.result c.deref_mut.result.now)) c.in-Err.status c.pieces.invariant.seen
    (bytes_within c.pieces.bytes c.as_slice.result.now c.args.limit c.as_slice.ensures c.if-len-limit.false)
    (within_limit c.pieces.bytes c.as_slice.result.now c.deref_mut.result.now c.min-asked.result c.args.limit c.as_slice.ensures c.min-asked.ensures c.if-len-limit.false)
    c.in-Err.ensures.err
