-- Writing files one after the other.
use Rattle.std.proofs.Common.{◌≡◌, ℕ, ◌+◌, ◌<◌, suc, List, [], ◌∷◌, ◌++◌, length, get_or, take, drop, Option, refl, sym, ap, subst, ◌∙◌, append-nil}
use Rattle.std.proofs.lemmas.List.{take_more, take-append-drop}
use Rattle.std.proofs.Math.Seq.{split_at}
use Rattle.std.specs.Prelude.{Some, None}
use Rattle.outside.specs.Files.{Files, SameBut, put_if_told}
use Rattle.outside.specs.Seen.{FolderSeen, SinkSeen, CallFailed}
use Rattle.outside.specs.Text.{gained}
use Rattle.outside.specs.declared.file_id.Operation.TheVariants.{Write}
use Rattle.mapt_tool.specs.declared.plan.FileWrite.{FileWrite}
use Rattle.mapt_tool.specs.Planned.{written_over}
use Rattle.mapt_tool.specs.Carried.{writing, FailedAt, Began}

-- one more write, after the others
written_over-push : (files : Option Files) (ws : List FileWrite) (w : FileWrite) → written_over files (ws ++ w ∷ []) ≡ put_if_told (written_over files ws) w.name w.bytes
written_over-push files [] w = refl
written_over-push files (v ∷ ws) w = written_over-push (put_if_told files v.name v.bytes) ws w

-- one more write that succeeded
pub wrote_more : (old mid new : FolderSeen) (ws : List FileWrite) (i : ℕ) (w : FileWrite) → i < length ws → w ≡ get_or ws i w → mid ≡ writing old (take i ws)
    → new ≡ record mid { files = put_if_told mid.files w.name w.bytes } → new ≡ writing old (take (i + 1) ws)
wrote_more old mid new ws i w lt is so_far put =
    let more : take (i + 1) ws ≡ take i ws ++ w ∷ [] = take_more ws i w lt ∙ ap (λ x. take i ws ++ x ∷ []) (sym is) in
    let files : put_if_told (written_over old.files (take i ws)) w.name w.bytes ≡ written_over old.files (take (i + 1) ws) = sym (written_over-push old.files (take i ws) w) ∙ ap (λ x. written_over old.files x) (sym more) in
    put ∙ ap (λ (f : FolderSeen). record f { files = put_if_told f.files w.name w.bytes }) so_far ∙ ap (λ (x : Option Files). record old { files = x }) files

-- want of memory at a write: those before it are done
pub began_here : (old mid new : FolderSeen) (ws : List FileWrite) (i : ℕ) → mid ≡ writing old (take i ws) → new ≡ mid → Began old new ws
began_here old mid new ws i so_far same =
    record { front = take i ws; back = drop i ws; parts = sym (take-append-drop i ws); begun = same ∙ so_far }

-- a fault at a write: those before it are done
pub failed_here : (old mid new : FolderSeen) (ws : List FileWrite) (i : ℕ) (w : FileWrite) → i < length ws → w ≡ get_or ws i w → mid ≡ writing old (take i ws)
    → CallFailed mid new w.file Write → SameBut w.name mid.files new.files → FailedAt old new ws w.file
failed_here old mid new ws i w lt is so_far failed others =
    record {
      front = take i ws;
      unwritten = w;
      back = drop (suc i) ws;
      parts = split_at ws i w lt ∙ ap (λ x. take i ws ++ x ∷ drop (suc i) ws) (sym is);
      named = refl;
      failed = subst (λ (f : FolderSeen). CallFailed f new w.file Write) so_far failed;
      others = subst (λ (f : FolderSeen). SameBut w.name f.files new.files) so_far others;
    }

-- all writes are done
pub wrote_all : (old new : FolderSeen) (ws : List FileWrite) → new ≡ writing old ws → Began old new ws
wrote_all old new ws done = record { front = ws; back = []; parts = sym (append-nil ws); begun = done }

-- no text
gained-nil : (written : Option (List ℕ)) → written ≡ gained written []
gained-nil None = refl
gained-nil (Some text) = ap (λ (t : List ℕ). Some t) (sym (append-nil text))

pub said_nothing : (sink : SinkSeen) → sink ≡ record sink { written = gained sink.written [] }
said_nothing sink = ap (λ (w : Option (List ℕ)). record sink { written = w }) (gained-nil sink.written)
