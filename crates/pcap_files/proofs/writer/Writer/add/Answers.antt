use Rattle.std.proofs.Common.{List, ℕ, ◌++◌, ap, ◌∙◌}
use Rattle.pcap_files.proofs.Appended.{appended}
use Rattle.pcap_files.proofs.writer.Writer.add.Goals as goal

pub returns-clause-ok : goal.returns-clause-ok
returns-clause-ok c =
    let header = c.entry_header-header.result in
    let made = c.in_ok-extend_from_slice.ensures.items ∙ ap (λ (x : List ℕ). x ++ header) (c.in_ok-reserve.ensures.items ∙ c.self.view_is) in
    appended c.args.time c.args.self.now header c.args.packet.now _ _ c.entry_header-header.ensures made c.in_ok-extend_from_slice-2.ensures.items
