use Rattle.std.proofs.Common.{arith, ap, sym, ◌∙◌, ℕ, List, length}
use Rattle.std.proofs.lemmas.List.{length-drop}
use Rattle.s46_options.specs.Options.{cut, spelled_all}
use Rattle.s46_options.specs.Raw.{cut_of}
use Rattle.s46_options.specs.Items.{inside_octets}
use Rattle.s46_options.specs.Faults.{item_judge}
use Rattle.s46_options.proofs.Numbers.{AreOctets, octets_drop}
use Rattle.s46_options.proofs.Contents.{cut_len, all_cut, container_again, same_cut}
use Rattle.s46_options.proofs.read.read_container.Goals as goal

pub read_items-requires : goal.read_items-requires
read_items-requires c =
    let octets = c.args.octets.now in
    let inside = c.in_ok-inside.inside.now in
    let fits : AreOctets octets = λ i. omega (arith, c.type_inv.octets i) in
    let own : AreOctets inside = λ i. rw c.in_ok-inside.ensures.inside (octets_drop 4 octets fits i) in
    let len = cut_len inside (cut_of c.in_ok-parts.parts) own (same_cut (cut_of c.in_ok-parts.parts) (cut inside) c.in_ok-parts.ensures.options c.in_ok-parts.ensures.left) in
    omega (arith, len, ap length c.in_ok-inside.ensures.inside, length-drop 4 octets, c.in_ok-inside.ensures.length, fits 2, fits 3)

pub returns-clause-back : goal.returns-clause-back
returns-clause-back c =
    let octets = c.args.octets.now in
    let inside = c.in_ok-inside.inside.now in
    let fits : AreOctets octets = λ i. omega (arith, c.type_inv.octets i) in
    let own : AreOctets inside = λ i. rw c.in_ok-inside.ensures.inside (octets_drop 4 octets fits i) in
    let used = sym c.leaves_over.ensures ∙ c.if-leaves_over.false in
    let items = c.in_ok-items.ensures in
    let whole = all_cut item_judge 4 inside (cut_of c.in_ok-parts.parts) own (same_cut (cut_of c.in_ok-parts.parts) (cut inside) c.in_ok-parts.ensures.options c.in_ok-parts.ensures.left) used items.sound in
    let same = container_again octets (inside_octets c.in_ok-items.items.items) fits (omega (arith, c.in_ok-inside.ensures.length)) c.in_ok-inside.ensures.code c.in_ok-inside.ensures.length (ap spelled_all items.options ∙ whole ∙ c.in_ok-inside.ensures.inside) in
    rw c.accepted.ensures (sym same)

pub returns-clause-read : goal.returns-clause-read
returns-clause-read c =
    let same = c.in_ok-parts.ensures.options ∙ ap (λ (xs : List ℕ). (cut xs).options) c.in_ok-inside.ensures.inside in
    rw (c.accepted.ensures, ← same) c.in_ok-items.ensures.reads
