use Rattle.std.proofs.Common.{arith, ap, ◌∙◌, ◌≡◌, ◌+◌, ◌-◌, ℕ, List, drop, inl, refl, subst}
use Rattle.std.specs.List.{AllZip}
use Rattle.s46_options.specs.Reading.{ReadsSub}
use Rattle.std.proofs.lemmas.Result.{err_from_is_err_and}
use Rattle.std.proofs.lemmas.List.{length-drop}
use Rattle.octets.specs.Field.{octet, part}
use Rattle.s46_options.specs.Options.{Cut, DhcpOption, spelled_all}
use Rattle.s46_options.specs.Raw.{cut_of}
use Rattle.s46_options.specs.Items.{octets_for}
use Rattle.s46_options.specs.Faults.{field_faults, padding, prefix_number, all_faults, sub_judge, subs_of, body_faults, rule_end}
use Rattle.s46_options.proofs.Numbers.{AreOctets, octets_drop}
use Rattle.s46_options.proofs.Contents.{cut_len, all_cut, rule_again, first_second}
use Rattle.s46_options.proofs.rule.read_body.Goals as goal

pub returns-in_err-prefix6-clause-refused : goal.returns-in_err-prefix6-clause-refused
unfolding body_faults
returns-in_err-prefix6-clause-refused c =
    let p = err_from_is_err_and c.from_residual-in_err-prefix6.result c.from_residual-in_err-prefix6.ensures.1 in
    let octets = c.args.octets.now in
    let size : (8 + c.octets_for-end.result) - 8 ≡ octets_for (octet octets 7) = omega (arith, c.octets_for-end.ensures) in
    rw (p.1, p.2) (inl (first_second (field_faults c.args.at octets) (padding (c.args.at + 12) 16 (prefix_number (part octets 8 (octets_for (octet octets 7)))) (octet octets 7)) (all_faults sub_judge (c.args.at + (4 + rule_end octets)) (subs_of octets)) c.in_err-prefix6.field-0.0 c.in_ok-fields.ensures.sound (rw size at c.in_err-prefix6.ensures.refused)))

pub read_subs-requires : goal.read_subs-requires
read_subs-requires c =
    let octets = c.args.octets.now in
    let fits : AreOctets octets = λ i. omega (arith, c.type_inv.octets i) in
    let rest = drop (rule_end octets) octets in
    let len = cut_len rest (cut_of c.args.parts.now) (octets_drop (rule_end octets) octets fits) c.requires.parts in
    omega (arith, len, length-drop (rule_end octets) octets, c.octets_for-end.ensures, c.requires.place, c.requires.end)

pub returns-clause-option : goal.returns-clause-option
returns-clause-option c =
    let octets = c.args.octets.now in
    let fits : AreOctets octets = λ i. omega (arith, c.type_inv.octets i) in
    let fields = c.in_ok-fields.ensures in
    let prefix = c.in_ok-prefix6.ensures in
    let subs = c.in_ok-subs.ensures in
    let size : (8 + c.octets_for-end.result) - 8 ≡ octets_for (octet octets 7) = omega (arith, c.octets_for-end.ensures) in
    let whole = all_cut sub_judge (c.args.at + (4 + (8 + c.octets_for-end.result))) (drop (rule_end octets) octets) (cut_of c.args.parts.now) (octets_drop (rule_end octets) octets fits) c.requires.parts c.requires.used subs.sound in
    let same = rule_again c.in_ok-fields.fields.flag c.in_ok-fields.fields.ea c.in_ok-fields.fields.prefix4 c.in_ok-prefix6.prefix6 c.in_ok-subs.subs octets fits c.requires.whole (record { flag_is = fields.flag; ea_is = fields.ea; len4 = fields.len4; bits4 = fields.bits4 }) prefix.length c.requires.len6 c.requires.end (rw size at prefix.bits) (ap spelled_all subs.options ∙ whole) in
    ap (λ (xs : List ℕ). let o : DhcpOption = record { code = 89; octets = xs } in o) same

pub returns-clause-reads : goal.returns-clause-reads
returns-clause-reads c =
    let octets = c.args.octets.now in
    let fields = c.in_ok-fields.ensures in
    let prefix = c.in_ok-prefix6.ensures in
    let size : (8 + c.octets_for-end.result) - 8 ≡ octets_for (octet octets 7) = omega (arith, c.octets_for-end.ensures) in
    let bits : c.in_ok-prefix6.prefix6.bits ≡ prefix_number (part octets 8 (octets_for (octet octets 7))) = rw size at prefix.bits in
    let subs : AllZip ReadsSub (subs_of octets).options c.in_ok-subs.subs = subst (λ (p : Cut). AllZip ReadsSub p.options c.in_ok-subs.subs) c.requires.parts c.in_ok-subs.ensures.reads in
    (refl, fields.flag, fields.ea, fields.len4, fields.bits4, prefix.length, bits, subs)
