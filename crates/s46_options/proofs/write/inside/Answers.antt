use Rattle.s46_options.specs.Items.{item_option}
use Rattle.s46_options.proofs.Contents.{option_short}
use Rattle.s46_options.proofs.write.inside.Goals as goal

pub octets-requires-clause-short : goal.octets-requires-clause-short
octets-requires-clause-short c = option_short item_option c.args.items.now c.loop-item.item-index c.item-item.result c.loop-item-test.true c.item-item.is c.requires.short

pub push_option-requires : goal.push_option-requires
push_option-requires c =
    let short = option_short item_option c.args.items.now c.loop-item.item-index c.item-item.result c.loop-item-test.true c.item-item.is c.requires.short in
    rw (c.as_slice.ensures, c.in_ok-octets.ensures.octets) short
