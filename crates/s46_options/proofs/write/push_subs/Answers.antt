use Rattle.s46_options.specs.Items.{sub_option}
use Rattle.s46_options.proofs.Contents.{option_short}
use Rattle.s46_options.proofs.write.push_subs.Goals as goal

pub push_sub-requires-clause-short : goal.push_sub-requires-clause-short
push_sub-requires-clause-short c = option_short sub_option c.args.subs.now c.loop-sub.sub-index c.sub-item.result c.loop-sub-test.true c.sub-item.is c.requires.short
