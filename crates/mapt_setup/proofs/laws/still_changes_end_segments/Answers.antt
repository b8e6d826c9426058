use Rattle.mapt_setup.proofs.Segments.{segment_count, segment_items}
use Rattle.mapt_setup.proofs.laws.still_changes_end_segments.Goals as goal

pub returns-clause-count : goal.returns-clause-count
returns-clause-count c = segment_count

pub returns-clause-items : goal.returns-clause-items
returns-clause-items c = segment_items
