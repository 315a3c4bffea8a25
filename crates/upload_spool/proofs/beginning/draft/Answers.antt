use Rattle.upload_spool.proofs.Lanes.{none_distinct, none_below}
use Rattle.upload_spool.proofs.Begins.{not_at_end}
use Rattle.upload_spool.proofs.beginning.draft.Goals as goal

pub invariant_of-spool : goal.invariant_of-spool
invariant_of-spool c = record {
  limited = c.in_ok-journal.ensures.0;
  room = λ at. absurd (not_at_end c.in_ok-journal.journal.stage c.in_ok-journal.ensures.1 at);
  distinct = none_distinct c.new.result.items c.new.ensures.items;
  below = none_below c.new.result.items c.args.shape.n c.new.ensures.items;
}
