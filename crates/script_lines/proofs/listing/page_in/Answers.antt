use Rattle.std.proofs.Common.{subst}
use Rattle.deletions.specs.Messages.Replies.{FitsReply}
use Rattle.script_lines.proofs.listing.page_in.Goals as goal

pub returns-in-Ok-Entries-clause-few : goal.returns-in-Ok-Entries-clause-few
returns-in-Ok-Entries-clause-few c =
    let read = c.in-Ok-Entries.ensures in subst FitsReply c.in-Ok-Entries.field-0-is ((read.grammar c.in-Ok-Entries.field-0).0 read.reads).fits
