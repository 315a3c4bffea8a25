use Rattle.user_dedup.proofs.Deleting.{deleted_view, entry_gone, entry_stays, entries_are, own_named, own_foreign, own_taken, own_less}
use Rattle.user_dedup.proofs.laws.law_of_deletions.Goals as goal

pub returns : goal.returns
returns c = record {
  view = deleted_view;
  gone = entry_gone;
  others = entry_stays;
  entries = entries_are;
  named = own_named;
  foreign = own_foreign;
  taken = own_taken;
  own = own_less;
}
