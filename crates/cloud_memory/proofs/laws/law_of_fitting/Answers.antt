use Rattle.cloud_memory.proofs.Fitting.{begun_fits, news_fit, put_fits, commit_fits, delete_fits, filled_fits, kepts_fit, entry_fits, spends_fits, spent_fits}
use Rattle.cloud_memory.proofs.laws.law_of_fitting.Goals as goal

pub returns : goal.returns
returns c = record {
  begun = begun_fits;
  puts = news_fit;
  items = put_fits;
  commits = commit_fits;
  deletes = delete_fits;
  parts = filled_fits;
  kepts = kepts_fit;
  entries = entry_fits;
  spends = spends_fits;
  spent = spent_fits;
}
