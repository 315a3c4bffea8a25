use Rattle.server_reads.proofs.Held.{entry_stands, none_there}
use Rattle.server_reads.proofs.laws.law_of_entries.Goals as goal

pub returns : goal.returns
returns c = record {
  there = λ shape cloud list m shares recipes user tag version entry sound remembers stands e.
      entry_stands recipes shape cloud list m user tag version entry shares sound remembers stands e;
  none = none_there;
}
