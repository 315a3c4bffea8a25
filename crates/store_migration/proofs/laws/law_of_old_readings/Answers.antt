use Rattle.store_migration.proofs.Whole.{read_ok, read_left}
use Rattle.store_migration.proofs.laws.law_of_old_readings.Goals as goal

pub returns : goal.returns
returns c = record {
  whole = λ shape cloud list image m result begun within reads. read_ok shape cloud list image begun within m result reads;
  left = λ shape cloud list image m result begun within reads. read_left shape cloud list image begun within m result reads;
}
