use Rattle.record_body.proofs.FirstBodyLaws.{all_bytes}
use Rattle.record_body.proofs.BodyLaws.{body_law, again, one, extra, as_before}
use Rattle.record_body.proofs.Cuts.{short}
use Rattle.record_body.proofs.laws.reading_laws.Goals as goal

pub returns : goal.returns
returns c = record {
  exact = λ bytes b all. body_law bytes b (all_bytes bytes all);
  again = again;
  one = one;
  extra = extra;
  short = short;
  before = λ bytes b all. as_before bytes b (all_bytes bytes all);
}
