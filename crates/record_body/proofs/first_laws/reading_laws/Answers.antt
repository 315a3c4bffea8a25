use Rattle.record_body.proofs.FirstBodyLaws.{all_bytes, body_law, again, one, extra}
use Rattle.record_body.proofs.FirstCuts.{short}
use Rattle.record_body.proofs.first_laws.reading_laws.Goals as goal

pub returns : goal.returns
returns c = record { exact = λ bytes b all. body_law bytes b (all_bytes bytes all); again = again; one = one; extra = extra; short = short }
