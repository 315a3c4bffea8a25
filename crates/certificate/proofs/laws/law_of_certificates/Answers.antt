use Rattle.certificate.proofs.Texts.{read_back, one_text, one_certificate}
use Rattle.certificate.proofs.LineTexts.{ended, one_line, apart}
use Rattle.certificate.proofs.laws.law_of_certificates.Goals as goal

pub returns : goal.returns
returns c = record { read_back = read_back; one_text = one_text; one = one_certificate; ended = ended; one_line = one_line; apart = apart }
