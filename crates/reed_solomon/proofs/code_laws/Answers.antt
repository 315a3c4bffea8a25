use Rattle.std.proofs.Common.{arith}
use Rattle.reed_solomon.proofs.Polynomial.{agree_everywhere, same_coefficients}
use Rattle.reed_solomon.proofs.Recovery.{dispersed_only}
use Rattle.reed_solomon.proofs.Shares.{byte_at, shares_determine, dispersed_share, share_of_below, fourth_share}
use Rattle.reed_solomon.proofs.code_laws.Goals as goal

pub returns-clause-same_polynomial : goal.returns-clause-same_polynomial
returns-clause-same_polynomial c = λ f g p long few bf bg hp h. same_coefficients f g long few bf bg (agree_everywhere f g p long bf bg hp h)

pub returns-clause-only_shares : goal.returns-clause-only_shares
returns-clause-only_shares c = λ s pieces a b da db. dispersed_only s pieces a b (omega (arith, s.several)) s.spare s.few da db

pub returns-clause-any_shares : goal.returns-clause-any_shares
returns-clause-any_shares c = λ s points p q choice long whole bp bq h. shares_determine s points p q choice long whole (byte_at p bp) (byte_at q bq) h

pub returns-clause-rows : goal.returns-clause-rows
returns-clause-rows c = dispersed_share

pub returns-clause-systematic : goal.returns-clause-systematic
returns-clause-systematic c = λ s pieces j bytes whole h. share_of_below s pieces j (byte_at pieces bytes) whole h

pub returns-clause-sum_of_three : goal.returns-clause-sum_of_three
returns-clause-sum_of_three c = λ s pieces col e bytes. fourth_share s pieces col e (byte_at pieces bytes)
