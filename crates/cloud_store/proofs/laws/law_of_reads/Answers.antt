use Rattle.cloud_store.proofs.Keeping.{reads_serve, reads_settled, reads_meet}
use Rattle.cloud_store.proofs.laws.law_of_reads.Goals as goal

pub returns : goal.returns
returns c = record { serves = reads_serve; settled = reads_settled; meet = reads_meet }
