use Rattle.blob_audit.proofs.Compared.{long_refused}
use Rattle.blob_audit.proofs.judging.judge_long.Goals as goal

pub returns-in-Some-clause-judged : goal.returns-in-Some-clause-judged
returns-in-Some-clause-judged c = λ t user bytes found.
    long_refused c.args.shape _ c.in-Some.is t user c.args.entry bytes c.requires (c.in-Ok.ensures.judged bytes found)
