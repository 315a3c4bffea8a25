use Rattle.std.proofs.Common.{refl, sym}
use Rattle.generated_session.proofs.Generations.{says}
use Rattle.generated_session.proofs.drawing.generation_of.Goals as goal

pub returns-then-behind-version : goal.returns-then-behind-version
returns-then-behind-version c = (says c.args.version c.args.piece _ refl).0 c.if-behind-version.true

pub returns-else-behind-version : goal.returns-else-behind-version
returns-else-behind-version c = (says c.args.version c.args.piece _ refl).1 c.if-behind-version.false
