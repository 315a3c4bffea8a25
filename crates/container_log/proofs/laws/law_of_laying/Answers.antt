use Rattle.container_log.proofs.Laid.{least_laid, apart, whole_laid, zeros_laid, end_laid, placed_more, none_laid}
use Rattle.container_log.proofs.laws.law_of_laying.Goals as goal

pub returns-clause-least : goal.returns-clause-least
returns-clause-least c = least_laid

pub returns-clause-whole : goal.returns-clause-whole
returns-clause-whole c = whole_laid

pub returns-clause-zeros : goal.returns-clause-zeros
returns-clause-zeros c = zeros_laid

pub returns-clause-end : goal.returns-clause-end
returns-clause-end c = end_laid

pub returns-clause-apart : goal.returns-clause-apart
returns-clause-apart c = apart

pub returns-clause-more : goal.returns-clause-more
returns-clause-more c = placed_more

pub returns-clause-none : goal.returns-clause-none
returns-clause-none c = none_laid
