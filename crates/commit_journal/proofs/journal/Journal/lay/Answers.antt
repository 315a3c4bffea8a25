use Rattle.commit_journal.specs.States.{state_of}
use Rattle.commit_journal.proofs.journal.Journal.lay.Goals as goal

pub returns-in_err-lay-clause-any_moment : goal.returns-in_err-lay-clause-any_moment
returns-in_err-lay-clause-any_moment g c told w next is = c.lay.ensures.any_moment told w next is.laid

pub returns-clause-any_moment : goal.returns-clause-any_moment
returns-clause-any_moment g c told w next is = c.lay.ensures.any_moment told w next is.laid

pub returns-clause-laid : goal.returns-clause-laid
returns-clause-laid g c told w next is = record { half = is.half; start = is.start; laid = c.in_ok-lay.ensures.laid told w next is.laid }
