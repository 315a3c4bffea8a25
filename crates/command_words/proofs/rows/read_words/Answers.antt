use Rattle.command_words.specs.Views.{asked_of}
use Rattle.command_words.proofs.Table.{none_first, some_is, none_is, err_is}
use Rattle.command_words.proofs.rows.read_words.Goals as goal

pub returns-in-Some-clause-some : goal.returns-in-Some-clause-some
returns-in-Some-clause-some c = some_is asked_of c.in-Some.row _ _ c.row_of.result c.in-Some.ensures
    c.row_of.ensures.value

pub returns-in-Some-clause-none : goal.returns-in-Some-clause-none
returns-in-Some-clause-none c = none_is asked_of c.in-Some.row _ _ c.row_of.result c.in-Some.ensures
    c.row_of.ensures.value

pub returns-in-Some-clause-memory : goal.returns-in-Some-clause-memory
returns-in-Some-clause-memory c = err_is c.in-Some.row _ _ c.row_of.result c.in-Some.ensures c.row_of.ensures.memory

pub returns-in-None-clause-none : goal.returns-in-None-clause-none
returns-in-None-clause-none c = none_first _ c.in-None.ensures
