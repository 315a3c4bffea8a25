use Rattle.recipe.proofs.Tails.{tail_is, tail_room}
use Rattle.recipe.proofs.reading.tail_of.Goals as goal

pub returns-then-total-file_len-clause-gives : goal.returns-then-total-file_len-clause-gives
returns-then-total-file_len-clause-gives c =
    tail_is c.args.bytes.now c.in_ok-file_len.file_len c.in_ok-count.count c.in_ok-total.total c.in_ok-file_len.rest.now c.in_ok-count.items.now c.in_ok-total.rest.now
    c.in_ok-file_len.ensures c.in_ok-count.ensures c.in_ok-total.ensures c.if-not-is_empty.ensures c.if-total-file_len.true

pub returns-then-total-file_len-clause-room : goal.returns-then-total-file_len-clause-room
returns-then-total-file_len-clause-room c = tail_room c.in_ok-count.count c.in_ok-total.total c.in_ok-count.items.now c.in_ok-total.rest.now c.in_ok-total.ensures c.if-not-is_empty.ensures
