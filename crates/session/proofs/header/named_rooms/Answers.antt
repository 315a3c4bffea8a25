use Rattle.session.proofs.Headers.{some_users}
use Rattle.session.proofs.header.named_rooms.Goals as goal

pub nonzero_div-users : goal.nonzero_div-users
nonzero_div-users c = some_users c.args.bytes.now c.in_ok-users.users c.in_ok-users.bytes.now c.in_ok-users.ensures.value

pub nonzero_div-users-2 : goal.nonzero_div-users-2
nonzero_div-users-2 c = some_users c.args.bytes.now c.in_ok-users.users c.in_ok-users.bytes.now c.in_ok-users.ensures.value

pub nonzero_div-users-3 : goal.nonzero_div-users-3
nonzero_div-users-3 c = some_users c.args.bytes.now c.in_ok-users.users c.in_ok-users.bytes.now c.in_ok-users.ensures.value

pub nonzero_div-users-4 : goal.nonzero_div-users-4
nonzero_div-users-4 c = some_users c.args.bytes.now c.in_ok-users.users c.in_ok-users.bytes.now c.in_ok-users.ensures.value
