use Rattle.std.proofs.Common.{refl}
use Rattle.share_server.proofs.CdEdges.Calls.{called_twice}
use Rattle.serve_command.proofs.Completing.{completes}
use Rattle.serve_command.proofs.InRooms.{all_stay, behind, in_rooms, not_found}
use Rattle.serve_command.proofs.command.serve.Goals as goal

pub returns-in-Ok-rooms_of-clause-served : goal.returns-in-Ok-rooms_of-clause-served
returns-in-Ok-rooms_of-clause-served g c =
    let f = c.in-Ok-rooms_of.ensures in
    in_rooms c.in-Ok-rooms_of.rooms _ _ f.allowed f.found
    (behind _ _ _ _ _ (all_stay _ _ c.args.cloud.0 _ _ f.call f.stays f.counts) f.counts.total c.serve_in.ensures.served)

pub returns-in-Ok-rooms_of-clause-call : goal.returns-in-Ok-rooms_of-clause-call
returns-in-Ok-rooms_of-clause-call g c =
    called_twice _ _ _ c.args.cloud.0 _ _ _ c.in-Ok-rooms_of.ensures.call c.serve_in.ensures.call

pub returns-in-Ok-rooms_of-clause-complete : goal.returns-in-Ok-rooms_of-clause-complete
returns-in-Ok-rooms_of-clause-complete g c = λ well.
    let f = c.in-Ok-rooms_of.ensures in
    completes c.law_of_no_commands.ensures.stands c.law_of_headers.ensures _ _ (in_rooms c.in-Ok-rooms_of.rooms _ _ f.allowed f.found
    (behind _ _ _ _ _ (all_stay _ _ c.args.cloud.0 _ _ f.call f.stays f.counts) f.counts.total c.serve_in.ensures.served)) well

pub returns-clause-served : goal.returns-clause-served
returns-clause-served g c =
    let e = c.in-Err-rooms_of.ensures in
    not_found _ c.in-Err-rooms_of.error _ e.unreadable e.stays e.counts c.refuse.ensures refl refl

pub returns-clause-complete : goal.returns-clause-complete
returns-clause-complete g c = λ well.
    let e = c.in-Err-rooms_of.ensures in
    completes c.law_of_no_commands.ensures.stands c.law_of_headers.ensures _ _ (not_found _ c.in-Err-rooms_of.error _ e.unreadable e.stays e.counts c.refuse.ensures refl refl) well
