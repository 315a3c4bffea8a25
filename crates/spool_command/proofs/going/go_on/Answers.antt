use Rattle.std.proofs.Common.{◌≡◌, ◌++◌, ◌∙◌, [], ◌∷◌, List, ℕ, ap}
use Rattle.upload_spool.specs.CdEdges.Causes.{Rose}
use Rattle.backup_command.specs.Transcript.line.Line.TheVariants as lines
use Rattle.upload_spool.specs.States.{state_of}
use Rattle.backup_command.specs.Texts.{text_of}
use Rattle.backup_command.specs.Lanes.{numbered}
use Rattle.backup_command.specs.Sends.{IsAskOn}
use Rattle.backup_command.proofs.Pieces.{on_none}
use Rattle.spool_command.proofs.Ends.{ended, failed_behind, lacked_first, no_ports, stopped}
use Rattle.spool_command.proofs.Silent.{lacked_lanes}
use Rattle.spool_command.proofs.going.go_on.Goals as goal

pub returns-in-Err-clause-went : goal.returns-in-Err-clause-went
returns-in-Err-clause-went g c = λ dialled on.
    let behind = g.P.Ports.tells c.args.ports.now in
    let state = state_of c.args.spool in
    lacked_first behind c.args.greeted.now.lines.items c.args.job.now c.stored-had.result state (g.V.Shelf.cloud_at c.args.shelf.now 0) c.put_line.new.text c.stored-had.ensures
    (lacked_lanes behind c.args.greeted.now dialled c.args.job.now state.noted c.requires.numbered on)

pub returns-in-Err-bring_greeted-clause-went : goal.returns-in-Err-bring_greeted-clause-went
returns-in-Err-bring_greeted-clause-went g c = λ dialled on.
    let tells = g.P.Ports.tells in
    let cloud_at = g.V.Shelf.cloud_at in
    let one : c.put_line.new.text ≡ text_of (lines.Job 1 ∷ []) = c.in-Ok.ensures ∙ ap (λ (l : List ℕ). l ++ text_of (lines.Job 1 ∷ [])) c.requires.empty in
    stopped (tells c.args.ports.now) (tells c.bring_greeted.new.ports) c.args.greeted.now.lines.items c.args.job.now c.bring_greeted.new.job c.stored-had.result c.put_line.new.text c.bring_greeted.new.text (state_of c.args.spool)
    (state_of c.bring_greeted.new.spool) (cloud_at c.args.shelf.now 0) (cloud_at c.bring_greeted.new.shelf 0) c.in-Err-bring_greeted.why c.stored-had.ensures one
    (c.in-Err-bring_greeted.ensures.went dialled on)

pub returns-clause-went : goal.returns-clause-went
returns-clause-went g c = λ dialled on.
    let tells = g.P.Ports.tells in
    let cloud_at = g.V.Shelf.cloud_at in
    let one : c.put_line.new.text ≡ text_of (lines.Job 1 ∷ []) = c.in-Ok.ensures ∙ ap (λ (l : List ℕ). l ++ text_of (lines.Job 1 ∷ [])) c.requires.empty in
    ended (tells c.args.ports.now) (tells c.bring_greeted.new.ports) c.args.greeted.now.lines.items c.args.job.now c.bring_greeted.new.job c.stored-had.result c.put_line.new.text c.bring_greeted.new.text (state_of c.args.spool)
    (state_of c.bring_greeted.new.spool) (cloud_at c.args.shelf.now 0) (cloud_at c.bring_greeted.new.shelf 0) (cloud_at c.end_job.new.shelf 0) c.end_job.new.text c.stored-stored.result c.end_job.result c.stored-had.ensures
    c.stored-stored.ensures one c.bring_greeted.ensures.call.told (c.in-Ok-bring_greeted.ensures.went dialled on) c.end_job.ensures.ends

pub returns-clause-lost : goal.returns-clause-lost
returns-clause-lost g c = no_ports c.stored-had.result c.stored-stored.result c.bring_greeted.new.text c.end_job.new.text (g.V.Shelf.cloud_at c.bring_greeted.new.shelf 0) (g.V.Shelf.cloud_at c.end_job.new.shelf 0) c.end_job.result (Rose (g.P.Ports.faults c.args.ports.now) (g.P.Ports.faults c.bring_greeted.new.ports))
    c.end_job.ensures.ends

pub returns-clause-failed : goal.returns-clause-failed
returns-clause-failed g c =
    let cloud_at = g.V.Shelf.cloud_at in
    let faults = g.V.Shelf.faults in
    failed_behind (cloud_at c.args.shelf.now) (cloud_at c.bring_greeted.new.shelf) (cloud_at c.end_job.new.shelf) (faults c.args.shelf.now) (faults c.bring_greeted.new.shelf) (faults c.end_job.new.shelf) c.end_job.result
    c.bring_greeted.ensures.call c.end_job.ensures.failed

pub returns-in-Err-clause-sends : goal.returns-in-Err-clause-sends
returns-in-Err-clause-sends g c = λ dialled on told. on_none (IsAskOn (numbered 0 dialled) c.args.job.now) (g.P.Ports.tells c.args.ports.now)
