use Rattle.std.proofs.Common.{ℕ, List, [], ◌∷◌, ◌++◌, Ok, sym, ap, ◌∙◌, subst}
use Rattle.transcript.specs.CdBase.ids.CloudNo.{CloudNo}
use Rattle.transcript.specs.CdEdges.Ports.{Telling}
use Rattle.lane_steps.specs.UploadJob.Lanes.{LaneView, lanes_begun}
use Rattle.transcript.specs.declared.line.Line.TheVariants as lines
use Rattle.backup_command.specs.Lanes.{LanesGoOnPorts, numbered}
use Rattle.backup_command.specs.BackedUp.{version_of}
use Rattle.backup_command.specs.Texts.{text_of, end_lines}
use Rattle.backup_command.proofs.Joining.{joined}
use Rattle.backup_command.proofs.Finishing.{at_call, sent_at_call}
use Rattle.backup_command.specs.Sends.{IsAskOn}
use Rattle.backup_command.proofs.Pieces.{on_none}
use Rattle.backup_command.proofs.carrying.carry_greeted.Goals as goal

pub returns-in-Ok-put_end-clause-carries : goal.returns-in-Ok-put_end-clause-carries
returns-in-Ok-put_end-clause-carries g c = λ call dialled user path version after on.
    let old = g.P.Ports.tells c.args.ports.now in
    let shape = c.args.greeted.now.shape in
    let w = c.in-Ok-bring_all.ensures.went dialled on in
    let last = c.bring_all.new.job in
    let stored = c.stored-stored.result in (
      w.answers,
      last,
      subst (λ (t : Telling). LanesGoOnPorts old t (numbered 0 dialled) (lanes_begun shape (version_of call c.args.file))
          (Ok tt) w.answers last) (sym after)
          (subst (λ (ls : List (CloudNo × ℕ)). LanesGoOnPorts old (g.P.Ports.tells c.bring_all.new.ports) ls
          (lanes_begun shape (version_of call c.args.file)) (Ok tt) w.answers last)
          on.lines_are
          (at_call call c.args.named.now.user c.args.named.now.path.now c.args.named.now.version c.args.file shape user path version
          (λ views. LanesGoOnPorts old (g.P.Ports.tells c.bring_all.new.ports) c.args.greeted.now.lines.items views
          (Ok tt) w.answers
          last)
          (subst (λ (views : List LaneView). LanesGoOnPorts old (g.P.Ports.tells c.bring_all.new.ports)
          c.args.greeted.now.lines.items views (Ok tt) w.answers last) c.in-Ok.ensures.begun w.go))),
      c.stored-stored.ensures,
      joined [] c.bring_all.new.text c.put_end.new.text (lines.Job 1 ∷ w.answers) (end_lines stored)
          (joined [] c.put_line.new.text c.bring_all.new.text (lines.Job 1 ∷ []) w.answers
          (c.in-Ok-put_line.ensures ∙ ap (λ (l : List ℕ). l ++ text_of (lines.Job 1 ∷ [])) c.requires.empty) w.wrote)
          c.in-Ok-put_end.ensures,
    )

pub returns-in-Err-clause-sends : goal.returns-in-Err-clause-sends
returns-in-Err-clause-sends g c = λ call dialled user path version on told.
    on_none (IsAskOn (numbered 0 dialled) (lanes_begun c.args.greeted.now.shape (version_of call c.args.file))) (g.P.Ports.tells c.args.ports.now)

pub returns-in-Err-put_line-clause-sends : goal.returns-in-Err-put_line-clause-sends
returns-in-Err-put_line-clause-sends g c = λ call dialled user path version on told.
    on_none (IsAskOn (numbered 0 dialled) (lanes_begun c.args.greeted.now.shape (version_of call c.args.file))) (g.P.Ports.tells c.args.ports.now)

pub returns-in-Err-Lost-clause-sends : goal.returns-in-Err-Lost-clause-sends
returns-in-Err-Lost-clause-sends g c = λ call dialled user path version on told.
    sent_at_call call c.args.named.now.user c.args.named.now.path.now c.args.named.now.version c.args.file c.args.greeted.now.shape dialled _
    (g.P.Ports.tells c.args.ports.now) (g.P.Ports.tells c.bring_all.new.ports) user path version c.in-Ok.ensures.begun
    (c.in-Err-Lost.ensures.sends dialled on told)

pub returns-in-Err-NoMemory-clause-sends : goal.returns-in-Err-NoMemory-clause-sends
returns-in-Err-NoMemory-clause-sends g c = λ call dialled user path version on told.
    sent_at_call call c.args.named.now.user c.args.named.now.path.now c.args.named.now.version c.args.file c.args.greeted.now.shape dialled _
    (g.P.Ports.tells c.args.ports.now) (g.P.Ports.tells c.bring_all.new.ports) user path version c.in-Ok.ensures.begun
    (c.in-Err-NoMemory.ensures.sends dialled on told)

pub returns-in-Ok-put_end-clause-sends : goal.returns-in-Ok-put_end-clause-sends
returns-in-Ok-put_end-clause-sends g c = λ call dialled user path version on told.
    sent_at_call call c.args.named.now.user c.args.named.now.path.now c.args.named.now.version c.args.file c.args.greeted.now.shape dialled _
    (g.P.Ports.tells c.args.ports.now) (g.P.Ports.tells c.bring_all.new.ports) user path version c.in-Ok.ensures.begun
    (c.in-Ok-bring_all.ensures.sends dialled on told)

pub returns-clause-sends : goal.returns-clause-sends
returns-clause-sends g c = λ call dialled user path version on told.
    sent_at_call call c.args.named.now.user c.args.named.now.path.now c.args.named.now.version c.args.file c.args.greeted.now.shape dialled _
    (g.P.Ports.tells c.args.ports.now) (g.P.Ports.tells c.bring_all.new.ports) user path version c.in-Ok.ensures.begun
    (c.in-Ok-bring_all.ensures.sends dialled on told)
