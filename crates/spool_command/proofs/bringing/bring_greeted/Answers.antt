use Rattle.std.proofs.Common.{rules, ◌≡◌, ◌≤◌, ◌<◌, ℕ, List, [], length, append-nil, refl, IsTrue, sym, ap, ◌∙◌, subst, arith}
use Rattle.std.specs.Prelude.{All}
use Rattle.std.specs.List.{Contains}
use Rattle.upload_spool.specs.CdBase.ids.CloudNo.{CloudNo}
use Rattle.upload_spool.specs.CdBase.shape.Shape.{Shape}
use Rattle.upload_spool.specs.CdEdges.Causes.{Rose}
use Rattle.upload_spool.specs.CdEdges.Ports.{Telling}
use Rattle.backup_command.specs.PortsLink.lines.CloudLine.{CloudLine}
use Rattle.backup_command.specs.PortsLink.Lines.{has_port, lines_for}
use Rattle.backup_command.specs.Lanes.{numbered}
use Rattle.backup_command.specs.Steps.{AreGreetedOn, AreReady, ports_of}
use Rattle.upload_spool.specs.States.{state_of}
use Rattle.spool_command.specs.Noted.{IfPorts, NotedWent}
use Rattle.spool_command.proofs.Notes.{lacked_same}
use Rattle.spool_command.proofs.Silent.{lacked_lanes}
use Rattle.backup_command.proofs.Ordering.{are_ready, few_dialled, have_ports, lines_reach, numbered_below}
use Rattle.backup_command.proofs.Ordering.{ports_numbered}
use Rattle.backup_command.specs.Sends.{IsAskOn, SendsOn}
use Rattle.backup_command.proofs.Pieces.{on_none}
use Rattle.spool_command.proofs.bringing.bring_greeted.Goals as goal

pub bring_noted-came-requires-clause-below : goal.bring_noted-came-requires-clause-below
bring_noted-came-requires-clause-below g c =
    let shape = c.args.greeted.now.shape in
    let n = c.requires.numbered in
    subst (λ (s : Shape). All (λ (l : CloudNo × ℕ). l.0.0 < s.n) c.as_slice-2.result.now) (sym c.of-link.ensures.shape)
    (subst (λ (ls : List (CloudNo × ℕ)). All (λ (l : CloudNo × ℕ). l.0.0 < shape.n) ls)
    (sym (c.as_slice-2.ensures.value ∙ n.1)) (numbered_below 0 shape.n n.0 (omega (arith, n.2))))

pub bring_noted-came-requires-clause-reaches : goal.bring_noted-came-requires-clause-reaches
bring_noted-came-requires-clause-reaches g c =
    let shape = c.args.greeted.now.shape in
    let n = c.requires.numbered in
    let lines : c.of-link.result.lines.items.items ≡ lines_for (numbered 0 n.0) =
    ap (λ l. l.items.items) c.of-link.ensures.lines ∙ c.in-Ok.ensures ∙ ap lines_for (c.as_slice.ensures.value ∙ n.1) in
    subst (λ (ls : List (CloudNo × ℕ)). All (λ (l : CloudNo × ℕ). IsTrue
    (has_port c.of-link.result.lines.items.items l.0.0)) ls)
    (sym (c.as_slice-2.ensures.value ∙ n.1))
    (subst (λ (x : List CloudLine). All (λ (l : CloudNo × ℕ). IsTrue (has_port x l.0.0)) (numbered 0 n.0)) (sym lines)
    (have_ports (lines_for (numbered 0 n.0)) (numbered 0 n.0)
    (lines_reach n.0 (omega (arith, n.2, shape.few)))))

pub returns-clause-went : goal.returns-clause-went
returns-clause-went g c = λ dialled on.
    let tells = g.P.Ports.tells in
    let shape = c.args.greeted.now.shape in
    let old = c.of-link.result in
    let new = c.bring_noted-came.new.link in
    let items = c.args.greeted.now.lines.items in
    let same : new.ports.ghost_name ≡ old.ports.ghost_name = c.bring_noted-came.ensures.same_reference in
    let back : new.ports.now ≡ c.ports-1.given.0 = search rules in
    let here : tells old.ports.now ≡ tells c.args.ports.now = ap tells c.of-link.ensures.ports in
    let lines : old.lines.items.items ≡ lines_for (numbered 0 dialled) =
    ap (λ l. l.items.items) c.of-link.ensures.lines ∙ c.in-Ok.ensures
    ∙ ap lines_for (c.as_slice.ensures.value ∙ on.lines_are) in
    let n = c.requires.numbered in
    let few : length dialled ≤ 256 = few_dialled dialled n.0 c.args.greeted.now.shape.n (sym on.lines_are
    ∙ n.1) n.2 c.args.greeted.now.shape.few in
    let ready : AreReady (tells c.args.ports.now) tells old c.as_slice-2.result.now =
    subst (λ (ls : List (CloudNo × ℕ)). AreReady (tells c.args.ports.now) tells old ls)
    (sym (c.as_slice-2.ensures.value ∙ on.lines_are))
    (are_ready tells old (tells c.args.ports.now) dialled here lines few
    (subst (λ (ls : List (CloudNo × ℕ)). AreGreetedOn (tells c.args.ports.now) dialled ls) on.lines_are on)) in
    subst (λ (p : g.row.P.Denot). NotedWent (tells c.args.ports.now) (tells p) items c.args.job.now
    c.bring_noted-came.result c.bring_noted-came.new.job c.args.text.now c.bring_noted-came.new.text (state_of c.args.spool.now) (state_of c.bring_noted-came.new.spool)
    (g.V.Shelf.cloud_at c.args.shelf.now 0) (g.V.Shelf.cloud_at c.bring_noted-came.new.shelf 0)) back
    (subst (λ (ls : List (CloudNo × ℕ)). NotedWent (tells c.args.ports.now) (tells new.ports.now) ls c.args.job.now
    c.bring_noted-came.result c.bring_noted-came.new.job c.args.text.now c.bring_noted-came.new.text (state_of c.args.spool.now) (state_of c.bring_noted-came.new.spool)
    (g.V.Shelf.cloud_at c.args.shelf.now 0) (g.V.Shelf.cloud_at c.bring_noted-came.new.shelf 0))
    c.as_slice-2.ensures.value
    (c.bring_noted-came.ensures.went (tells c.args.ports.now) ready))

pub returns-clause-others : goal.returns-clause-others
returns-clause-others g c = λ dialled on told port none.
    let tells = g.P.Ports.tells in
    let old = c.of-link.result in
    let new = c.bring_noted-came.new.link in
    let same : new.ports.ghost_name ≡ old.ports.ghost_name = c.bring_noted-came.ensures.same_reference in
    let back : new.ports.now ≡ c.ports-1.given.0 = search rules in
    let here : tells old.ports.now ≡ tells c.args.ports.now = ap tells c.of-link.ensures.ports in
    let lines : old.lines.items.items ≡ lines_for (numbered 0 dialled) =
    ap (λ l. l.items.items) c.of-link.ensures.lines ∙ c.in-Ok.ensures
    ∙ ap lines_for (c.as_slice.ensures.value ∙ on.lines_are) in
    let n = c.requires.numbered in
    let few : length dialled ≤ 256 = few_dialled dialled n.0 c.args.greeted.now.shape.n (sym on.lines_are
    ∙ n.1) n.2 c.args.greeted.now.shape.few in
    let all = c.as_slice-2.ensures.value ∙ on.lines_are in
    let ready : AreReady (tells c.args.ports.now) tells old c.as_slice-2.result.now =
    subst (λ (ls : List (CloudNo × ℕ)). AreReady (tells c.args.ports.now) tells old ls) (sym all)
    (are_ready tells old (tells c.args.ports.now) dialled here lines few
    (subst (λ (ls : List (CloudNo × ℕ)). AreGreetedOn (tells c.args.ports.now) dialled ls) on.lines_are on)) in
    let away = subst (λ (l : List ℕ). ¬ Contains l port) (sym (ap ports_of all ∙ ports_numbered 0 dialled)) none in
    ap (λ (p : g.row.P.Denot). (tells p).port port) (sym back)
    ∙ c.bring_noted-came.ensures.others (tells c.args.ports.now) ready told port away
    ∙ ap (λ (t : Telling). t.port port) here

pub returns-clause-told : goal.returns-clause-told
returns-clause-told g c =
    let tells = g.P.Ports.tells in
    let old = c.of-link.result in
    let new = c.bring_noted-came.new.link in
    let same : new.ports.ghost_name ≡ old.ports.ghost_name = c.bring_noted-came.ensures.same_reference in
    let back : new.ports.now ≡ c.ports-1.given.0 = search rules in
    ap (λ (p : g.row.P.Denot). (tells p).told) (sym back) ∙ c.bring_noted-came.ensures.told
    ∙ ap (λ (p : g.row.P.Denot). (tells p).told) c.of-link.ensures.ports

pub returns-clause-later : goal.returns-clause-later
returns-clause-later g c =
    let faults = g.P.Ports.faults in
    let old = c.of-link.result in
    let new = c.bring_noted-came.new.link in
    let same : new.ports.ghost_name ≡ old.ports.ghost_name = c.bring_noted-came.ensures.same_reference in
    let back : new.ports.now ≡ c.ports-1.given.0 = search rules in
    subst (λ (p : g.row.P.Denot). faults p ≤ faults c.ports-1.given.0) c.of-link.ensures.ports
    (subst (λ (p : g.row.P.Denot). faults old.ports.now ≤ faults p) back c.bring_noted-came.ensures.later)

pub returns-clause-lost : goal.returns-clause-lost
returns-clause-lost g c =
    let faults = g.P.Ports.faults in
    let old = c.of-link.result in
    let new = c.bring_noted-came.new.link in
    let same : new.ports.ghost_name ≡ old.ports.ghost_name = c.bring_noted-came.ensures.same_reference in
    let back : new.ports.now ≡ c.ports-1.given.0 = search rules in
    subst (λ (p : g.row.P.Denot). IfPorts c.bring_noted-came.result (Rose (faults p) (faults c.ports-1.given.0)))
    c.of-link.ensures.ports
    (subst (λ (p : g.row.P.Denot). IfPorts c.bring_noted-came.result (Rose (faults old.ports.now) (faults p))) back
    c.bring_noted-came.ensures.lost)

pub returns-in-Err-clause-went : goal.returns-in-Err-clause-went
returns-in-Err-clause-went g c = λ dialled on.
    let state = state_of c.args.spool.now in
    record {
      answers = [];
      all = state.noted;
      go = lacked_lanes (g.P.Ports.tells c.args.ports.now) c.args.greeted.now dialled c.args.job.now state.noted c.requires.numbered on;
      wrote = tt;
      grows = ([], sym (append-nil state.noted));
      shape = refl;
      keeps = lacked_same state state (g.V.Shelf.cloud_at c.args.shelf.now 0) refl;
    }

pub returns-in-Err-clause-sends : goal.returns-in-Err-clause-sends
returns-in-Err-clause-sends g c = λ dialled on told. on_none (IsAskOn (numbered 0 dialled) c.args.job.now) (g.P.Ports.tells c.args.ports.now)

pub returns-clause-sends : goal.returns-clause-sends
returns-clause-sends g c = λ dialled on told.
    let tells = g.P.Ports.tells in
    let old = c.of-link.result in
    let new = c.bring_noted-came.new.link in
    let same : new.ports.ghost_name ≡ old.ports.ghost_name = c.bring_noted-came.ensures.same_reference in
    let back : new.ports.now ≡ c.ports-1.given.0 = search rules in
    let here : tells old.ports.now ≡ tells c.args.ports.now = ap tells c.of-link.ensures.ports in
    let lines : old.lines.items.items ≡ lines_for (numbered 0 dialled) =
    ap (λ l. l.items.items) c.of-link.ensures.lines ∙ c.in-Ok.ensures
    ∙ ap lines_for (c.as_slice.ensures.value ∙ on.lines_are) in
    let n = c.requires.numbered in
    let few : length dialled ≤ 256 = few_dialled dialled n.0 c.args.greeted.now.shape.n (sym on.lines_are
    ∙ n.1) n.2 c.args.greeted.now.shape.few in
    let all = c.as_slice-2.ensures.value ∙ on.lines_are in
    let ready : AreReady (tells c.args.ports.now) tells old c.as_slice-2.result.now =
    subst (λ (ls : List (CloudNo × ℕ)). AreReady (tells c.args.ports.now) tells old ls) (sym all)
    (are_ready tells old (tells c.args.ports.now) dialled here lines few
    (subst (λ (ls : List (CloudNo × ℕ)). AreGreetedOn (tells c.args.ports.now) dialled ls) on.lines_are on)) in
    let Is = IsAskOn (numbered 0 dialled) c.args.job.now in
    subst (λ (p : g.row.P.Denot). SendsOn Is (tells c.args.ports.now) (tells p)) back
    (subst (λ (p : g.row.P.Denot). SendsOn Is (tells p) (tells new.ports.now)) c.of-link.ensures.ports
    (subst (λ (ls : List (CloudNo × ℕ)). SendsOn (IsAskOn ls c.args.job.now) (tells old.ports.now) (tells new.ports.now)) all
    (c.bring_noted-came.ensures.sends (tells c.args.ports.now) ready told)))
