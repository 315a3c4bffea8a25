use Rattle.std.proofs.Common.{rules, ◌≡◌, ◌≤◌, ◌<◌, ℕ, List, IsTrue, IfErr, sym, ap, ◌∙◌, subst}
use Rattle.std.specs.Prelude.{All}
use Rattle.std.specs.List.{Contains}
use Rattle.ports_link.specs.CdEdges.Causes.{Rose}
use Rattle.ports_link.specs.Hellos.{HaveTalks, clouds_of}
use Rattle.ports_link.specs.declared.lines.CloudLine.{CloudLine}
use Rattle.ports_link.specs.Lines.{lines_for}
use Rattle.ports_link.specs.Messages.Requests.{request_bytes}
use Rattle.ports_link.specs.Messages.request.Request.TheVariants as requests
use Rattle.subset_restore.specs.CaontRs.Package.{tag as tag_at}
use Rattle.subset_restore.specs.Ends.{AnyEnds}
use Rattle.subset_restore.specs.Going.{sought}
use Rattle.subset_restore.specs.RestoreJob.Refusals.{Names}
use Rattle.restore_command.specs.Calls.{OnlyReads, ports_of}
use Rattle.ports_link.specs.UserDedup.Link.{IsReading, ReadsOneOf, Talk}
use Rattle.ports_link.proofs.Sending.{sends_none}
use Rattle.restore_command.specs.declared.recalling.RecallingLink.{RecallingLink}
use Rattle.restore_command.specs.Recalling.{recalling}
use Rattle.restore_command.specs.Tried.{CameBy}
use Rattle.restore_command.proofs.Coming.{came_by}
use Rattle.restore_command.proofs.Passing.{AreOn, kept, others, sends_along}
use Rattle.restore_command.proofs.Recalled.{inner}
use Rattle.restore_command.proofs.Lines.{few_clouds, lines_reach, on_ports}
use Rattle.restore_command.proofs.Saying.{at_call}
use Rattle.restore_command.proofs.greeted.restore_greeted.Goals as goal

pub returns-clause-named : goal.returns-clause-named
returns-clause-named g c =
    subst (λ (l : List ℕ). IfErr c.restore_any-came.result (Names (Contains l)))
    (c.in-Ok.ensures ∙ ap clouds_of c.as_slice.ensures.value) c.restore_any-came.ensures.named

pub returns-clause-lost : goal.returns-clause-lost
returns-clause-lost g c = λ yes.
    let faults = g.P.Ports.faults in
    let old : RecallingLink g.row.P.Denot =
    record { link = c.of-below.result; wanted = c.in-Ok-wanted_request.wanted; kept = c.in-Ok-make.kept } in
    let new = c.restore_any-came.new.link in
    let asked = c.restore_any-came.ensures.asked in
    let asks = inner g.P.Ports.tells faults (ReadsOneOf c.in-Ok.clouds) asked.asks old new asked.passed in
    let same : new.link.ports.ghost_name ≡ old.link.ports.ghost_name =
    (kept g.P.Ports.tells faults c.in-Ok.clouds asks.went old.link new.link asks.passed).same_reference in
    let back : new.link.ports.now ≡ c.ports-1.given.0 = search rules in
    subst (λ (p : g.row.P.Denot). Rose (faults p) (faults c.ports-1.given.0)) c.of-below.ensures.ports
    (subst (λ (p : g.row.P.Denot). Rose (faults old.link.ports.now) (faults p)) back (asked.lost yes))

pub returns-clause-later : goal.returns-clause-later
returns-clause-later g c =
    let faults = g.P.Ports.faults in
    let old : RecallingLink g.row.P.Denot =
    record { link = c.of-below.result; wanted = c.in-Ok-wanted_request.wanted; kept = c.in-Ok-make.kept } in
    let new = c.restore_any-came.new.link in
    let asked = c.restore_any-came.ensures.asked in
    let asks = inner g.P.Ports.tells faults (ReadsOneOf c.in-Ok.clouds) asked.asks old new asked.passed in
    let same : new.link.ports.ghost_name ≡ old.link.ports.ghost_name =
    (kept g.P.Ports.tells faults c.in-Ok.clouds asks.went old.link new.link asks.passed).same_reference in
    let back : new.link.ports.now ≡ c.ports-1.given.0 = search rules in
    subst (λ (p : g.row.P.Denot). faults p ≤ faults c.ports-1.given.0) c.of-below.ensures.ports
    (subst (λ (p : g.row.P.Denot). faults old.link.ports.now ≤ faults p) back asked.later)

pub returns-clause-told : goal.returns-clause-told
returns-clause-told g c =
    let tells = g.P.Ports.tells in
    let old : RecallingLink g.row.P.Denot =
    record { link = c.of-below.result; wanted = c.in-Ok-wanted_request.wanted; kept = c.in-Ok-make.kept } in
    let new = c.restore_any-came.new.link in
    let asked = c.restore_any-came.ensures.asked in
    let asks = inner tells g.P.Ports.faults (ReadsOneOf c.in-Ok.clouds) asked.asks old new asked.passed in
    let k = kept tells g.P.Ports.faults c.in-Ok.clouds asks.went old.link new.link asks.passed in
    let same : new.link.ports.ghost_name ≡ old.link.ports.ghost_name = k.same_reference in
    let back : new.link.ports.now ≡ c.ports-1.given.0 = search rules in
    ap (λ (p : g.row.P.Denot). (tells p).told) (sym back) ∙ k.told
    ∙ ap (λ (p : g.row.P.Denot). (tells p).told) c.of-below.ensures.ports

pub returns-clause-others : goal.returns-clause-others
returns-clause-others g c = λ told port not.
    let tells = g.P.Ports.tells in
    let old : RecallingLink g.row.P.Denot =
    record { link = c.of-below.result; wanted = c.in-Ok-wanted_request.wanted; kept = c.in-Ok-make.kept } in
    let new = c.restore_any-came.new.link in
    let asked = c.restore_any-came.ensures.asked in
    let items = c.args.greeted.now.lines.items in
    let asks = inner tells g.P.Ports.faults (ReadsOneOf c.in-Ok.clouds) asked.asks old new asked.passed in
    let same : new.link.ports.ghost_name ≡ old.link.ports.ghost_name =
    (kept tells g.P.Ports.faults c.in-Ok.clouds asks.went old.link new.link asks.passed).same_reference in
    let back : new.link.ports.now ≡ c.ports-1.given.0 = search rules in
    let named : c.in-Ok.clouds ≡ clouds_of items = c.in-Ok.ensures ∙ ap clouds_of c.as_slice.ensures.value in
    let lines : old.link.lines.items.items ≡ lines_for items =
    ap (λ l. l.items.items) c.of-below.ensures.lines ∙ c.in-Ok-lines_of.ensures
    ∙ ap lines_for c.as_slice-2.ensures.value in
    let few : All (λ cloud. cloud < 256) (clouds_of items) = few_clouds c.args.greeted.now.shape items
    c.requires.clouds.2 (c.args.greeted.now.shape.few) in
    let on = on_ports (lines_for items) items (lines_reach items few c.requires.clouds.1) in
    ap (λ (p : g.row.P.Denot). (tells p).port port) (sym back)
    ∙ others tells g.P.Ports.faults c.in-Ok.clouds (ports_of items) asks.went old.link new.link asks.passed
    (subst (λ (p : g.row.P.Denot). IsTrue (tells p).told) (sym c.of-below.ensures.ports) told)
    (subst (λ (l : List ℕ). AreOn old.link.lines.items.items l (ports_of items)) (sym named)
    (subst (λ (l : List CloudLine). AreOn l (clouds_of items) (ports_of items)) (sym lines) on)) port not
    ∙ ap (λ (p : g.row.P.Denot). (tells p).port port) c.of-below.ensures.ports

pub returns-clause-came : goal.returns-clause-came
returns-clause-came g c = λ call user path version after since until speak.
    let tells = g.P.Ports.tells in
    let faults = g.P.Ports.faults in
    let old : RecallingLink g.row.P.Denot =
    record { link = c.of-below.result; wanted = c.in-Ok-wanted_request.wanted; kept = c.in-Ok-make.kept } in
    let new = c.restore_any-came.new.link in
    let asked = c.restore_any-came.ensures.asked in
    let result = c.restore_any-came.result in
    let file = c.restore_any-came.new.out in
    let greeted = c.args.greeted.now in
    let items = greeted.lines.items in
    let asks = inner tells faults (ReadsOneOf c.in-Ok.clouds) asked.asks old new asked.passed in
    let same : new.link.ports.ghost_name ≡ old.link.ports.ghost_name =
    (kept tells faults c.in-Ok.clouds asks.went old.link new.link asks.passed).same_reference in
    let back : new.link.ports.now ≡ c.ports-1.given.0 = search rules in
    let named : c.in-Ok.clouds ≡ clouds_of items = c.in-Ok.ensures ∙ ap clouds_of c.as_slice.ensures.value in
    let lines : old.link.lines.items.items ≡ lines_for items =
    ap (λ l. l.items.items) c.of-below.ensures.lines ∙ c.in-Ok-lines_of.ensures
    ∙ ap lines_for c.as_slice-2.ensures.value in
    let few : All (λ cloud. cloud < 256) (clouds_of items) = few_clouds greeted.shape items
    c.requires.clouds.2 greeted.shape.few in
    let reach = lines_reach items few c.requires.clouds.1 in
    let talk : RecallingLink g.row.P.Denot → ℕ → Talk → Type 0 = λ l cloud before. ⊥ in
    let wanted = at_call (λ u p v. c.in-Ok-wanted_request.wanted ≡ request_bytes (requests.GetRecipe u
    (record { 0 = tag_at greeted.shape p }) v)) call c.args.user c.args.path.now c.args.version user path version c.in-Ok-wanted_request.ensures in
    subst (λ (p : g.row.P.Denot). CameBy call greeted (tells p) result file) c.of-below.ensures.ports
    (came_by tells faults talk old greeted call c.args.file.now c.requires.empty lines wanted c.in-Ok-make.ensures.none reach
    c.requires.clouds.1
    (λ told.
    let s = speak told in (
      subst (λ (p : g.row.P.Denot). IsTrue (tells p).told) (sym c.of-below.ensures.ports) s.0,
      subst (λ (p : g.row.P.Denot). HaveTalks (tells p) items) (sym c.of-below.ensures.ports) s.1,
    )) new (ap tells back ∙ sym after) (ap faults c.of-below.ensures.ports ∙ sym since) (ap faults back ∙ sym until) result file
    (at_call (λ u p v. AnyEnds (recalling tells faults) talk (sought greeted.shape u p v (clouds_of items)) old new
    c.args.file.now file result) call c.args.user c.args.path.now c.args.version user path version
    (subst (λ (l : List ℕ). AnyEnds (recalling tells faults) talk (sought greeted.shape c.args.user c.args.path.now
    c.args.version l) old new c.args.file.now file result) named c.restore_any-came.ensures.restored)))

pub returns-clause-sends : goal.returns-clause-sends
returns-clause-sends g c = λ told.
    let tells = g.P.Ports.tells in
    let old : RecallingLink g.row.P.Denot =
    record { link = c.of-below.result; wanted = c.in-Ok-wanted_request.wanted; kept = c.in-Ok-make.kept } in
    let new = c.restore_any-came.new.link in
    let asked = c.restore_any-came.ensures.asked in
    let asks = inner tells g.P.Ports.faults (ReadsOneOf c.in-Ok.clouds) asked.asks old new asked.passed in
    let same : new.link.ports.ghost_name ≡ old.link.ports.ghost_name =
    (kept tells g.P.Ports.faults c.in-Ok.clouds asks.went old.link new.link asks.passed).same_reference in
    let back : new.link.ports.now ≡ c.ports-1.given.0 = search rules in
    subst (λ (p : g.row.P.Denot). OnlyReads (tells p) (tells c.ports-1.given.0)) c.of-below.ensures.ports
    (subst (λ (p : g.row.P.Denot). OnlyReads (tells old.link.ports.now) (tells p)) back
    (sends_along tells g.P.Ports.faults c.in-Ok.clouds asks.went old.link new.link asks.passed
    (subst (λ (p : g.row.P.Denot). IsTrue (tells p).told) (sym c.of-below.ensures.ports) told)))

pub returns-in-Err-clause-sends : goal.returns-in-Err-clause-sends
returns-in-Err-clause-sends g c = λ told. sends_none IsReading (g.P.Ports.tells c.args.ports.now)

pub returns-in-Err-lines_of-clause-sends : goal.returns-in-Err-lines_of-clause-sends
returns-in-Err-lines_of-clause-sends g c = λ told. sends_none IsReading (g.P.Ports.tells c.args.ports.now)

pub returns-in-Err-wanted_request-clause-sends : goal.returns-in-Err-wanted_request-clause-sends
returns-in-Err-wanted_request-clause-sends g c = λ told. sends_none IsReading (g.P.Ports.tells c.args.ports.now)

pub returns-in-Err-make-clause-sends : goal.returns-in-Err-make-clause-sends
returns-in-Err-make-clause-sends g c = λ told. sends_none IsReading (g.P.Ports.tells c.args.ports.now)
