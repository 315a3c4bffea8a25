use Rattle.std.proofs.Common.{◌≡◌, true, false, IsTrue, List, Err, refl, sym, ◌∙◌, ap, subst, rules, length}
use Rattle.journal_halves.specs.CdEdges.area.Area.TheVariants.{Journal}
use Rattle.journal_halves.specs.CdEdges.Disk.{Store, Areas}
use Rattle.journal_halves.proofs.CdEdges.Moments.{told_on}
use Rattle.journal_halves.specs.declared.found.FindErr.{FindErr}
use Rattle.journal_halves.specs.Findings.{FindIs}
use Rattle.commit_journal.specs.declared.errors.OpenErr.TheVariants.{Fault, NotBegun, Damaged}
use Rattle.commit_journal.specs.States.{state_of}
use Rattle.commit_journal.specs.Openings.{IsSynced, IsFree}
use Rattle.journal_halves.specs.Beginnings.{IsUnbegun}
use Rattle.commit_journal.proofs.Opening.{not_opened, found_taken, began_ok, began_err}
use Rattle.commit_journal.proofs.journal.Journal.open.Goals as goal

pub returns-in-Ok-clause-opens : goal.returns-in-Ok-clause-opens
returns-in-Ok-clause-opens g c told synced =
    let number = c.args.cloud.0 in let c0 = g.V.Shelf.cloud_at c.args.shelf.now number in let c1 = g.V.Shelf.cloud_at c.find.new.shelf number in
    let current = c.in-Ok.ensures.found told in
    found_taken c.args.asked.now c.args.begin c0 c1 (state_of c.take.new.self) c.in-Ok.found c.take.result c.find.ensures.stays current (c.take.ensures.taken (c0.now Journal) synced current)

pub returns-then-not-begin-clause-opens : goal.returns-then-not-begin-clause-opens
returns-then-not-begin-clause-opens g c told synced =
    let number = c.args.cloud.0 in let c0 = g.V.Shelf.cloud_at c.args.shelf.now number in let c1 = g.V.Shelf.cloud_at c.find.new.shelf number in
    let found = subst (λ (e : FindErr). FindIs (c0.now Journal).read (Err e)) c.in-Err-NotBegun.field-0-is (c.in-Err-NotBegun.ensures.found told) in
    let unasked : c.args.begin ≡ false = search rules in
    not_opened c.args.asked.now c.args.begin c0 c1 (state_of c.find.new.self) (NotBegun c.in-Err-NotBegun.len) c.find.ensures.stays (record { first = found.0; second = found.1 }, unasked, found.2)

pub returns-in-Ok-begin-clause-opens : goal.returns-in-Ok-begin-clause-opens
returns-in-Ok-begin-clause-opens g c told synced =
    let number = c.args.cloud.0 in
    let c0 = g.V.Shelf.cloud_at c.args.shelf.now number in let c1 = g.V.Shelf.cloud_at c.find.new.shelf number in let c2 = g.V.Shelf.cloud_at c.begin.new.shelf number in
    let found = subst (λ (e : FindErr). FindIs (c0.now Journal).read (Err e)) c.in-Err-NotBegun.field-0-is (c.in-Err-NotBegun.ensures.found told) in
    let none : IsUnbegun (c0.now Journal).read = record { first = found.0; second = found.1 } in
    let asked : IsTrue c.args.begin = search rules in
    let stays = c.find.ensures.stays in let told1 = told_on c0 c1 c.find.ensures.call.told told in
    let free : IsFree (c1.now Journal) c.in-Err-NotBegun.len = subst (λ (a : Areas). IsFree (a Journal) c.in-Err-NotBegun.len) (sym stays.now) (record { synced = synced; unbegun = none; len_is = found.2 }) in
    let has = c.in-Ok-begin.ensures.begun told1 free in
    began_ok c.args.asked.now c.args.begin c0 c1 c2 (state_of c.begin.new.self) asked none stays (c.begin.ensures.any_moment told1 free) has.0 has.1 has.2 (c.in-Ok-begin.ensures.others told1)

pub returns-in-Err-clause-opens : goal.returns-in-Err-clause-opens
returns-in-Err-clause-opens g c told synced =
    let number = c.args.cloud.0 in
    let c0 = g.V.Shelf.cloud_at c.args.shelf.now number in let c1 = g.V.Shelf.cloud_at c.find.new.shelf number in let c2 = g.V.Shelf.cloud_at c.begin.new.shelf number in
    let found = subst (λ (e : FindErr). FindIs (c0.now Journal).read (Err e)) c.in-Err-NotBegun.field-0-is (c.in-Err-NotBegun.ensures.found told) in
    let none : IsUnbegun (c0.now Journal).read = record { first = found.0; second = found.1 } in
    let asked : IsTrue c.args.begin = search rules in
    let stays = c.find.ensures.stays in let told1 = told_on c0 c1 c.find.ensures.call.told told in
    let free : IsFree (c1.now Journal) c.in-Err-NotBegun.len = subst (λ (a : Areas). IsFree (a Journal) c.in-Err-NotBegun.len) (sym stays.now) (record { synced = synced; unbegun = none; len_is = found.2 }) in
    began_err c.args.asked.now c.args.begin c0 c1 c2 (state_of c.begin.new.self) asked none stays (c.begin.ensures.any_moment told1 free)

pub returns-in-Ok-begin-clause-begun : goal.returns-in-Ok-begin-clause-begun
returns-in-Ok-begin-clause-begun g c told some =
    let number = c.args.cloud.0 in
    let c0 = g.V.Shelf.cloud_at c.args.shelf.now number in let c1 = g.V.Shelf.cloud_at c.find.new.shelf number in let c2 = g.V.Shelf.cloud_at c.begin.new.shelf number in
    let found = subst (λ (e : FindErr). FindIs (c0.now Journal).read (Err e)) c.in-Err-NotBegun.field-0-is (c.in-Err-NotBegun.ensures.found told) in
    let none : IsUnbegun (c0.now Journal).read = record { first = found.0; second = found.1 } in
    absurd (some none)

pub returns-in-Err-clause-begun : goal.returns-in-Err-clause-begun
returns-in-Err-clause-begun g c told some =
    let number = c.args.cloud.0 in
    let c0 = g.V.Shelf.cloud_at c.args.shelf.now number in let c1 = g.V.Shelf.cloud_at c.find.new.shelf number in let c2 = g.V.Shelf.cloud_at c.begin.new.shelf number in
    let found = subst (λ (e : FindErr). FindIs (c0.now Journal).read (Err e)) c.in-Err-NotBegun.field-0-is (c.in-Err-NotBegun.ensures.found told) in
    let none : IsUnbegun (c0.now Journal).read = record { first = found.0; second = found.1 } in
    absurd (some none)

pub returns-in-Err-Damaged-clause-opens : goal.returns-in-Err-Damaged-clause-opens
returns-in-Err-Damaged-clause-opens g c told synced =
    let number = c.args.cloud.0 in let c0 = g.V.Shelf.cloud_at c.args.shelf.now number in let c1 = g.V.Shelf.cloud_at c.find.new.shelf number in
    let found = subst (λ (e : FindErr). FindIs (c0.now Journal).read (Err e)) c.in-Err-Damaged.field-0-is (c.in-Err-Damaged.ensures.found told) in
    not_opened c.args.asked.now c.args.begin c0 c1 (state_of c.find.new.self) (Damaged c.in-Err-Damaged.at c.in-Err-Damaged.byte) c.find.ensures.stays found

pub returns-in-Err-Fault-clause-opens : goal.returns-in-Err-Fault-clause-opens
returns-in-Err-Fault-clause-opens g c told synced =
    let number = c.args.cloud.0 in let c0 = g.V.Shelf.cloud_at c.args.shelf.now number in let c1 = g.V.Shelf.cloud_at c.find.new.shelf number in
    not_opened c.args.asked.now c.args.begin c0 c1 (state_of c.find.new.self) Fault c.find.ensures.stays tt
