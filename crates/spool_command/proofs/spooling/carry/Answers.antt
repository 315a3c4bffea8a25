use Rattle.std.proofs.Common.{◌≡◌, inl, inr, ℕ, Bool, length, IsTrue, Ok, Err, refl, sym, ◌∙◌, subst}
use Rattle.upload_spool.specs.CdBase.shape.Shape.{Shape}
use Rattle.upload_spool.specs.CdEdges.Causes.{Rose}
use Rattle.upload_spool.proofs.CdEdges.Calls.{failed_after}
use Rattle.upload_spool.specs.States.{IsJobOf, state_of}
use Rattle.upload_spool.proofs.Jobs.{job_begun}
use Rattle.backup_command.specs.BackedUp.{BackupCall}
use Rattle.backup_command.specs.PortsLink.Hellos.{hello}
use Rattle.backup_command.proofs.PortsLinkLaws.Sending.{sends_none}
use Rattle.backup_command.proofs.Finishing.{are_numbered, greeted_on, have_met, only_dialled, sent_at_call}
use Rattle.spool_command.specs.declared.writing.Unspooled.{Unspooled}
use Rattle.spool_command.specs.Noted.{IfPorts}
use Rattle.spool_command.specs.Spooled.{CarriesSpool, SpoolOutside, call_for, version_for}
use Rattle.spool_command.proofs.Carried.{if_shelf, not_met, spooled_on, stopped, untouched_spared, was_empty}
use Rattle.spool_command.proofs.spooling.carry.Goals as goal

pub returns-in-Err-clause-carries : goal.returns-in-Err-clause-carries
returns-in-Err-clause-carries g c = inl refl

pub returns-in-Err-clause-spared : goal.returns-in-Err-clause-spared
returns-in-Err-clause-spared g c = untouched_spared (g.V.Shelf.cloud_at c.args.shelf.now 0)

-- no cloud was met

pub returns-in-Err-meet_all-clause-carries : goal.returns-in-Err-meet_all-clause-carries
returns-in-Err-meet_all-clause-carries g c =
    let tells = g.P.Ports.tells in
    let faults = g.P.Ports.faults in
    let folder = g.V.Shelf.cloud_at c.args.shelf.now 0 in
    let out : SpoolOutside = record {
      addresses = length c.args.addresses.now;
      before = tells c.args.ports.now;
      after = tells c.meet_all.new.ports;
      faults_before = faults c.args.ports.now;
      faults_after = faults c.meet_all.new.ports;
      folder = folder;
      left = folder;
    } in
    let v = version_for c.args.file.now c.args.bytes in
    subst (λ (u : Unspooled). CarriesSpool out v (Err u) c.args.text.now) (sym c.unmet.ensures)
    (not_met c.in-Err-meet_all.error out v c.args.text.now refl c.in-Err-meet_all.ensures.meets c.in-Err-meet_all.ensures.cause)

pub returns-in-Err-meet_all-clause-spared : goal.returns-in-Err-meet_all-clause-spared
returns-in-Err-meet_all-clause-spared g c = untouched_spared (g.V.Shelf.cloud_at c.args.shelf.now 0)

-- the job wasn't kept

pub returns-in-Err-start-clause-carries : goal.returns-in-Err-start-clause-carries
returns-in-Err-start-clause-carries g c =
    let tells = g.P.Ports.tells in
    let faults = g.P.Ports.faults in
    let behind = tells c.meet_all.new.ports in
    let greeted = c.in-Ok-meet_all.greeted in
    let meets = c.in-Ok-meet_all.ensures.meets in
    let v = version_for c.args.file.now c.args.bytes in
    let out : SpoolOutside = record {
      addresses = length c.args.addresses.now;
      before = tells c.args.ports.now;
      after = behind;
      faults_before = faults c.args.ports.now;
      faults_after = faults c.meet_all.new.ports;
      folder = g.V.Shelf.cloud_at c.args.shelf.now 0;
      left = g.V.Shelf.cloud_at c.start.new.shelf 0;
    } in
    record {
      shape = greeted.shape;
      dialled = meets.0;
      met = have_met (call_for out v) behind greeted meets c.in-Ok-meet_all.ensures.told;
      refused = c.in-Err-start.ensures.refused;
      any_moment = c.in-Err-start.ensures.any_moment;
    }

pub returns-in-Err-start-clause-others : goal.returns-in-Err-start-clause-others
returns-in-Err-start-clause-others g c = λ told.
    let meets = c.in-Ok-meet_all.ensures.meets in
    let old = g.P.Ports.tells c.args.ports.now in
    let behind = g.P.Ports.tells c.meet_all.new.ports in
    (meets.0, only_dialled (length c.args.addresses.now) old behind c.in-Ok-meet_all.greeted meets told)

-- the job was kept

pub go_on-requires-clause-numbered : goal.go_on-requires-clause-numbered
go_on-requires-clause-numbered g c =
    are_numbered (length c.args.addresses.now) (g.P.Ports.tells c.args.ports.now) (g.P.Ports.tells c.meet_all.new.ports)
    c.in-Ok-meet_all.greeted c.in-Ok-meet_all.ensures.meets

pub go_on-requires-clause-open : goal.go_on-requires-clause-open
go_on-requires-clause-open g c = c.in-Ok-start.ensures.spool.stage

pub go_on-requires-clause-own : goal.go_on-requires-clause-own
go_on-requires-clause-own g c =
    let v = version_for c.args.file.now c.args.bytes in
    let shape = c.in-Ok-meet_all.greeted.shape in
    let begun = c.in-Ok-start.ensures.spool in (
      v,
      begun.of,
      subst (λ (s : Shape). IsJobOf s v c.in-Ok-start.started.1) (sym begun.shape_is)
          (subst (IsJobOf shape v) (sym c.in-Ok-start.ensures.job) (job_begun shape v)),
    )

pub go_on-requires-clause-same : goal.go_on-requires-clause-same
go_on-requires-clause-same g c = c.in-Ok-start.ensures.spool.shape_is

pub returns-in-Ok-go_on-clause-carries : goal.returns-in-Ok-go_on-clause-carries
returns-in-Ok-go_on-clause-carries g c =
    let tells = g.P.Ports.tells in
    let faults = g.P.Ports.faults in
    let cloud = g.V.Shelf.cloud_at in
    let behind = tells c.meet_all.new.ports in
    let greeted = c.in-Ok-meet_all.greeted in
    let meets = c.in-Ok-meet_all.ensures.meets in
    let told = c.in-Ok-meet_all.ensures.told in
    let v = version_for c.args.file.now c.args.bytes in
    let out : SpoolOutside = record {
      addresses = length c.args.addresses.now;
      before = tells c.args.ports.now;
      after = tells c.go_on.new.ports;
      faults_before = faults c.args.ports.now;
      faults_after = faults c.go_on.new.ports;
      folder = cloud c.args.shelf.now 0;
      left = cloud c.go_on.new.shelf 0;
    } in
    let on = greeted_on out.addresses out.before behind greeted meets told c.in-Ok-meet_all.ensures.talks in
    let began = c.in-Ok-start.ensures in
    spooled_on out v greeted.shape meets.0 behind greeted.lines.items c.in-Ok-start.started.1 (state_of c.in-Ok-start.started.0)
    (cloud c.start.new.shelf 0) (Ok c.in-Ok-go_on.stored) c.go_on.new.text
    (have_met (call_for out v) behind greeted meets told) on.lines_are began.job began.spool.shape_is began.spool.none
    began.call.told began.any_moment began.begun (c.in-Ok-go_on.ensures.went meets.0 on) (c.go_on.ensures.others meets.0 on)

pub returns-clause-carries : goal.returns-clause-carries
returns-clause-carries g c =
    let tells = g.P.Ports.tells in
    let faults = g.P.Ports.faults in
    let cloud = g.V.Shelf.cloud_at in
    let behind = tells c.meet_all.new.ports in
    let greeted = c.in-Ok-meet_all.greeted in
    let meets = c.in-Ok-meet_all.ensures.meets in
    let told = c.in-Ok-meet_all.ensures.told in
    let v = version_for c.args.file.now c.args.bytes in
    let out : SpoolOutside = record {
      addresses = length c.args.addresses.now;
      before = tells c.args.ports.now;
      after = tells c.go_on.new.ports;
      faults_before = faults c.args.ports.now;
      faults_after = faults c.go_on.new.ports;
      folder = cloud c.args.shelf.now 0;
      left = cloud c.go_on.new.shelf 0;
    } in
    let on = greeted_on out.addresses out.before behind greeted meets told c.in-Ok-meet_all.ensures.talks in
    let began = c.in-Ok-start.ensures in
    let why = c.in-Err-go_on.why in
    stopped why out v c.go_on.new.text
    (spooled_on out v greeted.shape meets.0 behind greeted.lines.items c.in-Ok-start.started.1 (state_of c.in-Ok-start.started.0)
    (cloud c.start.new.shelf 0) (Err why) c.go_on.new.text
    (have_met (call_for out v) behind greeted meets told) on.lines_are began.job began.spool.shape_is began.spool.none
    began.call.told began.any_moment began.begun (c.in-Err-go_on.ensures.went meets.0 on)
    (c.go_on.ensures.others meets.0 on))
    (subst (λ (n : ℕ). IfPorts {T = Bool} (Err why) (Rose n (faults c.go_on.new.ports))) c.in-Ok-meet_all.ensures.cause
    c.in-Err-go_on.ensures.lost)
    (if_shelf why _ _ (λ failed. (failed_after (cloud c.args.shelf.now) (cloud c.start.new.shelf) (cloud c.go_on.new.shelf) 0
    _ _ _ began.call failed).cloud) c.in-Err-go_on.ensures.failed)

pub returns-in-Ok-go_on-clause-spared : goal.returns-in-Ok-go_on-clause-spared
returns-in-Ok-go_on-clause-spared g c =
    let cloud = g.V.Shelf.cloud_at in
    was_empty (version_for c.args.file.now c.args.bytes) (state_of c.in-Ok-start.started.0) (cloud c.args.shelf.now 0)
    (cloud c.start.new.shelf 0) (cloud c.go_on.new.shelf 0) c.in-Ok-start.ensures.begun

pub returns-clause-spared : goal.returns-clause-spared
returns-clause-spared g c =
    let cloud = g.V.Shelf.cloud_at in
    was_empty (version_for c.args.file.now c.args.bytes) (state_of c.in-Ok-start.started.0) (cloud c.args.shelf.now 0)
    (cloud c.start.new.shelf 0) (cloud c.go_on.new.shelf 0) c.in-Ok-start.ensures.begun

pub returns-in-Ok-go_on-clause-others : goal.returns-in-Ok-go_on-clause-others
returns-in-Ok-go_on-clause-others g c = λ told.
    let tells = g.P.Ports.tells in
    let old = tells c.args.ports.now in
    let behind = tells c.meet_all.new.ports in
    let greeted = c.in-Ok-meet_all.greeted in
    let meets = c.in-Ok-meet_all.ensures.meets in
    let same = c.in-Ok-meet_all.ensures.told in
    let count = length c.args.addresses.now in
    let d = only_dialled count old behind greeted meets told in (
      meets.0,
      record {
        next = d.next;
        others = λ port none.
            c.go_on.ensures.others meets.0 (greeted_on count old behind greeted meets same c.in-Ok-meet_all.ensures.talks)
            (subst IsTrue (sym same) told) port none
            ∙ d.others port none;
      },
    )

pub returns-clause-others : goal.returns-clause-others
returns-clause-others g c = λ told.
    let tells = g.P.Ports.tells in
    let old = tells c.args.ports.now in
    let behind = tells c.meet_all.new.ports in
    let greeted = c.in-Ok-meet_all.greeted in
    let meets = c.in-Ok-meet_all.ensures.meets in
    let same = c.in-Ok-meet_all.ensures.told in
    let count = length c.args.addresses.now in
    let d = only_dialled count old behind greeted meets told in (
      meets.0,
      record {
        next = d.next;
        others = λ port none.
            c.go_on.ensures.others meets.0 (greeted_on count old behind greeted meets same c.in-Ok-meet_all.ensures.talks)
            (subst IsTrue (sym same) told) port none
            ∙ d.others port none;
      },
    )

pub returns-in-Err-clause-sends : goal.returns-in-Err-clause-sends
returns-in-Err-clause-sends g c = λ told. inl (sends_none (λ content. content ≡ hello) (g.P.Ports.tells c.args.ports.now))

pub returns-in-Err-meet_all-clause-sends : goal.returns-in-Err-meet_all-clause-sends
returns-in-Err-meet_all-clause-sends g c = λ told. inl (c.meet_all.ensures.sends told)

pub returns-in-Err-start-clause-sends : goal.returns-in-Err-start-clause-sends
returns-in-Err-start-clause-sends g c = λ told. inl (c.meet_all.ensures.sends told)

pub returns-in-Ok-go_on-clause-sends : goal.returns-in-Ok-go_on-clause-sends
returns-in-Ok-go_on-clause-sends g c = λ told.
    let tells = g.P.Ports.tells in
    let faults = g.P.Ports.faults in
    let behind = tells c.meet_all.new.ports in
    let greeted = c.in-Ok-meet_all.greeted in
    let meets = c.in-Ok-meet_all.ensures.meets in
    let same = c.in-Ok-meet_all.ensures.told in
    let file = c.args.file.now in
    let call : BackupCall = record {
      user = file.user;
      path = file.path.now;
      version = file.version;
      addresses = length c.args.addresses.now;
      before = tells c.args.ports.now;
      after = tells c.go_on.new.ports;
      faults_before = faults c.args.ports.now;
      faults_after = faults c.go_on.new.ports;
    } in
    inr (record {
      dialled = meets.0;
      shape = c.in-Ok-meet_all.greeted.shape;
      behind = behind;
      met = have_met call behind greeted meets same;
      sends = sent_at_call call file.user file.path.now file.version c.args.bytes greeted.shape meets.0 _ behind call.after refl refl refl
          c.in-Ok-start.ensures.job
          (c.in-Ok-go_on.ensures.sends meets.0 (greeted_on call.addresses call.before behind greeted meets same c.in-Ok-meet_all.ensures.talks)
          (subst IsTrue (sym same) told));
    })

pub returns-clause-sends : goal.returns-clause-sends
returns-clause-sends g c = λ told.
    let tells = g.P.Ports.tells in
    let faults = g.P.Ports.faults in
    let behind = tells c.meet_all.new.ports in
    let greeted = c.in-Ok-meet_all.greeted in
    let meets = c.in-Ok-meet_all.ensures.meets in
    let same = c.in-Ok-meet_all.ensures.told in
    let file = c.args.file.now in
    let call : BackupCall = record {
      user = file.user;
      path = file.path.now;
      version = file.version;
      addresses = length c.args.addresses.now;
      before = tells c.args.ports.now;
      after = tells c.go_on.new.ports;
      faults_before = faults c.args.ports.now;
      faults_after = faults c.go_on.new.ports;
    } in
    inr (record {
      dialled = meets.0;
      shape = c.in-Ok-meet_all.greeted.shape;
      behind = behind;
      met = have_met call behind greeted meets same;
      sends = sent_at_call call file.user file.path.now file.version c.args.bytes greeted.shape meets.0 _ behind call.after refl refl refl
          c.in-Ok-start.ensures.job
          (c.in-Err-go_on.ensures.sends meets.0 (greeted_on call.addresses call.before behind greeted meets same c.in-Ok-meet_all.ensures.talks)
          (subst IsTrue (sym same) told));
    })
