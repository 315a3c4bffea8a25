use Rattle.std.proofs.Common.{◌≡◌, [], length, IsTrue, refl, sym, ◌∙◌, subst, inl}
use Rattle.backup_command.specs.PortsLink.Hellos.{hello}
use Rattle.backup_command.specs.PortsLink.Meeting.{Lacks}
use Rattle.backup_command.proofs.PortsLinkLaws.Sending.{sends_none}
use Rattle.backup_command.proofs.Finishing.{are_numbered, greeted_on, only_dialled}
use Rattle.spool_command.specs.Spooled.{SpoolOutside}
use Rattle.spool_command.proofs.Kept.{met_and_went, resumed, sent_kept}
use Rattle.spool_command.proofs.resuming.carry.Goals as goal

pub go_on_kept-requires-clause-numbered : goal.go_on_kept-requires-clause-numbered
go_on_kept-requires-clause-numbered g c =
    are_numbered (length c.args.addresses.now) (g.P.Ports.tells c.args.ports.now)
    (g.P.Ports.tells c.meet_all.new.ports) c.in-Ok-meet_all.greeted c.in-Ok-meet_all.ensures.meets

pub returns-clause-carries : goal.returns-clause-carries
returns-clause-carries g c =
    let tells = g.P.Ports.tells in
    let faults = g.P.Ports.faults in
    let behind = tells c.meet_all.new.ports in
    let greeted = c.in-Ok-meet_all.greeted in
    let meets = c.in-Ok-meet_all.ensures.meets in
    let told = c.in-Ok-meet_all.ensures.told in
    let out : SpoolOutside = record {
      addresses = length c.args.addresses.now;
      before = tells c.args.ports.now;
      after = tells c.go_on_kept.new.ports;
      faults_before = faults c.args.ports.now;
      faults_after = faults c.go_on_kept.new.ports;
      folder = g.V.Shelf.cloud_at c.args.shelf.now 0;
      left = g.V.Shelf.cloud_at c.go_on_kept.new.shelf 0;
    } in
    let on = greeted_on out.addresses out.before behind greeted meets told c.in-Ok-meet_all.ensures.talks in
    resumed out c.go_on_kept.result c.go_on_kept.new.text
    (met_and_went out behind (faults c.meet_all.new.ports) greeted meets c.go_on_kept.result c.go_on_kept.new.text told c.in-Ok-meet_all.ensures.cause on (c.go_on_kept.ensures.goes meets.0 on)
    (c.go_on_kept.ensures.others meets.0 on))

pub returns-clause-others : goal.returns-clause-others
returns-clause-others g c = λ told.
    let tells = g.P.Ports.tells in
    let old = tells c.args.ports.now in
    let behind = tells c.meet_all.new.ports in
    let greeted = c.in-Ok-meet_all.greeted in
    let meets = c.in-Ok-meet_all.ensures.meets in
    let same = c.in-Ok-meet_all.ensures.told in
    let count = length c.args.addresses.now in
    let d = only_dialled count old behind greeted meets told in (
      meets.0,
      record {
        next = d.next;
        others = λ port none.
            c.go_on_kept.ensures.others meets.0
            (greeted_on count old behind greeted meets same c.in-Ok-meet_all.ensures.talks)
            (subst IsTrue (sym same) told) port none
            ∙ d.others port none;
      },
    )

pub returns-in-Err-clause-carries : goal.returns-in-Err-clause-carries
returns-in-Err-clause-carries g c =
    let t = g.P.Ports.tells c.args.ports.now in
    inl (record { folder_is = refl; meets = ([], Lacks [] t t [] (λ told. record { next = tt; others = λ port none. refl }) refl) })

pub returns-in-Err-clause-sends : goal.returns-in-Err-clause-sends
returns-in-Err-clause-sends g c = λ told. inl (sends_none (λ content. content ≡ hello) (g.P.Ports.tells c.args.ports.now))

pub returns-in-Err-Undialled-clause-sends : goal.returns-in-Err-Undialled-clause-sends
returns-in-Err-Undialled-clause-sends g c = λ told. inl (c.meet_all.ensures.sends told)

pub returns-in-Err-Refused-clause-sends : goal.returns-in-Err-Refused-clause-sends
returns-in-Err-Refused-clause-sends g c = λ told. inl (c.meet_all.ensures.sends told)

pub returns-in-Err-Lost-clause-sends : goal.returns-in-Err-Lost-clause-sends
returns-in-Err-Lost-clause-sends g c = λ told. inl (c.meet_all.ensures.sends told)

pub returns-in-Err-NoMemory-clause-sends : goal.returns-in-Err-NoMemory-clause-sends
returns-in-Err-NoMemory-clause-sends g c = λ told. inl (c.meet_all.ensures.sends told)

pub returns-clause-sends : goal.returns-clause-sends
returns-clause-sends g c = λ told.
    let tells = g.P.Ports.tells in
    let faults = g.P.Ports.faults in
    let behind = tells c.meet_all.new.ports in
    let greeted = c.in-Ok-meet_all.greeted in
    let meets = c.in-Ok-meet_all.ensures.meets in
    let same = c.in-Ok-meet_all.ensures.told in
    let out : SpoolOutside = record {
      addresses = length c.args.addresses.now;
      before = tells c.args.ports.now;
      after = tells c.go_on_kept.new.ports;
      faults_before = faults c.args.ports.now;
      faults_after = faults c.go_on_kept.new.ports;
      folder = g.V.Shelf.cloud_at c.args.shelf.now 0;
      left = g.V.Shelf.cloud_at c.go_on_kept.new.shelf 0;
    } in
    sent_kept out behind greeted meets same (c.in-Ok-meet_all.ensures.sends told)
    (c.go_on_kept.ensures.sends meets.0 (greeted_on out.addresses out.before behind greeted meets same c.in-Ok-meet_all.ensures.talks)
    (subst IsTrue (sym same) told))
