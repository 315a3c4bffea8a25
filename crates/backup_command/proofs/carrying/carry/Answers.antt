use Rattle.std.proofs.Common.{◌≡◌, inl, inr, ℕ, length, IsTrue, refl, sym, ◌∙◌, subst}
use Rattle.transcript.specs.CdEdges.Causes.{Rose}
use Rattle.backup_command.specs.BackedUp.{BackupCall}
use Rattle.ports_link.specs.Hellos.{hello}
use Rattle.ports_link.proofs.Sending.{sends_none}
use Rattle.backup_command.proofs.Finishing.{carried, are_numbered, have_met, greeted_on, only_dialled}
use Rattle.backup_command.proofs.carrying.carry.Goals as goal

pub carry_greeted-requires-clause-numbered : goal.carry_greeted-requires-clause-numbered
carry_greeted-requires-clause-numbered g c =
    are_numbered (length c.args.addresses.now) (g.P.Ports.tells c.args.ports.now)
    (g.P.Ports.tells c.meet_all.new.ports) c.in-Ok-meet_all.greeted c.in-Ok-meet_all.ensures.meets

pub returns-clause-carries : goal.returns-clause-carries
returns-clause-carries g c =
    let tells = g.P.Ports.tells in
    let faults = g.P.Ports.faults in
    let behind = tells c.meet_all.new.ports in
    let greeted = c.in-Ok-meet_all.greeted in
    let meets = c.in-Ok-meet_all.ensures.meets in
    let told = c.in-Ok-meet_all.ensures.told in
    let call : BackupCall = record {
      user = c.args.user;
      path = c.args.path.now;
      version = c.args.version;
      addresses = length c.args.addresses.now;
      before = tells c.args.ports.now;
      after = tells c.carry_greeted.new.ports;
      faults_before = faults c.args.ports.now;
      faults_after = faults c.carry_greeted.new.ports;
    } in
    carried call c.args.file meets.0 greeted.shape behind c.carry_greeted.result c.carry_greeted.new.text
    (have_met call behind greeted meets told)
    (c.carry_greeted.ensures.carries call meets.0 refl refl refl refl
    (greeted_on call.addresses call.before behind greeted meets told c.in-Ok-meet_all.ensures.talks))
    (λ yes. subst (λ (n : ℕ). Rose n (faults c.carry_greeted.new.ports)) c.in-Ok-meet_all.ensures.cause
    (c.carry_greeted.ensures.lost yes))
    (c.carry_greeted.ensures.others meets.0
    (greeted_on call.addresses call.before behind greeted meets told c.in-Ok-meet_all.ensures.talks))

pub returns-clause-others : goal.returns-clause-others
returns-clause-others g c = λ told.
    let tells = g.P.Ports.tells in
    let old = tells c.args.ports.now in
    let behind = tells c.meet_all.new.ports in
    let greeted = c.in-Ok-meet_all.greeted in
    let meets = c.in-Ok-meet_all.ensures.meets in
    let same = c.in-Ok-meet_all.ensures.told in
    let count = length c.args.addresses.now in
    let d = only_dialled count old behind greeted meets told in (
      meets.0,
      record {
        next = d.next;
        others = λ port none.
            c.carry_greeted.ensures.others meets.0
            (greeted_on count old behind greeted meets same c.in-Ok-meet_all.ensures.talks)
            (subst IsTrue (sym same) told) port none
            ∙ d.others port none;
      },
    )

pub returns-in-Err-clause-sends : goal.returns-in-Err-clause-sends
returns-in-Err-clause-sends g c = λ told. inl (sends_none (λ content. content ≡ hello) (g.P.Ports.tells c.args.ports.now))

pub returns-in-Err-Undialled-clause-sends : goal.returns-in-Err-Undialled-clause-sends
returns-in-Err-Undialled-clause-sends g c = λ told. inl (c.meet_all.ensures.sends told)

pub returns-in-Err-Refused-clause-sends : goal.returns-in-Err-Refused-clause-sends
returns-in-Err-Refused-clause-sends g c = λ told. inl (c.meet_all.ensures.sends told)

pub returns-in-Err-Lost-clause-sends : goal.returns-in-Err-Lost-clause-sends
returns-in-Err-Lost-clause-sends g c = λ told. inl (c.meet_all.ensures.sends told)

pub returns-in-Err-NoMemory-clause-sends : goal.returns-in-Err-NoMemory-clause-sends
returns-in-Err-NoMemory-clause-sends g c = λ told. inl (c.meet_all.ensures.sends told)

pub returns-clause-sends : goal.returns-clause-sends
returns-clause-sends g c = λ told.
    let tells = g.P.Ports.tells in
    let faults = g.P.Ports.faults in
    let behind = tells c.meet_all.new.ports in
    let greeted = c.in-Ok-meet_all.greeted in
    let meets = c.in-Ok-meet_all.ensures.meets in
    let same = c.in-Ok-meet_all.ensures.told in
    let call : BackupCall = record {
      user = c.args.user;
      path = c.args.path.now;
      version = c.args.version;
      addresses = length c.args.addresses.now;
      before = tells c.args.ports.now;
      after = tells c.carry_greeted.new.ports;
      faults_before = faults c.args.ports.now;
      faults_after = faults c.carry_greeted.new.ports;
    } in
    inr (record {
      dialled = meets.0;
      shape = greeted.shape;
      behind = behind;
      met = have_met call behind greeted meets same;
      sends = c.carry_greeted.ensures.sends call meets.0 refl refl refl
          (greeted_on call.addresses call.before behind greeted meets same c.in-Ok-meet_all.ensures.talks)
          (subst IsTrue (sym same) told);
    })
