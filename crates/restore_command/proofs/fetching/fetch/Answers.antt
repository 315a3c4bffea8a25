use Rattle.std.proofs.Common.{◌≡◌, ℕ, length, refl, sym, subst, IsTrue}
use Rattle.ports_link.specs.CdEdges.Ports.{Telling}
use Rattle.ports_link.specs.Hellos.{hello}
use Rattle.ports_link.specs.Messages.request.Request.TheVariants as requests
use Rattle.ports_link.specs.Sending.{SendsOnly}
use Rattle.ports_link.specs.UserDedup.Link.{IsReading}
use Rattle.ports_link.proofs.Sending.{sends_none, sends_twice, sends_weaker}
use Rattle.restore_command.specs.Calls.{OnlyReads}
use Rattle.ports_link.specs.CdEdges.Causes.{Rose}
use Rattle.restore_command.specs.Calls.{RestoreCall}
use Rattle.restore_command.proofs.Unfetched.{not_fetched}
use Rattle.restore_command.proofs.fetching.fetch.Goals as goal

pub returns-in-Ok-restore_greeted-clause-fetches : goal.returns-in-Ok-restore_greeted-clause-fetches
returns-in-Ok-restore_greeted-clause-fetches g c =
    let tells = g.P.Ports.tells in
    let call : RestoreCall = record {
      user = c.args.user;
      path = c.args.path.now;
      version = c.args.version;
      addresses = length c.args.addresses.now;
      before = tells c.args.ports.now;
      after = tells c.restore_greeted.new.ports;
      faults_before = g.P.Ports.faults c.args.ports.now;
      faults_after = g.P.Ports.faults c.restore_greeted.new.ports;
    } in
    record {
      greeted = c.in-Ok-meet_all.greeted;
      behind = tells c.meet_all.new.ports;
      met = c.in-Ok-meet_all.ensures.meets;
      came = c.in-Ok-restore_greeted.ensures.came call refl refl refl refl (sym c.in-Ok-meet_all.ensures.cause) refl (λ told. (
        subst IsTrue (sym c.in-Ok-meet_all.ensures.told) told,
        c.in-Ok-meet_all.ensures.talks told,
      ));
    }

pub returns-clause-fetches : goal.returns-clause-fetches
returns-clause-fetches g c =
    let tells = g.P.Ports.tells in
    let faults = g.P.Ports.faults in
    let call : RestoreCall = record {
      user = c.args.user;
      path = c.args.path.now;
      version = c.args.version;
      addresses = length c.args.addresses.now;
      before = tells c.args.ports.now;
      after = tells c.restore_greeted.new.ports;
      faults_before = faults c.args.ports.now;
      faults_after = faults c.restore_greeted.new.ports;
    } in
    not_fetched call c.in-Ok-meet_all.greeted (tells c.meet_all.new.ports) c.in-Err-restore_greeted.error
    c.restore_greeted.new.file c.fetch_err.result c.fetch_err.ensures c.in-Ok-meet_all.ensures.meets
    c.in-Err-restore_greeted.ensures.named
    (λ yes. subst (λ (n : ℕ). Rose n (faults c.restore_greeted.new.ports)) c.in-Ok-meet_all.ensures.cause
    (c.in-Err-restore_greeted.ensures.lost yes))
    (c.in-Err-restore_greeted.ensures.came call refl refl refl refl (sym c.in-Ok-meet_all.ensures.cause) refl (λ told. (
      subst IsTrue (sym c.in-Ok-meet_all.ensures.told) told,
      c.in-Ok-meet_all.ensures.talks told,
    )))

-- who only meets asks nothing that adds
met_reads : (t u : Telling) → SendsOnly (λ content. content ≡ hello) t u → OnlyReads t u
met_reads t u sends = sends_weaker (λ content. content ≡ hello) IsReading (λ content is. (requests.Hello, record { fits = tt; spelled = is }, tt)) t u sends

pub returns-in-Err-clause-sends : goal.returns-in-Err-clause-sends
returns-in-Err-clause-sends g c = λ told. sends_none IsReading (g.P.Ports.tells c.args.ports.now)

pub returns-in-Err-Undialled-clause-sends : goal.returns-in-Err-Undialled-clause-sends
returns-in-Err-Undialled-clause-sends g c = λ told. met_reads (g.P.Ports.tells c.args.ports.now) (g.P.Ports.tells c.meet_all.new.ports) (c.meet_all.ensures.sends told)

pub returns-in-Err-Refused-clause-sends : goal.returns-in-Err-Refused-clause-sends
returns-in-Err-Refused-clause-sends g c = λ told. met_reads (g.P.Ports.tells c.args.ports.now) (g.P.Ports.tells c.meet_all.new.ports) (c.meet_all.ensures.sends told)

pub returns-in-Err-Lost-clause-sends : goal.returns-in-Err-Lost-clause-sends
returns-in-Err-Lost-clause-sends g c = λ told. met_reads (g.P.Ports.tells c.args.ports.now) (g.P.Ports.tells c.meet_all.new.ports) (c.meet_all.ensures.sends told)

pub returns-in-Err-NoMemory-clause-sends : goal.returns-in-Err-NoMemory-clause-sends
returns-in-Err-NoMemory-clause-sends g c = λ told. met_reads (g.P.Ports.tells c.args.ports.now) (g.P.Ports.tells c.meet_all.new.ports) (c.meet_all.ensures.sends told)

pub returns-in-Ok-restore_greeted-clause-sends : goal.returns-in-Ok-restore_greeted-clause-sends
returns-in-Ok-restore_greeted-clause-sends g c = λ told.
    sends_twice IsReading (g.P.Ports.tells c.args.ports.now) (g.P.Ports.tells c.meet_all.new.ports) (g.P.Ports.tells c.restore_greeted.new.ports)
    (met_reads (g.P.Ports.tells c.args.ports.now) (g.P.Ports.tells c.meet_all.new.ports) (c.meet_all.ensures.sends told))
    (c.restore_greeted.ensures.sends (subst IsTrue (sym c.meet_all.ensures.told) told))

pub returns-clause-sends : goal.returns-clause-sends
returns-clause-sends g c = λ told.
    sends_twice IsReading (g.P.Ports.tells c.args.ports.now) (g.P.Ports.tells c.meet_all.new.ports) (g.P.Ports.tells c.restore_greeted.new.ports)
    (met_reads (g.P.Ports.tells c.args.ports.now) (g.P.Ports.tells c.meet_all.new.ports) (c.meet_all.ensures.sends told))
    (c.restore_greeted.ensures.sends (subst IsTrue (sym c.meet_all.ensures.told) told))
