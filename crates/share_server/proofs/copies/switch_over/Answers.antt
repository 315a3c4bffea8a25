use Rattle.std.proofs.Common.{[], Err, sym, subst}
use Rattle.server_requests.specs.ContainerLog.States.{State, HasStaged}
use Rattle.share_server.specs.declared.copies.ReclaimErr.{ReclaimErr}
use Rattle.share_server.specs.Copies.{SwitchesOver}
use Rattle.share_server.proofs.Copied.{wrong_never, rotten_never, fault_as}
use Rattle.share_server.proofs.Peers.{shut_closed}
use Rattle.share_server.proofs.copies.switch_over.Goals as goal

pub returns-in-Ok : goal.returns-in-Ok
returns-in-Ok g c =
    let s = c.switch.ensures in let e = c.in-Ok.ensures in let laid = c.requires.laid in
    record {
      any_moment = s.any_moment;
      switched = e.switched;
      answers = λ list chain is. tt;
      moved = e.moved;
      number = e.number;
      region = e.region;
      never_rotten = tt;
      chain = s.chain;
      taken = e.taken;
      others = e.others;
      header = s.header;
      settled = s.settled;
      ready = record {
        settled = s.settled;
        at_end = e.stage;
        none = record {
          shares = subst (λ (l : State). HasStaged l []) (sym s.logs.0) laid.shares_none;
          recipes = subst (λ (l : State). HasStaged l []) (sym s.logs.1) laid.recipes_none;
        };
        meet = e.meet;
      };
      shut = tt;
      call = s.call;
      counts = e.counts;
    }

pub returns-in-Err : goal.returns-in-Err
returns-in-Err g c =
    let s = c.switch.ensures in let e = c.in-Err.ensures in let why = c.in-Err.error in
    let old = c.args.store.now in let new = c.switch.new.store in let at = g.V.Shelf.cloud_at in let faults = g.V.Shelf.faults in
    subst (λ (x : ReclaimErr). SwitchesOver old c.args.copies.now.copying new (at c.args.shelf.now) (at c.switch.new.shelf) (faults c.args.shelf.now) (faults c.switch.new.shelf) (Err x))
    (sym c.reclaim_err.ensures)
    (record {
      any_moment = s.any_moment;
      switched = λ list chain is. tt;
      answers = λ list chain is. wrong_never (Unit {0}) why (e.never_wrong list chain is);
      moved = tt;
      number = tt;
      region = tt;
      never_rotten = rotten_never (Unit {0}) why e.never_rotten;
      chain = s.chain;
      taken = λ told w ended. tt;
      others = λ told. tt;
      header = s.header;
      settled = s.settled;
      ready = tt;
      shut = shut_closed new e.shut;
      call = s.call;
      counts = fault_as (Unit {0}) why _ _ e.counts;
    })
