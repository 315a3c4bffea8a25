use Rattle.std.proofs.Common.{◌≡◌, ◌∙◌, true, false, Bool, Result, Ok, Err, ap, subst, rules}
use Rattle.std.specs.Prelude.{IfOk}
use Rattle.std.proofs.lemmas.Result.{err_from_is_err_and}
use Rattle.commit_journal.specs.CdEdges.area.Area.TheVariants.{Journal}
use Rattle.commit_journal.specs.Outcomes.{stage_of}
use Rattle.commit_journal.specs.States as half
use Rattle.upload_spool.specs.declared.error.SpoolErr.{SpoolErr}
use Rattle.upload_spool.specs.Steps.{MoreNoted}
use Rattle.upload_spool.proofs.Walks.{none_noted, none_read, noted_more, fewer_left, lane_walk, walk_refused}
use Rattle.upload_spool.proofs.opening.lanes_in.Goals as goal

pub loop-noted-init : goal.loop-noted-init
loop-noted-init g c = record {
  stage = c.requires;
  limit = search rules;
  stays = search rules;
  call = search rules;
  counts = search rules;
  noted = none_noted c.args.shape (half.state_of c.args.journal.now).current.gate c.new-noted.result.items c.new-noted.ensures.items;
  read = λ told job is. none_read c.args.shape (half.state_of c.args.journal.now) ((g.V.Shelf.cloud_at c.args.shelf.now 0).now Journal) job c.new-noted.result.items c.new-noted.ensures.items is;
}

pub loop-noted-smaller : goal.loop-noted-smaller
loop-noted-smaller g c =
    let is : c.next_lane.result ≡ Ok true = c.in_ok-next_lane.was ∙ ap Ok c.if-branch.true in
    let gate = (half.state_of c.loop-noted.journal).current.gate in let after = (half.state_of c.next_lane.new.journal).current.gate in
    let more = subst (λ (r : Result Bool SpoolErr). MoreNoted c.args.shape c.loop-noted.noted.items c.next_lane.new.noted.items gate after r) is c.next_lane.ensures.more in
    fewer_left c.args.shape (half.state_of c.args.journal.now).current.gate gate after c.loop-noted.noted.items c.next_lane.new.noted.items c.loop-noted.invariant.noted more

pub loop-noted-preserved : goal.loop-noted-preserved
loop-noted-preserved g c =
    let is : c.next_lane.result ≡ Ok true = c.in_ok-next_lane.was ∙ ap Ok c.if-branch.true in
    let gate = (half.state_of c.loop-noted.journal).current.gate in let after = (half.state_of c.next_lane.new.journal).current.gate in
    let along = c.loop-noted.invariant in
    let more = subst (λ (r : Result Bool SpoolErr). MoreNoted c.args.shape c.loop-noted.noted.items c.next_lane.new.noted.items gate after r) is c.next_lane.ensures.more in
    record {
      stage = subst (λ (r : Result Bool SpoolErr). IfOk r (λ more. (half.state_of c.next_lane.new.journal).stage ≡ stage_of (Ok more))) is c.next_lane.ensures.stage;
      limit = c.next_lane.ensures.limit ∙ along.limit;
      stays = search rules;
      call = search rules;
      counts = search rules;
      noted = noted_more c.args.shape (half.state_of c.args.journal.now).current.gate gate after c.loop-noted.noted.items c.next_lane.new.noted.items along.noted more;
      read = λ told job read.
          lane_walk c.args.shape job (half.state_of c.loop-noted.journal) (half.state_of c.next_lane.new.journal) (g.V.Shelf.cloud_at c.args.shelf.now 0) (g.V.Shelf.cloud_at c.loop-noted.shelf 0) c.loop-noted.noted.items c.next_lane.new.noted.items
          c.next_lane.result (Ok true) is along.stays along.call.told told c.next_lane.ensures.reads (along.read told job read);
    }

pub returns-clause-reads : goal.returns-clause-reads
returns-clause-reads g c told job read =
    let is : c.next_lane.result ≡ Ok false = c.in_ok-next_lane.was ∙ ap Ok c.if-branch.false in
    let along = c.loop-noted.invariant in
    lane_walk c.args.shape job (half.state_of c.loop-noted.journal) (half.state_of c.next_lane.new.journal) (g.V.Shelf.cloud_at c.args.shelf.now 0) (g.V.Shelf.cloud_at c.loop-noted.shelf 0) c.loop-noted.noted.items c.next_lane.new.noted.items
    c.next_lane.result (Ok false) is along.stays along.call.told told c.next_lane.ensures.reads (along.read told job read)

pub returns-in_err-next_lane-clause-reads : goal.returns-in_err-next_lane-clause-reads
returns-in_err-next_lane-clause-reads g c told job read =
    let error = c.in_err-next_lane.field-0.0 in
    let is : c.next_lane.result ≡ Err error = c.in_err-next_lane.was in
    let along = c.loop-noted.invariant in let store = (g.V.Shelf.cloud_at c.args.shelf.now 0).now Journal in
    let p = err_from_is_err_and c.from_residual.result c.from_residual.ensures.1 in
    let step = lane_walk c.args.shape job (half.state_of c.loop-noted.journal) (half.state_of c.next_lane.new.journal) (g.V.Shelf.cloud_at c.args.shelf.now 0) (g.V.Shelf.cloud_at c.loop-noted.shelf 0) c.loop-noted.noted.items c.next_lane.new.noted.items
    c.next_lane.result (Err error) is along.stays along.call.told told c.next_lane.ensures.reads (along.read told job read) in
    rw (p.1, p.2) (walk_refused c.args.shape job (half.state_of c.next_lane.new.journal) store c.next_lane.new.noted.items error step)
