use Rattle.std.proofs.Common.{◌≡◌, ℕ, true, List, length, take, drop, refl, sym, ap, ◌∙◌, subst, arith}
use Rattle.std.proofs.lemmas.List.Elements.{All-take, All-drop}
use Rattle.user_dedup.specs.Messages.Requests.{request_bytes}
use Rattle.user_dedup.specs.Messages.request.Request.TheVariants.{Put}
use Rattle.upload_job.specs.declared.wanted.WantedShare.{WantedShare}
use Rattle.upload_job.specs.declared.lane.LaneStage.{LaneStage}
use Rattle.upload_job.specs.Lane.{lane_request, unflagged}
use Rattle.upload_job.specs.Lanes.{IsAsked}
use Rattle.upload_job.specs.Index.{IsInShares, AreIn, HasRecalledShares, shares_in, work_in, state_in}
use Rattle.upload_job.proofs.Batches.{batch_few}
use Rattle.upload_job.proofs.Sending.{batch_shares, into_none}
use Rattle.upload_job.proofs.requests.put_request.Goals as goal

pub put_bringing-requires-clause-inside : goal.put_bringing-requires-clause-inside
put_bringing-requires-clause-inside c = c.requires.is.0

pub put_put-requires-clause-few : goal.put_put-requires-clause-few
put_put-requires-clause-few c = let few = batch_few c.in-Sending.from c.as_slice.result.now in let len = ap length c.batch_at-batch.ensures in omega arith

pub put_put-requires-clause-inside : goal.put_put-requires-clause-inside
put_put-requires-clause-inside c =
    let ws : List WantedShare = c.args.lane.now.wanted.items in
    let from = c.in-Sending.from in
    let has : c.args.lane.now.shares ≡ c.args.lane.now.recalled.bytes =
    subst (λ (s : LaneStage). HasRecalledShares s c.args.lane.now.shares c.args.lane.now.recalled.bytes) c.in-Sending.is c.requires.is.1 in
    subst (λ (xs : List ℕ). AreIn xs c.batch_at-batch.result.now) (sym (c.as_slice-shares.ensures ∙ has))
    (subst (AreIn c.args.lane.now.recalled.bytes) (sym (c.batch_at-batch.ensures ∙ ap (λ (xs : List WantedShare). take 256 (drop from xs)) c.as_slice.ensures.value))
    (All-take (IsInShares c.args.lane.now.recalled.bytes) 256 (drop from ws) (All-drop (IsInShares c.args.lane.now.recalled.bytes) from ws c.requires.is.0)))

pub returns-in_ok-put_put-in-Sending : goal.returns-in_ok-put_put-in-Sending
returns-in_ok-put_put-in-Sending c =
    let lane = c.args.lane.now in
    let key = c.args.key.now in
    let from = c.in-Sending.from in
    let flags = c.as_slice-in-Sending.result.now in
    let has : lane.shares ≡ lane.recalled.bytes = subst (λ (s : LaneStage). HasRecalledShares s lane.shares lane.recalled.bytes) c.in-Sending.is c.requires.is.1 in
    let all : List (List ℕ) = shares_in lane.recalled.bytes lane.wanted.items in
    let batch : shares_in c.as_slice-shares.result.now c.batch_at-batch.result.now ≡ take 256 (drop from all) =
    ap (λ (xs : List ℕ). shares_in xs c.batch_at-batch.result.now) (c.as_slice-shares.ensures ∙ has)
    ∙ ap (shares_in lane.recalled.bytes) (c.batch_at-batch.ensures ∙ ap (λ (xs : List WantedShare). take 256 (drop from xs)) c.as_slice.ensures.value) ∙ batch_shares lane.recalled.bytes from lane.wanted.items in
    subst (λ (s : LaneStage). IsAsked (lane_request (work_in key lane) (state_in all s)) true c.args.out.now c.put_put.new.out) (sym c.in-Sending.is) (
      refl,
      into_none c.args.out.now c.put_put.new.out (request_bytes (Put key.user (unflagged (shares_in c.as_slice-shares.result.now c.batch_at-batch.result.now) flags))) c.requires.empty c.in_ok-put_put-in-Sending.ensures
          ∙ ap (λ (b : List (List ℕ)). request_bytes (Put key.user (unflagged b flags))) batch
          ∙ ap (λ (fs : List ℕ). request_bytes (Put key.user (unflagged (take 256 (drop from all)) fs))) c.as_slice-in-Sending.ensures,
    )
