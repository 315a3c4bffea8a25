use Rattle.std.proofs.Common.{◌≡◌, ℕ, ◌<◌, ◌≤◌, true, List, length, map, take, drop, refl, sym, ap, ◌∙◌, subst, arith}
use Rattle.std.proofs.lemmas.Result.{on_ok_weaker}
use Rattle.std.proofs.lemmas.List.{length-map}
use Rattle.std.proofs.lemmas.List.Elements.{All-take, All-drop}
use Rattle.user_dedup.specs.CdBase.ids.Fp.{Fp}
use Rattle.user_dedup.specs.Messages.Requests.{request_bytes}
use Rattle.user_dedup.specs.Messages.request.Request.TheVariants.{Query, Commit}
use Rattle.user_dedup.specs.Cloud.{fingerprint}
use Rattle.upload_job.specs.declared.wanted.WantedShare.{WantedShare}
use Rattle.upload_job.specs.Lane.{LaneState, lane_request}
use Rattle.upload_job.specs.Lanes.{IsAsked}
use Rattle.upload_job.specs.Index.{IsInShares, share_in, shares_in, work_in}
use Rattle.upload_job.proofs.Batches.{onward_some, onward_none, batch_few}
use Rattle.upload_job.proofs.Sending.{batch_fps, into_none}
use Rattle.upload_job.proofs.requests.put_bringing.Goals as goal

pub put_query-requires : goal.put_query-requires
put_query-requires c = let few = batch_few c.args.from c.args.lane.now.wanted.items in let len = ap length (c.batch_at.ensures ∙ ap (λ (ws : List WantedShare). take 256 (drop c.args.from ws)) c.as_slice.ensures.value) in omega arith

pub returns-then-from-len : goal.returns-then-from-len
returns-then-from-len c =
    let ws : List WantedShare = c.args.lane.now.wanted.items in
    let all : List (List ℕ) = shares_in c.args.lane.now.recalled.bytes ws in
    let len : length all ≡ length ws = length-map ws (share_in c.args.lane.now.recalled.bytes) in
    let some : c.args.from < length all = omega arith in
    let batch : c.batch_at.result.now ≡ take 256 (drop c.args.from ws) = c.batch_at.ensures ∙ ap (λ (xs : List WantedShare). take 256 (drop c.args.from xs)) c.as_slice.ensures.value in
    let fps : map (λ (w : WantedShare). w.fp) c.batch_at.result.now ≡ map fingerprint (take 256 (drop c.args.from all)) =
    ap (map (λ (w : WantedShare). w.fp)) batch ∙ batch_fps c.args.lane.now.recalled.bytes c.args.from ws (All-take (IsInShares c.args.lane.now.recalled.bytes) 256 (drop c.args.from ws) (All-drop (IsInShares c.args.lane.now.recalled.bytes) c.args.from ws c.requires.inside)) in
    on_ok_weaker c.put_query.result
    (λ h. subst (λ (s : LaneState). IsAsked (lane_request (work_in c.args.key.now c.args.lane.now) s) true c.args.out.now c.put_query.new.out) (sym (onward_some all c.args.from some))
    (refl, into_none c.args.out.now c.put_query.new.out (request_bytes (Query c.args.key.now.user (map (λ (w : WantedShare). w.fp) c.batch_at.result.now))) c.requires.empty h ∙ ap (λ (fs : List Fp). request_bytes (Query c.args.key.now.user fs)) fps))
    c.put_query.ensures

pub returns-else-from-len : goal.returns-else-from-len
returns-else-from-len c =
    let ws : List WantedShare = c.args.lane.now.wanted.items in
    let all : List (List ℕ) = shares_in c.args.lane.now.recalled.bytes ws in
    let len : length all ≡ length ws = length-map ws (share_in c.args.lane.now.recalled.bytes) in
    let none : length all ≤ c.args.from = omega arith in
    on_ok_weaker c.put_commit.result
    (λ h. subst (λ (s : LaneState). IsAsked (lane_request (work_in c.args.key.now c.args.lane.now) s) true c.args.out.now c.put_commit.new.out) (sym (onward_none all c.args.from none)) (
      refl,
      into_none c.args.out.now c.put_commit.new.out (request_bytes (Commit c.args.key.now.user c.args.key.now.tag c.args.key.now.version c.as_slice-else-from-len.result.now)) c.requires.empty h
          ∙ ap (λ (r : List ℕ). request_bytes (Commit c.args.key.now.user c.args.key.now.tag c.args.key.now.version r)) c.as_slice-else-from-len.ensures,
    ))
    c.put_commit.ensures
