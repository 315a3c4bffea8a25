-- Each lane to which a job comes asks what a cloud reads.
use Rattle.std.proofs.Common.{◌≡◌, ℕ, zero, suc, ◌+◌, ◌-◌, ◌*◌, ◌<◌, ◌≤◌, ◌^◌, Bool, true, false, cond, List, [], ◌∷◌, ◌++◌, length, map, take, drop, get_or, Some, None, Result, refl, sym, subst, arith, ap, ◌∙◌}
use Rattle.std.specs.Prelude.{All, min}
use Rattle.std.specs.List.{AllByRecursion, range_with_len}
use Rattle.std.proofs.Math.Nat.{mul-le-mul_right}
use Rattle.std.proofs.lemmas.List.{length-take, length-drop}
use Rattle.std.proofs.lemmas.List.Elements.{All-nil, All-cons, All-head, All-tail, All-take, All-drop, All-map, All-from_get_or}
use Rattle.std.proofs.lemmas.List.FromFn.{length-map-range_with_len}
use Rattle.sha2.proofs.Facts256.{length-sha256}
use Rattle.grammar.specs.CdBase.Lengths.{share_len_of}
use Rattle.grammar.specs.CdBase.Limits.{IsPath}
use Rattle.grammar.specs.CdBase.ids.Fp.{Fp}
use Rattle.grammar.specs.CdBase.shape.Shape.{Shape}
use Rattle.upload_job.specs.CaontRs.Package.{share, tag, package_of}
use Rattle.upload_job.proofs.CaontRs.Opened.{length-share, pad_fits}
use Rattle.upload_job.specs.FileRecipe.FileRecipe.{secrets, recipe_of}
use Rattle.upload_job.proofs.FileRecipe.Recipes.{recipe_fits}
use Rattle.upload_job.proofs.FileRecipe.Secrets.{IsSecret, secret_at}
use Rattle.upload_job.specs.MessageFields.Shares.{IsShare, AreShares}
use Rattle.upload_job.specs.Messages.request.Request.{Request}
use Rattle.upload_job.specs.UserDedup.Cloud.{fingerprint}
use Rattle.upload_job.specs.UserDedup.Owning.{is_among, new_strings}
use Rattle.upload_job.specs.declared.news.LaneNews.{LaneNews}
use Rattle.upload_job.specs.declared.news.LaneErr.{LaneErr}
use Rattle.upload_job.specs.Upload.{FileVersion, in_batches, shares_for, wanted_for, work_of}
use Rattle.upload_job.specs.Lanes.{LaneView, begun, request_at, AnswersAt}
use Rattle.upload_job.proofs.Batches.{in_batches-nil, in_batches-cons}
use Rattle.lane_steps.specs.Reached.{IsReached, Begun, Answered}
use Rattle.lane_steps.proofs.Sent.{IsSent}
use Rattle.lane_steps.proofs.Lanes.{CanBring, IsLane, asks, onward_can, answered}

-- ---- the shares

some_long : (k q n : ℕ) → 1 ≤ n → n + 32 ≤ k * q → 1 ≤ q
some_long k zero n some le = absurd (let none : k * 0 ≡ 0 = omega arith in omega arith)
some_long k (suc q) n some le = omega arith

few_long : (k q : ℕ) → 2 ≤ k → k * q ≤ 16384 + 31 + k → q ≤ 8208
few_long k zero several le = omega arith
few_long k (suc p) several le =
    let two : 2 * p ≤ k * p = mul-le-mul_right p several in
    let next : k * suc p ≡ k * p + k = grind arith in
    omega arith

is_share : (s : Shape) (j : ℕ) (secret : List ℕ) → IsSecret secret → IsShare (share s j secret)
is_share s j secret is =
    let len = length-share s j secret in
    let room = pad_fits s.k (length secret) (omega (arith, s.several)) in
    let most : s.k * share_len_of s.k (length secret) ≤ length secret + 31 + s.k = omega arith in
    let some = some_long s.k (share_len_of s.k (length secret)) (length secret) is.some room in
    let few = few_long s.k (share_len_of s.k (length secret)) s.several (omega (arith, is.few)) in
    (omega arith, omega arith)

all_shares : (s : Shape) (j : ℕ) (file : List ℕ) → All IsShare (shares_for s j file)
all_shares s j file =
    All-map IsShare (share s j) (secrets file)
    (All-from_get_or (λ (x : List ℕ). IsShare (share s j x)) (secrets file) [] (λ i lt. is_share s j (get_or (secrets file) i []) (secret_at file i lt)))

-- ---- those that the cloud is to have, in batches

new_by : (b : Bool) (s : List ℕ) (known more : List (List ℕ)) → IsShare s → All IsShare known → All IsShare more → All IsShare (cond b known (s ∷ more))
new_by true s known more is a m = a
new_by false s known more is a m = All-cons IsShare s more is m

new_shares : (own : List Fp) (ss : List (List ℕ)) → All IsShare ss → All IsShare (new_strings own ss)
new_shares own [] all = all
new_shares own (s ∷ ss) all =
    let rest = All-tail IsShare s ss all in
    new_by (is_among own (fingerprint s)) s (new_strings own ss) (new_strings (own ++ fingerprint s ∷ []) ss) (All-head IsShare s ss all)
    (new_shares own ss rest) (new_shares (own ++ fingerprint s ∷ []) ss rest)

batches_by : (n : ℕ) (ss : List (List ℕ)) → length ss ≤ n → All IsShare ss → All AreShares (in_batches ss)
batches_by n [] le all = subst (All AreShares) (sym in_batches-nil) (All-nil AreShares)
batches_by zero (s ∷ ss) le all = absurd (omega arith)
batches_by (suc n) (s ∷ ss) le all =
    let front : length (take 255 ss) ≡ min 255 (length ss) = length-take 255 ss in
    let back : length (drop 255 ss) ≡ length ss - 255 = length-drop 255 ss in
    subst (All AreShares) (sym (in_batches-cons s ss))
    (All-cons AreShares (take 256 (s ∷ ss)) (in_batches (drop 256 (s ∷ ss)))
    ((omega arith, omega arith), All-take IsShare 256 (s ∷ ss) all)
    (batches_by n (drop 256 (s ∷ ss)) (omega arith) (All-drop IsShare 256 (s ∷ ss) all)))

-- ---- a new job

tag_long : (s : Shape) (path : List ℕ) → length (tag s path) ≡ 32
unfolding tag
tag_long s path = length-sha256 (package_of s path)

pub can_bring : (shape : Shape) (v : FileVersion) (cloud : ℕ) → IsPath v.path → length v.file ≤ 67108864 → v.user.0 < 2 ^ 32 → v.number.0 < 2 ^ 64 → CanBring shape (work_of shape v cloud)
can_bring shape v cloud named few user number = record {
  user = user;
  key = (tag_long shape v.path, number);
  recipe = (recipe_of shape cloud v.path v.file, record { fits = recipe_fits shape cloud v.path v.file named few; spelled = refl });
  batches = batches_by (length (wanted_for shape cloud v.file)) (wanted_for shape cloud v.file) (omega arith) (new_shares [] (shares_for shape cloud v.file) (all_shares shape cloud v.file));
}

each_begun : (shape : Shape) (v : FileVersion) (clouds : List ℕ) → ((cloud : ℕ) → CanBring shape (work_of shape v cloud)) → AllByRecursion (IsLane shape) (map (λ (cloud : ℕ). begun (work_of shape v cloud)) clouds)
each_begun shape v [] can = tt
each_begun shape v (cloud ∷ clouds) can = (record { work = can cloud; state = onward_can (work_of shape v cloud).batches (can cloud).batches }, each_begun shape v clouds can)

-- ---- one reply more

each_answered : (shape : Shape) (old new : List LaneView) (i : ℕ) (content : List ℕ) (result : Result LaneNews LaneErr) → AllByRecursion (IsLane shape) old → AnswersAt old i content result new → AllByRecursion (IsLane shape) new
each_answered shape [] new i content result all answers = absurd answers
each_answered shape (lane ∷ lanes) new zero content result all answers =
    let state = answers.0 in
    subst (AllByRecursion (IsLane shape)) (sym answers.2) (record { work = all.0.work; state = answered shape lane content result state all.0 answers.1 }, all.1)
each_answered shape (lane ∷ lanes) new (suc i) content result all answers =
    subst (AllByRecursion (IsLane shape)) (sym answers.2) (all.0, each_answered shape lanes answers.0 i content result all.1 answers.1)

are_lanes : (shape : Shape) (lanes : List LaneView) → IsReached shape lanes → AllByRecursion (IsLane shape) lanes
are_lanes shape _ (Begun v named few user number) = each_begun shape v (range_with_len 0 shape.n) (λ cloud. can_bring shape v cloud named few user number)
are_lanes shape _ (Answered old new i content result reached answers) = each_answered shape old new i content result (are_lanes shape old reached) answers

-- ---- the law

sent_at : (shape : Shape) (lanes : List LaneView) (i : ℕ) (request : Request) → AllByRecursion (IsLane shape) lanes → request_at lanes i ≡ Some request → IsSent shape request
sent_at shape [] i request all e = absurd (let f : None ≡ Some request = e in cc)
sent_at shape (lane ∷ lanes) zero request all e = asks shape lane.work lane.state request all.0.work all.0.state e
sent_at shape (lane ∷ lanes) (suc i) request all e = sent_at shape lanes i request all.1 e

-- what a lane asks, its cloud reads
pub is_sent : (shape : Shape) (lanes : List LaneView) (i : ℕ) (request : Request) → IsReached shape lanes → request_at lanes i ≡ Some request → IsSent shape request
is_sent shape lanes i request reached e = sent_at shape lanes i request (are_lanes shape lanes reached) e

-- ---- as many lanes as clouds

pub answered_len : (old : List LaneView) (i : ℕ) (content : List ℕ) (result : Result LaneNews LaneErr) (new : List LaneView) → AnswersAt old i content result new → length new ≡ length old
answered_len [] i content result new a = absurd a
answered_len (lane ∷ lanes) zero content result new a = ap length a.2
answered_len (lane ∷ lanes) (suc i) content result new a = ap length a.2 ∙ ap suc (answered_len lanes i content result a.0 a.1)

pub reached_len : (shape : Shape) (lanes : List LaneView) → IsReached shape lanes → length lanes ≡ shape.n
reached_len shape _ (Begun v named few user number) = length-map-range_with_len (λ cloud. begun (work_of shape v cloud)) 0 shape.n
reached_len shape _ (Answered old new i content result reached answers) = answered_len old i content result new answers ∙ reached_len shape old reached
