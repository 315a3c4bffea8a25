-- What holds of a lane at each of its steps.
use Rattle.std.proofs.Common.{◌≡◌, ℕ, zero, suc, ◌<◌, ◌≤◌, ◌^◌, Bool, true, false, cond, eqb, List, [], ◌∷◌, ◌++◌, length, map, Some, None, Result, Ok, Err, refl, sym, ◌∙◌, subst, arith}
use Rattle.std.specs.Prelude.{All}
use Rattle.std.specs.List.{list_all, AllByRecursion}
use Rattle.std.proofs.lemmas.List.{length-map}
use Rattle.std.proofs.lemmas.List.Elements.{All-nil, All-cons, All-head, All-tail, All-append, All-map, recursion_from_All}
use Rattle.sha2.proofs.Facts256.{length-sha256}
use Rattle.grammar.specs.CdBase.ids.Fp.{Fp}
use Rattle.grammar.specs.CdBase.shape.Shape.{Shape}
use Rattle.upload_job.specs.MessageFields.Fingerprints.{AreFps}
use Rattle.upload_job.specs.MessageFields.Flags.{AreFlags}
use Rattle.upload_job.specs.MessageFields.Shares.{IsShare, AreShares}
use Rattle.upload_job.specs.MessageFields.Keys.{IsKey}
use Rattle.upload_job.specs.Messages.request.Request.{Request}
use Rattle.upload_job.specs.Messages.request.Request.TheVariants as requests
use Rattle.upload_job.specs.Messages.reply.Reply.{Reply}
use Rattle.upload_job.specs.Messages.reply.Reply.TheVariants as replies
use Rattle.upload_job.specs.Messages.Replies.{FitsReply}
use Rattle.upload_job.specs.Recipe.recipe.Recipe.{Recipe}
use Rattle.upload_job.specs.Recipe.Spelling.{IsRecipe}
use Rattle.upload_job.specs.UserDedup.Cloud.{fingerprint}
use Rattle.upload_job.specs.declared.news.LaneNews.{LaneNews}
use Rattle.upload_job.specs.declared.news.LaneErr.{LaneErr}
use Rattle.upload_job.specs.declared.news.LaneErr.TheVariants as errors
use Rattle.upload_job.specs.Upload.{Work}
use Rattle.upload_job.specs.Lane.{LaneState, Asking, Sending, Committing, Done, Refused, onward, unflagged, lane_request, lane_after, past_known, IsAnswer}
use Rattle.upload_job.specs.Lanes.{LaneView, AnswersLane}
use Rattle.lane_steps.proofs.Sent.{IsSent, query_sent, put_sent, commit_sent}
use Rattle.lane_steps.proofs.Asking.{some_request}

-- what a lane has to bring is what requests may have
pub record CanBring (shape : Shape) (w : Work) : Type 0 where
  pub user : w.user.0 < 2 ^ 32
  pub key : IsKey (w.tag, w.version)
  pub recipe : (r : Recipe) × IsRecipe shape w.recipe r
  pub batches : All AreShares w.batches

-- and so is what it asks for or sends, and what comes behind that
abbrev pub CanAsk : LaneState → Type 0
CanAsk (Asking batch rest) = AreShares batch × All AreShares rest
CanAsk (Sending batch flags rest) = AreShares (unflagged batch flags) × All AreShares rest
CanAsk Committing = Unit {0}
CanAsk Done = Unit {0}
CanAsk Refused = Unit {0}

pub record IsLane (shape : Shape) (lane : LaneView) : Type 0 where
  pub work : CanBring shape lane.work
  pub state : CanAsk lane.state

-- ---- its request

pub same_request : (a b : Request) → some_request a ≡ some_request b → a ≡ b
same_request a b e = cc

named : (batch : List (List ℕ)) → AreShares batch → AreFps (map fingerprint batch)
named batch are =
    let len = length-map batch fingerprint in
    ((omega (arith, are.0.0), omega (arith, are.0.1)), All-map (λ (fp : Fp). length fp.0 ≡ 32) fingerprint batch (λ k d lt. length-sha256 _))

pub asks : (shape : Shape) (w : Work) (state : LaneState) (request : Request) → CanBring shape w → CanAsk state → lane_request w state ≡ Some request → IsSent shape request
asks shape w (Asking batch rest) request work can e =
    subst (IsSent shape) (same_request (requests.Query w.user (map fingerprint batch)) request e) (query_sent shape w.user (map fingerprint batch) work.user (named batch can.0))
asks shape w (Sending batch flags rest) request work can e =
    subst (IsSent shape) (same_request (requests.Put w.user (unflagged batch flags)) request e) (put_sent shape w.user (unflagged batch flags) work.user can.0)
asks shape w Committing request work can e =
    subst (IsSent shape) (same_request (requests.Commit w.user w.tag w.version w.recipe) request e) (commit_sent shape w.user w.tag w.version w.recipe work.recipe.0 work.user work.key work.recipe.1)
asks shape w Done request work can e = absurd (let f : None ≡ some_request request = e in cc)
asks shape w Refused request work can e = absurd (let f : None ≡ some_request request = e in cc)

-- ---- the shares that it sends

one_kept : (b : Bool) (s : List ℕ) → IsShare s → All IsShare (cond b (s ∷ []) [])
one_kept true s is = All-cons IsShare s [] is (All-nil IsShare)
one_kept false s is = All-nil IsShare

unflagged_shares : (ss : List (List ℕ)) (flags : List ℕ) → All IsShare ss → All IsShare (unflagged ss flags)
unflagged_shares [] flags all = All-nil IsShare
unflagged_shares (s ∷ ss) [] all = All-nil IsShare
unflagged_shares (s ∷ ss) (flag ∷ flags) all =
    All-append IsShare (cond (eqb flag 0) (s ∷ []) []) (unflagged ss flags) (one_kept (eqb flag 0) s (All-head IsShare s ss all)) (unflagged_shares ss flags (All-tail IsShare s ss all))

one_more : (b : Bool) (s : List ℕ) (more : List (List ℕ)) (n : ℕ) → length more ≤ n → length (cond b (s ∷ []) [] ++ more) ≤ suc n
one_more true s more n le = omega arith
one_more false s more n le = omega arith

unflagged_few : (ss : List (List ℕ)) (flags : List ℕ) → length (unflagged ss flags) ≤ length ss
unflagged_few [] flags = omega arith
unflagged_few (s ∷ ss) [] = omega arith
unflagged_few (s ∷ ss) (flag ∷ flags) = one_more (eqb flag 0) s (unflagged ss flags) (length ss) (unflagged_few ss flags)

-- one is sent unless each flag is 1
unflagged_some : (ss : List (List ℕ)) (flags : List ℕ) → length flags ≡ length ss → AllByRecursion (λ (flag : ℕ). flag ≤ 1) flags → list_all (λ (flag : ℕ). eqb flag 1) flags ≡ false → 1 ≤ length (unflagged ss flags)
unflagged_some ss [] len all e = absurd cc
unflagged_some [] (flag ∷ flags) len all e = absurd (omega arith)
unflagged_some (s ∷ ss) (zero ∷ flags) len all e = omega arith
unflagged_some (s ∷ ss) (suc zero ∷ flags) len all e = unflagged_some ss flags (omega arith) all.1 e
unflagged_some (s ∷ ss) (suc (suc flag) ∷ flags) len all e = absurd (let le = all.0 in omega arith)

unflagged_are : (batch : List (List ℕ)) (flags : List ℕ) → AreShares batch → AreFlags flags → length flags ≡ length batch → list_all (λ (flag : ℕ). eqb flag 1) flags ≡ false → AreShares (unflagged batch flags)
unflagged_are batch flags are known len e =
    let few = unflagged_few batch flags in
    ((unflagged_some batch flags len (recursion_from_All (λ (flag : ℕ). flag ≤ 1) flags known.1) e, omega (arith, are.0.1)), unflagged_shares batch flags are.1)

-- ---- a step

pub onward_can : (batches : List (List (List ℕ))) → All AreShares batches → CanAsk (onward batches)
onward_can [] all = tt
onward_can (batch ∷ rest) all = (All-head AreShares batch rest all, All-tail AreShares batch rest all)

past_by : (batch : List (List ℕ)) (flags : List ℕ) (rest : List (List (List ℕ))) (b : Bool) → list_all (λ (flag : ℕ). eqb flag 1) flags ≡ b → AreShares batch → AreFlags flags → length flags ≡ length batch → All AreShares rest
    → CanAsk (cond b (onward rest) (Sending batch flags rest))
past_by batch flags rest true e are known len more = onward_can rest more
past_by batch flags rest false e are known len more = (unflagged_are batch flags are known len e, more)

past_can : (batch : List (List ℕ)) (flags : List ℕ) (rest : List (List (List ℕ))) → AreShares batch → AreFlags flags → length flags ≡ length batch → All AreShares rest → CanAsk (past_known batch flags rest)
past_can batch flags rest are known len more = past_by batch flags rest (list_all (λ (flag : ℕ). eqb flag 1) flags) refl are known len more

pub after_can : (shape : Shape) (w : Work) (state : LaneState) (reply : Reply) → CanBring shape w → CanAsk state → FitsReply reply → IsAnswer w state reply → CanAsk (lane_after w state reply)
after_can shape w state replies.Fault work can fits answers = can
after_can shape w state replies.NoMemory work can fits answers = can
after_can shape w (Asking batch rest) (replies.Known flags) work can fits answers =
    let len : length flags ≡ length (map fingerprint batch) = answers in
    past_can batch flags rest can.0 fits (len ∙ length-map batch fingerprint) can.1
after_can shape w (Sending batch flags rest) (replies.Known known) work can fits answers = tt
after_can shape w Committing (replies.Known flags) work can fits answers = tt
after_can shape w Done (replies.Known flags) work can fits answers = tt
after_can shape w Refused (replies.Known flags) work can fits answers = tt
after_can shape w (Asking batch rest) (replies.Stored new) work can fits answers = tt
after_can shape w (Sending batch flags rest) (replies.Stored new) work can fits answers = onward_can rest can.1
after_can shape w Committing (replies.Stored new) work can fits answers = tt
after_can shape w Done (replies.Stored new) work can fits answers = tt
after_can shape w Refused (replies.Stored new) work can fits answers = tt
after_can shape w (Asking batch rest) replies.Committed work can fits answers = tt
after_can shape w (Sending batch flags rest) replies.Committed work can fits answers = tt
after_can shape w Committing replies.Committed work can fits answers = tt
after_can shape w Done replies.Committed work can fits answers = tt
after_can shape w Refused replies.Committed work can fits answers = tt
after_can shape w (Asking batch rest) (replies.Lacking place) work can fits answers = tt
after_can shape w (Sending batch flags rest) (replies.Lacking place) work can fits answers = tt
after_can shape w Committing (replies.Lacking place) work can fits answers = onward_can w.batches work.batches
after_can shape w Done (replies.Lacking place) work can fits answers = tt
after_can shape w Refused (replies.Lacking place) work can fits answers = tt
after_can shape w state (replies.Hello n k cloud format) work can fits answers = tt
after_can shape w state replies.Exists work can fits answers = tt
after_can shape w state (replies.Recipe bytes) work can fits answers = tt
after_can shape w state replies.Missing work can fits answers = tt
after_can shape w state (replies.Shares shares) work can fits answers = tt
after_can shape w state (replies.NotYours place) work can fits answers = tt
after_can shape w state (replies.Entries entries) work can fits answers = tt
after_can shape w state replies.Deleted work can fits answers = tt
after_can shape w state (replies.Full room used need limit) work can fits answers = tt
after_can shape w state (replies.Damaged at byte) work can fits answers = tt
after_can shape w state (replies.Rotten named found) work can fits answers = tt
after_can shape w state (replies.Malformed at) work can fits answers = tt

pub answered : (shape : Shape) (lane : LaneView) (content : List ℕ) (result : Result LaneNews LaneErr) (state : LaneState) → IsLane shape lane → AnswersLane lane content result state → CanAsk state
answered shape lane content (Ok news) state is answers =
    let tells = answers.1 in
    subst CanAsk (sym tells.moves) (after_can shape lane.work lane.state answers.0 is.work is.state tells.says.is.fits tells.says.answers)
answered shape lane content (Err (errors.Strange kind)) state is answers = subst CanAsk (sym answers.refused) tt
answered shape lane content (Err errors.NoMemory) state is answers = let same : state ≡ lane.state = answers in subst CanAsk (sym same) is.state
