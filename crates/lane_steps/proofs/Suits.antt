-- A cloud that stands for something gives a reply that the lane's request may have.
use Rattle.std.proofs.Common.{◌≡◌, inl, inr, ℕ, ◌<◌, Bool, true, false, List, length, map, Some, None, refl, sym, subst}
use Rattle.std.specs.Bool.{MatchBool}
use Rattle.grammar.specs.CdBase.ids.Fp.{Fp}
use Rattle.grammar.specs.CdBase.ids.UserId.{UserId}
use Rattle.upload_job.specs.Messages.request.Request.{Request}
use Rattle.upload_job.specs.Messages.request.Request.TheVariants as requests
use Rattle.upload_job.specs.Messages.reply.Reply.{Reply}
use Rattle.upload_job.specs.Messages.reply.Reply.TheVariants as replies
use Rattle.upload_job.specs.Messages.Answering.{IsReplyTo}
use Rattle.upload_job.specs.Messages.Requests.{FitsRequest}
use Rattle.upload_job.specs.UserDedup.Cloud.{fingerprint}
use Rattle.upload_job.specs.UserDedup.Requests.{HasRecipe, fps_of}
use Rattle.upload_job.specs.UserDedup.Exec.{Peer, ExecTold, ExecUntold, items_of}
use Rattle.upload_job.specs.UserDedup.Link.{LinkTelling, TellsSound, Does, serves}
use Rattle.upload_job.proofs.UserDedup.Suiting.{served_suits}
use Rattle.upload_job.specs.Upload.{Work}
use Rattle.upload_job.specs.Lane.{LaneState, Asking, Sending, Committing, Done, Refused, unflagged, lane_request, IsAnswer}
use Rattle.grammar.specs.CdBase.shape.Shape.{Shape}
use Rattle.lane_steps.proofs.Asking.{some_request}
use Rattle.lane_steps.proofs.Lanes.{same_request}

pub does_suit : {L : Type 0} (t : LinkTelling L) (cloud : ℕ) (old : L) (p q : Peer) (request : Request) (reply : Reply) → TellsSound t old → cloud < 256 → FitsRequest request → HasRecipe (t.shape old) request
    → t.stands old cloud p → Does t cloud old p request reply q → IsReplyTo (items_of (t.shape old) request) request reply
does_suit t cloud old p q request reply sound small fits has stands does = by_told (t.told old cloud) refl does.does
  where
    by_told : (told : Bool) → t.told old cloud ≡ told → MatchBool told (ExecTold (serves t old cloud) p request reply q) (ExecUntold (t.shape old) p request reply q) → IsReplyTo (items_of (t.shape old) request) request reply
    by_told true e (inl a) =
        subst (IsReplyTo (items_of (t.shape old) request) request) (sym a.served)
        (served_suits (t.shape old) cloud (t.full old cloud) a.before request (sound cloud p e stands a.before a.settled) small fits has)
    by_told true e (inr f) = subst (IsReplyTo (items_of (t.shape old) request) request) (sym f.reply_is) tt
    by_told false e u = u.kind

-- how many items there are counts for a Commit alone
query_any : (m n : ℕ) (user : UserId) (fps : List Fp) (reply : Reply) → IsReplyTo m (requests.Query user fps) reply → IsReplyTo n (requests.Query user fps) reply
query_any m n user fps replies.Fault is = is
query_any m n user fps reply is = is

put_any : (m n : ℕ) (user : UserId) (shares : List (List ℕ)) (reply : Reply) → IsReplyTo m (requests.Put user shares) reply → IsReplyTo n (requests.Put user shares) reply
put_any m n user shares replies.Fault is = is
put_any m n user shares reply is = is

abbrev Given : Shape → Reply → Request → Type 0
Given shape reply request = IsReplyTo (items_of shape request) request reply

pub is_answer : (shape : Shape) (w : Work) (state : LaneState) (request : Request) (reply : Reply) → length (fps_of shape w.recipe) ≡ w.items → lane_request w state ≡ Some request → Given shape reply request → IsAnswer w state reply
is_answer shape w (Asking batch rest) request reply items e is =
    query_any 0 w.items w.user (map fingerprint batch) reply (subst (Given shape reply) (sym (same_request (requests.Query w.user (map fingerprint batch)) request e)) is)
is_answer shape w (Sending batch flags rest) request reply items e is =
    put_any 0 w.items w.user (unflagged batch flags) reply (subst (Given shape reply) (sym (same_request (requests.Put w.user (unflagged batch flags)) request e)) is)
is_answer shape w Committing request reply items e is =
    subst (λ (n : ℕ). IsReplyTo n (requests.Commit w.user w.tag w.version w.recipe) reply) items
    (subst (Given shape reply) (sym (same_request (requests.Commit w.user w.tag w.version w.recipe) request e)) is)
is_answer shape w Done request reply items e is = absurd (let f : None ≡ some_request request = e in cc)
is_answer shape w Refused request reply items e is = absurd (let f : None ≡ some_request request = e in cc)
