-- What a link tells of its clouds, and what an ask does.
use Rattle.std.specs.Prelude.{◌≡◌, ◌≢◌, ℕ, ◌⊎◌, Bool, IsTrue, List, [], ◌∷◌, ◌++◌, Option, Some, None, Result, Ok, Err, MatchResult, OnOk}
use Rattle.std.specs.List.{Contains}
use Rattle.journal_start.specs.CdBase.shape.Shape.{Shape}
use Rattle.messages.specs.declared.request.Request.{Request}
use Rattle.messages.specs.declared.request.Request.TheVariants as requests
use Rattle.messages.specs.Requests.{IsRequest}
use Rattle.messages.specs.declared.reply.Reply.{Reply}
use Rattle.messages.specs.declared.reply.Reply.TheVariants as replies
use Rattle.messages.specs.Replies.{IsReply}
use Rattle.user_dedup.specs.declared.command.Command.{Command}
use Rattle.user_dedup.specs.Dedup.{Outcome, FullRoom}
use Rattle.user_dedup.specs.Exec.{Peer, Exec, KeepsPeer, CountsOn, StandsSound, served}

-- one ask that a link passed on: the cloud, the content, and the reply's content, or that it was lost
pub record Exchange : Type 0 where
  pub cloud : ℕ
  pub content : List ℕ
  pub reply : Option (List ℕ)

abbrev pub exchange_of : {E : Type 0} → ℕ → List ℕ → Result (Unit {0}) E → List ℕ → Exchange
exchange_of cloud content (Ok u) reply = record { cloud = cloud; content = content; reply = Some reply }
exchange_of cloud content (Err e) reply = record { cloud = cloud; content = content; reply = None }

-- Which clouds a link reaches, by their numbers; the shape of its store; of which clouds it tells the lists; what each cloud stands
-- for; when a room is full there; how often an ask was lost; whether the next ask isn't; and what else it says of an ask, from the link
-- before it to that behind it.
pub record LinkTelling (L : Type 0) : Type 1 where
  pub reaches : L → ℕ → Bool
  pub shape : L → Shape
  pub told : L → ℕ → Bool
  pub stands : L → ℕ → Peer → Type 0
  pub full : L → ℕ → List Command → Command → Option FullRoom
  pub losses : L → ℕ
  pub lossless : L → Bool
  pub passes : L → Exchange → L → Type 0

-- what a cloud of the link serves
abbrev pub serves : {L : Type 0} → LinkTelling L → L → ℕ → List Command → Request → Outcome
serves t link cloud = served (t.shape link) cloud (t.full link cloud)

-- a told cloud stands for sound lists alone
abbrev pub TellsSound : {L : Type 0} → LinkTelling L → L → Type 0
TellsSound t link = (cloud : ℕ) (p : Peer) → IsTrue (t.told link cloud) → t.stands link cloud p → StandsSound (t.shape link) cloud p

-- what the cloud of a link does to a request
abbrev pub Does : {L : Type 0} → LinkTelling L → ℕ → L → Peer → Request → Reply → Peer → Type 0
Does t cloud old = Exec (t.shape old) (t.told old cloud) (serves t old cloud)

-- the ask was lost: the request before the cloud took it, or the reply behind it
abbrev pub LosesAsk : {L : Type 0} → LinkTelling L → ℕ → L → Peer → Request → Peer → Type 0
LosesAsk t cloud old p request q = (KeepsPeer p q × CountsOn p q)
    ⊎ ((answer : Reply) × Does t cloud old p request answer q)

-- From each state that the cloud stood for it goes on by this request, and this reply is its answer, or it goes on unheard where the
-- ask was lost.
abbrev pub Asks : {L E : Type 0} → LinkTelling L → ℕ → L → Request → List ℕ → Result (Unit {0}) E → L → Type 0
Asks t cloud old request reply result new =
    (p : Peer) → t.stands old cloud p → (q : Peer) × t.stands new cloud q
    × MatchResult result
    (λ u. (answer : Reply) × IsReply reply answer × Does t cloud old p request answer q)
    (λ e. LosesAsk t cloud old p request q)

-- Of content that asks nothing the cloud stands for what it stood for, and the reply names the first place that fails.
abbrev pub AsksNothing : {L E : Type 0} → LinkTelling L → ℕ → L → ℕ → List ℕ → Result (Unit {0}) E → L → Type 0
AsksNothing t cloud old at reply result new =
    (p : Peer) → t.stands old cloud p → t.stands new cloud p
    × MatchResult result (λ u. IsReply reply (replies.Malformed at)) (λ e. Unit {0})

-- An ask leaves the other clouds, and what the link tells beside them.
pub record LeavesOthers {L : Type 0} (t : LinkTelling L) (cloud : ℕ) (old new : L) : Type 0 where
  pub stands : (other : ℕ) (p : Peer) → other ≢ cloud → t.stands old other p → t.stands new other p
  pub reaches : t.reaches new ≡ t.reaches old
  pub shape : t.shape new ≡ t.shape old
  pub told : t.told new ≡ t.told old
  pub full : t.full new ≡ t.full old

-- It was asked so, one ask after another, each of which is so.
abbrev pub Passes : {L : Type 0} → LinkTelling L → (Exchange → Type 0) → L → List Exchange → L → Type 0
Passes t Is old [] new = new ≡ old
Passes {L} t Is old (e ∷ es) new = Is e × ((mid : L) × t.passes old e mid × Passes t Is mid es new)

-- the request adds no command to any list
abbrev pub AddsNothing : Request → Type 0
AddsNothing requests.Hello = Unit {0}
AddsNothing (requests.Query user fps) = Unit {0}
AddsNothing (requests.Put user shares) = ⊥
AddsNothing (requests.Commit user tag version recipe) = ⊥
AddsNothing (requests.GetRecipe user tag version) = Unit {0}
AddsNothing (requests.GetShares user fps) = Unit {0}
AddsNothing (requests.List user after) = Unit {0}
AddsNothing (requests.Delete user tag version) = ⊥

-- the content is a request that adds nothing
abbrev pub IsReading : List ℕ → Type 0
IsReading content = (request : Request) × IsRequest content request × AddsNothing request

-- one of these clouds was asked, for what adds nothing
abbrev pub ReadsOneOf : List ℕ → Exchange → Type 0
ReadsOneOf clouds e = Contains clouds e.cloud × IsReading e.content

-- ---- what is said with a cloud

-- what a link may tell of a cloud beside its lists: the requests sent so far, and the replies still to come
pub record Talk : Type 0 where
  pub asked : List (List ℕ)
  pub coming : List (List ℕ)

-- the first reply that is to come, an empty one where none is
abbrev pub first_reply : List (List ℕ) → List ℕ
first_reply [] = []
first_reply (reply ∷ more) = reply

abbrev pub later_replies : List (List ℕ) → List (List ℕ)
later_replies [] = []
later_replies (reply ∷ more) = more

-- behind one more request and its reply
abbrev pub said : Talk → List ℕ → Talk
said talk request = record { asked = talk.asked ++ request ∷ []; coming = later_replies talk.coming }

-- An ask that wasn't lost sent the request and took the first reply that was to come.
abbrev pub TakesFirstReply : {L E : Type 0} → (L → ℕ → Talk → Type 0) → ℕ → L → List ℕ → List ℕ → Result (Unit {0}) E
    → L → Type 0
TakesFirstReply talk cloud old request reply result new =
    (before : Talk) → talk old cloud before → OnOk result ((reply ≡ first_reply before.coming) × talk new cloud (said before request))

-- what was said with the other clouds stays
abbrev pub SaysNothingElse : {L : Type 0} → (L → ℕ → Talk → Type 0) → ℕ → L → L → Type 0
SaysNothingElse talk cloud old new = (other : ℕ) (before : Talk) → other ≢ cloud → talk old other before → talk new other before
