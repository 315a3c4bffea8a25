-- What reading does to the clouds of a link.
use Rattle.std.specs.Prelude.{◌≡◌, ◌≢◌, ℕ, ◌≤◌, ◌⊎◌, ◌&&◌, Bool, true, false, IsTrue, List, [], ◌∷◌, ◌++◌, Some, Result, Ok, Err}
use Rattle.std.specs.List.{Contains}
use Rattle.user_dedup.specs.CdEdges.Causes.{Rose}
use Rattle.user_dedup.specs.Messages.ReplyReading.{reply_at}
use Rattle.user_dedup.specs.Messages.reply.Reply.{Reply}
use Rattle.user_dedup.specs.Exec.{Peer, Settles, KeepsPeer, CountsOn}
use Rattle.user_dedup.specs.Link.{LinkTelling, Exchange, Passes, ReadsOneOf}
use Rattle.restore_job.specs.declared.error.RestoreErr.{RestoreErr}
use Rattle.restore_job.specs.declared.error.RestoreErr.TheVariants as errors

-- each of these clouds stands for its peer
abbrev pub PeersOf : {L : Type 0} → LinkTelling L → L → (ℕ → Bool) → (ℕ → Peer) → Type 0
PeersOf t link these peers = (cloud : ℕ) → IsTrue (these cloud) → t.stands link cloud (peers cloud)

abbrev pub TellsAll : {L : Type 0} → LinkTelling L → L → List ℕ → Type 0
TellsAll t link clouds = (cloud : ℕ) → Contains clouds cloud → IsTrue (t.told link cloud)

-- a cloud that was asked and answered
abbrev pub Reads : Peer → Peer → Type 0
Reads old new = Settles old new × CountsOn old new

-- a cloud that may have been asked
abbrev pub MayRead : Peer → Peer → Type 0
MayRead old new = (KeepsPeer old new ⊎ Settles old new) × CountsOn old new

-- a cloud that answered fault
abbrev pub ReadFails : Peer → Peer → Type 0
ReadFails old new = Rose old.faults new.faults × MayRead old new

-- these clouds may have been asked, and the others are as they were
pub record AreOnlyAsked (clouds : List ℕ) (old new : ℕ → Peer) : Type 0 where
  pub read : (cloud : ℕ) → MayRead (old cloud) (new cloud)
  pub others : (cloud : ℕ) → (Contains clouds cloud → ⊥) → new cloud ≡ old cloud

-- From all peers that some clouds stood for, these ones among them, they went on to others that they stand for now; only these clouds were asked; the peers
-- before and after are always so related, and further so where all of these clouds are told.
abbrev pub Leads : {L : Type 0} → LinkTelling L → List ℕ → L → L → ((ℕ → Peer) → (ℕ → Peer) → Type 0) → ((ℕ → Peer) → (ℕ → Peer) → Type 0) → Type 0
Leads t clouds old new Always Related =
    (these : ℕ → Bool) → ((cloud : ℕ) → Contains clouds cloud → IsTrue (these cloud)) → (before : ℕ → Peer) → PeersOf t old these before
    → (after : ℕ → Peer) × PeersOf t new these after × AreOnlyAsked clouds before after × Always before after
    × (TellsAll t old clouds → Related before after)

-- What a link tells of some clouds alone: of the others it tells no lists, and they may stand for anything.
abbrev pub among : {L : Type 0} → (ℕ → Bool) → LinkTelling L → LinkTelling L
among {L} these t = record {
  reaches = t.reaches;
  shape = t.shape;
  told = λ (link : L) cloud. these cloud && t.told link cloud;
  stands = λ (link : L) cloud p. IsTrue (these cloud) → t.stands link cloud p;
  full = t.full;
  losses = t.losses;
  lossless = t.lossless;
  passes = t.passes;
}

-- So of any clouds, whatever the others stand for, and if they stand for nothing. What is always related may hang on which these are.
abbrev pub LeadsAny : {L : Type 0} → LinkTelling L → List ℕ → L → L → ((ℕ → Bool) → (ℕ → Peer) → (ℕ → Peer) → Type 0) → ((ℕ → Peer) → (ℕ → Peer) → Type 0) → Type 0
LeadsAny t clouds old new Always Related = (these : ℕ → Bool) → Leads (among these t) clouds old new (Always these) Related

-- these were read
abbrev pub AreRead : List ℕ → (ℕ → Peer) → (ℕ → Peer) → Type 0
AreRead clouds before after = (cloud : ℕ) → Contains clouds cloud → Reads (before cloud) (after cloud)

-- one cloud stopped it: those in front of it were read, and those behind it not asked
pub record StoppedAt (at : ℕ) (Stops : Peer → Peer → Type 0) (clouds : List ℕ) (before after : ℕ → Peer) : Type 0 where
  pub front : List ℕ
  pub rest : List ℕ
  pub split : clouds ≡ front ++ at ∷ rest
  pub read : (cloud : ℕ) → Contains front cloud → cloud ≢ at → Reads (before cloud) (after cloud)
  pub stops : Stops (before at) (after at)
  pub others : (cloud : ℕ) → (Contains (front ++ at ∷ []) cloud → ⊥) → after cloud ≡ before cloud

abbrev pub is_loss : RestoreErr → Bool
is_loss (errors.Lost cloud) = true
is_loss e = false

-- whether a result is that an ask was lost
abbrev pub is_lost : {A : Type 0} → Result A RestoreErr → Bool
is_lost (Ok x) = false
is_lost (Err e) = is_loss e

-- A link after some asks of these clouds, each of which adds nothing: the others stand for what they stood for, whatever these stand for, and what the link tells beside its
-- clouds stays. An ask is lost only where the count of losses rose, and never where the link tells that it loses nothing, which it then tells still.
pub record HasAskedClouds {L : Type 0} (t : LinkTelling L) (clouds : List ℕ) (old new : L) (loss : Bool) : Type 0 where
  pub asks : List Exchange
  pub passed : Passes t (ReadsOneOf clouds) old asks new
  pub others : (cloud : ℕ) (p : Peer) → (Contains clouds cloud → ⊥) → t.stands old cloud p → t.stands new cloud p
  pub reaches : t.reaches new ≡ t.reaches old
  pub shape : t.shape new ≡ t.shape old
  pub told : t.told new ≡ t.told old
  pub full : t.full new ≡ t.full old
  pub later : t.losses old ≤ t.losses new
  pub lost : loss ≡ true → Rose (t.losses old) (t.losses new)
  pub lossless : IsTrue (t.lossless old) → (loss ≡ false) × IsTrue (t.lossless new)

-- a reply came, and it is one that can be read
abbrev pub IsReplyReadable : Exchange → Type 0
IsReplyReadable e = (content : List ℕ) × (answer : Reply) × (e.reply ≡ Some content) × (reply_at content ≡ Ok answer)

-- The refusal says of this cloud that its reply was lost, or strange. Where memory ran out it may be any.
abbrev pub IsUnread : RestoreErr → ℕ → Type 0
IsUnread (errors.Lost c) cloud = cloud ≡ c.0
IsUnread (errors.Strange c kind) cloud = cloud ≡ c.0
IsUnread errors.NoMemory cloud = Unit {0}
IsUnread e cloud = ⊥

abbrev pub UnreadIn : {A : Type 0} → Result A RestoreErr → ℕ → Type 0
UnreadIn (Ok x) cloud = ⊥
UnreadIn (Err e) cloud = IsUnread e cloud

-- Asks were made, and each brought a reply that can be read, but of the cloud whose reply the result calls lost or strange.
abbrev pub Readable : {L A : Type 0} → LinkTelling L → L → L → Result A RestoreErr → Type 0
Readable t old new result = (asks : List Exchange)
    × Passes t (λ e. UnreadIn result e.cloud ⊎ IsReplyReadable e) old asks new
