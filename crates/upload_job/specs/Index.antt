-- How a job keeps its lanes: where the wanted shares lie, and up to which of them the lane has come.
use Rattle.std.specs.Prelude.{◌≡◌, ◌≢◌, ℕ, zero, suc, ◌+◌, ◌<◌, ◌≤◌, Bool, true, false, List, [], ◌∷◌, ◌++◌, length, map, take, drop, slice_range, slice_index_or, All, Option, Some, None, Ok, Err}
use Rattle.user_dedup.specs.CdBase.shape.Shape.{Shape}
use Rattle.user_dedup.specs.CdBase.Lengths.{share_len_of}
use Rattle.user_dedup.specs.CdBase.Limits.{secret_limit}
use Rattle.user_dedup.specs.MessageFields.Fingerprints.{batch_limit}
use Rattle.user_dedup.specs.MessageFields.Shares.{share_limit}
use Rattle.user_dedup.specs.Messages.reply.Reply.{Reply}
use Rattle.user_dedup.specs.Messages.Replies.{IsReply}
use Rattle.user_dedup.specs.Recipe.items.Item.{Item}
use Rattle.user_dedup.specs.Recipe.Spelling.{spelling, item_limit}
use Rattle.file_recipe.specs.declared.cloud_file.CloudFile.{CloudFile}
use Rattle.user_dedup.specs.Cloud.{fingerprint}
use Rattle.user_dedup.specs.Owning.{new_strings}
use Rattle.upload_job.specs.declared.wanted.WantedShare.{WantedShare}
use Rattle.upload_job.specs.declared.lane.VersionKey.{VersionKey}
use Rattle.upload_job.specs.declared.lane.Lane.{Lane}
use Rattle.upload_job.specs.declared.lane.LaneStage.{LaneStage}
use Rattle.upload_job.specs.declared.lane.LaneStage.TheVariants as stages
use Rattle.upload_job.specs.declared.lane.Step.{Step}
use Rattle.upload_job.specs.Upload.{Work, in_batches}
use Rattle.upload_job.specs.Lane.{LaneState, Sending, Done, Refused, onward, lane_after, news_of, IsAnswer}
use Rattle.upload_job.specs.declared.turn.Turn.{Turn}
use Rattle.upload_job.specs.declared.news.LaneErr.TheVariants as errors
use Rattle.upload_job.specs.Lanes.{LaneView, IsReplyToLane, first_byte}

-- ---- the wanted shares

-- the share lies there, has this fingerprint, and is one that a message may have
pub record IsInShares (shares : List ℕ) (w : WantedShare) : Type 0 where
  pub some : w.start < w.end
  pub within : w.end ≤ length shares
  pub short : w.end ≤ w.start + share_limit
  pub named : w.fp ≡ fingerprint (slice_range shares w.start w.end)

abbrev pub AreIn : List ℕ → List WantedShare → Type 0
AreIn shares wanted = All (IsInShares shares) wanted

abbrev pub share_in : List ℕ → WantedShare → List ℕ
share_in shares w = slice_range shares w.start w.end

abbrev pub shares_in : List ℕ → List WantedShare → List (List ℕ)
shares_in shares wanted = map (share_in shares) wanted

-- the shares that lie one after another, as long as the items say
abbrev pub pieces : ℕ → List Item → List ℕ → List (List ℕ)
pieces k [] shares = []
pieces k (i ∷ is) shares = take (share_len_of k i.secret_len) shares ∷ pieces k is (drop (share_len_of k i.secret_len) shares)

-- there are so many bytes, and each item names its share
pub record AreSharesNamed (k : ℕ) (i : Item) (shares : List ℕ) : Type 0 where
  pub some : 1 ≤ i.secret_len
  pub few : i.secret_len ≤ secret_limit
  pub room : share_len_of k i.secret_len ≤ length shares
  pub named : i.fp ≡ fingerprint (take (share_len_of k i.secret_len) shares)

abbrev pub AreNamed : ℕ → List Item → List ℕ → Type 0
AreNamed k [] shares = Unit {0}
AreNamed k (i ∷ is) shares = AreSharesNamed k i shares × AreNamed k is (drop (share_len_of k i.secret_len) shares)

-- with one more, unless it was seen
abbrev pub noted : Bool → List WantedShare → WantedShare → List WantedShare
noted true wanted w = wanted
noted false wanted w = wanted ++ w ∷ []

-- ---- lanes

abbrev pub state_in : List (List ℕ) → LaneStage → LaneState
state_in all (stages.Bringing from) = onward (in_batches (drop from all))
state_in all (stages.Sending from flags) = Sending (take batch_limit (drop from all)) flags (in_batches (drop batch_limit (drop from all)))
state_in all stages.Done = Done
state_in all stages.Refused = Refused

abbrev pub work_in : VersionKey → Lane → Work
work_in key lane = record {
  user = key.user;
  tag = key.tag;
  version = key.version;
  recipe = lane.recipe;
  items = lane.items;
  batches = in_batches (shares_in lane.recalled.bytes lane.wanted.items);
}

abbrev pub lane_in : VersionKey → Lane → LaneView
lane_in key lane = record { work = work_in key lane; state = state_in (shares_in lane.recalled.bytes lane.wanted.items) lane.stage }

abbrev pub lanes_in : VersionKey → List Lane → List LaneView
lanes_in key lanes = map (lane_in key) lanes

-- a lane that may still send shares has them
abbrev pub HasRecalledShares : LaneStage → List ℕ → List ℕ → Type 0
HasRecalledShares (stages.Bringing from) shares recalled = shares ≡ recalled
HasRecalledShares (stages.Sending from flags) shares recalled = shares ≡ recalled
HasRecalledShares stages.Done shares recalled = Unit {0}
HasRecalledShares stages.Refused shares recalled = Unit {0}

-- the wanted shares lie in those that the lane had at its beginning, and up to its end it has them
abbrev pub IsLane : Lane → Type 0
IsLane lane = AreIn lane.recalled.bytes lane.wanted.items × HasRecalledShares lane.stage lane.shares lane.recalled.bytes

abbrev pub AreLanes : List Lane → Type 0
AreLanes [] = Unit {0}
AreLanes (lane ∷ lanes) = IsLane lane × AreLanes lanes

-- ---- a step of a lane

-- where the lane stands next, or where it stands
abbrev pub next_in : List (List ℕ) → LaneState → Option LaneStage → LaneState
next_in all state None = state
next_in all state (Some stage) = state_in all stage

-- whether a lane that stands there is at its end
abbrev pub ends_at : LaneStage → Bool
ends_at (stages.Bringing from) = false
ends_at (stages.Sending from flags) = false
ends_at stages.Done = true
ends_at stages.Refused = true

-- the shares that it keeps at this stage: none at its end
abbrev pub kept_at : LaneStage → List ℕ → List ℕ
kept_at (stages.Bringing from) shares = shares
kept_at (stages.Sending from flags) shares = shares
kept_at stages.Done shares = []
kept_at stages.Refused shares = []

abbrev pub moved_to : Lane → Option LaneStage → Lane
moved_to lane None = lane
moved_to lane (Some stage) = record {
  recipe = lane.recipe;
  items = lane.items;
  shares = kept_at stage lane.shares;
  wanted = lane.wanted;
  stage = stage;
  recalled = lane.recalled;
}

-- the lanes, of which those of these numbers stand at this stage
abbrev pub staged_at : List Lane → ℕ → LaneStage → List Lane
staged_at [] i stage = []
staged_at (lane ∷ lanes) zero stage = moved_to lane (Some stage) ∷ lanes
staged_at (lane ∷ lanes) (suc i) stage = lane ∷ staged_at lanes i stage

abbrev pub done_at : List Lane → List ℕ → List Lane
done_at lanes [] = lanes
done_at lanes (cloud ∷ clouds) = done_at (staged_at lanes cloud stages.Done) clouds

-- a step is made by a reply to the lane's request, and none by another
abbrev pub StepIsByReply : Work → List (List ℕ) → LaneState → Reply → Option Step → Type 0
StepIsByReply w all state reply None = ¬ (IsAnswer w state reply)
StepIsByReply w all state reply (Some step) = IsAnswer w state reply × ((news_of state reply ≡ Some step.news) × (next_in all state step.next ≡ lane_after w state reply))

-- the lane of a cloud's file at its beginning
pub record IsBegun (k : ℕ) (f : CloudFile) (lane : Lane) : Type 0 where
  pub recipe : lane.recipe ≡ spelling f.recipe
  pub items : lane.items ≡ length f.recipe.items
  pub shares : lane.shares ≡ f.shares
  pub recalled : lane.recalled.bytes ≡ f.shares
  pub wanted : shares_in f.shares lane.wanted.items ≡ new_strings [] (pieces k f.recipe.items f.shares)
  pub inside : AreIn f.shares lane.wanted.items
  pub stage : lane.stage ≡ stages.Bringing 0

-- each cloud's file has few items, which name its shares
abbrev pub EachNamed : ℕ → List CloudFile → Type 0
EachNamed k files = (i : ℕ) (f : CloudFile) → i < length files → (length (slice_index_or files i f).recipe.items ≤ item_limit) × AreNamed k (slice_index_or files i f).recipe.items (slice_index_or files i f).shares

-- each lane is at its beginning
abbrev pub EachBegun : ℕ → List CloudFile → List Lane → Type 0
EachBegun k files lanes = (i : ℕ) (f : CloudFile) (lane : Lane) → i < length lanes → IsBegun k (slice_index_or files i f) (slice_index_or lanes i lane)

-- a lane that has nothing to bring, and no request
pub record IsIdle (lane : Lane) : Type 0 where
  pub recipe : lane.recipe ≡ []
  pub items : lane.items ≡ 0
  pub wanted : lane.wanted.items ≡ []
  pub stage : lane.stage ≡ stages.Refused

-- as many lanes as clouds, of which that of the cloud is at its beginning, and the others have nothing to bring
pub record IsAlone (shape : Shape) (cloud : ℕ) (f : CloudFile) (lanes : List Lane) : Type 0 where
  pub len : length lanes ≡ shape.n
  pub here : (lane : Lane) → IsBegun shape.k f (slice_index_or lanes cloud lane)
  pub others : (i : ℕ) (lane : Lane) → i < shape.n → i ≢ cloud → IsIdle (slice_index_or lanes i lane)

-- ---- what a reply does

-- nothing that content may be is a reply to a lane's request
abbrev pub IsNoReply : List ℕ → Type 0
IsNoReply content = (lane : LaneView) (reply : Reply) → ¬ (IsReplyToLane lane content reply)

-- the content is this reply and no other
pub record IsOneReply (content : List ℕ) (reply : Reply) : Type 0 where
  pub is : IsReply content reply
  pub one : (other : Reply) → IsReply content other → other ≡ reply

abbrev pub IsReplyRead : List ℕ → Option Reply → Type 0
IsReplyRead content None = IsNoReply content
IsReplyRead content (Some reply) = IsOneReply content reply

-- a step is told and made; where there is none the lane is refused, with the first byte
abbrev pub TurnsBy : List ℕ → Option Step → Turn → Type 0
TurnsBy content None turn = (turn.result ≡ Err (errors.Strange (first_byte content))) × (turn.next ≡ Some stages.Refused)
TurnsBy content (Some step) turn = (turn.result ≡ Ok step.news) × (turn.next ≡ step.next)
