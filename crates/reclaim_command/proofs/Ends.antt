-- A reclaim by an open server, behind the opening.
use Rattle.std.proofs.Common.{◌≡◌, ◌⊎◌, inl, inr, false, true, ℕ, IsTrue, List, Result, Ok, Err, refl, sym, ap, ◌∙◌, subst}
use Rattle.std.specs.Prelude.{IfOk, OnOk}
use Rattle.command_cloud.specs.BackupCommand.Writing.{Output, HasWrittenOrCause}
use Rattle.reclaim.specs.CdBase.ids.CloudNo.{CloudNo}
use Rattle.reclaim.specs.CdBase.shape.Shape.{Shape}
use Rattle.reclaim.specs.CdEdges.Disk.{Cloud, Image, IsImage, LeavesOnly}
use Rattle.reclaim.specs.CdEdges.Shelf.{HasFailed, KeepsCounts}
use Rattle.reclaim.proofs.CdEdges.Moments.{joined, weaker}
use Rattle.reclaim.specs.CloudAreas.Standing.{StandsFor}
use Rattle.reclaim.specs.CloudMemory.Rooms.{memory_of}
use Rattle.command_cloud.specs.ShareServer.Names.{header_of}
use Rattle.command_cloud.specs.ShareServer.Serving.{IsServing, number_of, settled_with}
use Rattle.command_cloud.specs.ShareServer.server.Server.{Server}
use Rattle.command_cloud.specs.CloudStore.Store.{ServesSome}
use Rattle.command_cloud.specs.Opened.{CloudCall, StandsWithin, cloud_call, header_within}
use Rattle.command_cloud.specs.Opens.{OpenedBy, OpensCloud}
use Rattle.command_cloud.specs.Said.{SaysUnopened}
use Rattle.command_cloud.specs.declared.opening.Unopened.{Unopened as OpeningErr}
use Rattle.command_cloud.specs.declared.opening.Unopened.TheVariants as unopened
use Rattle.command_cloud.proofs.Standing.{failed_since, kept_since, stands_still}
use Rattle.command_cloud.specs.CommitJournal.Openings.{MayBeBegun}
use Rattle.reclaim.specs.JournalStart.rooms.UserRooms.{UserRooms}
use Rattle.reclaim.specs.JournalStart.start.Header.{Header}
use Rattle.reclaim.specs.BlobCopy.Copying.{StandsForKept}
use Rattle.reclaim.specs.ShareServer.Copies.{OnReclaimFault}
use Rattle.reclaim.specs.ShareServer.copies.ReclaimErr.{ReclaimErr}
use Rattle.reclaim.specs.ShareServer.copies.ReclaimErr.TheVariants as errors
use Rattle.reclaim.specs.CompactMemories.alive.Reclaimed.{Reclaimed}
use Rattle.reclaim.specs.Reclaims.{KeepsLive}
use Rattle.reclaim.specs.Sums.{IsSumOf}
use Rattle.reclaim.specs.UserDedup.Compact.{compact}
use Rattle.reclaim.specs.UserDedup.Exec.{MaySettleAs}
use Rattle.reclaim.specs.UserDedup.command.Command.{Command}
use Rattle.reclaim_command.specs.GivenBack.{IsReclaimOf, IsReclaimed, MayBeLeft, Opened, StandsNow, Unmade, Unopened}
use Rattle.reclaim_command.specs.Said.{reclaim_status, reclaim_text}
use Rattle.reclaim_command.specs.Steps.{ReclaimedBy}

-- ---- by cases of the answer

on_ok : (result : Result Reclaimed ReclaimErr) (P Q : Type 0) → (P → Q) → OnOk result P → OnOk result Q
on_ok (Ok sum) P Q more p = more p
on_ok (Err errors.Fault) P Q more p = p
on_ok (Err (errors.Rotten named found)) P Q more p = p
on_ok (Err errors.NoMemory) P Q more p = p

if_ok : (result : Result Reclaimed ReclaimErr) (P Q : Reclaimed → Type 0) → ((sum : Reclaimed) → P sum → Q sum) → IfOk result P → IfOk result Q
if_ok (Ok sum) P Q more p = more sum p
if_ok (Err errors.Fault) P Q more p = p
if_ok (Err (errors.Rotten named found)) P Q more p = p
if_ok (Err errors.NoMemory) P Q more p = p

counts_since : (old mid new : Cloud) (before middle now : ℕ) (still : KeepsCounts old mid before middle) (result : Result Reclaimed ReclaimErr)
    → OnReclaimFault result (HasFailed mid new middle now) (KeepsCounts mid new middle now)
    → OnReclaimFault result (HasFailed old new before now) (KeepsCounts old new before now)
counts_since old mid new before middle now still (Ok sum) counts = kept_since old mid new before middle now still counts
counts_since old mid new before middle now still (Err errors.Fault) counts = failed_since old mid new before middle now still counts
counts_since old mid new before middle now still (Err (errors.Rotten named found)) counts = kept_since old mid new before middle now still counts
counts_since old mid new before middle now still (Err errors.NoMemory) counts = kept_since old mid new before middle now still counts

-- ---- a server that serves a list, with nothing pending

settles : (list other : List Command) (cloud : Cloud) → MaySettleAs (settled_with list cloud) other → other ≡ list
settles list other cloud (inl same) = same
settles list other cloud (inr none) = absurd none

stands_now : (server : Server) (header : Header) (cloud : Cloud) (list : List Command) → server.store.header ≡ header
    → IsServing server cloud (settled_with list cloud) → StandsNow header cloud list
stands_now server header cloud list is serving = subst (λ (h : Header). StandsNow h cloud list) is (record {
  images = λ image left.
      let some = serving.stands.images image left in
      subst (λ (l : List Command). StandsFor image server.store.header l) (settles list some.0 cloud some.1) some.2;
  within = serving.within list (inl refl);
})

-- ---- images

-- an opening that begins nothing leaves what a crash might have left
as_before : (old : Cloud) (header : Header) (image : Image) → MayBeBegun old.now header false image → IsImage old.now image
as_before old header image (inl left) = left
as_before old header image (inr begun) = absurd (let never : false ≡ true = begun.0 in cc)

module _ (shape : Shape) (cloud : CloudNo) (rooms : UserRooms) (server : Server) (old mid new : Cloud) (before middle now : ℕ) (out : Output)
    (status : ℕ) (told : mid.told ≡ old.told) (first : OpenedBy rooms server (cloud_call shape cloud old mid before middle)) where
  abbrev whole : CloudCall
  whole = cloud_call shape cloud old new before now

  abbrev then_call : CloudCall
  then_call = cloud_call server.store.header.shape server.store.header.cloud mid new middle now

  -- the server has the header of the cloud's own rooms
  own_is : (own : UserRooms) (list : List Command) → StandsWithin whole own list → server.store.header ≡ header_within own whole
  own_is own list s = first.header_is ∙ ap (λ (r : UserRooms). header_within r whole)
      (sym (first.opened.own_rooms own list (stands_still shape cloud old mid new before middle now own list s)))

  serves : (own : UserRooms) (list : List Command) → StandsWithin whole own list → ServesSome list server.store mid
  serves own list s = (first.served own list (stands_still shape cloud old mid new before middle now own list s)).ready first.at_end

  module _ (by : ReclaimedBy server then_call out status) where
    moments : (own : UserRooms) (list : List Command) → StandsWithin whole own list → LeavesOnly old new (MayBeLeft whole own list)
    moments own list s = joined old mid new (MayBeLeft whole own list)
        (weaker old mid _ (MayBeLeft whole own list) (first.opened.spared s.told).any_moment
        (λ image left. inl (as_before old (header_within rooms whole) image left)))
        (weaker mid new _ (MayBeLeft whole own list) (by.any_moment list (serves own list s))
        (λ image left. inr (subst (λ (h : Header). StandsForKept h list image) (own_is own list s) left)))

    compacted : (own : UserRooms) (list : List Command) → StandsWithin whole own list
        → OnOk by.result (StandsNow (header_within own whole) new (compact shape list))
    compacted own list s = on_ok by.result _ (StandsNow (header_within own whole) new (compact shape list))
        (λ serving. subst (λ (h : Header). StandsNow h new (compact h.shape list)) (own_is own list s)
        (stands_now by.after server.store.header new (compact server.store.header.shape list) by.same serving))
        (by.serving list (serves own list s))

    reclaim_of : IsReclaimOf server.store.memory server.store.region mid by.after.store.memory whole by.result
    reclaim_of = record {
      any_moment = moments;
      compacted = compacted;
      kept = λ own list s. on_ok by.result _ (KeepsLive shape list (memory_of by.after.store.memory))
          (λ kept. subst (λ (h : Header). KeepsLive h.shape list (memory_of by.after.store.memory)) first.header_is kept)
          (by.kept list (serves own list s));
      answers = λ own list s. by.answers list (serves own list s);
      sums = λ own list s. if_ok by.result _ (IsSumOf shape list)
          (λ sum is. subst (λ (h : Header). IsSumOf h.shape list sum) first.header_is is)
          (by.sums list (serves own list s));
      sum = by.sum;
      moved = by.moved;
      whole = λ is. by.whole (told ∙ is);
      rotten = λ is. by.rotten (told ∙ is);
      spared = λ is. by.spared (told ∙ is);
      counts = counts_since old mid new before middle now first.still by.result by.counts;
    }

    pub reclaimed : IsReclaimed status whole out
    reclaimed = Opened rooms server.store.memory server.store.region mid middle by.after.store.memory by.result first.opened
        reclaim_of
        (subst (λ (h : Header). HasWrittenOrCause (reclaim_text h.cloud by.result) (reclaim_status by.result) out status) first.header_is by.written)

-- ---- a cloud that isn't opened

pub unopened_reclaim : (call : CloudCall) (why : OpeningErr) (out : Output) (status : ℕ) → OpensCloud call (Err why)
    → SaysUnopened call.cloud why out status → IsReclaimed status call out
unopened_reclaim call unopened.NoMemory out status opens says = Unmade says.0 says.1 opens
unopened_reclaim call (unopened.Refused error) out status opens says = Unopened error opens says

-- ---- the same by the number of the cloud that the server has

pub reclaimed_at : (rooms : UserRooms) (server : Server) (shape : Shape) (cloud : CloudNo) (old new : ℕ → Cloud) (before now : ℕ) (out : Output)
    (status : ℕ) → server.store.header ≡ header_of shape rooms cloud.0
    → ReclaimedBy server (cloud_call server.store.header.shape server.store.header.cloud (old (number_of server)) (new (number_of server)) before now) out status
    → ReclaimedBy server (cloud_call server.store.header.shape server.store.header.cloud (old cloud.0) (new cloud.0) before now) out status
reclaimed_at rooms server shape cloud old new before now out status is by = subst (λ (h : Header). ReclaimedBy server
    (cloud_call server.store.header.shape server.store.header.cloud (old h.cloud.0) (new h.cloud.0) before now) out status) is by
