-- The rooms of a cloud, and what comes of them.
use Rattle.std.proofs.Common.{◌≡◌, inl, inr, ℕ, IsTrue, Result, Err, sym, subst}
use Rattle.std.proofs.lemmas.Bool.Decides.{eqb_tells}
use Rattle.ports_link.specs.CdBase.ids.CloudNo.{CloudNo}
use Rattle.share_server.specs.CdEdges.area.Area.TheVariants.{Journal}
use Rattle.share_server.specs.CdEdges.Disk.{Cloud}
use Rattle.share_server.specs.CdEdges.Shelf.{IsCall, HasFailed, KeepsCounts, Stays}
use Rattle.share_server.specs.JournalStart.rooms.UserRooms.{UserRooms}
use Rattle.share_server.specs.JournalStart.Ranges.{AreRooms}
use Rattle.share_server.specs.CommitJournal.errors.OpenErr.{OpenErr}
use Rattle.share_server.specs.CommitJournal.errors.OpenErr.TheVariants as errors
use Rattle.share_server.specs.Serving.{an_error}
use Rattle.serve_command.specs.Served.{ServeCall, old_cloud, HasJournalRooms, IsUnreadable, IsUnfound, IsUnmade, IsUnopenedOrServed, IsInRooms, IsServed}
use Rattle.serve_command.specs.Steps.{IsClosedUnopened, CountsRoomSearch, IsUnmadeOrServed}
use Rattle.serve_command.proofs.Openings.{reported_by}

-- A call that changes nothing of its cloud's areas and no count leaves all clouds as they were.
module _ (old new : ℕ → Cloud) (number before now : ℕ) (call : IsCall old new number before now)
    (stays : Stays (old number) (new number)) (counts : KeepsCounts (old number) (new number) before now) where
  one_stays : new number ≡ old number
  one_stays = λ i. record {
    told = call.told i;
    faults = counts.cloud i;
    armings = call.armings i;
    armed = stays.armed i;
    past = stays.past i;
    now = stays.now i;
  }

  each_stays : (n : ℕ) → new n ≡ old n
  each_stays n = elim (eqb_tells n number) [
    | inl same ↦ subst (λ (m : ℕ). new m ≡ old m) (sym same.1) one_stays
    | inr apart ↦ call.others n apart.1
  ]

  pub all_stay : new ≡ old
  all_stay = λ i n. each_stays n i

-- what was served behind a search that left all as it was
pub behind : (rooms : UserRooms) (status : ℕ) (call : ServeCall) (old : ℕ → Cloud) (total : ℕ) → call.old ≡ old
    → call.total_before ≡ total → IsUnmadeOrServed rooms status call
    → IsUnmadeOrServed rooms status (record call { old = old; total_before = total })
behind rooms status call old total same still served =
    subst (λ (c : ℕ → Cloud). IsUnmadeOrServed rooms status (record call { old = c; total_before = total })) same
    (subst (λ (n : ℕ). IsUnmadeOrServed rooms status (record call { total_before = n })) still served)

-- the rooms were found
pub in_rooms : (rooms : UserRooms) (status : ℕ) (call : ServeCall) → AreRooms rooms
    → (IsTrue (old_cloud call).told → HasJournalRooms ((old_cloud call).now Journal).read rooms)
    → IsUnmadeOrServed rooms status call → IsServed status call
in_rooms rooms status call allowed found (inl unmade) = inl unmade
in_rooms rooms status call allowed found (inr served) =
    inr (inr (record { rooms = rooms; allowed = allowed; found = found; served = served }))

-- a search that ended with this error
abbrev pub no_rooms : OpenErr → Result UserRooms OpenErr
no_rooms error = Err error

-- the counts by an error are those of an opening that ends with it
counts_by : (old new : Cloud) (before now : ℕ) (error : OpenErr) → CountsRoomSearch old new before now (no_rooms error)
    → CountsRoomSearch old new before now (an_error error)
counts_by old new before now errors.Fault counts = counts
counts_by old new before now (errors.NotBegun len) counts = counts
counts_by old new before now (errors.Damaged at byte) counts = counts
counts_by old new before now (errors.OtherStore found asked at) counts = counts

-- they weren't
pub not_found : (call : ServeCall) (error : OpenErr) (status : ℕ) → IsUnreadable (old_cloud call) error
    → Stays (old_cloud call) (call.new call.cloud.0)
    → CountsRoomSearch (old_cloud call) (call.new call.cloud.0) call.total_before call.total_after (no_rooms error)
    → IsClosedUnopened call.cloud error call.out status → call.tells_after ≡ call.tells_before
    → call.ports_after ≡ call.ports_before → IsServed status call
not_found call error status unreadable stays counts closes tells ports = inr (inl (record {
  error = error;
  unreadable = unreadable;
  stays = stays;
  counts = counts_by (old_cloud call) (call.new call.cloud.0) call.total_before call.total_after error counts;
  reported = reported_by call error status closes tells ports;
}))
