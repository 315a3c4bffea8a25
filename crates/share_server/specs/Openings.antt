-- What an opening answers by the bytes of the areas.
use Rattle.std.specs.Prelude.{◌≡◌, ◌≢◌, ℕ, ◌+◌, ◌*◌, Bool, false, List, length, Result, Ok, Err}
use Rattle.server_requests.specs.CdEdges.area.Area.TheVariants.{Journal}
use Rattle.server_requests.specs.CdEdges.Disk.{Cloud, Image}
use Rattle.server_requests.specs.CommitJournal.errors.OpenErr.{OpenErr}
use Rattle.server_requests.specs.CommitJournal.errors.OpenErr.TheVariants.{Fault, NotBegun, Damaged, OtherStore}
use Rattle.server_requests.specs.CommitJournal.Openings.{HasHeader}
use Rattle.blob_copy.specs.JournalHalves.Beginnings.{IsUnbegun}
use Rattle.blob_copy.specs.JournalHalves.Halves.{half_len}
use Rattle.server_requests.specs.JournalStart.start.Header.{Header}
use Rattle.blob_copy.specs.CloudOpening.CloudMemory.Memory.{Memory}
use Rattle.blob_copy.specs.CloudOpening.Exact.{Opens}
use Rattle.blob_copy.specs.CloudOpening.Spared.{MayBegin}
use Rattle.blob_copy.specs.CloudOpening.Synced.{AreSynced}

-- What the bytes of a cloud's areas come to, record by record, with some memory.
abbrev pub OpensTo : Header → Bool → Image → Result ℕ OpenErr → Type 0
OpensTo header begin image result = (memory : Memory) × Opens header begin image memory result

-- NotBegun comes where no half of the journal is begun and none is to be, with the area's length, and after the three syncs alone. No other
-- answer comes there, unless a device call failed.
abbrev pub NotBegunIs : {T : Type 0} → Cloud → Cloud → Bool → Result T OpenErr → Type 0
NotBegunIs old new begin (Err (NotBegun len)) =
    IsUnbegun (old.now Journal).read × (begin ≡ false) × (len ≡ length (old.now Journal).read) × AreSynced old new
NotBegunIs old new begin (Err Fault) = Unit {0}
NotBegunIs old new begin (Ok value) = MayBegin (old.now Journal).read begin
NotBegunIs old new begin (Err (Damaged at byte)) = MayBegin (old.now Journal).read begin
NotBegunIs old new begin (Err (OtherStore found asked at)) = MayBegin (old.now Journal).read begin

-- Where the current half begins with a header, it is the asked one.
abbrev pub HasNoOther : List ℕ → Header → Type 0
HasNoOther journal asked = (half : ℕ) (found : Header) → HasHeader journal half found → found ≡ asked

-- OtherStore comes where the current half begins with another header than the asked one; it names both, and the place of the one that was
-- found. No other answer comes there, unless a device call failed.
abbrev pub OtherStoreIs : {T : Type 0} → List ℕ → Header → Result T OpenErr → Type 0
OtherStoreIs journal header (Err (OtherStore found asked at)) =
    (half : ℕ) × HasHeader journal half found × (found ≢ header) × (asked ≡ header) × (at ≡ half * half_len + 5)
OtherStoreIs journal header (Err Fault) = Unit {0}
OtherStoreIs journal header (Ok value) = HasNoOther journal header
OtherStoreIs journal header (Err (NotBegun len)) = HasNoOther journal header
OtherStoreIs journal header (Err (Damaged at byte)) = HasNoOther journal header
