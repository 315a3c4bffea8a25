-- How a read ends, and what is written then.
use Rattle.std.specs.Prelude.{◌≡◌, ℕ, ◌⊎◌, false, IsTrue, List, [], ◌∷◌, ◌++◌, Option, Some, Result, Ok, Err, OnOk, All}
use Rattle.std.specs.List.{Contains}
use Rattle.std.specs.Io.KnownBytes.{Appends}
use Rattle.commit_journal.specs.CdBase.Numbers.{numbers_of}
use Rattle.commit_journal.specs.CdBase.ids.CloudNo.{CloudNo}
use Rattle.commit_journal.specs.CdBase.ids.Fp.{Fp}
use Rattle.commit_journal.specs.CdBase.ids.Tag.{Tag}
use Rattle.commit_journal.specs.CdBase.ids.UserId.{UserId}
use Rattle.commit_journal.specs.CdBase.ids.Version.{Version}
use Rattle.commit_journal.specs.CdBase.shape.Shape.{Shape}
use Rattle.commit_journal.specs.CdEdges.Causes.{Rose}
use Rattle.commit_journal.specs.CdEdges.Disk.{Cloud}
use Rattle.cloud_areas.specs.UserDedup.command.Command.{Command}
use Rattle.commit_journal.specs.JournalStart.rooms.UserRooms.{UserRooms}
use Rattle.commit_journal.specs.JournalStart.start.Header.{Header}
use Rattle.cloud_areas.specs.UserDedup.Link.{AddsNothing}
use Rattle.kept_files.specs.Kept.{key_of}
use Rattle.local_link.specs.CloudMemory.Memory.{Memory}
use Rattle.local_link.specs.Messages.Replies.{IsReply}
use Rattle.local_link.specs.Messages.Requests.{IsRequest}
use Rattle.local_link.specs.Messages.reply.Reply.TheVariants as replies
use Rattle.local_link.specs.Messages.request.Request.{Request}
use Rattle.local_link.specs.Messages.request.Request.TheVariants as requests
use Rattle.local_link.specs.ServerCommands.Entering.{ReadsBy}
use Rattle.local_link.specs.ServerCommands.Leaving.{IsFound}
use Rattle.local_link.specs.Tells.{IsSaidBy}
use Rattle.subset_restore.specs.RestoreJob.Asking.{is_lost}
use Rattle.subset_restore.specs.RestoreJob.Brought.{Brought}
use Rattle.subset_restore.specs.RestoreJob.Exchanges.{CloudExchange, RestoreRun}
use Rattle.subset_restore.specs.RestoreJob.Refusals.{Names}
use Rattle.subset_restore.specs.RestoreJob.Restored.{Unrestored, restored_file}
use Rattle.subset_restore.specs.RestoreJob.error.RestoreErr.{RestoreErr}
use Rattle.subset_restore.specs.RestoreJob.error.RestoreErr.TheVariants as errors
use Rattle.subset_restore.specs.Transcript.refusal.Refusal.{Refusal}
use Rattle.subset_restore.specs.Transcript.refusal.Refusal.TheVariants as refusals
use Rattle.subset_restore.specs.Refusals.{refusal_of, refusal_text}
use Rattle.subset_restore.specs.Restored.{restored_any}
use Rattle.subset_restore.specs.Subsets.{subsets}
use Rattle.read_command.specs.declared.wanted.Wanted.{Wanted}
use Rattle.read_command.specs.declared.end.ReadEnd.{ReadEnd}
use Rattle.read_command.specs.declared.end.ReadEnd.TheVariants as ends
use Rattle.read_command.specs.Disks.{AreReadable, InItsRooms, IsOpenedToRead, OpensWith}
use Rattle.read_command.specs.Opening.{EndsOpening}
use Rattle.read_command.specs.Refusals.{cloud_no, reason_of}

-- The shelf around a read: how many of its calls had failed in all, and its clouds.
pub record Outside : Type 0 where
  pub total_before : ℕ
  pub total_after : ℕ
  pub old : ℕ → Cloud
  pub new : ℕ → Cloud

-- What some clouds' lists give of a version: each choice of k of them, in order, what it gives, and what any k give.
pub record Due : Type 0 where
  pub choices : List (List ℕ)
  pub given : List ℕ → Result (List ℕ) Unrestored
  pub whole : Result (List ℕ) Unrestored

abbrev pub due_of : Shape → UserId → Tag × Version → List ℕ → (ℕ → List Command) → Due
due_of shape user key named lists = record {
  choices = subsets shape.k named;
  given = restored_file shape lists user key;
  whole = restored_any shape lists user key named;
}

-- what lists give of what is wanted
abbrev pub given_of : Wanted → (ℕ → List Command) → Due
given_of r lists = due_of r.shape r.user (key_of r.shape r.path.now r.version) r.clouds.now lists

-- ---- what a restore came to

-- each named cloud that is told opened
abbrev pub AllOpened : Outside → Shape → List ℕ → Type 0
AllOpened c shape named =
    (cloud : ℕ) → Contains named cloud → IsTrue (c.old cloud).told
    → InItsRooms shape cloud (c.old cloud) (λ (header : Header). IsOpenedToRead header (c.old cloud))

-- where a cloud's device failed its count rose
abbrev pub RoseBy : Outside → RestoreErr → Type 0
RoseBy c (errors.CloudFault cloud) = Rose (c.old cloud.0).faults (c.new cloud.0).faults
RoseBy c e = Unit {0}

-- the line of one of these clouds whose device failed
abbrev pub IsFaultLine : Outside → List ℕ → List ℕ → Type 0
IsFaultLine c clouds text = (cloud : ℕ) × Contains clouds cloud
    × (text ≡ refusal_text (refusals.Fault (cloud_no cloud))) × Rose (c.old cloud).faults (c.new cloud).faults

-- the line of the refusal that lists give
abbrev pub IsLineOf : Result (List ℕ) Unrestored → List ℕ → Type 0
IsLineOf given text =
    (why : Unrestored) × (said : Refusal) × (given ≡ Err why) × (reason_of why ≡ Some said) × (text ≡ refusal_text said)

-- the count rose of one of these clouds
abbrev pub HoldsFailed : Outside → List ℕ → Type 0
HoldsFailed c clouds = (cloud : ℕ) × Contains clouds cloud × Rose (c.old cloud).faults (c.new cloud).faults

-- The file doesn't come from this choice: its lists give none, or the count rose of one of its clouds.
abbrev pub IsNoneGiven : Outside → Due → List ℕ → Type 0
IsNoneGiven c due clouds = ((why : Unrestored) × (due.given clouds ≡ Err why)) ⊎ HoldsFailed c clouds

-- The file is what a choice gives, and from each choice in front of it none comes. It is what any k of the named clouds
-- give where no count of these rose.
pub record IsFileDue (c : Outside) (named : List ℕ) (due : Due) (file : List ℕ) : Type 0 where
  pub front : List (List ℕ)
  pub chosen : List ℕ
  pub rest : List (List ℕ)
  pub in_order : due.choices ≡ front ++ chosen ∷ rest
  pub given : due.given chosen ≡ Ok file
  pub before : All (IsNoneGiven c due) front
  pub exact : (HoldsFailed c named → ⊥) → due.whole ≡ Ok file

-- From no choice a file comes. The line is that of the refusal which the first choice gives, or of one of its clouds whose
-- device failed. It is that of any k of the named clouds where no count of these rose.
pub record IsRefusalDue (c : Outside) (named : List ℕ) (due : Due) (text : List ℕ) : Type 0 where
  pub first : List ℕ
  pub rest : List (List ℕ)
  pub in_order : due.choices ≡ first ∷ rest
  pub none : All (IsNoneGiven c due) due.choices
  pub line : IsLineOf (due.given first) text ⊎ IsFaultLine c first text
  pub exact : (HoldsFailed c named → ⊥) → IsLineOf due.whole text

-- Where the clouds of some choice are readable, the lists give a file from them, and no count of theirs rose, this doesn't
-- come, whatever the other named clouds are.
abbrev pub GivesAnyway : Outside → Shape → UserId → Tag × Version → List ℕ → Type 0 → Type 0
GivesAnyway c shape user key named It = (rooms : ℕ → UserRooms) (lists : ℕ → List Command) (chosen file : List ℕ)
    → Contains (subsets shape.k named) chosen → AreReadable shape chosen c.old rooms lists
    → restored_file shape lists user key chosen ≡ Ok file → (HoldsFailed c chosen → ⊥) → It → ⊥

-- ---- what the clouds said

-- What is said of the memory that the opening of a told cloud reads, in the rooms that its journal names.
abbrev pub ByMemory : Outside → Shape → ℕ → (Memory → Type 0) → Type 0
ByMemory c shape cloud P = IsTrue (c.old cloud).told → InItsRooms shape cloud (c.old cloud) (λ (header : Header).
    OpensWith header (c.old cloud) P)

-- What a refusal says of its cloud's memory. Missing: it has no entry of the version. Rotten: what lies at the place that it
-- has for the entry, or for a share, is another or shorter. Damaged never comes.
abbrev pub SaysOf : Outside → Shape → UserId → Tag × Version → RestoreErr → Type 0
SaysOf c shape user key (errors.Missing cloud) =
    ByMemory c shape cloud.0 (λ m. ReadsBy m (requests.GetRecipe user key.0 key.1) replies.Missing)
SaysOf c shape user key (errors.CloudRotten cloud named found) = ByMemory c shape cloud.0 (λ m.
    IsFound (c.old cloud.0) m (requests.GetRecipe user key.0 key.1) named found
    ⊎ ((fps : List Fp) × IsFound (c.old cloud.0) m (requests.GetShares user fps) named found))
SaysOf c shape user key (errors.CloudDamaged cloud at byte) = ByMemory c shape cloud.0 (λ m. ⊥)
SaysOf c shape user key e = Unit {0}

-- A cloud's reply is Fault, and its count rose; or it is what its memory says: a recipe has the fingerprint of the memory's
-- entry, and shares have those that were asked for.
abbrev pub IsSaid : Outside → Shape → CloudExchange → Type 0
IsSaid c shape x = ByMemory c shape x.cloud
    (λ m. (r : Request) → IsRequest x.request r → AddsNothing r
    → (IsReply x.reply replies.Fault × Rose (c.old x.cloud).faults (c.new x.cloud).faults)
    ⊎ IsSaidBy (c.old x.cloud) m r x.reply)

-- The result comes of what k of the named clouds were asked and said, in order; and what each of them said that is told is
-- what its memory says, or Fault.
pub record CameOf (c : Outside) (shape : Shape) (user : UserId) (key : Tag × Version) (named : List ℕ)
    (result : Result (Unit {0}) RestoreErr) (file : List ℕ) : Type 0 where
  pub chosen : List CloudNo
  pub in_order : Contains (subsets shape.k named) (numbers_of chosen)
  pub log : List CloudExchange
  pub left : List ℕ
  pub run : RestoreRun shape user key.0 key.1 chosen log [] left result
  pub stands : OnOk result (file ≡ left)
  pub said : (x : CloudExchange) → Contains log x → Contains named x.cloud → IsSaid c shape x

-- A refusal names no other clouds than the named ones, and is no lost ask. A device failed only where its count rose. It
-- comes of what the clouds said, and says what the memory has of the cloud that it names.
pub record IsRefusalOfNamed (c : Outside) (shape : Shape) (user : UserId) (key : Tag × Version) (named : List ℕ)
    (e : RestoreErr) : Type 0 where
  pub names : Names (Contains named) e
  pub rose : RoseBy c e
  pub found : let came : Result (Unit {0}) RestoreErr = Err e in is_lost came ≡ false
  pub says : SaysOf c shape user key e
  pub came : (why : Refusal) → refusal_of e ≡ Some why → CameOf c shape user key named (Err e) []

-- The bytes are what strings open to which the recipes of k of the clouds name, and come of what the clouds said.
pub record IsBroughtFile (c : Outside) (shape : Shape) (user : UserId) (key : Tag × Version) (named : List ℕ)
    (file : List ℕ) : Type 0 where
  pub chosen : List ℕ
  pub in_order : Contains (subsets shape.k named) chosen
  pub brought : Brought shape chosen [] file
  pub came : CameOf c shape user key named (Ok tt) file

-- What a restore came to, whatever is told: the bytes that strings open to which the recipes of k clouds name; or a
-- refusal.
abbrev pub CameTo : Outside → Shape → UserId → Tag × Version → List ℕ → Result (Unit {0}) RestoreErr → List ℕ → Type 0
CameTo c shape user key named (Ok u) file = IsBroughtFile c shape user key named file
CameTo c shape user key named (Err e) file = IsRefusalOfNamed c shape user key named e

-- What it came to where this is due.
abbrev pub CameDue : Outside → List ℕ → Due → Result (Unit {0}) RestoreErr → List ℕ → Type 0
CameDue c named due (Ok u) file = IsFileDue c named due file
CameDue c named due (Err e) file =
    (why : Refusal) → refusal_of e ≡ Some why → IsRefusalDue c named due (refusal_text why)

-- it was refused, and not for want of memory
abbrev pub IsReadRefused : Result (Unit {0}) RestoreErr → Type 0
IsReadRefused came = (e : RestoreErr) × (why : Refusal) × (came ≡ Err e) × (refusal_of e ≡ Some why)

-- The named clouds were opened, and the version restored from them.
pub record Restored (c : Outside) (r : Wanted) (came : Result (Unit {0}) RestoreErr) (file : List ℕ) : Type 0 where
  pub opened : AllOpened c r.shape r.clouds.now
  pub came_to : CameTo c r.shape r.user (key_of r.shape r.path.now r.version) r.clouds.now came file
  pub due : (rooms : ℕ → UserRooms) (lists : ℕ → List Command) → AreReadable r.shape r.clouds.now c.old rooms lists
      → CameDue c r.clouds.now (given_of r lists) came file
  pub anyway : GivesAnyway c r.shape r.user (key_of r.shape r.path.now r.version) r.clouds.now (IsReadRefused came)

-- ---- what is written

-- what is to be written of it
abbrev pub IsText : Result (Unit {0}) RestoreErr → List ℕ → List ℕ → Type 0
IsText (Ok u) file text = text ≡ file
IsText (Err e) file text = (why : Refusal) × (refusal_of e ≡ Some why) × (text ≡ refusal_text why)

-- the sink's count rose where it failed, and else stayed
abbrev pub CountsSink : ℕ → ℕ → ReadEnd → Type 0
CountsSink before now ends.SinkFault = Rose before now
CountsSink before now end = now ≡ before

-- The bytes were written; or the sink failed, and a front of them was written; or memory ran out, and nothing was.
abbrev pub WritesBytes : Option (List ℕ) → Option (List ℕ) → ℕ → ℕ → List ℕ → Result (Unit {0}) ReadEnd → Type 0
WritesBytes old new before now bytes (Ok u) = Appends old new bytes × (now ≡ before)
WritesBytes old new before now bytes (Err ends.SinkFault) =
    ((front : List ℕ) × (rest : List ℕ) × (bytes ≡ front ++ rest) × Appends old new front) × Rose before now
WritesBytes old new before now bytes (Err ends.NoMemory) = Appends old new [] × (now ≡ before)
WritesBytes old new before now bytes (Err end) = ⊥

-- the text that was due is written, a front of it, or nothing
abbrev pub IsReadWritten : Result (Unit {0}) RestoreErr → List ℕ → Option (List ℕ) → Option (List ℕ) → ReadEnd → Type 0
IsReadWritten came file old new ends.Done = (u : Unit {0}) × (came ≡ Ok u) × Appends old new file
IsReadWritten came file old new ends.Refused =
    (e : RestoreErr) × (why : Refusal) × (came ≡ Err e) × (refusal_of e ≡ Some why) × Appends old new (refusal_text why)
IsReadWritten came file old new ends.SinkFault = (text : List ℕ) × (front : List ℕ) × (rest : List ℕ)
    × IsText came file text × (text ≡ front ++ rest) × Appends old new front
IsReadWritten came file old new ends.NoMemory = Appends old new []
IsReadWritten came file old new end = ⊥

-- ---- the whole read

-- the line of a refusal
abbrev pub IsRefusalLine : Outside → Shape → UserId → Tag × Version → List ℕ → List ℕ → Type 0
IsRefusalLine c shape user key named text =
    (e : RestoreErr) × (why : Refusal)
    × (refusal_of e ≡ Some why) × (text ≡ refusal_text why) × IsRefusalOfNamed c shape user key named e

-- What is written by the end, whatever is told. Behind the openings it is a file or a refusal, whole; or a front of it,
-- where the sink failed. Where the openings end, or memory ran out, nothing is written.
abbrev pub IsWrittenByEnd : Outside → Shape → UserId → Tag × Version → List ℕ → ReadEnd → List ℕ → Type 0
IsWrittenByEnd c shape user key named ends.Done text = AllOpened c shape named
    × IsBroughtFile c shape user key named text
IsWrittenByEnd c shape user key named ends.Refused text = AllOpened c shape named
    × IsRefusalLine c shape user key named text
IsWrittenByEnd c shape user key named ends.SinkFault text = AllOpened c shape named
    × ((whole : List ℕ) × (rest : List ℕ) × (whole ≡ text ++ rest)
    × (IsBroughtFile c shape user key named whole ⊎ IsRefusalLine c shape user key named whole))
IsWrittenByEnd c shape user key named end text =
    (text ≡ []) × EndsOpening shape named c.old c.new c.total_before c.total_after end

-- What is written by the end, over clouds of which this is due: the file; its refusal, or that of a cloud whose device
-- failed; a front of these, where the sink failed. Else a device failed as it was opened, or memory ran out.
abbrev pub WritesWhatIsDue : Outside → List ℕ → Due → ReadEnd → List ℕ → Type 0
WritesWhatIsDue c named due ends.Done text = IsFileDue c named due text
WritesWhatIsDue c named due ends.Refused text = IsRefusalDue c named due text
WritesWhatIsDue c named due ends.SinkFault text = (whole : List ℕ) × (rest : List ℕ) × (whole ≡ text ++ rest)
    × (IsFileDue c named due whole ⊎ IsRefusalDue c named due whole)
WritesWhatIsDue c named due (ends.ShelfFault cloud) text = Contains named cloud.0
WritesWhatIsDue c named due ends.NoMemory text = Unit {0}
WritesWhatIsDue c named due (ends.NotBegun cloud len) text = ⊥
WritesWhatIsDue c named due (ends.Damaged cloud at byte) text = ⊥
WritesWhatIsDue c named due (ends.Other cloud found) text = ⊥

-- A read ended so, over what was written before and what is written now.
abbrev pub EndsRead : Outside → Wanted → ReadEnd → Option (List ℕ) → Option (List ℕ) → Type 0
EndsRead c r end before now = (text : List ℕ) × Appends before now text
    × IsWrittenByEnd c r.shape r.user (key_of r.shape r.path.now r.version) r.clouds.now end text
    × ((rooms : ℕ → UserRooms) (lists : ℕ → List Command) → AreReadable r.shape r.clouds.now c.old rooms lists
    → WritesWhatIsDue c r.clouds.now (given_of r lists) end text)

-- The end is that of an opening: no cloud was asked for anything.
abbrev pub IsOfOpening : ReadEnd → Type 0
IsOfOpening ends.Done = ⊥
IsOfOpening ends.Refused = ⊥
IsOfOpening ends.SinkFault = ⊥
IsOfOpening ends.NoMemory = ⊥
IsOfOpening end = Unit {0}
