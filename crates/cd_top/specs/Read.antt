-- What the words `read DIR N K USER PATH VERSION CLOUDS` promise.
use Rattle.std.specs.Prelude.{◌≡◌, ℕ, ◌⊎◌, List, [], ◌++◌, IsTrue, Option}
use Rattle.delete_command.specs.CdEdges.Disk.{Cloud}
use Rattle.std.specs.Io.KnownBytes.{Appends}
use Rattle.delete_command.specs.CdEdges.Causes.{Rose}
use Rattle.command_words.specs.JournalStart.rooms.UserRooms.{UserRooms}
use Rattle.read_command.specs.KeptFiles.Kept.{key_of}
use Rattle.two_worlds.specs.Transcript.ending.Ending.TheVariants as endings
use Rattle.two_worlds.specs.Transcript.Endings.{ending_text}
use Rattle.delete_command.specs.UserDedup.command.Command.{Command}
use Rattle.read_command.specs.declared.end.ReadEnd.{ReadEnd}
use Rattle.read_command.specs.declared.end.ReadEnd.TheVariants as ends
use Rattle.read_command.specs.Disks.{AreReadable, IsSpared, KeepsDisks}
use Rattle.read_command.specs.Ends.{Outside, CountsSink, Due, WritesWhatIsDue, GivesAnyway, IsOfOpening, IsWrittenByEnd}
use Rattle.read_command.specs.Ends.{due_of}
use Rattle.command_words.specs.Asked.{AskedRead}
use Rattle.cd_top.specs.Replay.{WritesFront}

-- what the sink and the shelf tell of a call: how many of their calls had failed before and after, and the clouds before
-- and after
pub record Around : Type 0 where
  pub sink_before : ℕ
  pub sink_after : ℕ
  pub total_before : ℕ
  pub total_after : ℕ
  pub old : ℕ → Cloud
  pub new : ℕ → Cloud

-- a call by the count of its sink, and the count and the clouds of its shelf, each before and after
abbrev pub around_call : ℕ → ℕ → ℕ → ℕ → (ℕ → Cloud) → (ℕ → Cloud) → Around
around_call sink sink_after total total_after old new = record {
  sink_before = sink;
  sink_after = sink_after;
  total_before = total;
  total_after = total_after;
  old = old;
  new = new;
}

-- the shelf alone
abbrev pub outside : Around → Outside
outside c = record {
  total_before = c.total_before;
  total_after = c.total_after;
  old = c.old;
  new = c.new;
}

-- the status of a read that ended so
abbrev pub status_of : ReadEnd → ℕ
status_of ends.Done = 0
status_of ends.SinkFault = 4
status_of (ends.ShelfFault cloud) = 5
status_of ends.NoMemory = 6
status_of (ends.NotBegun cloud len) = 7
status_of (ends.Damaged cloud at byte) = 7
status_of (ends.Other cloud found) = 7
status_of ends.Refused = 8

-- the bytes of its last line, which isn't written yet
abbrev pub last_line : ReadEnd → List ℕ
last_line (ends.ShelfFault cloud) = ending_text (endings.Shelf cloud)
last_line (ends.NotBegun cloud len) = ending_text (endings.NotBegun cloud len)
last_line (ends.Damaged cloud at byte) = ending_text (endings.Damaged cloud at byte)
last_line (ends.Other cloud found) =
    ending_text (endings.Other cloud found.format found.shape.n found.shape.k found.cloud)
last_line end = []

-- what lists give of the version that is asked for: any K of the clouds, and each choice of K of them
abbrev pub given_of : AskedRead → (ℕ → List Command) → Due
given_of r lists = due_of r.shape r.user (key_of r.shape r.path r.version) r.clouds lists

-- The text is that of the end: whatever is told, by what the named clouds' disks open to; and over named clouds that are
-- told, begun and stand for lists, each within rooms of its own, by what these lists give.
pub record BelongsTo (c : Outside) (r : AskedRead) (end : ReadEnd) (text : List ℕ) : Type 0 where
  pub says : IsWrittenByEnd c r.shape r.user (key_of r.shape r.path r.version) r.clouds end text
  pub gives : (rooms : ℕ → UserRooms) (lists : ℕ → List Command) → AreReadable r.shape r.clouds c.old rooms lists
      → WritesWhatIsDue c r.clouds (given_of r lists) end text

-- The text and the last line were written, and the status is the end's; or the sink failed within the last line; or
-- memory ran out before it. The sink's counts are those before and after the read.
abbrev pub IsReadClosed : ℕ → ℕ → ℕ → ReadEnd → List ℕ → Option (List ℕ) → Option (List ℕ) → Type 0
IsReadClosed status faults now end text before after =
    ((status ≡ status_of end) × Appends before after (text ++ last_line end) × CountsSink faults now end)
    ⊎ (((status ≡ 4) × IsOfOpening end × WritesFront (last_line end) before after × Rose faults now)
    ⊎ ((status ≡ 6) × IsOfOpening end × Appends before after [] × (now ≡ faults)))

-- A read came to this end. Where the clouds of some K of those named are readable and their lists give the file, and no
-- count of theirs rose, it isn't that the read is refused, whatever the other named clouds are. No cloud was armed.
pub record IsReadTo (status : ℕ) (c : Around) (r : AskedRead) (before after : Option (List ℕ)) (end : ReadEnd)
    : Type 0 where
  pub text : List ℕ
  pub belongs : BelongsTo (outside c) r end text
  pub anyway : GivesAnyway (outside c) r.shape r.user (key_of r.shape r.path r.version) r.clouds (end ≡ ends.Refused)
  pub closed : IsReadClosed status c.sink_before c.sink_after end text before after
  pub kept : KeepsDisks r.shape r.clouds c.old c.new
  pub areas : (cloud : ℕ) → IsTrue (c.old cloud).told → IsSpared (c.old cloud) (c.new cloud)
  pub armings : (cloud : ℕ) → (c.new cloud).armings ≡ (c.old cloud).armings

-- Nothing was written, no cloud changed, and the sink didn't fail.
pub record IsReadUntouched (c : Around) (before after : Option (List ℕ)) : Type 0 where
  pub written : Appends before after []
  pub clouds : (cloud : ℕ) → c.new cloud ≡ c.old cloud
  pub sink : c.sink_after ≡ c.sink_before

-- The whole promise. Memory ran out before all; or DIR failed; or the version was read to an end, and then each image
-- since of a named cloud stands for one of the lists that its images stood for, the other clouds are as they were, no
-- cloud was armed, and each told cloud is spared, whatever its areas hold.
pub data IsVersionRead (status : ℕ) (c : Around) (r : AskedRead) (before after : Option (List ℕ)) : Type 0 where
  Unread : status ≡ 6 → IsReadUntouched c before after → IsVersionRead status c r before after
  NoPlace : status ≡ 5 → IsReadUntouched c before after → Rose c.total_before c.total_after
      → IsVersionRead status c r before after
  ReadTo : (end : ReadEnd) → IsReadTo status c r before after end → IsVersionRead status c r before after
