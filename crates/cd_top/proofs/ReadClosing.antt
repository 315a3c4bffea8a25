-- From a read's end to the end of the program: the last line, and what its failure changes.
use Rattle.std.proofs.Common.{◌≡◌, ℕ, List, [], ◌++◌, Option, inl, inr, refl, sym, ap, ◌∙◌, subst, subst₂}
use Rattle.std.proofs.Common.{append-nil}
use Rattle.std.specs.Prelude.{IsTrue}
use Rattle.std.specs.Io.KnownBytes.{Appends}
use Rattle.delete_command.specs.CdEdges.Causes.{Rose}
use Rattle.delete_command.specs.CdEdges.Disk.{Cloud}
use Rattle.command_words.specs.JournalStart.rooms.UserRooms.{UserRooms}
use Rattle.delete_command.specs.UserDedup.command.Command.{Command}
use Rattle.read_command.specs.declared.end.ReadEnd.{ReadEnd}
use Rattle.read_command.specs.declared.end.ReadEnd.TheVariants as ends
use Rattle.read_command.specs.Disks.{AreReadable, IsSpared, KeepsDisks}
use Rattle.read_command.specs.Ends.{Outside, CountsSink, WritesWhatIsDue, GivesAnyway, IsOfOpening, IsWrittenByEnd}
use Rattle.read_command.specs.KeptFiles.Kept.{key_of}
use Rattle.command_words.specs.Asked.{AskedRead}
use Rattle.migrate_command.proofs.ServeCommand.Texts.{appends_nothing}
use Rattle.cd_top.specs.Read.{Around, IsReadClosed, IsVersionRead, ReadTo, NoPlace, given_of}
use Rattle.cd_top.specs.Read.{last_line, status_of}
use Rattle.cd_top.specs.Replay.{WritesFront}
use Rattle.cd_top.proofs.Texts.{appends_both}

-- where the openings ended it the sink wasn't called
still : (end : ReadEnd) (before now : ℕ) → IsOfOpening end → CountsSink before now end → now ≡ before
still ends.Done before now is counts = absurd is
still ends.Refused before now is counts = absurd is
still (ends.NotBegun cloud len) before now is counts = counts
still (ends.Damaged cloud at byte) before now is counts = counts
still (ends.Other cloud found) before now is counts = counts
still (ends.ShelfFault cloud) before now is counts = counts
still ends.SinkFault before now is counts = absurd is
still ends.NoMemory before now is counts = absurd is

module _ (end : ReadEnd) (before middle : Option (List ℕ)) (faults count : ℕ) (text : List ℕ)
    (counts : CountsSink faults count end) (appends : Appends before middle text) where
  pub closes_read : (status : ℕ) → status ≡ status_of end → last_line end ≡ []
      → IsReadClosed status faults count end text before middle
  closes_read status is none = inl (
    is,
    subst (λ l. Appends before middle l) (sym (ap (λ l. text ++ l) none ∙ append-nil text)) appends,
    counts,
  )

  module _ (after : Option (List ℕ)) (now : ℕ) (last : List ℕ) (named : last_line end ≡ last) where
    pub says_why : (status : ℕ) → status ≡ status_of end → Appends middle after last → now ≡ count
        → IsReadClosed status faults now end text before after
    says_why status is written kept = inl (
      is,
      subst (λ l. Appends before after (text ++ l)) (sym named)
          (appends_both before middle after text last appends written),
      subst (λ n. CountsSink faults n end) (sym kept) counts,
    )

    module _ (opening : IsOfOpening end) (empty : text ≡ []) where
      nothing_yet : Appends before middle []
      nothing_yet = subst (λ l. Appends before middle l) empty appends

      pub fails_why : WritesFront last middle after → Rose count now → IsReadClosed 4 faults now end text before after
      fails_why front rose = inr (inl (
        refl,
        opening,
        subst (λ l. WritesFront l before after) (sym named) (record {
          text = front.text;
          more = front.more;
          front = front.front;
          written = appends_both before middle after [] front.text nothing_yet front.written;
        }),
        subst (λ n. Rose n now) (still end faults count opening counts) rose,
      ))

      pub forgets_why : after ≡ middle → now ≡ count → IsReadClosed 6 faults now end text before after
      forgets_why same kept = inr (inr (
        refl,
        opening,
        subst (λ o. Appends before o []) (sym same) nothing_yet,
        kept ∙ still end faults count opening counts,
      ))

-- ---- the whole read

nothing_said : (end : ReadEnd) (c : Outside) (r : AskedRead) (text : List ℕ) → IsOfOpening end
    → IsWrittenByEnd c r.shape r.user (key_of r.shape r.path r.version) r.clouds end text → text ≡ []
nothing_said ends.Done c r text is says = absurd is
nothing_said ends.Refused c r text is says = absurd is
nothing_said (ends.NotBegun cloud len) c r text is says = says.0
nothing_said (ends.Damaged cloud at byte) c r text is says = says.0
nothing_said (ends.Other cloud found) c r text is says = says.0
nothing_said (ends.ShelfFault cloud) c r text is says = says.0
nothing_said ends.SinkFault c r text is says = absurd is
nothing_said ends.NoMemory c r text is says = absurd is

-- DIR failed
pub no_place : (c : Around) (r : AskedRead) (before : Option (List ℕ)) → ((cloud : ℕ) → c.new cloud ≡ c.old cloud)
    → c.sink_after ≡ c.sink_before → Rose c.total_before c.total_after → IsVersionRead 5 c r before before
no_place c r before same kept rose =
    NoPlace refl (record { written = appends_nothing before; clouds = same; sink = kept }) rose

-- the naming of the place changed no cloud and no count
pub read_to : (status : ℕ) (r : AskedRead) (end : ReadEnd) (middle old new : ℕ → Cloud) (count total total_after : ℕ)
    (sink_before sink_middle sink_after : ℕ) (before written after : Option (List ℕ))
    → ((cloud : ℕ) → middle cloud ≡ old cloud) → count ≡ total
    → ((text : List ℕ) × Appends before written text × IsWrittenByEnd (record {
      total_before = count;
      total_after = total_after;
      old = middle;
      new = new;
    }) r.shape r.user (key_of r.shape r.path r.version) r.clouds end text
    × ((rooms : ℕ → UserRooms) (lists : ℕ → List Command) → AreReadable r.shape r.clouds middle rooms lists
    → WritesWhatIsDue (record {
      total_before = count;
      total_after = total_after;
      old = middle;
      new = new;
    }) r.clouds (given_of r lists) end text))
    → CountsSink sink_before sink_middle end → KeepsDisks r.shape r.clouds middle new
    → ((cloud : ℕ) → IsTrue (middle cloud).told → IsSpared (middle cloud) (new cloud))
    → ((cloud : ℕ) → (new cloud).armings ≡ (middle cloud).armings)
    → GivesAnyway (record {
      total_before = count;
      total_after = total_after;
      old = middle;
      new = new;
    }) r.shape r.user (key_of r.shape r.path r.version) r.clouds (end ≡ ends.Refused)
    → ((faults : ℕ) (text : List ℕ) (first : Option (List ℕ)) → CountsSink faults sink_middle end
    → Appends first written text → (IsOfOpening end → text ≡ [])
    → IsReadClosed status faults sink_after end text first after)
    → IsVersionRead status (record {
      sink_before = sink_before;
      sink_after = sink_after;
      total_before = total;
      total_after = total_after;
      old = old;
      new = new;
    }) r before after
read_to status r end middle old new count total total_after sink_before sink_middle sink_after before written after same
    kept reads counts disks areas unarmed anyway closes =
    subst₂ (λ (o : ℕ → Cloud) (n : ℕ). IsVersionRead status (record {
      sink_before = sink_before;
      sink_after = sink_after;
      total_before = n;
      total_after = total_after;
      old = o;
      new = new;
    }) r before after) (λ i cloud. same cloud i) kept (ReadTo end (record {
      text = reads.0;
      belongs = record { says = reads.2; gives = reads.3 };
      anyway = anyway;
      closed = closes sink_before reads.0 before counts reads.1 (λ is. nothing_said end (record {
        total_before = count;
        total_after = total_after;
        old = middle;
        new = new;
      }) r reads.0 is reads.2);
      kept = disks;
      areas = areas;
      armings = unarmed;
    }))
