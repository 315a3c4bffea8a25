-- What is written at the end of a read.
use Rattle.std.proofs.Common.{◌≡◌, ℕ, List, [], ◌∷◌, refl, sym, subst, inl, inr, ◌⊎◌, append-nil}
use Rattle.std.specs.Prelude.{Option, Some, None, Result, Ok, Err}
use Rattle.std.specs.Io.KnownBytes.{Appends}
use Rattle.std.specs.List.{Contains}
use Rattle.std.proofs.lemmas.List.Elements.{Contains-append_right}
use Rattle.commit_journal.specs.declared.errors.OpenErr.TheVariants as errors
use Rattle.cloud_areas.proofs.UserDedup.Owned.{contains_here}
use Rattle.cloud_areas.specs.UserDedup.command.Command.{Command}
use Rattle.commit_journal.specs.JournalStart.rooms.UserRooms.{UserRooms}
use Rattle.subset_restore.specs.RestoreJob.error.RestoreErr.{RestoreErr}
use Rattle.read_command.specs.declared.wanted.Wanted.{Wanted}
use Rattle.read_command.specs.declared.end.ReadEnd.{ReadEnd}
use Rattle.read_command.specs.declared.end.ReadEnd.TheVariants as ends
use Rattle.read_command.specs.Disks.{AreReadable, IsStoppedAtCloud}
use Rattle.read_command.specs.Opening.{EndsOpening, IsFailedOrNoMemory}
use Rattle.subset_restore.specs.Refusals.{refusal_text}
use Rattle.read_command.specs.Ends.{Outside, CameDue, Due, IsBroughtFile, IsFileDue, IsRefusalDue, IsRefusalLine, IsText, IsReadWritten}
use Rattle.read_command.specs.Ends.{GivesAnyway, EndsRead, Restored, given_of}
use Rattle.kept_files.specs.Kept.{key_of}

pub nothing_more : (w : Option (List ℕ)) → Appends w w []
nothing_more None = tt
nothing_more (Some bytes) = sym (append-nil bytes)

-- a whole text that came of a restore
whole_said : (c : Outside) (r : Wanted) (came : Result (Unit {0}) RestoreErr) (file text : List ℕ) → Restored c r came file → IsText came file text
    → (let key = key_of r.shape r.path.now r.version in IsBroughtFile c r.shape r.user key r.clouds.now text ⊎ IsRefusalLine c r.shape r.user key r.clouds.now text)
whole_said c r (Ok u) file text is same = inl (subst (IsBroughtFile c r.shape r.user (key_of r.shape r.path.now r.version) r.clouds.now) (sym same) is.came_to)
whole_said c r (Err e) file text is same = inr (e, same.0, same.1, same.2, is.came_to)

whole_due : (c : Outside) (r : Wanted) (came : Result (Unit {0}) RestoreErr) (file text : List ℕ) (due : Due) → CameDue c r.clouds.now due came file
    → IsText came file text → IsFileDue c r.clouds.now due text ⊎ IsRefusalDue c r.clouds.now due text
whole_due c r (Ok u) file text due is same = inl (subst (IsFileDue c r.clouds.now due) (sym same) is)
whole_due c r (Err e) file text due is same = inr (subst (IsRefusalDue c r.clouds.now due) (sym same.2) (is same.0 same.1))

-- what was written of a restore
pub reads_whole : (c : Outside) (r : Wanted) (came : Result (Unit {0}) RestoreErr) (file : List ℕ) (old new : Option (List ℕ)) (end : ReadEnd)
    → Restored c r came file → IsReadWritten came file old new end → EndsRead c r end old new
reads_whole c r came file old new ends.Done is w =
    let i = subst (λ (x : Result (Unit {0}) RestoreErr). Restored c r x file) w.1 is in
    (file, w.2, (i.opened, i.came_to), λ rooms lists are. i.due rooms lists are)
reads_whole c r came file old new ends.Refused is w =
    let i = subst (λ (x : Result (Unit {0}) RestoreErr). Restored c r x file) w.2 is in
    (refusal_text w.1, w.4, (i.opened, (w.0, w.1, w.3, refl, i.came_to)), λ rooms lists are. i.due rooms lists are w.1 w.3)
reads_whole c r came file old new ends.SinkFault is w = (
  w.1,
  w.5,
  (is.opened, (w.0, w.2, w.4, whole_said c r came file w.0 is w.3)),
  λ rooms lists are. (w.0, w.2, w.4, whole_due c r came file w.0 (given_of r lists) (is.due rooms lists are) w.3),
)
reads_whole c r came file old new ends.NoMemory is w = ([], w, (refl, tt), λ rooms lists are. tt)
reads_whole c r came file old new (ends.NotBegun cloud len) is w = absurd w
reads_whole c r came file old new (ends.Damaged cloud at byte) is w = absurd w
reads_whole c r came file old new (ends.Other cloud found) is w = absurd w
reads_whole c r came file old new (ends.ShelfFault cloud) is w = absurd w

-- a choice of readable clouds isn't refused
pub whole_anyway : (c : Outside) (r : Wanted) (came : Result (Unit {0}) RestoreErr) (file : List ℕ) (old new : Option (List ℕ)) (end : ReadEnd)
    → Restored c r came file → IsReadWritten came file old new end → GivesAnyway c r.shape r.user (key_of r.shape r.path.now r.version) r.clouds.now (end ≡ ends.Refused)
whole_anyway c r came file old new end is w rooms lists chosen bytes has are given free same =
    let refused = subst (λ (x : ReadEnd). IsReadWritten came file old new x) same w in
    is.anyway rooms lists chosen bytes has are given free (refused.0, refused.1, refused.2, refused.3)

-- the openings ended it
pub reads_stopped : (c : Outside) (r : Wanted) (w : Option (List ℕ)) (end : ReadEnd) → EndsOpening r.shape r.clouds.now c.old c.new c.total_before c.total_after end
    → ((rooms : ℕ → UserRooms) (lists : ℕ → List Command) → AreReadable r.shape r.clouds.now c.old rooms lists → IsFailedOrNoMemory end) → EndsRead c r end w w
reads_stopped c r w (ends.NotBegun cloud len) stops free = ([], nothing_more w, (refl, stops), λ rooms lists are. free rooms lists are)
reads_stopped c r w (ends.Damaged cloud at byte) stops free = ([], nothing_more w, (refl, stops), λ rooms lists are. free rooms lists are)
reads_stopped c r w (ends.Other cloud found) stops free = ([], nothing_more w, (refl, stops), λ rooms lists are. free rooms lists are)
reads_stopped c r w (ends.ShelfFault cloud) stops free = ([], nothing_more w, (refl, stops), λ rooms lists are. in_place cloud.0 stops.0)
  where
    in_place : (number : ℕ) → IsStoppedAtCloud r.shape r.clouds.now c.old c.new number errors.Fault → Contains r.clouds.now number
    in_place number s = subst (λ (l : List ℕ). Contains l number) (sym s.place) (Contains-append_right s.front (number ∷ s.rest) number (contains_here number s.rest))
reads_stopped c r w ends.NoMemory stops free = ([], nothing_more w, (refl, tt), λ rooms lists are. tt)
reads_stopped c r w ends.Done stops free = absurd stops
reads_stopped c r w ends.Refused stops free = absurd stops
reads_stopped c r w ends.SinkFault stops free = absurd stops
