-- A note, and what is kept behind it.
use Rattle.std.proofs.Common.{◌≡◌, inl, inr, ◌↔◌, ℕ, zero, suc, ◌<◌, Bool, true, false, IsTrue, List, [], ◌∷◌, ◌++◌, length, append-nil, Ok, Err, refl, sym, ap, subst, arith}
use Rattle.std.specs.Prelude.{Result}
use Rattle.upload_spool.specs.CdBase.ids.CloudNo.{CloudNo}
use Rattle.upload_spool.specs.CdBase.shape.Shape.{Shape}
use Rattle.upload_spool.specs.CdEdges.Disk.{Cloud, Image}
use Rattle.upload_spool.proofs.CdEdges.Moments.{started, weaker, at_end}
use Rattle.upload_spool.specs.UploadJob.Lane.{LaneState, Done}
use Rattle.upload_spool.specs.UploadJob.Lanes.{LaneView, IsDoneAt}
use Rattle.upload_spool.specs.UploadJob.Upload.{FileVersion}
use Rattle.backup_command.specs.LaneSteps.Runs.{lane_at}
use Rattle.upload_spool.specs.declared.error.SpoolErr.{SpoolErr}
use Rattle.upload_spool.specs.declared.error.SpoolErr.TheVariants as spool_errors
use Rattle.upload_spool.specs.Spools.{SpoolFor, IsNotedOr}
use Rattle.upload_spool.specs.States.{SpoolState, IsSpool, IsNoteAnswer, KeepsOrNotes, HasNoted, OnSpoolFault}
use Rattle.upload_spool.proofs.Notes.{spool_image}
use Rattle.spool_command.specs.declared.interruption.Interruption.TheVariants.{Ports, Shelf, Memory}
use Rattle.spool_command.specs.Noted.{IsUnnoted, NotesLane, NoteIs, IsAlong, KeepsSpool, KeepsAll, KeepsNote, IfShelf, interruption_of}

-- ---- which lane has entered its version

pub done_of : (views : List LaneView) (i : ℕ) → IsDoneAt views i → (lane_at views i).state ≡ Done
done_of [] i done = absurd done
done_of (lane ∷ views) zero done = done
done_of (lane ∷ views) (suc i) done = done_of views i done

pub done_at : (views : List LaneView) (i : ℕ) → i < length views → (lane_at views i).state ≡ Done → IsDoneAt views i
done_at [] i lt done = absurd (omega arith)
done_at (lane ∷ views) zero lt done = done
done_at (lane ∷ views) (suc i) lt done = done_at views i (omega arith) done

-- a test that isn't true holds nothing
pub not_true : {X : Type 0} (b : Bool) → (IsTrue b ↔ X) → b ≡ false → ¬ X
not_true true both e x = absurd (let f : true ≡ false = e in cc)
not_true false both e x = let t : IsTrue false = both.1 x in absurd (let f : false ≡ true = t in cc)

pub not_due : (views : List LaneView) (lane : CloudNo) (noted : List CloudNo) (b : Bool) → lane.0 < length views
    → (IsTrue b ↔ (IsDoneAt views lane.0 × IsUnnoted noted lane)) → b ≡ false → NotesLane noted lane (lane_at views lane.0).state noted
not_due views lane noted b lt both e = inr ((λ x. not_true b both e (done_at views lane.0 lt x.0, x.1)), refl)

-- ---- images of a spool with these lanes

along_here : (shape : Shape) (v : FileVersion) (noted : List CloudNo) (image : Image) → SpoolFor image shape v noted → IsAlong shape v noted noted image
along_here shape v noted image spool = record {
  more = [];
  later = [];
  all_is = sym (append-nil noted);
  spool = subst (SpoolFor image shape v) (sym (append-nil noted)) spool;
}

along_note : (shape : Shape) (v : FileVersion) (noted : List CloudNo) (lane : CloudNo) (image : Image) → IsNotedOr shape v noted lane image → IsAlong shape v noted (noted ++ lane ∷ []) image
along_note shape v noted lane image noted_or = elim noted_or [
  | inl before ↦ record {
    more = [];
    later = lane ∷ [];
    all_is = refl;
    spool = subst (SpoolFor image shape v) (sym (append-nil noted)) before;
  }
  | inr after ↦ record { more = lane ∷ []; later = []; all_is = refl; spool = after }
]

-- nothing was done
pub kept_same : (state after : SpoolState) (old : Cloud) → after ≡ state → KeepsAll {T = Unit {0}} state after state.noted old old (Ok tt)
kept_same state after old same told v is = record {
  any_moment = started old _ (λ image now. along_here state.shape v state.noted image (spool_image state v state.noted old is image now));
  now = subst (λ (s : SpoolState). IsSpool s v state.noted old) (sym same) is;
}

pub lost_same : (state : SpoolState) (old : Cloud) → KeepsAll {T = Unit {0}} state state state.noted old old (Err Ports)
lost_same state old told v is = record {
  any_moment = started old _ (λ image now. along_here state.shape v state.noted image (spool_image state v state.noted old is image now));
  now = is;
}

pub lacked_same : (state after : SpoolState) (old : Cloud) → after ≡ state → KeepsAll {T = Unit {0}} state after state.noted old old (Err Memory)
lacked_same state after old same told v is = record {
  any_moment = started old _ (λ image now. along_here state.shape v state.noted image (spool_image state v state.noted old is image now));
  now = subst (λ (s : SpoolState). IsSpool s v state.noted old) (sym same) is;
}

-- a note that is kept
pub kept_noted : (before after : SpoolState) (lane : CloudNo) (old new : Cloud) → after.noted ≡ before.noted ++ lane ∷ [] → KeepsOrNotes before lane old new
    → HasNoted {T = Unit {0}} {E = SpoolErr} before after lane old new (Ok tt) → KeepsAll {T = Unit {0}} before after after.noted old new (Ok tt)
kept_noted before after lane old new more keeps noted told v is =
    subst (λ (l : List CloudNo). KeepsSpool {T = Unit {0}} before after l old new (Ok tt) v) (sym more) (record {
      any_moment = weaker old new _ _ (keeps told v before.noted is) (λ image at. along_note before.shape v before.noted lane image at);
      now = noted told v before.noted is;
    })

-- a note in which the shelf failed
pub kept_failed : (before after : SpoolState) (lane : CloudNo) (old new : Cloud) → after.shape ≡ before.shape → KeepsOrNotes before lane old new
    → KeepsAll {T = Unit {0}} before after (before.noted ++ lane ∷ []) old new (Err Shelf)
kept_failed before after lane old new shape keeps told v is =
    let left = keeps told v before.noted is in
    record {
      any_moment = weaker old new _ _ left (λ image at. along_note before.shape v before.noted lane image at);
      now = (
        before.noted,
        lane,
        refl,
        λ image now. subst (λ (s : Shape). IsNotedOr s v before.noted lane image) (sym shape) (at_end old new _ left image now),
      );
    }

-- ---- what a note that failed is

abbrev pub an_error : SpoolErr → Result (Unit {0}) SpoolErr
an_error error = Err error

pub failed_note : (error : SpoolErr) (before after : SpoolState) (lane : CloudNo) (state : LaneState) (old new : Cloud) → IsNoteAnswer (an_error error)
    → (state ≡ Done) × IsUnnoted before.noted lane
    → (an_error error ≡ an_error spool_errors.NoMemory → (after ≡ before) × (new ≡ old))
    → NoteIs before after lane state (Err (interruption_of error))
failed_note spool_errors.NoMemory before after lane state old new answer due memory = ap (λ (s : SpoolState). s.noted) (memory refl).0
failed_note spool_errors.Fault before after lane state old new answer due memory = due
failed_note (spool_errors.NotEmpty area len) before after lane state old new answer due memory = absurd answer
failed_note (spool_errors.Damaged at byte) before after lane state old new answer due memory = absurd answer
failed_note (spool_errors.OtherStore found asked) before after lane state old new answer due memory = absurd answer
failed_note (spool_errors.Rotten named found) before after lane state old new answer due memory = absurd answer

pub failed_kept : (error : SpoolErr) (before after : SpoolState) (lane : CloudNo) (old new : Cloud) → IsNoteAnswer (an_error error)
    → after.shape ≡ before.shape → KeepsOrNotes before lane old new
    → (an_error error ≡ an_error spool_errors.NoMemory → (after ≡ before) × (new ≡ old))
    → KeepsNote before after lane old new (Err (interruption_of error))
failed_kept spool_errors.NoMemory before after lane old new answer shape keeps memory =
    let same = memory refl in
    subst (λ (l : List CloudNo). KeepsAll {T = Unit {0}} before after l old new (Err Memory)) (sym (ap (λ (s : SpoolState). s.noted) same.0))
    (subst (λ (c : Cloud). KeepsAll {T = Unit {0}} before after before.noted old c (Err Memory)) (sym same.1) (lacked_same before after old same.0))
failed_kept spool_errors.Fault before after lane old new answer shape keeps memory = kept_failed before after lane old new shape keeps
failed_kept (spool_errors.NotEmpty area len) before after lane old new answer shape keeps memory = absurd answer
failed_kept (spool_errors.Damaged at byte) before after lane old new answer shape keeps memory = absurd answer
failed_kept (spool_errors.OtherStore found asked) before after lane old new answer shape keeps memory = absurd answer
failed_kept (spool_errors.Rotten named found) before after lane old new answer shape keeps memory = absurd answer

pub failed_counts : (error : SpoolErr) (failed other : Type 0) → IsNoteAnswer (an_error error) → OnSpoolFault (an_error error) failed other
    → IfShelf {T = Unit {0}} (Err (interruption_of error)) failed
failed_counts spool_errors.NoMemory failed other answer on = tt
failed_counts spool_errors.Fault failed other answer on = on
failed_counts (spool_errors.NotEmpty area len) failed other answer on = absurd answer
failed_counts (spool_errors.Damaged at byte) failed other answer on = absurd answer
failed_counts (spool_errors.OtherStore found asked) failed other answer on = absurd answer
failed_counts (spool_errors.Rotten named found) failed other answer on = absurd answer
