-- A kept job that came to its end, or stopped.
use Rattle.std.proofs.Common.{◌≡◌, ◌⊎◌, inl, inr, ◌↔◌, ℕ, Bool, true, false, IsTrue, List, [], ◌∷◌, ◌++◌, append-nil, Ok, Err, refl, sym, ap, ◌∙◌, subst}
use Rattle.std.specs.Prelude.{Result}
use Rattle.upload_spool.specs.CdBase.ids.CloudNo.{CloudNo}
use Rattle.upload_spool.specs.CdBase.shape.Shape.{Shape}
use Rattle.upload_spool.specs.CdEdges.Disk.{Areas, Cloud, Image, IsImage, LeavesOnly, MayLeave}
use Rattle.upload_spool.specs.CdEdges.Ports.{Telling}
use Rattle.upload_spool.specs.CdEdges.Shelf.{HasFailed, IsCall, IsFresh}
use Rattle.upload_spool.proofs.CdEdges.Calls.{failed_after}
use Rattle.upload_spool.proofs.CdEdges.Moments.{weaker, joined as images_joined, moved, stayed, left_alone}
use Rattle.upload_spool.proofs.CdEdges.Torn.{only}
use Rattle.upload_spool.specs.UploadJob.Lanes.{LaneView}
use Rattle.upload_spool.specs.UploadJob.Upload.{FileVersion}
use Rattle.backup_command.specs.Transcript.line.Line.{Line}
use Rattle.backup_command.specs.Transcript.line.Line.TheVariants as lines
use Rattle.upload_spool.specs.Spools.{SpoolFor, IsNotedOr}
use Rattle.upload_spool.specs.States.{SpoolState, IsSpool}
use Rattle.upload_spool.proofs.Notes.{spool_image}
use Rattle.spool_command.proofs.Notes.{not_true}
use Rattle.backup_command.specs.BackedUp.{AreDone}
use Rattle.backup_command.specs.Texts.{text_of}
use Rattle.backup_command.proofs.Joining.{joined}
use Rattle.spool_command.specs.declared.interruption.Interruption.{Interruption}
use Rattle.spool_command.specs.declared.interruption.Interruption.TheVariants.{Ports, Shelf, Memory}
use Rattle.spool_command.specs.Noted.{IfPorts, IfShelf, IsAlong, KeepsSpool, LanesNoted, NotedWent}
use Rattle.spool_command.specs.Going.{EndsJob, EndsStored, GoneOn, IsFolderEmptied, IsSpoolHeld, NowHolds, WentOn, stored_lines}

-- ---- what is kept

-- so far, or empty
abbrev pub Sofar : Shape → FileVersion → List CloudNo → List CloudNo → Image → Type 0
Sofar shape v noted all image = IsAlong shape v noted all image ⊎ IsFolderEmptied image

along_only : (shape : Shape) (v : FileVersion) (noted all : List CloudNo) (old new : Cloud) → LeavesOnly old new (IsAlong shape v noted all) → LeavesOnly old new (Sofar shape v noted all)
along_only shape v noted all old new leaves = weaker old new _ _ leaves (λ image at. inl at)

held : (before after : SpoolState) (v : FileVersion) (all : List CloudNo) (cloud : Cloud) → after.shape ≡ before.shape → IsSpool after v all cloud → IsSpoolHeld before.shape v all cloud
held before after v all cloud shape is image now =
    subst (λ (s : Shape). SpoolFor image s v all) shape (spool_image after v all cloud is image now)

-- the spool of all lanes, as one that is along
last_along : (shape : Shape) (v : FileVersion) (noted all : List CloudNo) → (more : List CloudNo) × (all ≡ noted ++ more) → (image : Image) → SpoolFor image shape v all → IsAlong shape v noted all image
last_along shape v noted all grows image spool = record {
  more = grows.0;
  later = [];
  all_is = grows.1 ∙ ap (λ (l : List CloudNo). noted ++ l) (sym (append-nil grows.0));
  spool = subst (SpoolFor image shape v) grows.1 spool;
}

fresh_images : (shape : Shape) (v : FileVersion) (noted all : List CloudNo) (old new : Cloud) → (more : List CloudNo) × (all ≡ noted ++ more) → IsSpoolHeld shape v all old → IsFresh old new
    → LeavesOnly old new (Sofar shape v noted all)
fresh_images shape v noted all old new grows is fresh =
    moved old new (Sofar shape v noted all) fresh.past (λ image now. inl (last_along shape v noted all grows image (is image now)))
    (λ image now. inr (λ area. only [] (image area) (subst (λ s. MayLeave s (image area)) (fresh.now area) (now area))))

-- ---- text

three : (one : Line) (answers last : List Line) (before mid text : List ℕ) → before ≡ text_of (one ∷ []) → mid ≡ before ++ text_of answers → text ≡ mid ++ text_of last → text ≡ text_of (one ∷ (answers ++ last))
three one answers last before mid text a b c = joined [] mid text (one ∷ answers) last (joined [] before mid (one ∷ []) answers a b) c

two : (one : Line) (answers : List Line) (before mid : List ℕ) → before ≡ text_of (one ∷ []) → mid ≡ before ++ text_of answers → mid ≡ text_of (one ∷ answers)
two one answers before mid a b = joined [] before mid (one ∷ []) answers a b

-- ---- ways to end

-- memory ran out before the lanes
pub lacked_first : (behind : Telling) (clouds : List (CloudNo × ℕ)) (views : List LaneView) (had : Bool) (state : SpoolState) (cloud : Cloud) (text : List ℕ) → (IsTrue had ↔ AreDone views)
    → LanesNoted behind behind clouds views state.noted (Err Memory) [] views state.noted → WentOn behind behind clouds views state (Err Memory) text cloud cloud
lacked_first behind clouds views had state cloud text had_is go = record {
  had = had;
  had_is = had_is;
  answers = [];
  after = views;
  all = state.noted;
  gone = inl go;
  keeps = λ told v is. record {
    any_moment = along_only state.shape v state.noted state.noted cloud cloud (still v is);
    now = inl (spool_image state v state.noted cloud is);
  };
  held = λ none told v is. still v is;
}
  where
    still : (v : FileVersion) → IsSpool state v state.noted cloud → LeavesOnly cloud cloud (IsAlong state.shape v state.noted state.noted)
    still v is = left_alone cloud cloud _ refl (λ image now. last_along state.shape v state.noted state.noted ([], sym (append-nil state.noted)) image (spool_image state v state.noted cloud is image now))

module _ (behind now : Telling) (clouds : List (CloudNo × ℕ)) (views after : List LaneView) (had : Bool) (before mid : List ℕ) (s0 s1 : SpoolState) (c0 c1 : Cloud) where
  -- what is kept of lanes that came so far
  kept_so : (result : Result (Unit {0}) Interruption) (w : NotedWent behind now clouds views result after before mid s0 s1 c0 c1) → IsTrue c0.told → (v : FileVersion) → IsSpool s0 v s0.noted c0
      → LeavesOnly c0 c1 (IsAlong s0.shape v s0.noted w.all)
  kept_so result w told v is = (w.keeps told v is).any_moment

  stopped_now : (why : Interruption) (v : FileVersion) (all : List CloudNo) → s1.shape ≡ s0.shape → KeepsSpool {T = Unit {0}} s0 s1 all c0 c1 (Err why) v → NowHolds s0.shape v all c1 (Err why)
  stopped_now Ports v all shape keeps = held s0 s1 v all c1 shape keeps.now
  stopped_now Shelf v all shape keeps =
      let now = keeps.now in
      inr (now.0, now.1, now.2, λ image is. subst (λ (s : Shape). IsNotedOr s v now.0 now.1 image) shape (now.3 image is))
  stopped_now Memory v all shape keeps = inl (held s0 s1 v all c1 shape keeps.now)

  stopped_text : (why : Interruption) (w : NotedWent behind now clouds views (Err why) after before mid s0 s1 c0 c1) → before ≡ text_of (lines.Job 1 ∷ [])
      → GoneOn behind now clouds views s0.noted had (Err why) w.answers after w.all mid
  stopped_text Ports w one = (w.go, two (lines.Job 1) w.answers before mid one w.wrote)
  stopped_text Shelf w one = inl (w.go, two (lines.Job 1) w.answers before mid one w.wrote)
  stopped_text Memory w one = inl w.go

  -- it stopped in the lanes
  pub stopped : (why : Interruption) → (IsTrue had ↔ AreDone views) → before ≡ text_of (lines.Job 1 ∷ []) → NotedWent behind now clouds views (Err why) after before mid s0 s1 c0 c1
      → WentOn behind now clouds views s0 (Err why) mid c0 c1
  stopped why had_is one w = record {
    had = had;
    had_is = had_is;
    answers = w.answers;
    after = after;
    all = w.all;
    gone = stopped_text why w one;
    keeps = λ told v is.
        let k = w.keeps told v is in
        record { any_moment = along_only s0.shape v s0.noted w.all c0 c1 k.any_moment; now = stopped_now why v w.all w.shape k };
    held = λ none told v is. kept_so (Err why) w told v is;
  }

  -- a lane isn't committed
  pub left_open : (text : List ℕ) → (IsTrue had ↔ AreDone views) → ¬ (AreDone after) → before ≡ text_of (lines.Job 1 ∷ []) → NotedWent behind now clouds views (Ok tt) after before mid s0 s1 c0 c1
      → text ≡ mid ++ text_of (lines.End 1 false ∷ []) → WentOn behind now clouds views s0 (Ok false) text c0 c1
  left_open text had_is none one w last = record {
    had = had;
    had_is = had_is;
    answers = w.answers;
    after = after;
    all = w.all;
    gone = (w.go, none, three (lines.Job 1) w.answers (lines.End 1 false ∷ []) before mid text one w.wrote last);
    keeps = λ told v is.
        let k = w.keeps told v is in
        record { any_moment = along_only s0.shape v s0.noted w.all c0 c1 k.any_moment; now = held s0 s1 v w.all c1 w.shape k.now };
    held = λ none told v is. kept_so (Ok tt) w told v is;
  }

  -- memory ran out behind the lanes
  pub lacked_last : (text : List ℕ) → (IsTrue had ↔ AreDone views) → NotedWent behind now clouds views (Ok tt) after before mid s0 s1 c0 c1 → WentOn behind now clouds views s0 (Err Memory) text c0 c1
  lacked_last text had_is w = record {
    had = had;
    had_is = had_is;
    answers = w.answers;
    after = after;
    all = w.all;
    gone = inr w.go;
    keeps = λ told v is.
        let k = w.keeps told v is in
        record { any_moment = along_only s0.shape v s0.noted w.all c0 c1 k.any_moment; now = inl (held s0 s1 v w.all c1 w.shape k.now) };
    held = λ none told v is. kept_so (Ok tt) w told v is;
  }

  -- each lane is committed, and the spool was to be given up
  abbrev pub Given : Result (Unit {0}) Interruption → Result Bool Interruption
  Given (Ok u) = Ok true
  Given (Err why) = Err why

  pub given_up : (c2 : Cloud) (text : List ℕ) (result : Result (Unit {0}) Interruption) → (IsTrue had ↔ AreDone views) → AreDone after → before ≡ text_of (lines.Job 1 ∷ []) → c1.told ≡ c0.told
      → NotedWent behind now clouds views (Ok tt) after before mid s0 s1 c0 c1 → EndsStored had mid text c1 c2 result → WentOn behind now clouds views s0 (Given result) text c0 c2
  given_up c2 text (Ok u) had_is all one same w ends = record {
    had = had;
    had_is = had_is;
    answers = w.answers;
    after = after;
    all = w.all;
    gone = (w.go, all, three (lines.Job 1) w.answers (stored_lines had ++ lines.End 1 true ∷ []) before mid text one w.wrote ends.0);
    keeps = λ told v is.
        let k = w.keeps told v is in
        let fresh = ends.1 (subst IsTrue (sym same) told) in
        record {
          any_moment = images_joined c0 c1 c2 (Sofar s0.shape v s0.noted w.all) (along_only s0.shape v s0.noted w.all c0 c1 k.any_moment)
              (fresh_images s0.shape v s0.noted w.all c1 c2 w.grows (held s0 s1 v w.all c1 w.shape k.now) fresh);
          now = fresh.now;
        };
    held = λ none. absurd (none (w.go, all));
  }
  given_up c2 text (Err Ports) had_is all one same w ends = absurd ends
  given_up c2 text (Err Shelf) had_is all one same w ends = record {
    had = had;
    had_is = had_is;
    answers = w.answers;
    after = after;
    all = w.all;
    gone = inr (w.go, all, three (lines.Job 1) w.answers (stored_lines had) before mid text one w.wrote ends.0);
    keeps = λ told v is.
        let k = w.keeps told v is in
        let stays = ends.1 (subst IsTrue (sym same) told) in
        let here = held s0 s1 v w.all c1 w.shape k.now in
        record {
          any_moment = images_joined c0 c1 c2 (Sofar s0.shape v s0.noted w.all) (along_only s0.shape v s0.noted w.all c0 c1 k.any_moment)
              (stayed c1 c2 _ stays (λ image is. inl (last_along s0.shape v s0.noted w.all w.grows image (here image is))));
          now = inl (λ image is. here image (subst (λ (areas : Areas). IsImage areas image) stays.now is));
        };
    held = λ none. absurd (none (w.go, all));
  }
  given_up c2 text (Err Memory) had_is all one same w ends = record {
    had = had;
    had_is = had_is;
    answers = w.answers;
    after = after;
    all = w.all;
    gone = inr w.go;
    keeps = λ told v is.
        let k = w.keeps told v is in
        let here = held s0 s1 v w.all c1 w.shape k.now in
        elim (ends (subst IsTrue (sym same) told)) [
          | inl alone ↦ record {
            any_moment = images_joined c0 c1 c2 (Sofar s0.shape v s0.noted w.all) (along_only s0.shape v s0.noted w.all c0 c1 k.any_moment)
                (left_alone c1 c2 _ alone (λ image is. inl (last_along s0.shape v s0.noted w.all w.grows image (here image is))));
            now = inl (subst (IsSpoolHeld s0.shape v w.all) (sym alone) here);
          }
          | inr fresh ↦ record {
            any_moment = images_joined c0 c1 c2 (Sofar s0.shape v s0.noted w.all) (along_only s0.shape v s0.noted w.all c0 c1 k.any_moment)
                (fresh_images s0.shape v s0.noted w.all c1 c2 w.grows here fresh);
            now = inr fresh.now;
          }
        ];
    held = λ none. absurd (none (w.go, all));
  }

  -- behind the lanes
  pub ended : (c2 : Cloud) (text : List ℕ) (stored : Bool) (result : Result Bool Interruption) → (IsTrue had ↔ AreDone views) → (IsTrue stored ↔ AreDone after) → before ≡ text_of (lines.Job 1 ∷ []) → c1.told ≡ c0.told
      → NotedWent behind now clouds views (Ok tt) after before mid s0 s1 c0 c1 → EndsJob had stored mid text c1 c2 result → WentOn behind now clouds views s0 result text c0 c2
  ended c2 text true (Ok given) had_is stored_is one same w ends =
      subst (λ (b : Bool). WentOn behind now clouds views s0 (Ok b) text c0 c2) (sym ends.0) (given_up c2 text (Ok tt) had_is (stored_is.0 refl) one same w ends.1)
  ended c2 text true (Err why) had_is stored_is one same w ends = given_up c2 text (Err why) had_is (stored_is.0 refl) one same w ends
  ended c2 text false (Ok given) had_is stored_is one same w ends =
      subst (λ (b : Bool). WentOn behind now clouds views s0 (Ok b) text c0 c2) (sym ends.0)
      (subst (λ (c : Cloud). WentOn behind now clouds views s0 (Ok false) text c0 c) (sym ends.2) (left_open text had_is (not_true false stored_is refl) one w ends.1))
  ended c2 text false (Err Memory) had_is stored_is one same w ends = subst (λ (c : Cloud). WentOn behind now clouds views s0 (Err Memory) text c0 c) (sym ends) (lacked_last text had_is w)
  ended c2 text false (Err Ports) had_is stored_is one same w ends = absurd ends
  ended c2 text false (Err Shelf) had_is stored_is one same w ends = absurd ends

-- ---- causes

-- the ports don't fail behind the lanes
pub no_ports : (had stored : Bool) (before text : List ℕ) (old new : Cloud) (result : Result Bool Interruption) (P : Type 0) → EndsJob had stored before text old new result → IfPorts result P
no_ports had stored before text old new (Ok given) P ends = tt
no_ports had true before text old new (Err Ports) P ends = absurd ends
no_ports had false before text old new (Err Ports) P ends = absurd ends
no_ports had stored before text old new (Err Shelf) P ends = tt
no_ports had stored before text old new (Err Memory) P ends = tt

-- the shelf failed behind other calls
pub failed_behind : (a b c : ℕ → Cloud) (before mid now : ℕ) (result : Result Bool Interruption) → IsCall a b 0 before mid → IfShelf result (HasFailed (b 0) (c 0) mid now)
    → IfShelf result (HasFailed (a 0) (c 0) before now)
failed_behind a b c before mid now (Ok given) call failed = tt
failed_behind a b c before mid now (Err Ports) call failed = tt
failed_behind a b c before mid now (Err Shelf) call failed = failed_after a b c 0 before mid now call failed
failed_behind a b c before mid now (Err Memory) call failed = tt
