-- A job that was kept, gone on with.
use Rattle.std.proofs.Common.{◌≡◌, inl, inr, ℕ, ◌≤◌, Bool, IsTrue, List, length, Some, None, Ok, Err, sym, subst}
use Rattle.std.specs.Prelude.{IfSome, Option, Result}
use Rattle.std.specs.List.{Contains}
use Rattle.upload_spool.specs.CdBase.Limits.{IsPath}
use Rattle.upload_spool.specs.CdBase.ids.CloudNo.{CloudNo}
use Rattle.upload_spool.specs.CdBase.shape.Shape.{Shape}
use Rattle.upload_spool.specs.CdEdges.Causes.{Rose}
use Rattle.upload_spool.specs.CdEdges.Disk.{Cloud, IsImage, LeavesOnly, reads}
use Rattle.upload_spool.specs.CdEdges.Ports.{Telling}
use Rattle.upload_spool.specs.CdEdges.Shelf.{HasFailed}
use Rattle.upload_spool.proofs.CdEdges.Moments.{weaker, joined, at_end}
use Rattle.upload_spool.specs.Recipe.Spelling.{file_limit}
use Rattle.upload_spool.specs.UploadJob.Lanes.{LaneView, lanes_resumed}
use Rattle.upload_spool.specs.UploadJob.Upload.{FileVersion}
use Rattle.backup_command.specs.Transcript.line.Line.{Line}
use Rattle.backup_command.specs.PortsLink.greeting.Greeted.{Greeted}
use Rattle.backup_command.specs.PortsLink.judging.AskedClouds.TheVariants.{Backup}
use Rattle.backup_command.specs.PortsLink.Hellos.{hello}
use Rattle.backup_command.specs.PortsLink.Meeting.{MeetsAll}
use Rattle.backup_command.specs.PortsLink.Sending.{SendsOnly}
use Rattle.upload_spool.specs.declared.error.SpoolErr.TheVariants as spool_errors
use Rattle.upload_spool.specs.Opens.{IsOpenedSpool, OpensSpoolIs, answer_of, rising}
use Rattle.upload_spool.specs.Spools.{FitsFileVersion, SpoolFor}
use Rattle.upload_spool.specs.States.{SpoolState, IsJobOf, IsOf, IsSpool, state_of}
use Rattle.upload_spool.specs.declared.spool.Spool.{Spool}
use Rattle.upload_spool.proofs.Again.{found_again}
use Rattle.upload_spool.proofs.Jobs.{job_resumed}
use Rattle.backup_command.specs.BackedUp.{AreDone}
use Rattle.backup_command.specs.Lanes.{numbered}
use Rattle.backup_command.specs.Sends.{IsAskOn, SendsOn}
use Rattle.backup_command.specs.Steps.{AreGreetedOn}
use Rattle.backup_command.proofs.Finishing.{have_met}
use Rattle.spool_command.specs.declared.interruption.Interruption.{Interruption}
use Rattle.spool_command.specs.declared.interruption.Interruption.TheVariants.{Ports, Shelf, Memory}
use Rattle.spool_command.specs.declared.writing.Unspooled.{Unspooled}
use Rattle.spool_command.specs.declared.writing.Unspooled.TheVariants.{Undialled, Unheard, Refused, Unkept, Interrupted}
use Rattle.spool_command.specs.Going.{WentOn}
use Rattle.spool_command.specs.Noted.{IfPorts, IfShelf, LanesNoted}
use Rattle.spool_command.specs.Resumed.{CarriesResumed, GoesKept, HasFoundJob, HasNoJob, HasSentKept, IsCleared, IsOldOrEmptied, IsSpoolUnopened, KeptOn, KeptSince, MetAndWent, SendsKept, SendsKeptOr, any_version}
use Rattle.spool_command.specs.Spooled.{SpoolOutside, call_for}

-- each lane came to its end and is committed
abbrev Stored : Telling → Telling → List (CloudNo × ℕ) → List LaneView → List CloudNo → List Line → List LaneView → List CloudNo → Type 0
Stored behind now clouds views lanes answers after all = LanesNoted behind now clouds views lanes (Ok tt) answers after all × AreDone after

-- ---- what isn't gone on with

module _ (shape : Shape) (c0 c1 c2 : Cloud) (same : c1.told ≡ c0.told) (spared : IsTrue c0.told → LeavesOnly c0 c1 (IsImage c0.now)) where
  told_then : IsTrue c0.told → IsTrue c1.told
  told_then told = subst IsTrue (sym same) told

  pub no_job : (IsTrue c0.told → OpensSpoolIs shape (reads c0.now) (Ok None)) → (IsTrue c1.told → IsCleared c1 c2) → HasNoJob shape c0 c2
  no_job opens clears = record {
    opens = opens;
    clears = λ told.
        let a = spared told in
        let b = clears (told_then told) in
        record {
          empty = b.empty;
          any_moment = joined c0 c1 c2 (IsOldOrEmptied c0) (weaker c0 c1 _ _ a (λ image is. inl is))
              (weaker c1 c2 _ _ b.any_moment (λ image at. elim at [ inl is ↦ inl (at_end c0 c1 _ a image is) | inr e ↦ inr e ]));
        };
  }

  pub not_cleared : (IsTrue c1.told → LeavesOnly c1 c2 (IsImage c1.now)) → Rose c0.faults c2.faults → IsSpoolUnopened shape c0 c2 spool_errors.Fault
  not_cleared stays rose = record {
    opens = λ told. tt;
    stays = λ told.
        let a = spared told in
        joined c0 c1 c2 (IsImage c0.now) a (weaker c1 c2 _ _ (stays (told_then told)) (λ image is. at_end c0 c1 _ a image is));
    cause = λ same. rose;
  }

  -- ---- what is

  pub kept_on : (behind now : Telling) (clouds : List (CloudNo × ℕ)) (result : Result Bool Interruption) (text : List ℕ) (state : SpoolState) (views : List LaneView) (v : FileVersion) → IsPath v.path
      → length v.file ≤ file_limit → IsOf state v → views ≡ lanes_resumed shape v (rising shape state.noted) → (IsTrue c0.told → OpensSpoolIs shape (reads c0.now) (Ok (Some (state, views)))) → state.shape ≡ shape
      → (IsTrue c0.told → (u : FileVersion) (lanes : List CloudNo) → FitsFileVersion u → SpoolFor (reads c0.now) shape u lanes → IsSpool state u lanes c1)
      → WentOn behind now clouds views state result text c1 c2 → KeptOn shape behind now clouds c0 c2 result text
  kept_on behind now clouds result text state views v path few of views_are opens shape_is spool w = record {
    v = v;
    path = path;
    few = few;
    state = state;
    of = of;
    views = views;
    views_are = views_are;
    opens = opens;
    had = w.had;
    had_is = w.had_is;
    answers = w.answers;
    after = w.after;
    all = w.all;
    gone = w.gone;
    kept = λ told u lanes fits for. (
      (spool told u lanes fits for).noted,
      subst (λ (l : List CloudNo). KeptSince shape u l w.all c0 c2 result (Stored behind now clouds views l w.answers w.after w.all)) (spool told u lanes fits for).noted
          (subst (λ (s : Shape). KeptSince s u state.noted w.all c0 c2 result (Stored behind now clouds views state.noted w.answers w.after w.all)) shape_is (since told u lanes (spool told u lanes fits for))),
    );
  }
    where
      since : IsTrue c0.told → (u : FileVersion) (lanes : List CloudNo) → IsSpool state u lanes c1
          → KeptSince state.shape u state.noted w.all c0 c2 result (Stored behind now clouds views state.noted w.answers w.after w.all)
      since told u lanes is =
          let here = subst (λ (l : List CloudNo). IsSpool state u l c1) (sym is.noted) is in
          let k = w.keeps (told_then told) u here in
          record {
            any_moment = joined c0 c1 c2 _ (weaker c0 c1 _ _ (spared told) (λ image at. inr (inl at)))
                (weaker c1 c2 _ _ k.any_moment (λ image at. elim at [ inl along ↦ inl along | inr e ↦ inr (inr e) ]));
            now = k.now;
            held = λ none. joined c0 c1 c2 _ (weaker c0 c1 _ _ (spared told) (λ image at. inr at)) (weaker c1 c2 _ _ (w.held none (told_then told) u here) (λ image at. inl at));
          }

-- ---- behind the Hellos

-- what is kept is gone on with, or the shelf or memory failed
found_job : (shape : Shape) (behind now : Telling) (faults later : ℕ) (clouds : List (CloudNo × ℕ)) (folder left : Cloud) (came : Result (Option Bool) Unspooled) (text : List ℕ)
    → GoesKept shape behind now faults later clouds folder left came text → IsTrue folder.told → (u : FileVersion) (lanes : List CloudNo) → FitsFileVersion u → SpoolFor (reads folder.now) shape u lanes → HasFoundJob came
found_job shape behind now faults later clouds folder left (Ok (Some stored)) text goes told u lanes fits for = tt
found_job shape behind now faults later clouds folder left (Ok None) text goes told u lanes fits for = found_again (reads folder.now) shape u lanes fits for (Ok None) (goes.1.opens told)
found_job shape behind now faults later clouds folder left (Err (Unkept spool_errors.Fault)) text goes told u lanes fits for = tt
found_job shape behind now faults later clouds folder left (Err (Unkept spool_errors.NoMemory)) text goes told u lanes fits for = tt
found_job shape behind now faults later clouds folder left (Err (Unkept (spool_errors.NotEmpty area len))) text goes told u lanes fits for =
    found_again (reads folder.now) shape u lanes fits for (Err (spool_errors.NotEmpty area len)) (goes.1.opens told)
found_job shape behind now faults later clouds folder left (Err (Unkept (spool_errors.Damaged at byte))) text goes told u lanes fits for =
    found_again (reads folder.now) shape u lanes fits for (Err (spool_errors.Damaged at byte)) (goes.1.opens told)
found_job shape behind now faults later clouds folder left (Err (Unkept (spool_errors.OtherStore found asked))) text goes told u lanes fits for =
    found_again (reads folder.now) shape u lanes fits for (Err (spool_errors.OtherStore found asked)) (goes.1.opens told)
found_job shape behind now faults later clouds folder left (Err (Unkept (spool_errors.Rotten named found))) text goes told u lanes fits for =
    found_again (reads folder.now) shape u lanes fits for (Err (spool_errors.Rotten named found)) (goes.1.opens told)
found_job shape behind now faults later clouds folder left (Err (Interrupted why)) text goes told u lanes fits for = tt
found_job shape behind now faults later clouds folder left (Err Undialled) text goes told u lanes fits for = goes
found_job shape behind now faults later clouds folder left (Err Unheard) text goes told u lanes fits for = goes
found_job shape behind now faults later clouds folder left (Err (Refused why)) text goes told u lanes fits for = goes

pub met_and_went : (out : SpoolOutside) (behind : Telling) (faults : ℕ) (greeted : Greeted) (meets : MeetsAll Backup out.addresses out.before behind (Ok greeted)) (came : Result (Option Bool) Unspooled) (text : List ℕ)
    → behind.told ≡ out.before.told → faults ≡ out.faults_before → AreGreetedOn behind meets.0 greeted.lines.items
    → GoesKept greeted.shape behind out.after faults out.faults_after greeted.lines.items out.folder out.left came text
    → (IsTrue behind.told → (port : ℕ) → ¬ Contains meets.0 port → out.after.port port ≡ behind.port port) → MetAndWent out came text
met_and_went out behind faults greeted meets came text told same on goes others = record {
  found = found_job greeted.shape behind out.after faults out.faults_after greeted.lines.items out.folder out.left came text goes;
  others = others;
  shape = greeted.shape;
  dialled = meets.0;
  behind = behind;
  met = have_met (call_for out any_version) behind greeted meets told;
  goes = subst (λ (n : ℕ). GoesKept greeted.shape behind out.after n out.faults_after (numbered 0 meets.0) out.folder out.left came text) same
      (subst (λ (l : List (CloudNo × ℕ)). GoesKept greeted.shape behind out.after faults out.faults_after l out.folder out.left came text) on.lines_are goes);
}

-- what was sent, behind the Hellos
pub sent_kept : (out : SpoolOutside) (behind : Telling) (greeted : Greeted) (meets : MeetsAll Backup out.addresses out.before behind (Ok greeted)) → behind.told ≡ out.before.told
    → SendsOnly (λ content. content ≡ hello) out.before behind → SendsKeptOr greeted.shape meets.0 behind out.after out.folder → HasSentKept out
sent_kept out behind greeted meets told hellos (inl same) = inl (subst (λ (t : Telling). SendsOnly (λ content. content ≡ hello) out.before t) (sym same) hellos)
sent_kept out behind greeted meets told hellos (inr kept) = inr (greeted.shape, meets.0, behind, have_met (call_for out any_version) behind greeted meets told, kept)

pub resumed : (out : SpoolOutside) (came : Result (Option Bool) Unspooled) (text : List ℕ) → MetAndWent out came text → CarriesResumed out came text
resumed out (Ok kept) text w = w
resumed out (Err Undialled) text w = absurd w.goes
resumed out (Err Unheard) text w = absurd w.goes
resumed out (Err (Refused why)) text w = absurd w.goes
resumed out (Err (Unkept error)) text w = w
resumed out (Err (Interrupted Ports)) text w = w
resumed out (Err (Interrupted Shelf)) text w = w
resumed out (Err (Interrupted Memory)) text w = inr w

-- ---- what an opening gives

pub opened_own : (shape : Shape) (x : Spool × List LaneView) → IsOpenedSpool shape x → (v : FileVersion) × IsOf (state_of x.0) v × IsJobOf (state_of x.0).shape v x.1
opened_own shape x is = (
  is.v,
  is.of,
  subst (λ (s : Shape). IsJobOf s is.v x.1) (sym is.shape_is)
      (subst (λ (l : List LaneView). IsJobOf shape is.v l) (sym is.job_is) (job_resumed shape is.v (rising shape x.0.noted.items))),
)

module _ (shape : Shape) (c0 c1 c2 : Cloud) (same : c1.told ≡ c0.told) (spared : IsTrue c0.told → LeavesOnly c0 c1 (IsImage c0.now)) (x : Spool × List LaneView) (o : Option (Spool × List LaneView)) (is_some : o ≡ Some x)
    (found : IsTrue c0.told → OpensSpoolIs shape (reads c0.now) (answer_of (Ok o)))
    (kept : IsTrue c0.told → (u : FileVersion) (lanes : List CloudNo) → FitsFileVersion u → SpoolFor (reads c0.now) shape u lanes → IfSome o (λ (y : Spool × List LaneView). IsSpool (state_of y.0) u lanes c1))
    (opened : IfSome o (IsOpenedSpool shape)) where
  pub opened_is : IsOpenedSpool shape x
  opened_is = subst (λ (p : Option (Spool × List LaneView)). IfSome p (IsOpenedSpool shape)) is_some opened

  pub kept_by : (behind now : Telling) (clouds : List (CloudNo × ℕ)) (result : Result Bool Interruption) (text : List ℕ) → WentOn behind now clouds x.1 (state_of x.0) result text c1 c2
      → KeptOn shape behind now clouds c0 c2 result text
  kept_by behind now clouds result text w =
      kept_on shape c0 c1 c2 same spared behind now clouds result text (state_of x.0) x.1 opened_is.v opened_is.path opened_is.few opened_is.of opened_is.job_is
      (subst (λ (p : Option (Spool × List LaneView)). IsTrue c0.told → OpensSpoolIs shape (reads c0.now) (answer_of (Ok p))) is_some found) opened_is.shape_is
      (subst (λ (p : Option (Spool × List LaneView)). IsTrue c0.told → (u : FileVersion) (lanes : List CloudNo) → FitsFileVersion u → SpoolFor (reads c0.now) shape u lanes
      → IfSome p (λ (y : Spool × List LaneView). IsSpool (state_of y.0) u lanes c1)) is_some kept) w

  pub kept_sends : (dialled : List ℕ) (behind now : Telling) → SendsOn (IsAskOn (numbered 0 dialled) x.1) behind now → SendsKept shape dialled behind now c0
  kept_sends dialled behind now sends = record {
    v = opened_is.v;
    state = state_of x.0;
    of = opened_is.of;
    views = x.1;
    views_are = opened_is.job_is;
    opens = subst (λ (p : Option (Spool × List LaneView)). IsTrue c0.told → OpensSpoolIs shape (reads c0.now) (answer_of (Ok p))) is_some found;
    sends = sends;
  }

-- why it stopped
pub stopped_by : (shape : Shape) (behind now : Telling) (before later total total_later : ℕ) (clouds : List (CloudNo × ℕ)) (c0 c1 c2 : Cloud) (why : Interruption) (text : List ℕ) → c1.faults ≡ c0.faults
    → IfPorts {T = Bool} (Err why) (Rose before later) → IfShelf {T = Bool} (Err why) (HasFailed c1 c2 total total_later) → KeptOn shape behind now clouds c0 c2 (Err why) text
    → GoesKept shape behind now before later clouds c0 c2 (Err (Interrupted why)) text
stopped_by shape behind now before later total total_later clouds c0 c1 c2 Ports text same lost failed on = (on, lost)
stopped_by shape behind now before later total total_later clouds c0 c1 c2 Shelf text same lost failed on = (on, subst (λ (n : ℕ). Rose n c2.faults) same failed.cloud)
stopped_by shape behind now before later total total_later clouds c0 c1 c2 Memory text same lost failed on = on
