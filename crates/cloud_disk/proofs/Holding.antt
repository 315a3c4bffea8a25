-- One area while its log is flushed.
use Rattle.std.proofs.Common.{◌≡◌, ◌≢◌, ℕ, ◌+◌, ◌≤◌, List, [], ◌∷◌, ◌++◌, length, Result, Ok, Err, refl, sym, ap, ◌∙◌, subst, arith}
use Rattle.std.specs.Prelude.{All, OnOk}
use Rattle.commit_journal.specs.CdEdges.area.Area.{Area}
use Rattle.commit_journal.specs.CdEdges.Disk.{Store, Areas, Cloud, LeavesOnly, IsAtArea, moment, overwritten}
use Rattle.commit_journal.specs.CdEdges.Shelf.{stable}
use Rattle.commit_journal.proofs.CdEdges.Moments.{weaker}
use Rattle.cloud_areas.specs.ContainerLog.Caches.{Kept, AreContainersOf}
use Rattle.cloud_areas.specs.ContainerLog.Kept.{KeepsBelow}
use Rattle.cloud_areas.specs.ContainerLog.Places.{end_of_laid}
use Rattle.cloud_areas.specs.ContainerLog.Laying.{Placed, lengths, placed, IsAt}
use Rattle.cloud_areas.specs.ContainerLog.States.{State, HasStaged, after_flush, Agrees}
use Rattle.cloud_disk.specs.Held.{LogHolds, AreBelow, LieIn, IsFlushed, with_staged, with_written, write_moments, flush_moments}
use Rattle.cloud_disk.proofs.Blobs.{placed_below, below_more, below_both, lie_both, end_behind, crashed_all, stay_all}

-- a cloud of a shelf that didn't change
pub cloud_same : {S : Type 0} (cloud_at : S → ℕ → Cloud) (new old : S) (number : ℕ) → new ≡ old → cloud_at new number ≡ cloud_at old number
cloud_same {S} cloud_at new old number same = ap (λ (s : S). cloud_at s number) same

-- the area may be named as the log names it
pub by_log : (area : Area) (blobs : List Placed) (log : State) (now : Areas) → LogHolds area blobs log now → LogHolds log.area blobs log now
by_log area blobs log now h = subst (λ (a : Area). LogHolds a blobs log now) (sym h.area_is) h

-- the same containers, over the same bytes
pub agrees_as : (old new : State) (now later : Areas) → new.area ≡ old.area → new.kept ≡ old.kept → later old.area ≡ now old.area → Agrees old (now old.area).read → Agrees new (later new.area).read
agrees_as old new now later area kept store c =
    subst (λ (a : Area). AreContainersOf (later a).read new.kept) (sym area)
    (subst (λ (k : List Kept). AreContainersOf (later old.area).read k) (sym kept) (subst (λ (s : Store). AreContainersOf s.read old.kept) (sym store) c))

-- whenever a crash comes, the blobs that lay there lie there
pub images_kept : (log : State) (c0 c1 : Cloud) (blobs : List Placed) → LogHolds log.area blobs log c0.now
    → LeavesOnly c0 c1 (IsAtArea c0.now log.area (KeepsBelow log.end (c0.now log.area)))
    → LeavesOnly c0 c1 (IsAtArea c0.now log.area (LieIn blobs))
images_kept log c0 c1 blobs h run =
    weaker c0 c1 _ _ run (λ image at. record {
      area = crashed_all (c0.now log.area).read (image log.area) log.end blobs (subst (λ (s : Store). KeepsBelow log.end s (image log.area)) h.on_disk at.area) h.below h.laid;
      others = at.others;
    })

-- what a flush leaves after Ok
pub flushed : {T E : Type 0} (r : Result T E) (old new : State) (c0 c1 : Cloud) (blobs : List Placed) (staged : List (List ℕ)) → LogHolds old.area blobs old c0.now
    → new ≡ after_flush old r
    → OnOk r (new.end ≡ end_of_laid old.end (lengths staged))
    → (old.staged ≡ [] → c1 ≡ c0)
    → (old.staged ≢ [] → OnOk r (c1.now old.area ≡ stable (overwritten (c0.now old.area).read old.end old.staged)))
    → OnOk r (All (IsAt (c1.now old.area).read) (placed old.end staged))
    → ((b : Placed) → b.place + length b.blob ≤ old.end → IsAt (c0.now old.area).read b → OnOk r (IsAt (c1.now old.area).read b))
    → (Agrees old (c0.now old.area).read → Agrees new (c1.now new.area).read)
    → OnOk r (LogHolds old.area (with_staged blobs old staged) new c1.now)
flushed (Err e) old new c0 c1 blobs staged h log end nothing written lie stay agrees = tt
flushed (Ok v) old new c0 c1 blobs staged h log end nothing written lie stay agrees = record {
  area_is = ap (λ (s : State). s.area) log;
  agrees = agrees h.agrees;
  on_disk = by_staged old.staged refl;
  below = subst (λ (n : ℕ). AreBelow n (blobs ++ placed old.end staged)) (sym end)
      (below_both (end_of_laid old.end (lengths staged)) blobs (placed old.end staged) (below_more old.end (end_of_laid old.end (lengths staged)) blobs (end_behind old.end staged) h.below) (placed_below old.end staged));
  laid = lie_both (c1.now old.area).read blobs (placed old.end staged) (stay_all (c0.now old.area).read (c1.now old.area).read old.end blobs stay h.below h.laid) lie;
}
  where
    by_staged : (bytes : List ℕ) → old.staged ≡ bytes → c1.now old.area ≡ stable (c1.now old.area).read
    by_staged [] e = subst (λ (c : Cloud). c.now old.area ≡ stable (c.now old.area).read) (sym (nothing e)) h.on_disk
    by_staged (b ∷ bs) e =
        let is : c1.now old.area ≡ stable (overwritten (c0.now old.area).read old.end old.staged) = written (λ none. let no : b ∷ bs ≡ [] = sym e ∙ none in cc) in
        is ∙ ap (λ (s : Store). stable s.read) (sym is)

-- the area itself, whatever lies in it
pub area_flushed : {T E : Type 0} (r : Result T E) (log : State) (c0 c1 : Cloud)
    → (log.staged ≡ [] → c1 ≡ c0)
    → (log.staged ≢ [] → OnOk r (c1.now log.area ≡ stable (overwritten (c0.now log.area).read log.end log.staged)))
    → ((staged : List (List ℕ)) → HasStaged log staged → OnOk r (All (IsAt (c1.now log.area).read) (placed log.end staged)))
    → ((b : Placed) → b.place + length b.blob ≤ log.end → IsAt (c0.now log.area).read b → OnOk r (IsAt (c1.now log.area).read b))
    → OnOk r (IsFlushed log (c0.now log.area) (c1.now log.area))
area_flushed (Err e) log c0 c1 nothing written lie stay = tt
area_flushed (Ok v) log c0 c1 nothing written lie stay = record { is = by_staged log.staged refl; laid = lie; kept = stay }
  where
    by_staged : (bytes : List ℕ) → log.staged ≡ bytes → c1.now log.area ≡ with_written (c0.now log.area) log.end bytes
    by_staged [] e = ap (λ (c : Cloud). c.now log.area) (nothing e)
    by_staged (b ∷ bs) e =
        let is : c1.now log.area ≡ stable (overwritten (c0.now log.area).read log.end log.staged) = written (λ none. let no : b ∷ bs ≡ [] = sym e ∙ none in cc) in
        is ∙ ap (λ (l : List ℕ). stable (overwritten (c0.now log.area).read log.end l)) e

-- its moments
pub moments_of : {T E : Type 0} (r : Result T E) (old : State) (c0 c1 : Cloud)
    → (old.staged ≡ [] → c1 ≡ c0) → (old.staged ≢ [] → OnOk r (moment c1 ≡ moment c0 + 2)) → OnOk r (moment c1 ≡ moment c0 + flush_moments old)
moments_of (Err e) old c0 c1 nothing written = tt
moments_of (Ok v) old c0 c1 nothing written = by_staged old.staged refl
  where
    by_staged : (bytes : List ℕ) → old.staged ≡ bytes → moment c1 ≡ moment c0 + flush_moments old
    by_staged [] e =
        let none : flush_moments old ≡ 0 = ap (λ (l : List ℕ). write_moments l) e in
        let same : moment c1 ≡ moment c0 = ap (λ (c : Cloud). moment c) (nothing e) in
        omega (arith, none, same)
    by_staged (b ∷ bs) e =
        let two : flush_moments old ≡ 2 = ap (λ (l : List ℕ). write_moments l) e in
        let more : moment c1 ≡ moment c0 + 2 = written (λ none. let no : b ∷ bs ≡ [] = sym e ∙ none in cc) in
        omega (arith, two, more)
