-- What was staged is written, or forgotten.
use Rattle.std.proofs.Common.{◌≡◌, ◌≢◌, ◌⊎◌, ℕ, ◌+◌, ◌≤◌, Bool, IsTrue, List, [], ◌∷◌, ◌++◌, length, map, drop, Option, refl, sym, ap, ◌∙◌, subst, arith, inl, inr}
use Rattle.std.specs.Prelude.{All}
use Rattle.fresh_checkpoints.specs.CdEdges.area.Area.{Area}
use Rattle.fresh_checkpoints.specs.CdEdges.Disk.{Areas, Store, Image, Cloud, LeavesOnly, MayLeave, IsAtArea}
use Rattle.fresh_checkpoints.specs.CdEdges.Shelf.{Stays, stable, wrote}
use Rattle.fresh_checkpoints.proofs.CdEdges.Moments.{stayed}
use Rattle.record_laws.specs.ContainerLog.Caches.{Kept, AreContainersOf}
use Rattle.record_laws.specs.ContainerLog.Laying.{Placed, IsAt, laid, placed}
use Rattle.record_laws.specs.ContainerLog.Places.{end_of_laid}
use Rattle.record_laws.specs.ContainerLog.States.{State, HasStaged, Agrees, OnAgreeing, IsTorn, staged_end, in_area, area_flushed}
use Rattle.fresh_checkpoints.specs.Checkpoints.Picking.{picked}
use Rattle.fresh_checkpoints.proofs.CompactMemories.Relaying.{laid_grows}
use Rattle.blob_copy.specs.Apart.{IsApart}
use Rattle.blob_copy.specs.Copies.{Blob}
use Rattle.blob_copy.specs.Runs.{StagesSome, CopiesTo, MayTear, blob_lens, all_end}
use Rattle.blob_copy.proofs.Beside.{flush_written}
use Rattle.blob_copy.proofs.Gathered.{laid_append, lens_blobs}

-- ---- logs

state_is : (a b : State) → a.area ≡ b.area → a.limit ≡ b.limit → a.staged ≡ b.staged → a.keep ≡ b.keep → a ≡ record b { end = a.end; kept = a.kept }
state_is a b area limit staged keep = λ i. record { area = area i; limit = limit i; end = a.end; staged = staged i; keep = keep i; kept = a.kept }

pub some_or_none : (bytes : List ℕ) → (bytes ≡ []) ⊎ (bytes ≢ [])
some_or_none [] = inl refl
some_or_none (x ∷ xs) = inr (λ no. let wrong : x ∷ xs ≡ [] = no in cc)

-- ---- images

-- whatever was written since, and a run that begins where a cloud was only read
pub leaves_from : (old mid new : Cloud) (P : Image → Type 0) → Stays old mid → LeavesOnly mid new P → LeavesOnly old new P
leaves_from old mid new P stays run = record {
  since = run.since;
  past = run.past ∙ ap (λ (l : List Areas). l ++ run.since) stays.past;
  each = run.each;
}

torn_none : (store : Store) (end : ℕ) (image : List ℕ) → MayLeave store image → MayLeave (wrote store end []) image
torn_none store end image left = record {
  no_shorter = left.no_shorter;
  no_longer = let long = left.no_longer in omega (arith, long);
  kept = λ place lt outside. left.kept place lt outside.1;
}

module _ {E X : Type 0} (f : Option E → Option X) (blob : X → Blob) (slots : List (Option E)) (from : ℕ) (log after : State) (none : HasStaged log []) (old mid : Cloud) (stays : Stays old mid) where
  start_is : staged_end log ≡ log.end
  start_is = let nothing = ap length none.bytes in omega (arith, nothing)

  -- nothing was written
  pub untorn : MayTear log (all_end f blob slots from log.end) old mid
  untorn = record {
    bytes = [];
    within = let grows = laid_grows log.end (blob_lens (map blob (picked f (drop from slots)))) in omega (arith, grows);
    torn = stayed old mid (IsTorn (record log { staged = [] }) old) stays (λ image left. record {
      area = torn_none (old.now log.area) log.end (image log.area) (left log.area);
      others = λ other ne. left other;
    });
  }

  module _ (to : ℕ) (s : StagesSome f blob slots from to old log after) (new : Cloud) where
    area_is : after.area ≡ log.area
    area_is = ap (λ (l : State). l.area) s.goes.stages.same

    end_is : after.end ≡ log.end
    end_is = ap (λ (l : State). l.end) s.goes.stages.same

    -- what is staged ends where all that is alive ends at the latest
    staged_within : log.end + length after.staged ≤ all_end f blob slots from log.end
    staged_within =
        let lens = blob_lens (map blob s.goes.more) in let rest = blob_lens (map blob (picked f (drop to slots))) in
        let whole : all_end f blob slots from log.end ≡ end_of_laid (end_of_laid log.end lens) rest =
        ap (λ (xs : List X). end_of_laid log.end (blob_lens (map blob xs))) s.goes.left ∙ ap (end_of_laid log.end) (lens_blobs f blob slots s.goes.more (picked f (drop to slots))) ∙ laid_append log.end lens rest in
        let ends : staged_end after ≡ end_of_laid log.end lens = s.goes.stages.ends ∙ ap (λ (n : ℕ). end_of_laid n lens) start_is in
        let grows = laid_grows (end_of_laid log.end lens) rest in
        omega (arith, whole, ends, grows, end_is)

    pub torn : LeavesOnly mid new (IsTorn after mid) → MayTear log (all_end f blob slots from log.end) old new
    torn run = record {
      bytes = after.staged;
      within = staged_within;
      torn = leaves_from old mid new (IsTorn (record log { staged = after.staged }) old) stays
          (subst (λ (n : Areas). LeavesOnly mid new (IsAtArea n log.area (MayLeave (wrote (n log.area) log.end after.staged)))) stays.now
          (subst (λ (l : State). LeavesOnly mid new (IsAtArea mid.now l.area (MayLeave (wrote (mid.now l.area) l.end after.staged)))) s.goes.stages.same run));
    }

    module _ (told_is : mid.told ≡ old.told) (ends : State) (kept : List Kept) (flushed : ends ≡ record after { end = staged_end after; staged = []; kept = kept }) (nothing_staged : HasStaged ends [])
        (written : IsTrue mid.told → after.staged ≢ [] → new.now after.area ≡ area_flushed after mid)
        (placed_all : IsTrue mid.told → (blobs : List (List ℕ)) → HasStaged after blobs → All (IsAt (in_area after new)) (placed after.end blobs))
        (others : IsTrue mid.told → (other : Area) → other ≢ after.area → new.now other ≡ mid.now other)
        (nothing : after.staged ≡ [] → new ≡ mid)
        (agrees : OnAgreeing after mid (Agrees ends (in_area ends new))) where
      told_mid : IsTrue old.told → IsTrue mid.told
      told_mid told = subst (λ (t : Bool). IsTrue t) (sym told_is) told

      has : HasStaged after s.goes.stages.strings
      has = s.goes.stages.staged [] none

      bytes_are : in_area after mid ≡ in_area log old
      bytes_are = ap (λ (a : Area). (mid.now a).read) area_is ∙ ap (λ (n : Areas). (n log.area).read) stays.now

      now_are : in_area after new ≡ in_area log new
      now_are = ap (λ (a : Area). (new.now a).read) area_is

      staged_are : after.staged ≡ laid log.end s.goes.stages.strings
      staged_are = has.bytes ∙ ap (λ (n : ℕ). laid n s.goes.stages.strings) end_is

      stays_apart : IsTrue old.told → (b : Placed) → IsApart log.end (laid log.end s.goes.stages.strings) b → IsAt (in_area log old) b → IsAt (in_area log new) b
      stays_apart told b apart at = by_bytes (some_or_none after.staged)
        where
          there : IsAt (in_area after mid) b
          there = subst (λ (bytes : List ℕ). IsAt bytes b) (sym bytes_are) at

          beside : IsApart after.end after.staged b
          beside = subst (λ (n : ℕ). IsApart n after.staged b) (sym end_is) (subst (λ (bytes : List ℕ). IsApart log.end bytes b) (sym staged_are) apart)

          by_bytes : (after.staged ≡ []) ⊎ (after.staged ≢ []) → IsAt (in_area log new) b
          by_bytes (inl none_is) = subst (λ (bytes : List ℕ). IsAt bytes b) (sym (ap (λ (c : Cloud). (c.now after.area).read) (nothing none_is)) ∙ now_are) there
          by_bytes (inr some) = subst (λ (bytes : List ℕ). IsAt bytes b) now_are (flush_written after mid new b beside there (written (told_mid told) some))

      stays_on_disk : IsTrue old.told → old.now log.area ≡ stable (in_area log old) → new.now log.area ≡ stable (in_area log new)
      stays_on_disk told on_disk = by_bytes (some_or_none after.staged)
        where
          by_bytes : (after.staged ≡ []) ⊎ (after.staged ≢ []) → new.now log.area ≡ stable (in_area log new)
          by_bytes (inl none_is) =
              let same : new.now log.area ≡ old.now log.area = ap (λ (c : Cloud). c.now log.area) (nothing none_is) ∙ ap (λ (n : Areas). n log.area) stays.now in
              same ∙ on_disk ∙ ap (λ (s : Store). stable s.read) (sym same)
          by_bytes (inr some) =
              let is : new.now log.area ≡ area_flushed after mid = ap (λ (a : Area). new.now a) (sym area_is) ∙ written (told_mid told) some in
              is ∙ ap (λ (s : Store). stable s.read) (sym is)

      pub copies : CopiesTo f blob slots from to log ends old new
      copies = record {
        more = s.goes.more;
        reaches = s.goes.reaches;
        left = s.goes.left;
        further = s.further;
        some = s.some;
        strings = s.goes.stages.strings;
        read = s.goes.stages.read;
        same = state_is ends log (ap (λ (l : State). l.area) flushed ∙ area_is) (ap (λ (l : State). l.limit) flushed ∙ ap (λ (l : State). l.limit) s.goes.stages.same)
            (ap (λ (l : State). l.staged) flushed ∙ sym none.bytes) (ap (λ (l : State). l.keep) flushed ∙ ap (λ (l : State). l.keep) s.goes.stages.same);
        end_is = ap (λ (l : State). l.end) flushed ∙ s.goes.stages.ends ∙ ap (λ (n : ℕ). end_of_laid n (blob_lens (map blob s.goes.more))) start_is;
        none = nothing_staged;
        agrees = λ told had. agrees (told_mid told)
            (subst (λ (bytes : List ℕ). AreContainersOf bytes after.kept) (sym bytes_are) (subst (λ (k : List Kept). AreContainersOf (in_area log old) k) (sym (ap (λ (l : State). l.kept) s.goes.stages.same)) had));
        lie = λ told. subst (λ (bytes : List ℕ). All (IsAt bytes) (placed log.end s.goes.stages.strings)) now_are
            (subst (λ (n : ℕ). All (IsAt (in_area after new)) (placed n s.goes.stages.strings)) end_is (placed_all (told_mid told) s.goes.stages.strings has));
        apart = stays_apart;
        on_disk = stays_on_disk;
        others = λ told other ne. others (told_mid told) other (λ same. ne (same ∙ area_is)) ∙ ap (λ (n : Areas). n other) stays.now;
      }
