-- What one step more does to what is told of a cloud.
use Rattle.std.proofs.Common.{Bool, Result, Ok, Err, IsErr, OnOk, OnErr, ◌≡◌, ◌≢◌, inl, inr, ⊎_elim, ℕ, ◌-◌, ◌≤◌, List, [], ◌∷◌, ◌++◌, length, sym, ◌∙◌, ap, subst, arith}
use Rattle.std.proofs.lemmas.Bool.Decides.{nat_tests}
use Rattle.std.proofs.lemmas.Bool.{false≢true}
use Rattle.mem_disk.specs.CdEdges.area.Area.{Area}
use Rattle.mem_disk.specs.CdEdges.Disk.{Store, Areas, IsImage, MayLeave}
use Rattle.mem_disk.specs.CdEdges.Shelf.{wrote, stable, Changes, IsCutShort, counted_down, arming_of, IsCallCut, Writes, Syncs, Refreshes}
use Rattle.mem_disk.proofs.CdEdges.Shrinks.{area_cases}
use Rattle.mem_disk.proofs.CdEdges.Since.{image_of_wrote}
use Rattle.cd_fakes.specs.declared.cloud.MemCloud.{MemCloud}
use Rattle.mem_disk.specs.declared.disk.MemDisk.{MemDisk}
use Rattle.mem_disk.specs.History.{DiskStep, Write, Sync, Empty, Crash, nothing, after, now_of, past_of}
use Rattle.mem_disk.specs.StepsImage.{reads_image, nothing_image}
use Rattle.mem_disk.proofs.Filled.{crashed_image}
use Rattle.mem_disk.specs.Disks.{history_of}
use Rattle.cd_fakes.specs.Clouds.{cloud_of, Puts, Crashes}
use Rattle.mem_disk.proofs.Noted.{now_more, past_more, with_area_here, with_area_there}

-- a longer range leaves more
longer : (store : Store) (place : ℕ) (short long image : List ℕ) → length short ≤ length long → MayLeave (wrote store place short) image → MayLeave (wrote store place long) image
longer store place short long image le left = record {
  no_shorter = left.no_shorter;
  no_longer = omega (arith, left.no_longer, le);
  kept = λ k within outside. left.kept k within (⊎_elim (λ below. inl below) (λ above. inr (omega (arith, above, le))) outside.0, outside.1);
}

module _ (m m' : MemCloud) where
  module _ (step : DiskStep) (more : history_of m'.disk ≡ history_of m.disk ++ step ∷ []) where
    pub now_is : (cloud_of m').now ≡ after (cloud_of m).now step
    now_is = ap (λ (l : List DiskStep). now_of nothing l) more ∙ now_more nothing (history_of m.disk) step

    pub past_is : (cloud_of m').past ≡ (cloud_of m).past ++ (cloud_of m).now ∷ []
    past_is = ap (λ (l : List DiskStep). past_of nothing l) more ∙ past_more nothing (history_of m.disk) step

  pub changes_wrote : (area : Area) (place : ℕ) (bytes : List ℕ) → history_of m'.disk ≡ history_of m.disk ++ Write area place bytes ∷ [] → Changes (cloud_of m) (cloud_of m') area (wrote ((cloud_of m).now area) place bytes)
  changes_wrote area place bytes more =
      let now : (cloud_of m').now ≡ after (cloud_of m).now (Write area place bytes) = now_is (Write area place bytes) more in
      let store = wrote ((cloud_of m).now area) place bytes in
      record {
        past = past_is (Write area place bytes) more;
        area = ap (λ (a : Areas). a area) now ∙ with_area_here (cloud_of m).now area store;
        others = λ other ne. ap (λ (a : Areas). a other) now ∙ with_area_there (cloud_of m).now area other store ne;
      }

  pub changes_synced : (area : Area) → history_of m'.disk ≡ history_of m.disk ++ Sync area ∷ [] → Changes (cloud_of m) (cloud_of m') area (stable ((cloud_of m).now area).read)
  changes_synced area more =
      let now : (cloud_of m').now ≡ after (cloud_of m).now (Sync area) = now_is (Sync area) more in
      let store = stable ((cloud_of m).now area).read in
      record {
        past = past_is (Sync area) more;
        area = ap (λ (a : Areas). a area) now ∙ with_area_here (cloud_of m).now area store;
        others = λ other ne. ap (λ (a : Areas). a other) now ∙ with_area_there (cloud_of m).now area other store ne;
      }

  -- part of a write was put
  pub cut_wrote : (area : Area) (place : ℕ) (part bytes : List ℕ) → length part ≤ length bytes → history_of m'.disk ≡ history_of m.disk ++ Write area place part ∷ [] → IsCutShort (cloud_of m) (cloud_of m') area (wrote ((cloud_of m).now area) place bytes)
  cut_wrote area place part bytes le more =
      let c : Changes (cloud_of m) (cloud_of m') area (wrote ((cloud_of m).now area) place part) = changes_wrote area place part more in
      record {
        past = inr c.past;
        still = λ image old other. elim (area_cases area other) [
          | inl same ↦ subst (λ (a : Area). MayLeave ((cloud_of m').now a) (image a)) same (subst (λ (s : Store). MayLeave s (image area)) (sym c.area) (image_of_wrote ((cloud_of m).now area) place part (image area) (old area)))
          | inr ne ↦ subst (λ (s : Store). MayLeave s (image other)) (sym (c.others other ne)) (old other)
        ];
        area = λ image left. longer ((cloud_of m).now area) place part bytes image le (subst (λ (s : Store). MayLeave s image) c.area left);
        others = λ other ne image left. subst (λ (s : Store). MayLeave s image) (c.others other ne) left;
      }

  -- nothing was done
  pub cut_unchanged : (area : Area) (torn : Store) → ((image : List ℕ) → MayLeave ((cloud_of m).now area) image → MayLeave torn image) → history_of m'.disk ≡ history_of m.disk → IsCutShort (cloud_of m) (cloud_of m') area torn
  cut_unchanged area torn less same =
      let now : (cloud_of m').now ≡ (cloud_of m).now = ap (λ (l : List DiskStep). now_of nothing l) same in
      record {
        past = inl (ap (λ (l : List DiskStep). past_of nothing l) same);
        still = λ image old. subst (λ (a : Areas). IsImage a image) (sym now) old;
        area = λ image left. less image (subst (λ (a : Areas). MayLeave (a area) image) now left);
        others = λ other ne image left. subst (λ (a : Areas). MayLeave (a other) image) now left;
      }

  pub emptied : {T E : Type 0} (value : T) → m'.cut ≡ 0 → history_of m'.disk ≡ history_of m.disk ++ Empty ∷ [] → Refreshes {T = T} {E = E} (cloud_of m) (cloud_of m') (Ok value)
  emptied value cut more = record {
    ok = record {
      armed = ap (λ (n : ℕ). arming_of n m'.keep) cut;
      past = past_is Empty more;
      now = λ area. ap (λ (a : Areas). a area) (now_is Empty more);
    };
    err = tt;
  }

  pub crashes : (fill : ℕ) (whole : Bool) → m' ≡ record m { disk = m'.disk } → m'.disk.told ≡ m.disk.told → history_of m'.disk ≡ history_of m.disk ++ Crash fill whole ∷ [] → Crashes (cloud_of m) (cloud_of m') fill whole
  crashes fill whole rest told more =
      let now : (cloud_of m').now ≡ after (cloud_of m).now (Crash fill whole) = now_is (Crash fill whole) more in
      record {
        now = λ area. ap (λ (a : Areas). a area) now;
        image = λ area. subst (λ (a : Areas). MayLeave ((cloud_of m).now area) (a area).read) (sym now) (crashed_image fill whole ((cloud_of m).now area) (reads_image nothing (history_of m.disk) nothing_image area));
        past = past_is (Crash fill whole) more;
        told = told;
        faults = ap (λ (x : MemCloud). x.faults) rest;
        armings = ap (λ (x : MemCloud). x.armings) rest;
        armed = ap (λ (x : MemCloud). arming_of x.cut x.keep) rest;
      }

counted : (calls keep : ℕ) → arming_of (calls - 1) keep ≡ counted_down (arming_of calls keep)
counted calls keep = grind (arith, nat_tests)

cut_at_one : (calls keep : ℕ) → IsCallCut (arming_of calls keep) → calls ≡ 1
cut_at_one calls keep cut = grind (arith, nat_tests)

module _ (m m' : MemCloud) (armed : arming_of m'.cut m'.keep ≡ arming_of (m.cut - 1) m.keep) where
  armed_is : (cloud_of m').armed ≡ counted_down (cloud_of m).armed
  armed_is = armed ∙ counted m.cut m.keep

  -- a whole write
  pub wrote_whole : {T E : Type 0} (area : Area) (place : ℕ) (bytes : List ℕ) (value : T) → m.cut ≢ 1 → history_of m'.disk ≡ history_of m.disk ++ Write area place bytes ∷ [] → Writes {T = T} {E = E} (cloud_of m) (cloud_of m') area place bytes (Ok value)
  wrote_whole area place bytes value uncut more = record {
    ok = changes_wrote m m' area place bytes more;
    err = tt;
    armed = armed_is;
    cut = λ cut. absurd (uncut (cut_at_one m.cut m.keep cut));
  }

  pub synced_whole : {T E : Type 0} (area : Area) (value : T) → m.cut ≢ 1 → history_of m'.disk ≡ history_of m.disk ++ Sync area ∷ [] → Syncs {T = T} {E = E} (cloud_of m) (cloud_of m') area (Ok value)
  synced_whole area value uncut more = record {
    ok = changes_synced m m' area more;
    err = tt;
    armed = armed_is;
    cut = λ cut. absurd (uncut (cut_at_one m.cut m.keep cut));
  }

  -- a cut write
  pub wrote_part : {T E : Type 0} (r : Result T E) (area : Area) (place : ℕ) (part bytes : List ℕ) → IsErr r → length part ≤ length bytes → history_of m'.disk ≡ history_of m.disk ++ Write area place part ∷ [] → Writes (cloud_of m) (cloud_of m') area place bytes r
  wrote_part (Ok x) area place part bytes failed le more = absurd (false≢true failed)
  wrote_part (Err e) area place part bytes failed le more = record { ok = tt; err = cut_wrote m m' area place part bytes le more; armed = armed_is; cut = λ cut. failed }

  pub wrote_none : {T E : Type 0} (r : Result T E) (area : Area) (place : ℕ) (bytes : List ℕ) → IsErr r → history_of m'.disk ≡ history_of m.disk → Writes (cloud_of m) (cloud_of m') area place bytes r
  wrote_none (Ok x) area place bytes failed same = absurd (false≢true failed)
  wrote_none (Err e) area place bytes failed same = record { ok = tt; err = cut_unchanged m m' area _ (image_of_wrote ((cloud_of m).now area) place bytes) same; armed = armed_is; cut = λ cut. failed }

  pub synced_none : {T E : Type 0} (r : Result T E) (area : Area) → IsErr r → history_of m'.disk ≡ history_of m.disk → Syncs (cloud_of m) (cloud_of m') area r
  synced_none (Ok x) area failed same = absurd (false≢true failed)
  synced_none (Err e) area failed same = record { ok = tt; err = cut_unchanged m m' area _ (λ image left. left) same; armed = armed_is; cut = λ cut. failed }

-- whichever of the two a cut write was
pub wrote_cut : {T E U F : Type 0} (X Y : Type 0) (m d n m' : MemCloud) → d.disk ≡ m.disk → m'.disk ≡ n.disk → arming_of m'.cut m'.keep ≡ arming_of (m.cut - 1) m.keep → (p : Result U F) (r : Result T E) (area : Area) (place : ℕ) (part bytes : List ℕ) → IsErr r → length part ≤ length bytes
    → OnOk p (Puts d.disk n.disk area place part × X) → OnErr p ((n ≡ d) × Y) → Writes (cloud_of m) (cloud_of m') area place bytes r
wrote_cut X Y m d n m' before behind armed (Ok x) r area place part bytes failed le done none =
    wrote_part m m' armed r area place part bytes failed le (ap history_of behind ∙ done.0.history ∙ ap (λ (k : MemDisk). history_of k ++ Write area place part ∷ []) before)
wrote_cut X Y m d n m' before behind armed (Err e) r area place part bytes failed le done none =
    wrote_none m m' armed r area place bytes failed (ap history_of (behind ∙ ap (λ (x : MemCloud). x.disk) none.0 ∙ before))
