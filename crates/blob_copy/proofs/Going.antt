-- A run over slots, whose blobs are read and staged.
use Rattle.std.proofs.Common.{◌≡◌, ℕ, ◌+◌, ◌<◌, ◌≤◌, Bool, true, false, IsTrue, List, [], ◌∷◌, length, map, Option, Some, None, refl, sym, ap, ◌∙◌, subst, arith}
use Rattle.std.specs.Prelude.{slice_index_or, Result, Ok, Err}
use Rattle.std.specs.List.{Contains}
use Rattle.compact_lists.specs.CdBase.ids.Fp.{Fp}
use Rattle.fresh_checkpoints.specs.CdEdges.Disk.{Cloud}
use Rattle.fresh_checkpoints.specs.CdEdges.Shelf.{KeepsCounts}
use Rattle.fresh_checkpoints.proofs.CdEdges.Calls.{called_twice}
use Rattle.record_laws.specs.ContainerLog.States.{State, staged_end, in_area}
use Rattle.fresh_checkpoints.specs.Checkpoints.Picking.{onto, picked}
use Rattle.fresh_checkpoints.proofs.Checkpoints.Sought.{in_picked}
use Rattle.blob_copy.specs.Answers.{MatchCopy, EitherWay, IsRotten}
use Rattle.blob_copy.specs.Copies.{Blob, found_in}
use Rattle.blob_copy.specs.Runs.{StagesMore, StagesTo, IsReadAlone, all_end}
use Rattle.blob_copy.specs.declared.copying.CopyErr.{CopyErr}
use Rattle.blob_copy.specs.declared.copying.CopyErr.TheVariants as why
use Rattle.blob_copy.proofs.Gathered.{slots_begin, slots_on, end_on}

-- ---- one slot

-- what stands in a slot is picked
pub among : {E X : Type 0} (f : Option E → Option X) → f None ≡ None → (slots : List (Option E)) (slot : ℕ) (x : X) → f (slice_index_or slots slot None) ≡ Some x → Contains (picked f slots) x
among {E = E} {X = X} f none slots slot x is = by_slot (slice_index_or slots slot None) refl is
  where
    by_slot : (o : Option E) → slice_index_or slots slot None ≡ o → f o ≡ Some x → Contains (picked f slots) x
    by_slot None at picks = absurd (let no : ◌≡◌ {A = Option X} None (Some x) = sym none ∙ picks in cc)
    by_slot (Some e) at picks = in_picked f none slots slot e x at picks

abbrev OneStaged : Bool → List ℕ → List Blob → State → State → Bool → Type 0
OneStaged told area bs log after staged = EitherWay staged (StagesMore told area bs log after) ((1 ≤ length log.staged) × (after ≡ log))

module _ (told : Bool) (area : List ℕ) (b : Blob) (bs : List Blob) (log after : State) (P : Fp → Fp → Type 0) (same : (b ∷ []) ≡ bs)
    (rotten : (name found : Fp) → name ≡ b.named → IsRotten (found_in area b) b.len name found → P name found) where
  pub slot_staged : (r : Result Bool CopyErr)
      → MatchCopy r (OneStaged told area (b ∷ []) log after) (after ≡ log) (λ name found. (after ≡ log) × (name ≡ b.named) × (IsTrue told → IsRotten (found_in area b) b.len name found))
      → MatchCopy r (OneStaged told area bs log after) (after ≡ log) (λ name found. (after ≡ log) × (IsTrue told → P name found))
  slot_staged (Ok staged) is = subst (λ (ds : List Blob). OneStaged told area ds log after staged) same is
  slot_staged (Err why.Fault) is = is
  slot_staged (Err (why.Rotten named found)) is = (is.0, λ t. rotten named found is.1 (is.2 t))
  slot_staged (Err why.Long) is = is

-- ---- slot after slot

pub read_twice : (a b c : ℕ → Cloud) (number before mid now : ℕ) → IsReadAlone a b number before mid → IsReadAlone b c number mid now → IsReadAlone a c number before now
read_twice a b c number before mid now one two = record {
  stays = record { armed = two.stays.armed ∙ one.stays.armed; past = two.stays.past ∙ one.stays.past; now = two.stays.now ∙ one.stays.now };
  call = called_twice a b c number before mid now one.call two.call;
}

pub counted_twice : (a b c : Cloud) (before mid now : ℕ) → KeepsCounts a b before mid → KeepsCounts b c mid now → KeepsCounts a c before now
counted_twice a b c before mid now one two = record { cloud = two.cloud ∙ one.cloud; total = two.total ∙ one.total }

-- The slots from the one on were gone over, up to the other; the cloud was read alone, and no call failed.
pub record Going {E X : Type 0} (f : Option E → Option X) (blob : X → Blob) (slots : List (Option E)) (from slot : ℕ) (old new : ℕ → Cloud) (number before now : ℕ) (a b : State) : Type 0 where
  pub goes : StagesTo f blob slots from slot (old number) a b
  pub reads : IsReadAlone old new number before now
  pub counts : KeepsCounts (old number) (new number) before now

module _ {E X : Type 0} (f : Option E → Option X) (blob : X → Blob) (slots : List (Option E)) (from : ℕ) (old : ℕ → Cloud) (number before : ℕ) (a : State) where
  pub going_begins : Going f blob slots from from old old number before before a a
  going_begins = record {
    goes = slots_begin f blob slots (old number) from a;
    reads = record {
      stays = record { armed = refl; past = refl; now = refl };
      call = record { others = λ other ne. refl; told = refl; armings = refl; later = omega arith; total_later = omega arith };
    };
    counts = record { cloud = refl; total = refl };
  }

  module _ (slot : ℕ) (mid new : ℕ → Cloud) (between now : ℕ) (b c : State) (g : Going f blob slots from slot old mid number before between a b) where
    pub going_on : slot < length slots → (staged : Bool) → staged ≡ true
        → OneStaged (mid number).told (in_area b (mid number)) (map blob (onto (f (slice_index_or slots slot None)) [])) b c staged
        → IsReadAlone mid new number between now → KeepsCounts (mid number) (new number) between now
        → Going f blob slots from (slot + 1) old new number before now a c
    going_on below staged is one reads counts = record {
      goes = slots_on f blob slots (old number) from a slot (mid number) b c below g.goes g.reads.call.told g.reads.stays.now
          (subst (λ (s : Bool). OneStaged (mid number).told (in_area b (mid number)) (map blob (onto (f (slice_index_or slots slot None)) [])) b c s) is one);
      reads = read_twice old mid new number before between now g.reads reads;
      counts = counted_twice (old number) (mid number) (new number) before between now g.counts counts;
    }

    -- where the next blob has no room
    pub stopped_goes : (staged : Bool) → staged ≡ false → OneStaged (mid number).told (in_area b (mid number)) (map blob (onto (f (slice_index_or slots slot None)) [])) b c staged
        → (1 ≤ length c.staged) × StagesTo f blob slots from slot (old number) a c
    stopped_goes staged is one =
        let both = subst (λ (s : Bool). OneStaged (mid number).told (in_area b (mid number)) (map blob (onto (f (slice_index_or slots slot None)) [])) b c s) is one in
        (subst (λ (s : State). 1 ≤ length s.staged) (sym both.1) both.0, subst (λ (s : State). StagesTo f blob slots from slot (old number) a s) (sym both.1) g.goes)

    -- the next blob has room where all that is left has
    pub next_within : all_end f blob slots from a.end ≤ a.limit → length a.staged ≡ 0 → all_end f blob slots slot (staged_end b) ≤ b.limit
    next_within within none =
        let same = end_on f blob slots (old number) from a slot b g.goes in
        let first : staged_end a ≡ a.end = omega (arith, none) in
        let begins = ap (λ (n : ℕ). all_end f blob slots from n) first in
        let limit : b.limit ≡ a.limit = ap (λ (s : State). s.limit) g.goes.stages.same in
        omega (arith, within, same, begins, limit)
