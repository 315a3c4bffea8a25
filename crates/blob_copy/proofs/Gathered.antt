-- Blobs that are read and staged, one behind another.
use Rattle.std.proofs.Common.{◌≡◌, ℕ, ◌+◌, ◌-◌, ◌<◌, ◌≤◌, Bool, List, [], ◌∷◌, ◌++◌, length, map, take, drop, Option, Some, None, refl, sym, ap, ◌∙◌, subst, append_assoc, append-nil, arith, length-append}
use Rattle.std.specs.Prelude.{replicate, slice_index_or}
use Rattle.std.proofs.lemmas.List.{take_more, drop_more, take_all, map-append, length-replicate}
use Rattle.record_laws.specs.ContainerLog.Places.{container_len, place_of, end_after, end_of_laid}
use Rattle.record_laws.specs.ContainerLog.States.{State, HasStaged, need_of, staged_end, with_blob, in_area}
use Rattle.record_laws.proofs.ContainerLog.Least.{place_behind}
use Rattle.record_laws.proofs.ContainerLog.Staged.{staged_more}
use Rattle.fresh_checkpoints.specs.CdEdges.Disk.{Areas, Cloud}
use Rattle.fresh_checkpoints.specs.Checkpoints.Picking.{onto, picked}
use Rattle.fresh_checkpoints.proofs.Checkpoints.Picks.{picked-append}
use Rattle.fresh_checkpoints.proofs.CompactMemories.Relaying.{laid_grows}
use Rattle.blob_copy.specs.Copies.{Blob}
use Rattle.blob_copy.specs.Runs.{IsReadAs, AreBlobsRead, blob_lens, StagesMore, StagesTo, StagesSome, all_end}

-- ---- ends

pub laid_append : (end : ℕ) (xs ys : List ℕ) → end_of_laid end (xs ++ ys) ≡ end_of_laid (end_of_laid end xs) ys
laid_append end [] ys = refl
laid_append end (x ∷ xs) ys = laid_append (end_after end x) xs ys

pub lens_append : (bs ds : List Blob) → blob_lens (bs ++ ds) ≡ blob_lens bs ++ blob_lens ds
lens_append bs ds = map-append (λ (b : Blob). b.len) bs ds

with_blob_end : (log : State) (out : List ℕ) → staged_end (with_blob log out) ≡ end_after (staged_end log) (length out)
with_blob_end log out =
    let gap : ℕ = place_of (staged_end log) (length out) - staged_end log in
    omega (arith, length-append (log.staged ++ replicate gap 0) out, length-append log.staged (replicate gap 0), length-replicate {A = ℕ} gap 0, place_behind (staged_end log) (length out))

-- ---- what is read

read_append : (told : Bool) (area : List ℕ) (bs ds : List Blob) (ss ts : List (List ℕ)) → AreBlobsRead told area bs ss → AreBlobsRead told area ds ts → AreBlobsRead told area (bs ++ ds) (ss ++ ts)
read_append told area [] ds [] ts one two = two
read_append told area [] ds (s ∷ ss) ts one two = absurd one
read_append told area (b ∷ bs) ds [] ts one two = absurd one
read_append told area (b ∷ bs) ds (s ∷ ss) ts one two = (one.0, read_append told area bs ds ss ts one.1 two)

-- ---- one blob, none, and one run behind another

pub one_staged : (told : Bool) (area : List ℕ) (b : Blob) (log mid after : State) (out : List ℕ) → mid ≡ log → IsReadAs told area b out → after ≡ with_blob mid out
    → need_of log b.len ≤ container_len → StagesMore told area (b ∷ []) log after
one_staged told area b log mid after out same is staged room = record {
  strings = out ∷ [];
  read = (is, tt);
  same = subst (λ (s : State). s ≡ record log { staged = s.staged }) (sym after_is) refl;
  staged = λ first has. subst (λ (s : State). HasStaged s (first ++ out ∷ [])) (sym after_is) (staged_more log first out has (subst (λ (n : ℕ). need_of log n ≤ container_len) (sym is.long) room));
  ends = ap staged_end after_is ∙ with_blob_end log out ∙ ap (end_after (staged_end log)) is.long;
}
  where
    after_is : after ≡ with_blob log out
    after_is = staged ∙ ap (λ (s : State). with_blob s out) same

pub none_staged : (told : Bool) (area : List ℕ) (log : State) → StagesMore told area [] log log
none_staged told area log = record {
  strings = [];
  read = tt;
  same = refl;
  staged = λ first has. subst (HasStaged log) (sym (append-nil first)) has;
  ends = refl;
}

more_staged : (told : Bool) (area : List ℕ) (bs ds : List Blob) (a b c : State) → StagesMore told area bs a b → StagesMore told area ds b c → StagesMore told area (bs ++ ds) a c
more_staged told area bs ds a b c x y = record {
  strings = x.strings ++ y.strings;
  read = read_append told area bs ds x.strings y.strings x.read y.read;
  same = y.same ∙ ap (λ (s : State). let t : State = record s { staged = c.staged } in t) x.same;
  staged = λ first has. subst (HasStaged c) (append_assoc first x.strings y.strings) (y.staged (first ++ x.strings) (x.staged first has));
  ends =
      y.ends
      ∙ ap (λ (n : ℕ). end_of_laid n (blob_lens ds)) x.ends
      ∙ sym (laid_append (staged_end a) (blob_lens bs) (blob_lens ds))
      ∙ ap (end_of_laid (staged_end a)) (sym (lens_append bs ds));
}

-- ---- slot by slot

onto-split : {X : Type 0} (r : Option X) (xs : List X) → onto r xs ≡ onto r [] ++ xs
onto-split None xs = refl
onto-split (Some x) xs = refl

module _ {E X : Type 0} (f : Option E → Option X) (blob : X → Blob) (slots : List (Option E)) where
  up_to : (slot : ℕ) → slot < length slots → picked f (take (slot + 1) slots) ≡ picked f (take slot slots) ++ onto (f (slice_index_or slots slot None)) []
  up_to slot below = ap (picked f) (take_more slots slot None below) ∙ picked-append f (take slot slots) (slice_index_or slots slot None ∷ [])

  from_on : (slot : ℕ) → slot < length slots → picked f (drop slot slots) ≡ onto (f (slice_index_or slots slot None)) [] ++ picked f (drop (slot + 1) slots)
  from_on slot below = ap (picked f) (drop_more slots slot None below) ∙ onto-split (f (slice_index_or slots slot None)) (picked f (drop (slot + 1) slots))

  pub lens_blobs : (xs ys : List X) → blob_lens (map blob (xs ++ ys)) ≡ blob_lens (map blob xs) ++ blob_lens (map blob ys)
  lens_blobs xs ys = ap blob_lens (map-append blob xs ys) ∙ lens_append (map blob xs) (map blob ys)

  -- the blob of the slot, where there is one, has room where all that is left has
  pub first_within : (slot end limit : ℕ) (x : X) → slot < length slots → f (slice_index_or slots slot None) ≡ Some x → all_end f blob slots slot end ≤ limit → end_after end (blob x).len ≤ limit
  first_within slot end limit x below is within =
      let rest : List X = picked f (drop (slot + 1) slots) in
      let here : picked f (drop slot slots) ≡ x ∷ rest = from_on slot below ∙ ap (λ (r : Option X). onto r [] ++ rest) is in
      let same = ap (λ (xs : List X). end_of_laid end (blob_lens (map blob xs))) here in
      let grows = laid_grows (end_after end (blob x).len) (blob_lens (map blob rest)) in
      omega (arith, within, same, grows)

  module _ (old : Cloud) (from : ℕ) (a : State) where
    pub slots_begin : StagesTo f blob slots from from old a a
    slots_begin = record { more = []; reaches = sym (append-nil _); left = refl; stages = none_staged old.told (in_area a old) a }

    pub slots_on : (slot : ℕ) (mid : Cloud) (b c : State) → slot < length slots → StagesTo f blob slots from slot old a b → mid.told ≡ old.told → mid.now ≡ old.now
        → StagesMore mid.told (in_area b mid) (map blob (onto (f (slice_index_or slots slot None)) [])) b c → StagesTo f blob slots from (slot + 1) old a c
    slots_on slot mid b c below s told now next = record {
      more = s.more ++ here;
      reaches = up_to slot below ∙ ap (λ (xs : List X). xs ++ here) s.reaches ∙ append_assoc (picked f (take from slots)) s.more here;
      left = s.left ∙ ap (λ (xs : List X). s.more ++ xs) (from_on slot below) ∙ sym (append_assoc s.more here (picked f (drop (slot + 1) slots)));
      stages = subst (λ (bs : List Blob). StagesMore old.told (in_area a old) bs a c) (sym (map-append blob s.more here))
          (more_staged old.told (in_area a old) (map blob s.more) (map blob here) a b c s.stages
          (subst (λ (t : Bool). StagesMore t (in_area a old) (map blob here) b c) told
          (subst (λ (bytes : List ℕ). StagesMore mid.told bytes (map blob here) b c) area next)));
    }
      where
        here : List X
        here = onto (f (slice_index_or slots slot None)) []

        area : in_area b mid ≡ in_area a old
        area = ap (λ (s : State). (mid.now s.area).read) s.stages.same ∙ ap (λ (n : Areas). (n a.area).read) now

    -- what is left ends where it did
    pub end_on : (slot : ℕ) (b : State) → StagesTo f blob slots from slot old a b → all_end f blob slots slot (staged_end b) ≡ all_end f blob slots from (staged_end a)
    end_on slot b s =
        ap (λ (n : ℕ). end_of_laid n (blob_lens (map blob (picked f (drop slot slots))))) s.stages.ends
        ∙ sym (laid_append (staged_end a) (blob_lens (map blob s.more)) (blob_lens (map blob (picked f (drop slot slots)))))
        ∙ ap (end_of_laid (staged_end a)) (sym (lens_blobs s.more (picked f (drop slot slots))))
        ∙ ap (λ (xs : List X). end_of_laid (staged_end a) (blob_lens (map blob xs))) (sym s.left)

    -- where bytes are staged, something was
    grown : (b : State) (xs : List X) → length a.staged ≡ 0 → b.end ≡ a.end → staged_end b ≡ end_of_laid (staged_end a) (blob_lens (map blob xs)) → 1 ≤ length b.staged → 1 ≤ length xs
    grown b [] none end ends some = absurd (omega (arith, none, end, ends, some))
    grown b (x ∷ xs) none end ends some = omega arith

    pub some_before : (slot : ℕ) (b : State) → length a.staged ≡ 0 → from ≤ slot → StagesTo f blob slots from slot old a b → 1 ≤ length b.staged → StagesSome f blob slots from slot old a b
    some_before slot b none le s some = record {
      goes = s;
      further = le;
      some = grown b s.more none (ap (λ (s : State). s.end) s.stages.same) s.stages.ends some;
    }

    -- at the last slot
    pub some_at_end : (slot to : ℕ) (b : State) → length (picked f (take from slots)) < length (picked f slots) → to ≡ length slots → to ≤ slot → (from ≤ to → slot ≤ to)
        → StagesTo f blob slots from slot old a b → StagesSome f blob slots from to old a b
    some_at_end slot to b less last past upper s = record {
      goes = at_last;
      further = le;
      some =
          let all = ap length at_last.reaches in let parts = length-append (picked f (take from slots)) at_last.more in
          let whole = ap (λ (xs : List (Option E)). length (picked f xs)) (take_all to slots (omega (arith, last))) in
          omega (arith, all, parts, whole, less);
    }
      where
        by_place : (past_all : length slots ≤ from) → ⊥
        by_place past_all = let whole = ap (λ (xs : List (Option E)). length (picked f xs)) (take_all from slots past_all) in omega (arith, whole, less)

        le : from ≤ to
        le = omega (arith, by_place, last)

        at_last : StagesTo f blob slots from to old a b
        at_last = subst (λ (n : ℕ). StagesTo f blob slots from n old a b) (let up = upper le in omega (arith, up, past)) s
