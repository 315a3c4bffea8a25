-- What a crash leaves of an area after one call, and its parts.
use Rattle.std.proofs.Common.{◌≡◌, ◌≢◌, ◌⊎◌, inl, inr, ℕ, ◌+◌, ◌<◌, ◌≤◌, max, List, [], ◌∷◌, ◌++◌, length, take, drop, Result, Ok, Err, sym, ◌∙◌, subst, arith, length-take, length-drop, get_or-take, get_or-drop}
use Rattle.std.proofs.lemmas.List.{ext_get_or}
use Rattle.cd_edges.specs.declared.area.Area.{Area}
use Rattle.cd_edges.specs.Disk.{Store, Image, MayLeave, IsImage, Cloud, LeavesOnly}
use Rattle.cd_edges.proofs.Moments.{joined, moved_or_not, at_end}
use Rattle.cd_edges.specs.Shelf.{wrote, stable, Changes, IsCutShort, Writes, Syncs}

-- what stays of a stable area while one range of it is written
pub record Torn (old : List ℕ) (place end : ℕ) (new : List ℕ) : Type 0 where
  pub no_shorter : length old ≤ length new
  pub no_longer : length new ≤ max end (length old)
  pub before : take place new ≡ take place old
  pub after : drop end new ≡ drop end old

pub torn : (old : List ℕ) (place : ℕ) (bytes new : List ℕ) → place ≤ length old → MayLeave (wrote (stable old) place bytes) new → Torn old place (place + length bytes) new
torn old place bytes new within left = record {
  no_shorter = left.no_shorter;
  no_longer = left.no_longer;
  before = ext_get_or 0 _ _ (omega (arith, left.no_shorter, length-take place new, length-take place old)) (λ k lt.
      let below : k < place = omega (arith, lt, length-take place new) in
      get_or-take place new k 0 below ∙ left.kept k (omega arith) (inl below, tt) ∙ sym (get_or-take place old k 0 below));
  after = ext_get_or 0 _ _ (omega (arith, left.no_shorter, left.no_longer, length-drop (place + length bytes) new, length-drop (place + length bytes) old)) (λ k lt.
      get_or-drop (place + length bytes) new k 0 ∙ left.kept (place + length bytes + k) (omega (arith, lt, left.no_longer, length-drop (place + length bytes) new)) (inr (omega arith), tt) ∙ sym (get_or-drop (place + length bytes) old k 0));
}

-- nothing of a stable area changes
pub only : (bytes image : List ℕ) → MayLeave (stable bytes) image → image ≡ bytes
only bytes image left = ext_get_or 0 _ _ (omega (arith, left.no_shorter, left.no_longer)) (λ k lt. left.kept k (omega (arith, lt, left.no_longer)) tt)

-- what a crash leaves after a call on one area, however it ended
pub record After (old new : Cloud) (changed : Area) (torn : Store) : Type 0 where
  pub past : (new.past ≡ old.past) ⊎ (new.past ≡ old.past ++ old.now ∷ [])
  pub area : (image : List ℕ) → MayLeave (new.now changed) image → MayLeave torn image
  pub others : (other : Area) → other ≢ changed → (image : List ℕ) → MayLeave (new.now other) image → MayLeave (old.now other) image

pub after_change : (old new : Cloud) (changed : Area) (store : Store) → Changes old new changed store → After old new changed store
after_change old new changed store c = record {
  past = inr c.past;
  area = λ image left. subst (λ (s : Store). MayLeave s image) c.area left;
  others = λ other ne image left. subst (λ (s : Store). MayLeave s image) (c.others other ne) left;
}

after_cut : (old new : Cloud) (changed : Area) (torn : Store) → IsCutShort old new changed torn → After old new changed torn
after_cut old new changed torn c = record { past = c.past; area = c.area; others = c.others }

pub after_write : {T E : Type 0} (r : Result T E) (old new : Cloud) (changed : Area) (place : ℕ) (bytes : List ℕ) → Writes old new changed place bytes r → After old new changed (wrote (old.now changed) place bytes)
after_write (Ok v) old new changed place bytes w = after_change old new changed _ w.ok
after_write (Err e) old new changed place bytes w = after_cut old new changed _ w.err

-- a sync leaves no more than there was, since what it makes stable is an image
pub after_sync : {T E : Type 0} (r : Result T E) (old new : Cloud) (changed : Area) → MayLeave (old.now changed) (old.now changed).read → Syncs old new changed r → After old new changed (old.now changed)
after_sync (Ok v) old new changed reads s = record {
  past = inr s.ok.past;
  area = λ image left. subst (λ (l : List ℕ). MayLeave (old.now changed) l) (sym (only _ image (subst (λ (s : Store). MayLeave s image) s.ok.area left))) reads;
  others = (after_change old new changed _ s.ok).others;
}
after_sync (Err e) old new changed reads s = after_cut old new changed _ s.err

-- a run, and one call more
pub goes_on : (start old new : Cloud) (P : Image → Type 0) (changed : Area) (torn : Store) → LeavesOnly start old P → After old new changed torn → ((image : Image) → IsImage new.now image → P image) → LeavesOnly start new P
goes_on start old new P changed torn run after here = joined start old new P run (moved_or_not old new P after.past (at_end start old P run) here)
