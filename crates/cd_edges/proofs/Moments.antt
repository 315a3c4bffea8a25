-- How a run of calls on one cloud goes on.
use Rattle.std.proofs.Common.{refl, length, drop, Bool, IsTrue, ◌≡◌, ◌⊎◌, inl, inr, ⊎_elim, List, [], ◌∷◌, ◌++◌, sym, ◌∙◌, ap, subst, append_assoc}
use Rattle.std.proofs.lemmas.List.{append-nil, drop_at}
use Rattle.cd_edges.specs.Disk.{Areas, Image, IsImage, IsImageSince, moment, Cloud, SomeLeaves, LeavesOnly}
use Rattle.cd_edges.specs.Shelf.{Stays}

pub some_of : (early late : List Areas) (image : Image) → SomeLeaves (early ++ late) image → SomeLeaves early image ⊎ SomeLeaves late image
some_of [] late image left = inr left
some_of (areas ∷ early) late image (inl here) = inl (inl here)
some_of (areas ∷ early) late image (inr there) = ⊎_elim (λ left. inl (inr left)) (λ left. inr left) (some_of early late image there)

pub early_of : (early late : List Areas) (image : Image) → SomeLeaves early image → SomeLeaves (early ++ late) image
early_of (areas ∷ early) late image (inl here) = inl here
early_of (areas ∷ early) late image (inr there) = inr (early_of early late image there)
early_of [] late image none = absurd none

-- before the first call
pub started : (old : Cloud) (P : Image → Type 0) → ((image : Image) → IsImage old.now image → P image) → LeavesOnly old old P
started old P here = record { since = []; past = sym (append-nil old.past); each = λ image left. ⊎_elim (here image) (λ none. absurd none) left }

-- a run, and another one after it
pub joined : (old mid new : Cloud) (P : Image → Type 0) → LeavesOnly old mid P → LeavesOnly mid new P → LeavesOnly old new P
joined old mid new P first second = record {
  since = first.since ++ second.since;
  past = second.past ∙ ap (λ (l : List Areas). l ++ second.since) first.past ∙ append_assoc old.past first.since second.since;
  each = λ image left. ⊎_elim
      (λ early. first.each image (early_of first.since (mid.now ∷ []) image early))
      (second.each image)
      (some_of first.since (second.since ++ new.now ∷ []) image (subst (λ (l : List Areas). SomeLeaves l image) (append_assoc first.since second.since (new.now ∷ [])) left));
}

-- one call, at a moment more
pub moved : (old new : Cloud) (P : Image → Type 0) → new.past ≡ old.past ++ old.now ∷ [] → ((image : Image) → IsImage old.now image → P image) → ((image : Image) → IsImage new.now image → P image) → LeavesOnly old new P
moved old new P past before here = record {
  since = old.now ∷ [];
  past = past;
  each = λ image left. ⊎_elim (before image) (λ later. ⊎_elim (here image) (λ none. absurd none) later) left;
}

-- one call that may have left the moment
pub moved_or_not : (old new : Cloud) (P : Image → Type 0) → (new.past ≡ old.past) ⊎ (new.past ≡ old.past ++ old.now ∷ []) → ((image : Image) → IsImage old.now image → P image) → ((image : Image) → IsImage new.now image → P image) → LeavesOnly old new P
moved_or_not old new P (inl same) before here = record { since = []; past = same ∙ sym (append-nil old.past); each = λ image left. ⊎_elim (here image) (λ none. absurd none) left }
moved_or_not old new P (inr past) before here = moved old new P past before here

-- a call that changes nothing
pub stayed : (old new : Cloud) (P : Image → Type 0) → Stays old new → ((image : Image) → IsImage old.now image → P image) → LeavesOnly old new P
stayed old new P stays here = record {
  since = [];
  past = stays.past ∙ sym (append-nil old.past);
  each = λ image left. ⊎_elim (λ now. here image (subst (λ (a : Areas). IsImage a image) stays.now now)) (λ none. absurd none) left;
}

-- what a crash leaves now
pub at_end : (old new : Cloud) (P : Image → Type 0) → LeavesOnly old new P → (image : Image) → IsImage new.now image → P image
at_end old new P run image now = run.each image (last run.since)
  where
    last : (since : List Areas) → SomeLeaves (since ++ new.now ∷ []) image
    last [] = inl now
    last (areas ∷ since) = inr (last since)

pub told_on : (old new : Cloud) → new.told ≡ old.told → IsTrue old.told → IsTrue new.told
told_on old new same told = subst (λ (b : Bool). IsTrue b) (sym same) told

-- what has less to say
pub weaker : (old new : Cloud) (P Q : Image → Type 0) → LeavesOnly old new P → ((image : Image) → P image → Q image) → LeavesOnly old new Q
weaker old new P Q run less = record { since = run.since; past = run.past; each = λ image left. less image (run.each image left) }

-- each image since the first call
pub each_since : (old new : Cloud) (P : Image → Type 0) → LeavesOnly old new P → (image : Image) → IsImageSince new (moment old) image → P image
each_since old new P run image left =
    run.each image (subst (λ (l : List Areas). SomeLeaves l image)
    (ap (λ (l : List Areas). drop (length old.past) (l ++ new.now ∷ [])) run.past ∙ ap (λ (l : List Areas). drop (length old.past) l) (append_assoc old.past run.since (new.now ∷ [])) ∙ drop_at old.past (run.since ++ new.now ∷ []) (length old.past) refl) left)

-- a cloud that another one's calls left alone
pub left_alone : (old new : Cloud) (P : Image → Type 0) → new ≡ old → ((image : Image) → IsImage old.now image → P image) → LeavesOnly old new P
left_alone old new P same here = stayed old new P (record { armed = ap (λ (x : Cloud). x.armed) same; past = ap (λ (x : Cloud). x.past) same; now = ap (λ (x : Cloud). x.now) same }) here
