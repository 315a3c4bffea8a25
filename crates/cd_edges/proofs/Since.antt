-- Images since a moment.
use Rattle.std.proofs.Common.{inl, inr, ℕ, ◌+◌, ◌-◌, ◌≤◌, List, [], ◌∷◌, ◌++◌, length, take, drop, refl, sym, subst, arith}
use Rattle.std.proofs.lemmas.List.{drop_at, drop-drop, take-append-drop}
use Rattle.cd_edges.specs.Disk.{Store, Areas, Image, MayLeave, IsImage, IsImageSince, SomeLeaves, Cloud, moment}
use Rattle.cd_edges.specs.Shelf.{wrote, stable}

pub image_since_now : (cloud : Cloud) (image : Image) → IsImage cloud.now image → IsImageSince cloud (moment cloud) image
image_since_now cloud image now =
    subst (λ (l : List Areas). SomeLeaves l image) (sym (drop_at cloud.past (cloud.now ∷ []) (length cloud.past) refl)) (inl now)

late_of : (early late : List Areas) (image : Image) → SomeLeaves late image → SomeLeaves (early ++ late) image
late_of [] late image left = left
late_of (areas ∷ early) late image left = inr (late_of early late image left)

fewer : (moments : List Areas) (early more : ℕ) (image : Image) → SomeLeaves (drop (early + more) moments) image → SomeLeaves (drop early moments) image
fewer moments early more image left =
    subst (λ (l : List Areas). SomeLeaves l image) (take-append-drop more (drop early moments))
    (late_of (take more (drop early moments)) (drop more (drop early moments)) image
    (subst (λ (l : List Areas). SomeLeaves l image) (sym (drop-drop more early moments)) left))

pub image_since_earlier : (cloud : Cloud) (early late : ℕ) (image : Image) → early ≤ late → IsImageSince cloud late image → IsImageSince cloud early image
image_since_earlier cloud early late image le left =
    fewer (cloud.past ++ cloud.now ∷ []) early (late - early) image (subst (λ (n : ℕ). SomeLeaves (drop n (cloud.past ++ cloud.now ∷ [])) image) (omega (arith, le)) left)

pub image_of_stable : (bytes : List ℕ) → MayLeave (stable bytes) bytes
image_of_stable bytes = record { no_shorter = omega arith; no_longer = omega arith; kept = λ k within outside. refl }

-- a range more leaves more
pub image_of_wrote : (store : Store) (place : ℕ) (bytes image : List ℕ) → MayLeave store image → MayLeave (wrote store place bytes) image
image_of_wrote store place bytes image left = record { no_shorter = left.no_shorter; no_longer = omega (arith, left.no_longer); kept = λ k within outside. left.kept k within outside.1 }
