-- The marks of clouds that refused.
use Rattle.std.proofs.Common.{◌≡◌, ℕ, zero, suc, ◌<◌, ◌⊎◌, Bool, true, false, List, [], ◌∷◌, ◌++◌, length, replicate, get_or-set_same, get_or-set_other, Option, Some, None, refl, sym, ap, ◌∙◌, subst, inl, inr}
use Rattle.std.specs.Prelude.{IfSome, slice_set}
use Rattle.std.specs.Bool.{MatchBool}
use Rattle.std.proofs.lemmas.Bool.{cases_eq}
use Rattle.restore_job.proofs.UserDedup.Owned.{contains_here, contains_later, contains_nothing, contains_cases}
use Rattle.restore_job.specs.declared.error.RestoreErr.{RestoreErr}
use Rattle.subset_restore.specs.Tries.{Try, refuser}
use Rattle.subset_restore.specs.Tracking.{IsMarked, HoldsMarked, marked_with, first_or, first_of, Tracks}
use Rattle.subset_restore.specs.declared.refusals.Refusals.{Refusals}
use Rattle.subset_restore.proofs.Elements.{contains_front, contains_last, contains_end}

-- ---- clouds that are marked

unmarked : (n cloud : ℕ) → IsMarked (replicate n false) cloud → ⊥
unmarked zero cloud m = cc
unmarked (suc n) zero m = cc
unmarked (suc n) (suc cloud) m = unmarked n cloud m

pub tracks_none : Tracks [] (record { marks = replicate 256 false; first = None })
tracks_none = record {
  only = λ cloud m. absurd (unmarked 256 cloud m);
  each = λ cloud r. absurd (contains_nothing r.0 r.1);
  first = refl;
}

not_both : (b : Bool) → b ≡ false → b ≡ true → ⊥
not_both b f t = cc

pub holds_none : (marks : List Bool) → HoldsMarked marks [] → ⊥
holds_none marks h = contains_nothing h.0 h.1

pub holds_here : (marks : List Bool) (cloud : ℕ) (more : List ℕ) → IsMarked marks cloud → HoldsMarked marks (cloud ∷ more)
holds_here marks cloud more m = (cloud, contains_here cloud more, m)

pub holds_more : (marks : List Bool) (cloud : ℕ) (more : List ℕ) (b : Bool) → (IsMarked marks cloud → ⊥) → MatchBool b (HoldsMarked marks more) (HoldsMarked marks more → ⊥)
    → MatchBool b (HoldsMarked marks (cloud ∷ more)) (HoldsMarked marks (cloud ∷ more) → ⊥)
holds_more marks cloud more true none holds = (holds.0, contains_later cloud more holds.0 holds.1, holds.2)
holds_more marks cloud more false none free = λ h. elim (contains_cases cloud more h.0 h.1) [
  | inl same ↦ none (subst (IsMarked marks) (sym same) h.2)
  | inr later ↦ free (h.0, later, h.2)
]

-- ---- one more refusal

some_is : (a b : ℕ) → Some a ≡ Some b → a ≡ b
some_is a b e = cc

none_is : (b : ℕ) → None ≡ Some b → ⊥
none_is b e = cc

marked_before : (marks : List Bool) (o : Option ℕ) (cloud : ℕ) → IfSome o (λ x. x < length marks) → IsMarked marks cloud → IsMarked (marked_with marks o) cloud
marked_before marks None cloud within m = m
marked_before marks (Some x) cloud within m = elim (cases_eq cloud x) [
  | inl same ↦ subst (IsMarked (slice_set marks x true)) (sym same) (get_or-set_same marks x true false within)
  | inr other ↦ get_or-set_other marks x cloud true false other ∙ m
]

marked_now : (marks : List Bool) (o : Option ℕ) (cloud : ℕ) → IfSome o (λ x. x < length marks) → o ≡ Some cloud → IsMarked (marked_with marks o) cloud
marked_now marks None cloud within e = absurd (none_is cloud e)
marked_now marks (Some x) cloud within e = subst (IsMarked (slice_set marks x true)) (some_is x cloud e) (get_or-set_same marks x true false within)

marked_only : (marks : List Bool) (o : Option ℕ) (cloud : ℕ) → IsMarked (marked_with marks o) cloud → IsMarked marks cloud ⊎ (o ≡ Some cloud)
marked_only marks None cloud m = inl m
marked_only marks (Some x) cloud m = elim (cases_eq cloud x) [
  | inl same ↦ inr (ap (λ (n : ℕ). Some n) (sym same))
  | inr other ↦ inl (sym (get_or-set_other marks x cloud true false other) ∙ m)
]

first_more : (tries : List Try) (y : Try) → first_or (first_of tries) y.refusal ≡ first_of (tries ++ y ∷ [])
first_more [] y = refl
first_more (x ∷ tries) y = refl

pub noted : (tries : List Try) (subset : List ℕ) (e : RestoreErr) (r : Refusals) (marks : List Bool) (first : Option RestoreErr) (o : Option ℕ) → o ≡ refuser e → IfSome o (λ x. x < length r.marks)
    → marks ≡ marked_with r.marks o → first ≡ first_or r.first e → Tracks tries r → Tracks (tries ++ record { subset = subset; refusal = e } ∷ []) (record { marks = marks; first = first })
noted tries subset e r marks first o is within new_marks new_first tracks =
    let y : Try = record { subset = subset; refusal = e } in
    record {
      only = λ cloud m. elim (marked_only r.marks o cloud (subst (λ (l : List Bool). IsMarked l cloud) new_marks m)) [
        | inl before ↦ let h = tracks.only cloud before in (h.0, contains_front tries (y ∷ []) h.0 h.1, h.2)
        | inr now ↦ (y, contains_end tries y, sym is ∙ now)
      ];
      each = λ cloud h. subst (λ (l : List Bool). IsMarked l cloud) (sym new_marks) (elim (contains_last tries y h.0 h.1) [
        | inl before ↦ marked_before r.marks o cloud within (tracks.each cloud (h.0, before, h.2))
        | inr now ↦ marked_now r.marks o cloud within (is ∙ ap (λ (x : Try). refuser x.refusal) now ∙ h.2)
      ]);
      first = new_first ∙ ap (λ (f : Option RestoreErr). first_or f e) tracks.first ∙ first_more tries y;
    }
