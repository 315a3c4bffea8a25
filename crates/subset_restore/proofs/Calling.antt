-- What an end says of the tries before it, for callers.
use Rattle.std.proofs.Common.{◌≡◌, ℕ, true, false, List, [], ◌∷◌, ◌++◌, sym, ap, ◌∙◌, subst, inl, inr}
use Rattle.std.specs.Prelude.{IsTrue}
use Rattle.std.specs.List.{Contains}
use Rattle.restore_job.specs.UserDedup.Link.{LinkTelling, Talk}
use Rattle.restore_job.proofs.UserDedup.Owned.{contains_here, contains_cases, contains_nothing}
use Rattle.restore_job.specs.Asking.{is_loss}
use Rattle.restore_job.specs.declared.error.RestoreErr.{RestoreErr}
use Rattle.restore_job.specs.declared.error.RestoreErr.TheVariants as errors
use Rattle.subset_restore.specs.Subsets.{subsets}
use Rattle.subset_restore.specs.Tries.{Try}
use Rattle.subset_restore.specs.Ends.{Sought, AllRefused, NoneBy, NoneCame, WasLost}
use Rattle.subset_restore.proofs.Choices.{subset_among}
use Rattle.subset_restore.proofs.Elements.{contains_back}

module _ {L : Type 0} (t : LinkTelling L) (talk : L → ℕ → Talk → Type 0) (s : Sought) (bytes : List ℕ) where
  -- an error that isn't want of memory comes of choices that were all refused
  pub none_by : (start end : L) (P : RestoreErr → Type 0) → P errors.NoMemory
      → ((e : RestoreErr) → NoneCame t talk s start end bytes e → P e) → (e : RestoreErr)
      → NoneBy t talk s start end bytes e → P e
  none_by start end P want came (errors.Missing c) is = came (errors.Missing c) is
  none_by start end P want came (errors.Lost c) is = came (errors.Lost c) is
  none_by start end P want came (errors.CloudFault c) is = came (errors.CloudFault c) is
  none_by start end P want came (errors.CloudDamaged c at byte) is = came (errors.CloudDamaged c at byte) is
  none_by start end P want came (errors.CloudRotten c named found) is = came (errors.CloudRotten c named found) is
  none_by start end P want came (errors.CloudNoMemory c) is = came (errors.CloudNoMemory c) is
  none_by start end P want came (errors.Strange c kind) is = came (errors.Strange c kind) is
  none_by start end P want came (errors.RecipesDiffer a b place) is = came (errors.RecipesDiffer a b place) is
  none_by start end P want came (errors.ShareLength c secret found wanted) is =
      came (errors.ShareLength c secret found wanted) is
  none_by start end P want came (errors.BadShare c secret named found) is =
      came (errors.BadShare c secret named found) is
  none_by start end P want came (errors.BadSecret secret named found) is =
      came (errors.BadSecret secret named found) is
  none_by start end P want came (errors.BadPad secret at byte) is = came (errors.BadPad secret at byte) is
  none_by start end P want came errors.NoMemory is = want

  -- over a link that loses nothing no try was lost
  unlost_tries : (start end : L) (tries : List Try) → AllRefused t talk s bytes start tries end
      → IsTrue (t.lossless start) → (x : Try) → Contains tries x → is_loss x.refusal ≡ false
  unlost_tries start end [] all lossless x has = absurd (contains_nothing x has)
  unlost_tries start end (y ∷ tries) all lossless x has = elim (contains_cases y tries x has) [
    | inl e ↦ subst (λ (z : Try). is_loss z.refusal ≡ false) e (all.1.asked.lossless lossless).0
    | inr later ↦ unlost_tries all.0 end tries all.2 (all.1.asked.lossless lossless).1 x later
  ]

  pub none_lost : (start end : L) (tries : List Try) → AllRefused t talk s bytes start tries end
      → IsTrue (t.lossless start) → (cloud : ℕ) → WasLost tries cloud → ⊥
  none_lost start end tries all lossless cloud lost =
      let here : is_loss lost.0.refusal ≡ true = ap is_loss lost.2 in
      let found : is_loss lost.0.refusal ≡ false = unlost_tries start end tries all lossless lost.0 lost.1 in
      let never : true ≡ false = sym here ∙ found in
      cc

-- the clouds of a choice are among those from which it is made
pub among_chosen : (k : ℕ) (clouds subset : List ℕ) (front rest : List (List ℕ))
    → subsets k clouds ≡ front ++ subset ∷ rest → (cloud : ℕ) → Contains subset cloud → Contains clouds cloud
among_chosen k clouds subset front rest split =
    subset_among k clouds subset (subst (λ (l : List (List ℕ)). Contains l subset) (sym split)
    (contains_back front (subset ∷ rest) subset (contains_here subset rest)))
