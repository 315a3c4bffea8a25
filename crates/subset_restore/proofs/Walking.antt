-- From one choice to the next.
use Rattle.std.proofs.Common.{◌≡◌, ℕ, suc, ◌+◌, ◌-◌, ◌<◌, ◌≤◌, List, [], ◌∷◌, ◌++◌, length, map, Some, None, refl, sym, ap, ◌∙◌, subst, arith, inl, inr, All, append_assoc, append-nil, length-append}
use Rattle.std.specs.Prelude.{false}
use Rattle.std.specs.List.{Contains}
use Rattle.transcript.specs.CdBase.ids.UserId.{UserId}
use Rattle.transcript.specs.CdBase.ids.Version.{Version}
use Rattle.transcript.specs.CdBase.shape.Shape.{Shape}
use Rattle.restore_job.specs.UserDedup.Link.{LinkTelling, Talk}
use Rattle.restore_job.proofs.UserDedup.Owned.{contains_later}
use Rattle.restore_job.specs.Asking.{HasAskedClouds}
use Rattle.restore_job.specs.declared.error.RestoreErr.{RestoreErr}
use Rattle.subset_restore.specs.Subsets.{subsets, behind}
use Rattle.subset_restore.specs.Ends.{HasFileCome, OnlyLeads}
use Rattle.subset_restore.specs.Tracking.{Tracks}
use Rattle.subset_restore.specs.Going.{sought, GoesOn, Seeks}
use Rattle.subset_restore.specs.declared.refusals.Refusals.{Refusals}
use Rattle.subset_restore.specs.declared.trying.Went.{Went}
use Rattle.subset_restore.specs.declared.trying.Went.TheVariants as went
use Rattle.subset_restore.proofs.Elements.{contains_front, contains_back, contains_parts, all_of, of_all}
use Rattle.subset_restore.proofs.Choices.{none_left, behind_none, behind_next, behind_nothing, first_choice}
use Rattle.subset_restore.proofs.Going.{so_far_none, goes_as, goes_nowhere, goes_twice, goes_found, goes_lacked, EndsSo, ends_so, none_untried}

-- ---- the lists of clouds

pub part_of : (chosen rest : List ℕ) (cloud : ℕ) (x : ℕ) → Contains (chosen ++ rest) x → Contains (chosen ++ cloud ∷ rest) x
part_of chosen rest cloud x has = elim (contains_parts chosen rest x has) [
  | inl l ↦ contains_front chosen (cloud ∷ rest) x l
  | inr r ↦ contains_back chosen (cloud ∷ rest) x (contains_later cloud rest x r)
]

pub all_front : (P : ℕ → Type 0) (chosen rest : List ℕ) → All P (chosen ++ rest) → All P chosen
all_front P chosen rest all = all_of P chosen (λ x has. of_all P (chosen ++ rest) x all (contains_front chosen rest x has))

pub all_without : (P : ℕ → Type 0) (chosen rest : List ℕ) (cloud : ℕ) → All P (chosen ++ cloud ∷ rest) → All P (chosen ++ rest)
all_without P chosen rest cloud all = all_of P (chosen ++ rest) (λ x has. of_all P (chosen ++ cloud ∷ rest) x all (part_of chosen rest cloud x has))

-- with the next cloud the same clouds are left
pub with_next : (chosen more rest named : List ℕ) (cloud : ℕ) → rest ≡ cloud ∷ more → named ≡ chosen ++ cloud ∷ [] → chosen ++ rest ≡ named ++ more
with_next chosen more rest named cloud rest_is named_is =
    ap (λ (l : List ℕ). chosen ++ l) rest_is ∙ sym (append_assoc chosen (cloud ∷ []) more) ∙ ap (λ (l : List ℕ). l ++ more) (sym named_is)

pub long_with : (chosen named : List ℕ) (cloud need k : ℕ) → named ≡ chosen ++ cloud ∷ [] → length chosen + need ≡ k → 1 ≤ need → length named + (need - 1) ≡ k
long_with chosen named cloud need k named_is count some = let long = ap length named_is ∙ length-append chosen (cloud ∷ []) in omega (arith, long, count)

-- ---- choices

walk_split : (chosen more rest named : List ℕ) (cloud need : ℕ) → rest ≡ cloud ∷ more → named ≡ chosen ++ cloud ∷ [] → 1 ≤ need
    → behind named (need - 1) more ++ behind chosen need more ≡ behind chosen need rest
walk_split chosen more rest named cloud need rest_is named_is some =
    let e : need ≡ suc (need - 1) = omega arith in
    ap (λ (l : List ℕ). behind l (need - 1) more ++ behind chosen need more) named_is
    ∙ ap (λ (n : ℕ). behind (chosen ++ cloud ∷ []) (need - 1) more ++ behind chosen n more) e
    ∙ sym (behind_next chosen (need - 1) cloud more)
    ∙ ap (λ (n : ℕ). behind chosen n (cloud ∷ more)) (sym e)
    ∙ ap (behind chosen need) (sym rest_is)

module _ {L : Type 0} (t : LinkTelling L) (talk : L → ℕ → Talk → Type 0) (shape : Shape) (user : UserId) (path : List ℕ) (version : Version) where
  pub walk_one : (old new : L) (bytes bytes' chosen rest slice : List ℕ) (need : ℕ) (r r' : Refusals) (result : Went) → slice ≡ chosen → need ≡ 0
      → Seeks t talk shape user path version old new bytes bytes' slice (slice ∷ []) r r' result → Seeks t talk shape user path version old new bytes bytes' (chosen ++ rest) (behind chosen need rest) r r' result
  walk_one old new bytes bytes' chosen rest slice need r r' result same none =
      goes_as t talk shape user path version old new bytes bytes' slice (chosen ++ rest) (slice ∷ []) (behind chosen need rest) r r' result
      (λ x has. contains_front chosen rest x (subst (λ (l : List ℕ). Contains l x) same has))
      (ap (λ (l : List ℕ). l ∷ []) same ∙ sym (behind_none chosen rest) ∙ ap (λ (n : ℕ). behind chosen n rest) (sym none))

  pub walk_none : (old : L) (bytes chosen rest : List ℕ) (need : ℕ) (r : Refusals) → length rest < need
      → Seeks t talk shape user path version old old bytes bytes (chosen ++ rest) (behind chosen need rest) r r went.Refused
  walk_none old bytes chosen rest need r few =
      goes_as t talk shape user path version old old bytes bytes (chosen ++ rest) (chosen ++ rest) [] (behind chosen need rest) r r went.Refused (λ x has. has)
      (ap (λ (l : List (List ℕ)). map (λ subset. chosen ++ subset) l) (sym (none_left need rest few)))
      (goes_nowhere t talk shape user path version old bytes (chosen ++ rest) r)

  named_in : (chosen more rest named : List ℕ) (cloud : ℕ) → rest ≡ cloud ∷ more → named ≡ chosen ++ cloud ∷ [] → (x : ℕ) → Contains (named ++ more) x → Contains (chosen ++ rest) x
  named_in chosen more rest named cloud rest_is named_is x has = subst (λ (l : List ℕ). Contains l x) (sym (with_next chosen more rest named cloud rest_is named_is)) has

  more_in : (chosen more rest : List ℕ) (cloud : ℕ) → rest ≡ cloud ∷ more → (x : ℕ) → Contains (chosen ++ more) x → Contains (chosen ++ rest) x
  more_in chosen more rest cloud rest_is x has = subst (λ (l : List ℕ). Contains (chosen ++ l) x) (sym rest_is) (part_of chosen more cloud x has)

  pub walk_twice : (old mid new : L) (bytes between bytes' chosen more rest named : List ℕ) (cloud need : ℕ) (r r' r'' : Refusals) (result : Went) → rest ≡ cloud ∷ more → named ≡ chosen ++ cloud ∷ [] → 1 ≤ need
      → Seeks t talk shape user path version old mid bytes between (named ++ more) (behind named (need - 1) more) r r' went.Refused
      → Seeks t talk shape user path version mid new between bytes' (chosen ++ more) (behind chosen need more) r' r'' result
      → Seeks t talk shape user path version old new bytes bytes' (chosen ++ rest) (behind chosen need rest) r r'' result
  walk_twice old mid new bytes between bytes' chosen more rest named cloud need r r' r'' result rest_is named_is some one two =
      goes_as t talk shape user path version old new bytes bytes' (chosen ++ rest) (chosen ++ rest) (behind named (need - 1) more ++ behind chosen need more) (behind chosen need rest) r r'' result (λ x has. has)
      (walk_split chosen more rest named cloud need rest_is named_is some)
      (goes_twice t talk shape user path version old mid new bytes between bytes' (chosen ++ rest) (behind named (need - 1) more) (behind chosen need more) r r' r'' result
      (goes_as t talk shape user path version old mid bytes between (named ++ more) (chosen ++ rest) (behind named (need - 1) more) (behind named (need - 1) more) r r' went.Refused (named_in chosen more rest named cloud rest_is named_is) refl one)
      (goes_as t talk shape user path version mid new between bytes' (chosen ++ more) (chosen ++ rest) (behind chosen need more) (behind chosen need more) r' r'' result (more_in chosen more rest cloud rest_is) refl two))

  pub walk_found : (old new : L) (bytes bytes' chosen more rest named : List ℕ) (cloud need : ℕ) (r r' : Refusals) → rest ≡ cloud ∷ more → named ≡ chosen ++ cloud ∷ [] → 1 ≤ need
      → Seeks t talk shape user path version old new bytes bytes' (named ++ more) (behind named (need - 1) more) r r' went.Restored
      → Seeks t talk shape user path version old new bytes bytes' (chosen ++ rest) (behind chosen need rest) r r' went.Restored
  walk_found old new bytes bytes' chosen more rest named cloud need r r' rest_is named_is some one =
      goes_as t talk shape user path version old new bytes bytes' (named ++ more) (chosen ++ rest) (behind named (need - 1) more ++ behind chosen need more) (behind chosen need rest) r r' went.Restored
      (named_in chosen more rest named cloud rest_is named_is) (walk_split chosen more rest named cloud need rest_is named_is some)
      (goes_found t talk shape user path version old new bytes bytes' (named ++ more) (behind named (need - 1) more) (behind chosen need more) r r' r' one)

  pub walk_lacked : (old new : L) (bytes bytes' chosen more rest named : List ℕ) (cloud need : ℕ) (r r' : Refusals) → rest ≡ cloud ∷ more → named ≡ chosen ++ cloud ∷ [] → 1 ≤ need
      → Seeks t talk shape user path version old new bytes bytes' (named ++ more) (behind named (need - 1) more) r r' went.NoMemory
      → Seeks t talk shape user path version old new bytes bytes' (chosen ++ rest) (behind chosen need rest) r r' went.NoMemory
  walk_lacked old new bytes bytes' chosen more rest named cloud need r r' rest_is named_is some one =
      goes_as t talk shape user path version old new bytes bytes' (named ++ more) (chosen ++ rest) (behind named (need - 1) more ++ behind chosen need more) (behind chosen need rest) r r' went.NoMemory
      (named_in chosen more rest named cloud rest_is named_is) (walk_split chosen more rest named cloud need rest_is named_is some)
      (goes_lacked t talk shape user path version old new bytes bytes' (named ++ more) (behind named (need - 1) more) (behind chosen need more) r r' r' one)

  -- ---- the whole way

  whole : (chosen rest clouds : List ℕ) (need : ℕ) → chosen ≡ [] → rest ≡ clouds → need ≡ shape.k → behind chosen need rest ≡ subsets shape.k clouds
  whole chosen rest clouds need none all k = (λ i. behind (none i) (k i) (all i)) ∙ behind_nothing shape.k clouds

  from_start : (old new : L) (bytes bytes' chosen rest clouds : List ℕ) (need : ℕ) (r r' : Refusals) (result : Went) → chosen ≡ [] → rest ≡ clouds → need ≡ shape.k → Tracks [] r
      → Seeks t talk shape user path version old new bytes bytes' (chosen ++ rest) (behind chosen need rest) r r' result
      → GoesOn t talk (sought shape user path version clouds) old new bytes bytes' [] (subsets shape.k clouds) r' result
  from_start old new bytes bytes' chosen rest clouds need r r' result none all k tracks goes =
      subst (λ (l : List (List ℕ)). GoesOn t talk (sought shape user path version clouds) old new bytes bytes' [] l r' result) (whole chosen rest clouds need none all k)
      (goes clouds old [] [] (λ x has. subst (λ (l : List ℕ). Contains l x) (λ i. none i ++ all i) has) (so_far_none t talk (sought shape user path version clouds) old bytes) tracks)

  pub start_found : (old new : L) (bytes bytes' chosen rest clouds : List ℕ) (need : ℕ) (r r' : Refusals) → chosen ≡ [] → rest ≡ clouds → need ≡ shape.k → Tracks [] r
      → Seeks t talk shape user path version old new bytes bytes' (chosen ++ rest) (behind chosen need rest) r r' went.Restored
      → HasFileCome t talk (sought shape user path version clouds) old new bytes bytes' × HasAskedClouds t clouds old new false
  start_found old new bytes bytes' chosen rest clouds need r r' none all k tracks goes =
      let g = from_start old new bytes bytes' chosen rest clouds need r r' went.Restored none all k tracks goes in
      (g.0 [] (sym (append-nil (subsets shape.k clouds))), g.1)

  pub start_lacked : (old new : L) (bytes bytes' chosen rest clouds : List ℕ) (need : ℕ) (r r' : Refusals) → chosen ≡ [] → rest ≡ clouds → need ≡ shape.k → Tracks [] r
      → Seeks t talk shape user path version old new bytes bytes' (chosen ++ rest) (behind chosen need rest) r r' went.NoMemory
      → OnlyLeads t clouds old new × HasAskedClouds t clouds old new false
  start_lacked old new bytes bytes' chosen rest clouds need r r' none all k tracks goes = from_start old new bytes bytes' chosen rest clouds need r r' went.NoMemory none all k tracks goes

  pub start_refused : (old new : L) (bytes bytes' chosen rest clouds : List ℕ) (need : ℕ) (r r' : Refusals) (e : RestoreErr) → chosen ≡ [] → rest ≡ clouds → need ≡ shape.k → Tracks [] r → shape.k ≤ length clouds
      → Seeks t talk shape user path version old new bytes bytes' (chosen ++ rest) (behind chosen need rest) r r' went.Refused → r'.first ≡ Some e
      → EndsSo t talk (sought shape user path version clouds) old bytes new e
  start_refused old new bytes bytes' chosen rest clouds need r r' e none all k tracks enough goes is =
      let g = from_start old new bytes bytes' chosen rest clouds need r r' went.Refused none all k tracks goes in
      let first = first_choice shape.k clouds enough in
      ends_so t talk (sought shape user path version clouds) old bytes new g.0 e first.0 first.1 g.1 first.2 (sym g.2.first ∙ is)

  pub start_none : (old new : L) (bytes bytes' chosen rest clouds : List ℕ) (need : ℕ) (r r' : Refusals) → chosen ≡ [] → rest ≡ clouds → need ≡ shape.k → Tracks [] r → shape.k ≤ length clouds
      → Seeks t talk shape user path version old new bytes bytes' (chosen ++ rest) (behind chosen need rest) r r' went.Refused → r'.first ≡ None → ⊥
  start_none old new bytes bytes' chosen rest clouds need r r' none all k tracks enough goes is =
      let g = from_start old new bytes bytes' chosen rest clouds need r r' went.Refused none all k tracks goes in
      let first = first_choice shape.k clouds enough in
      none_untried t talk (sought shape user path version clouds) old bytes new g.0 first.0 first.1 g.1 first.2 (sym g.2.first ∙ is)
