-- What a memory has of a user's fingerprints, and what a list says of them.
use Rattle.std.proofs.Common.{◌≡◌, ℕ, suc, ◌+◌, Bool, true, false, cond, List, [], ◌∷◌, Some, None, IsTrue, refl, sym, ap, ◌∙◌, add-one}
use Rattle.std.specs.Prelude.{◌↔◌, is_some}
use Rattle.cloud_memory.specs.CdBase.ids.Fp.{Fp}
use Rattle.cloud_memory.specs.CdBase.ids.UserId.{UserId}
use Rattle.cloud_memory.specs.CdBase.shape.Shape.{Shape}
use Rattle.cloud_memory.specs.UserDedup.command.Command.{Command}
use Rattle.cloud_memory.specs.UserDedup.Cloud.{user_view}
use Rattle.cloud_memory.specs.UserDedup.Owning.{is_among, flag, flags, lacking_from, first_lacking}
use Rattle.cloud_memory.specs.Memory.{Memory, Remembers, uses_of}
use Rattle.server_reads.specs.Owned.{is_owned, owned_flags, unowned_from, first_unowned}

pub same_test : (a b : Bool) → (IsTrue a ↔ IsTrue b) → a ≡ b
same_test true true iff = refl
same_test true false iff = sym (iff.0 refl)
same_test false true iff = iff.1 refl
same_test false false iff = refl

pub unowned_here : (m : Memory) (user : UserId) (i : ℕ) (fp : Fp) (fps : List Fp) → is_owned m user fp ≡ false → unowned_from m user i (fp ∷ fps) ≡ Some i
unowned_here m user i fp fps e = ap (λ b. cond b (unowned_from m user (suc i) fps) (Some i)) e

pub unowned_later : (m : Memory) (user : UserId) (i : ℕ) (fp : Fp) (fps : List Fp) → is_owned m user fp ≡ true
    → unowned_from m user i (fp ∷ fps) ≡ unowned_from m user (i + 1) fps
unowned_later m user i fp fps e = rw add-one (ap (λ b. cond b (unowned_from m user (suc i) fps) (Some i)) e)

owned_is : (shape : Shape) (list : List Command) (m : Memory) (user : UserId) (fp : Fp) → Remembers shape list m
    → is_owned m user fp ≡ is_among (user_view shape list user).own fp
owned_is shape list m user fp is = ap is_some (is.owners user fp) ∙ by_test (is_among (user_view shape list user).own fp)
  where
    by_test : (b : Bool) → is_some (cond b (Some (uses_of shape (user_view shape list user).files fp)) None) ≡ b
    by_test true = refl
    by_test false = refl

-- of a list that the memory remembers they are the list's flags
pub flags_are : (shape : Shape) (list : List Command) (m : Memory) (user : UserId) (fps : List Fp) → Remembers shape list m
    → owned_flags m user fps ≡ flags (user_view shape list user).own fps
flags_are shape list m user [] is = refl
flags_are shape list m user (fp ∷ fps) is =
    let own = (user_view shape list user).own in
    ap (λ (b : Bool). cond b 1 0 ∷ owned_flags m user fps) (owned_is shape list m user fp is)
    ∙ ap (λ (l : List ℕ). flag own fp ∷ l) (flags_are shape list m user fps is)

unowned_lacks : (shape : Shape) (list : List Command) (m : Memory) (user : UserId) (i : ℕ) (fps : List Fp) → Remembers shape list m
    → unowned_from m user i fps ≡ lacking_from (user_view shape list user).own i fps
unowned_lacks shape list m user i [] is = refl
unowned_lacks shape list m user i (fp ∷ fps) is =
    let own = (user_view shape list user).own in
    ap (λ b. cond b (unowned_from m user (suc i) fps) (Some i)) (owned_is shape list m user fp is)
    ∙ ap (λ o. cond (is_among own fp) o (Some i)) (unowned_lacks shape list m user (suc i) fps is)

-- of a list that the memory remembers it is the first that the list lacks
pub unowned_is : (shape : Shape) (list : List Command) (m : Memory) (user : UserId) (fps : List Fp) → Remembers shape list m
    → first_unowned m user fps ≡ first_lacking (user_view shape list user).own fps
unowned_is shape list m user fps is = unowned_lacks shape list m user 0 fps is
