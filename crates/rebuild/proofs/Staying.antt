-- What was found under a key stays where the clouds are only read.
use Rattle.std.proofs.Common.{◌≡◌, ◌⊎◌, ℕ, Bool, true, false, cond, List, [], ◌∷◌, Option, Some, None, Result, refl, sym, ap, ◌∙◌, subst, inl, inr}
use Rattle.std.specs.Prelude.{◌==◌, find, is_none, option_map}
use Rattle.std.specs.List.{Contains}
use Rattle.std.proofs.lemmas.Bool.{cases_eq, ne_eqb}
use Rattle.lane_steps.specs.CdBase.ids.Tag.{Tag}
use Rattle.lane_steps.specs.CdBase.ids.UserId.{UserId}
use Rattle.lane_steps.specs.CdBase.ids.Version.{Version}
use Rattle.lane_steps.specs.CdBase.shape.Shape.{Shape}
use Rattle.lane_steps.specs.UserDedup.command.Command.{Command}
use Rattle.lane_steps.specs.UserDedup.Exec.{Peer, MaySettleAs, Settles, KeepsPeer}
use Rattle.lane_steps.proofs.UserDedup.Owned.{contains_here, contains_later}
use Rattle.lane_steps.specs.UploadJob.Upload.{FileVersion}
use Rattle.kept_files.specs.RestoreJob.Asking.{MayRead, Reads}
use Rattle.kept_files.specs.RestoreJob.Restored
use Rattle.kept_files.specs.RestoreJob.Restored.{Unrestored, missing, recipe_in}
use Rattle.kept_files.proofs.RestoreJob.Leading.{counts_on, no_pending, reads_on, settle_along, settled_same}
use Rattle.rebuild.specs.declared.error.SkipWhy.{SkipWhy}
use Rattle.rebuild.specs.Rebuilding.{up_to}
use Rattle.rebuild.specs.Steps.{IsVersionFound}
use Rattle.rebuild.proofs.Joining.{up_to_in}
use Rattle.rebuild.proofs.Stable.{SameOn, version_same}

-- maybe read, and then read
pub reads_after : (a b c : Peer) → MayRead a b → Reads b c → Reads a c
reads_after a b c one two = (go one.0, counts_on a b c one.1 two.1)
  where
    go : KeepsPeer a b ⊎ Settles a b → Settles a c
    go (inl s) = record { list = settle_along a b c.list s two.0.list; pending = two.0.pending }
    go (inr s) = record { list = subst (MaySettleAs a) (sym (no_pending b c.list s.pending two.0.list)) s.list; pending = two.0.pending }

-- ---- the first that is missing a version

none_some : (x : ℕ) → None ≡ Some x → ⊥
none_some x e = cc

same_some : (x y : ℕ) → Some x ≡ Some y → x ≡ y
same_some x y e = cc

find_true : (p : ℕ → Bool) (at : ℕ) (xs : List ℕ) → find p xs ≡ Some at → p at ≡ true
find_true p at [] e = absurd (none_some at e)
find_true p at (x ∷ xs) e = go (p x) refl e (find_true p at xs)
  where
    go : (b : Bool) → p x ≡ b → cond b (Some x) (find p xs) ≡ Some at → (find p xs ≡ Some at → p at ≡ true) → p at ≡ true
    go true px f rest = subst (λ (y : ℕ). p y ≡ true) (same_some x at f) px
    go false px f rest = rest f

front_head : (at x : ℕ) (xs : List ℕ) → Contains (up_to at (x ∷ xs)) x
front_head at x xs = go (x == at)
  where
    go : (b : Bool) → Contains (cond b (x ∷ []) (x ∷ up_to at xs)) x
    go true = contains_here x []
    go false = contains_here x (up_to at xs)

front_later : (at x : ℕ) (xs : List ℕ) (c : ℕ) → (x ≡ at → ⊥) → Contains (up_to at xs) c → Contains (up_to at (x ∷ xs)) c
front_later at x xs c ne has = subst (λ (b : Bool). Contains (cond b (x ∷ []) (x ∷ up_to at xs)) c) (sym (ne_eqb x at ne)) (contains_later x (up_to at xs) c has)

find_front : (p q : ℕ → Bool) (at : ℕ) (xs : List ℕ) → ((c : ℕ) → Contains (up_to at xs) c → q c ≡ p c) → find p xs ≡ Some at → find q xs ≡ Some at
find_front p q at [] same e = e
find_front p q at (x ∷ xs) same e = go (p x) (cases_eq x at) refl e (find_front p q at xs)
  where
    here : q x ≡ p x
    here = same x (front_head at x xs)

    go : (b : Bool) → (x ≡ at) ⊎ (x ≡ at → ⊥) → p x ≡ b → cond b (Some x) (find p xs) ≡ Some at
        → (((c : ℕ) → Contains (up_to at xs) c → q c ≡ p c) → find p xs ≡ Some at → find q xs ≡ Some at) → cond (q x) (Some x) (find q xs) ≡ Some at
    go true d px f rest = ap (λ (b : Bool). cond b (Some x) (find q xs)) (here ∙ px) ∙ f
    go false (inl e) px f rest = absurd (let k : false ≡ true = sym px ∙ ap p e ∙ find_true p at xs f in cc)
    go false (inr ne) px f rest = ap (λ (b : Bool). cond b (Some x) (find q xs)) (here ∙ px) ∙ rest (λ c has. same c (front_later at x xs c ne has)) f

missing_some : (o : Option ℕ) (c : ℕ) → option_map Restored.Missing o ≡ Some (Restored.Missing c) → o ≡ Some c
missing_some None c e = absurd (let f : None ≡ Some (Restored.Missing c) = e in cc)
missing_some (Some x) c e = let f : Some (Restored.Missing x) ≡ Some (Restored.Missing c) = e in ap (λ (y : ℕ). Some y) (let k : x ≡ c = cc in k)

module _ (shape : Shape) (user : UserId) (from : List ℕ) (key : Tag × Version) where
  missing_front : (one two : ℕ → List Command) (c : ℕ) → SameOn (up_to c from) one two → missing shape one user key from ≡ Some (Restored.Missing c) → missing shape two user key from ≡ Some (Restored.Missing c)
  missing_front one two c same e =
      ap (option_map Restored.Missing)
      (find_front (λ cloud. is_none (recipe_in shape (one cloud) user key)) (λ cloud. is_none (recipe_in shape (two cloud) user key)) c from
      (λ cloud has. ap (λ (l : List Command). is_none (recipe_in shape l user key)) (same cloud has)) (missing_some _ c e))

  -- the clouds are read later
  pub found_later : (found : Result FileVersion SkipWhy) (a b c : ℕ → Peer) → ((cloud : ℕ) → Contains from cloud → MayRead (b cloud) (c cloud)) → IsVersionFound shape user from key found a b → IsVersionFound shape user from key found a c
  found_later found a b c may (inl x) = inl (
    x.0,
    x.1,
    missing_front (λ cloud. (b cloud).list) (λ cloud. (c cloud).list) x.0 (λ cloud has. (settled_same (b cloud) (c cloud) (x.3 cloud has).0.pending (may cloud (up_to_in x.0 from cloud has))).list) x.2,
    λ cloud has. reads_on (a cloud) (b cloud) (c cloud) (x.3 cloud has) (may cloud (up_to_in x.0 from cloud has)),
  )
  found_later found a b c may (inr x) = inr (
    version_same shape user key (λ cloud. (b cloud).list) (λ cloud. (c cloud).list) from (λ cloud has. (settled_same (b cloud) (c cloud) (x.1 cloud has).0.pending (may cloud has)).list) ∙ x.0,
    λ cloud has. reads_on (a cloud) (b cloud) (c cloud) (x.1 cloud has) (may cloud has),
  )

  -- the clouds were read before
  pub found_before : (found : Result FileVersion SkipWhy) (a b c : ℕ → Peer) → ((cloud : ℕ) → Contains from cloud → MayRead (a cloud) (b cloud)) → IsVersionFound shape user from key found b c → IsVersionFound shape user from key found a c
  found_before found a b c may (inl x) = inl (x.0, x.1, x.2, λ cloud has. reads_after (a cloud) (b cloud) (c cloud) (may cloud (up_to_in x.0 from cloud has)) (x.3 cloud has))
  found_before found a b c may (inr x) = inr (x.0, λ cloud has. reads_after (a cloud) (b cloud) (c cloud) (may cloud has) (x.1 cloud has))
