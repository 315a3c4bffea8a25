-- A memory of a list lists what each user owns, once.
use Rattle.std.proofs.Common.{◌≡◌, inl, inr, ℕ, ◌<◌, ◌≤◌, Bool, true, false, cond, List, [], ◌∷◌, length, map, Option, Some, None, refl, sym, ap, ◌∙◌, subst, arith, eq-eqb}
use Rattle.std.specs.Prelude.{◌==◌, ◌↔◌, filter, is_some, IsSome, find, fold, All}
use Rattle.std.specs.FinMap.{get}
use Rattle.std.specs.List.{Contains}
use Rattle.std.proofs.lemmas.Bool.{eqb-true, cases_lt}
use Rattle.std.proofs.lemmas.List.{get_or_past}
use Rattle.cloud_memory.specs.CdBase.ids.Fp.{Fp}
use Rattle.cloud_memory.specs.CdBase.ids.UserId.{UserId}
use Rattle.cloud_memory.specs.CdBase.shape.Shape.{Shape}
use Rattle.cloud_memory.specs.RecordBody.body.PutItem.{PutItem}
use Rattle.cloud_memory.specs.ShareIndex.key.Owner.{Owner}
use Rattle.cloud_memory.specs.ShareIndex.Order.{owner_of}
use Rattle.cloud_memory.specs.SpentTable.Spent.{Spent as Row}
use Rattle.cloud_memory.specs.SpentTable.Spending as rows
use Rattle.cloud_memory.specs.SpentTable.Spending.{spent_by}
use Rattle.cloud_memory.specs.UserDedup.Cloud.{fingerprint, has_fingerprint, no_view}
use Rattle.cloud_memory.specs.UserDedup.Owning.{is_among}
use Rattle.cloud_memory.proofs.UserDedup.Owned.{among_contains, contains_among, contains_nothing}
use Rattle.cloud_memory.specs.UserDedup.command.Command.{Command}
use Rattle.cloud_memory.specs.UserDedup.Cloud.{is_of, commands_of, user_view, view_after, strings_in}
use Rattle.cloud_memory.specs.UserDedup.Spending.{SpentByUser, spent_of}
use Rattle.cloud_memory.proofs.UserDedup.Views.{owned_is_held}
use Rattle.cloud_disk.specs.CloudAreas.Checkpoints.{Lists, AreFull, PutRecord, of_user, fps_of, items_in, ListOwners}
use Rattle.cloud_disk.proofs.CloudAreas.Apart.{Apart, are_apart}
use Rattle.cloud_memory.specs.declared.cloud.CloudMemory.{CloudMemory}
use Rattle.cloud_memory.specs.Memory.{Remembers, uses_of}
use Rattle.cloud_memory.specs.Rooms.{memory_of}
use Rattle.cloud_memory.proofs.Lists.{among_found}
use Rattle.checkpoints.specs.Picking.{batches}
use Rattle.checkpoints.specs.Records.{owned_at, owned_in, listed, put_of, items_from, puts_from}
use Rattle.checkpoints.specs.Known.{AreListed}
use Rattle.checkpoints.proofs.Apartness.{contained}
use Rattle.checkpoints.proofs.Sought.{from_picked, in_picked, apart_picked}
use Rattle.checkpoints.proofs.FullBatches.{full_batched}
use Rattle.checkpoints.proofs.Owns.{of_all, of_nobody, items_are, fps_are, flags_of}

-- ---- a slot

fp_or : Option Fp → List ℕ
fp_or None = []
fp_or (Some fp) = fp.0

pub owned_gives : (user : ℕ) (e : Owner × ℕ) (fp : Fp) → owned_at user (Some e) ≡ Some fp → (e.0.user ≡ user) × (e.0.fp ≡ fp.0)
owned_gives user e fp is = by_test (e.0.user == user) refl is
  where
    by_test : (b : Bool) → (e.0.user == user) ≡ b → cond b (Some (record { 0 = e.0.fp })) None ≡ Some fp → (e.0.user ≡ user) × (e.0.fp ≡ fp.0)
    by_test true t same = (eqb-true e.0.user user t, let two : Some (record { 0 = e.0.fp }) ≡ Some fp = same in let one : ◌≡◌ {A = Fp} (record { 0 = e.0.fp }) fp = cc in ap (λ (f : Fp). f.0) one)
    by_test false t same = absurd (let no : ◌≡◌ {A = Option Fp} None (Some fp) = same in cc)

owned_as : (user : ℕ) (fp : Fp) (uses : ℕ) → owned_at user (Some (owner_of user fp.0, uses)) ≡ Some fp
owned_as user fp uses = ap (λ b. cond b (Some fp) None) (eq-eqb user user refl)

-- what is in a list or not
among_from : (b : Bool) (n : ℕ) (o : Option ℕ) (v : ℕ) → o ≡ cond b (Some n) None → o ≡ Some v → b ≡ true
among_from true n o v is some = refl
among_from false n o v is some = absurd (let no : ◌≡◌ {A = Option ℕ} None (Some v) = sym is ∙ some in cc)

-- ---- what was sent

twice : {X : Type 0} (p : X → Bool) (xs : List X) → filter p (filter p xs) ≡ filter p xs
twice p [] = refl
twice p (x ∷ xs) = by_test (p x) refl (twice p xs)
  where
    by_test : (b : Bool) → p x ≡ b → filter p (filter p xs) ≡ filter p xs → filter p (filter p (x ∷ xs)) ≡ filter p (x ∷ xs)
    by_test true t rest =
        ap (λ b. filter p (cond b (x ∷ filter p xs) (filter p xs))) t
        ∙ ap (λ b. cond b (x ∷ filter p (filter p xs)) (filter p (filter p xs))) t
        ∙ ap (λ ys. x ∷ ys) rest
        ∙ sym (ap (λ b. cond b (x ∷ filter p xs) (filter p xs)) t)
    by_test false t rest =
        ap (λ b. filter p (cond b (x ∷ filter p xs) (filter p xs))) t
        ∙ rest
        ∙ sym (ap (λ b. cond b (x ∷ filter p xs) (filter p xs)) t)

found_some : {X : Type 0} (p : X → Bool) (xs : List X) (x : X) → find p xs ≡ Some x → 1 ≤ length xs
found_some p [] x e = absurd (let no : None ≡ Some x = e in cc)
found_some p (y ∷ xs) x e = omega arith

-- a user that owns anything put it
pub put_some : (shape : Shape) (list : List Command) (user : UserId) (fp : Fp) → Contains (user_view shape list user).own fp → 1 ≤ (spent_of list user).owners
put_some shape list user fp c =
    let mine = commands_of user list in
    let same : user_view shape list user ≡ user_view shape mine user = ap (λ l. fold (view_after shape) no_view l) (sym (twice (is_of user) list)) in
    let held = owned_is_held shape mine user fp (subst (λ v. Contains v.own fp) same c) in
    found_some (has_fingerprint fp) (strings_in mine) held.0 held.1

-- what a user owns is held
pub own_is_put : (shape : Shape) (list : List Command) (user : UserId) (fp : Fp) → Contains (user_view shape list user).own fp → Contains (map fingerprint (strings_in list)) fp
own_is_put shape list user fp c =
    let held = owned_is_held shape list user fp c in
    among_contains (map fingerprint (strings_in list)) fp (among_found (strings_in list) fp ∙ ap is_some held.1)

lens_of : (u : ℕ) (bs : List (List PutItem)) → map (λ (p : PutRecord). length p.items) (map (put_of u) bs) ≡ map (λ (b : List PutItem). length b) bs
lens_of u [] = refl
lens_of u (b ∷ bs) = ap (λ ns. length b ∷ ns) (lens_of u bs)

module _ (shape : Shape) (list : List Command) (memory : CloudMemory) (r : Remembers shape list (memory_of memory)) (l : AreListed memory) where
  abbrev Own : UserId → Fp → Type 0
  Own user = Contains (user_view shape list user).own

  -- an owner in the map owns it by the list
  pub own_of : (user : UserId) (fp : Fp) (uses : ℕ) → get memory.shares.owners (owner_of user.0 fp.0) ≡ Some uses → Own user fp
  own_of user fp uses at =
      among_contains (user_view shape list user).own fp
      (among_from (is_among (user_view shape list user).own fp) (uses_of shape (user_view shape list user).files fp) (get memory.shares.owners (owner_of user.0 fp.0)) uses (r.owners user fp) at)

  -- and one by the list is in the map
  pub owner_of_own : (user : UserId) (fp : Fp) → Own user fp → get memory.shares.owners (owner_of user.0 fp.0) ≡ Some (uses_of shape (user_view shape list user).files fp)
  owner_of_own user fp c =
      r.owners user fp ∙ ap (λ b. cond b (Some (uses_of shape (user_view shape list user).files fp)) None) (contains_among (user_view shape list user).own fp c)

  own_each : (user : UserId) (fp : Fp) → Contains (owned_in user.0 memory.shares.owner_slots) fp ↔ Own user fp
  own_each user fp = (there, back)
    where
      there : Contains (owned_in user.0 memory.shares.owner_slots) fp → Own user fp
      there c =
          let s = from_picked (owned_at user.0) refl memory.shares.owner_slots fp c in
          let g = owned_gives user.0 s.entry fp s.picks in
          let key : s.entry.0 ≡ owner_of user.0 fp.0 = λ i. record { user = g.0 i; fp = g.1 i } in
          own_of user fp s.entry.1 (ap (get memory.shares.owners) (sym key) ∙ l.owners.listed s.slot s.entry.0 s.entry.1 s.here)

      back : Own user fp → Contains (owned_in user.0 memory.shares.owner_slots) fp
      back c =
          let uses = uses_of shape (user_view shape list user).files fp in
          let s = l.owners.stands (owner_of user.0 fp.0) uses (owner_of_own user fp c) in
          in_picked (owned_at user.0) refl memory.shares.owner_slots s.0 (owner_of user.0 fp.0, uses) fp s.2 (owned_as user.0 fp uses)

  own_once : (user : ℕ) → Apart (owned_in user memory.shares.owner_slots)
  own_once user =
      apart_picked (owned_at user) refl memory.shares.owner_slots (λ i j a b x ia jb fa fb.
      let ga = owned_gives user a x fa in let gb = owned_gives user b x fb in
      let key : b.0 ≡ a.0 = λ k. record { user = (gb.0 ∙ sym ga.0) k; fp = (gb.1 ∙ sym ga.1) k } in
      l.owners.once i j a.0 a.1 b.1 ia (jb ∙ ap (λ (k : Owner). Some (k, b.1)) key))

  abbrev Puts : List PutRecord
  Puts = puts_from memory.shares (length memory.spent) 0 0

  -- each user that owns anything has a row
  has_row : (user : UserId) (fp : Fp) → length memory.spent ≤ user.0 → Own user fp → ⊥
  has_row user fp beyond c =
      let nothing_spent : (spent_of list user).owners ≡ 0 = ap (λ (s : SpentByUser). s.owners) (sym (r.spent user)) ∙ ap (λ (row : Row). row.owners) (get_or_past memory.spent user.0 rows.nothing beyond) in
      omega (arith, nothing_spent, put_some shape list user fp c)

  own_list : (user : UserId) → user.0 < length memory.spent → fps_of (items_in (of_user user Puts)) ≡ owned_in user.0 memory.shares.owner_slots
  own_list user below =
      ap (λ ps. fps_of (items_in ps)) (of_all memory.shares user (length memory.spent) 0 (omega arith) (omega (arith, below)))
      ∙ ap fps_of (items_are user.0 (items_from memory.shares user.0 0))
      ∙ fps_are memory.shares.places (listed memory.shares.owner_slots user.0 0) (owned_in user.0 memory.shares.owner_slots)

  own_lists : (user : UserId) → Lists (fps_of (items_in (of_user user Puts))) (Own user)
  own_lists user = elim (cases_lt user.0 (length memory.spent)) [
    | inl below ↦
        subst (λ (xs : List Fp). Lists xs (Own user)) (sym (own_list user below))
        (record { each = own_each user; once = are_apart (owned_in user.0 memory.shares.owner_slots) (own_once user.0) })
    | inr beyond ↦
        subst (λ (xs : List PutRecord). Lists (fps_of (items_in xs)) (Own user)) (sym (of_nobody memory.shares user (length memory.spent) beyond))
        (record { each = λ fp. (λ c. absurd (contains_nothing fp c), λ c. absurd (has_row user fp beyond c)); once = are_apart [] tt })
  ]

  own_full : (user : UserId) → AreFull (map (λ (p : PutRecord). length p.items) (of_user user Puts))
  own_full user = elim (cases_lt user.0 (length memory.spent)) [
    | inl below ↦
        subst AreFull
        (sym (ap (map (λ (p : PutRecord). length p.items)) (of_all memory.shares user (length memory.spent) 0 (omega arith) (omega (arith, below)))
        ∙ lens_of user.0 (batches (items_from memory.shares user.0 0))))
        (full_batched [] (items_from memory.shares user.0 0) (omega arith))
    | inr beyond ↦ subst (λ (xs : List PutRecord). AreFull (map (λ (p : PutRecord). length p.items) xs)) (sym (of_nobody memory.shares user (length memory.spent) beyond)) tt
  ]

  all_placed : (u : ℕ) → All (λ (fp : Fp). IsSome (get memory.shares.places fp.0)) (owned_in u memory.shares.owner_slots)
  all_placed u =
      contained (λ (fp : Fp). IsSome (get memory.shares.places fp.0)) (owned_in u memory.shares.owner_slots)
      (λ fp c. (r.placed fp).1 (own_is_put shape list (record { 0 = u }) fp ((own_each (record { 0 = u }) fp).0 c)))

  pub owners_law : ListOwners shape list Puts
  owners_law = record { own = own_lists; full = own_full; flags = flags_of memory.shares all_placed (length memory.spent) 0 }
