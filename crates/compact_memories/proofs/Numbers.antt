-- How many commands the compact list has, by a memory.
use Rattle.std.proofs.Common.{◌≡◌, ◌≢◌, ℕ, ◌+◌, ◌<◌, Bool, true, false, cond, List, [], ◌∷◌, ◌++◌, length, map, refl, sym, ap, ◌∙◌, subst, arith, inl, inr, ◌⊎◌, eq-eqb}
use Rattle.std.specs.Prelude.{◌==◌, ◌^◌, IsSome, sum_by, fold}
use Rattle.std.specs.List.{Contains, flat_map}
use Rattle.std.specs.FinMap.{get, len}
use Rattle.std.proofs.lemmas.Bool.{cases_eq, ne_eqb}
use Rattle.std.proofs.lemmas.List.Concat.{flat_map-cons}
use Rattle.std.proofs.lemmas.List.Elements.{Contains-append_cases}
use Rattle.std.proofs.lemmas.List.Sums.{sum_by-cons}
use Rattle.compact_lists.specs.CdBase.shape.Shape.{Shape}
use Rattle.checkpoints.specs.PoolMap.Accounts.{keys_of}
use Rattle.checkpoints.specs.FileIndex.key.Entry.{Entry}
use Rattle.checkpoints.specs.FileIndex.key.FileKey.{FileKey}
use Rattle.checkpoints.specs.FileIndex.Order.{key_exact}
use Rattle.checkpoints.proofs.FileIndexLaws.Order.{key_total}
use Rattle.checkpoints.specs.ShareIndex.key.Owner.{Owner}
use Rattle.checkpoints.specs.ShareIndex.Counts.{begun, sum_below}
use Rattle.checkpoints.specs.ShareIndex.Shares.{batches_of}
use Rattle.checkpoints.specs.ShareIndex.SumBelow.{sum_below-change, sum_below-zeros}
use Rattle.compact_lists.specs.UserDedup.view.View.{View}
use Rattle.compact_lists.specs.UserDedup.Cloud.{no_view, user_of, commands_of, user_view, view_after}
use Rattle.compact_lists.specs.UserDedup.Pages.{key_of as file_key}
use Rattle.compact_lists.proofs.UserDedup.Owned.{contains_here, contains_later, contains_nothing, contains_cases}
use Rattle.compact_lists.specs.UserDedup.command.Command.{Command}
use Rattle.compact_lists.specs.UserDedup.Dedup.{IsSound}
use Rattle.compact_lists.specs.UserDedup.Compact.{compact, users_in, user_at}
use Rattle.compact_lists.specs.UserDedup.Spending.{files_of}
use Rattle.compact_lists.proofs.UserDedup.Compacting.{users_rise}
use Rattle.compact_lists.proofs.UserDedup.CompactSound.{all_fit}
use Rattle.compact_lists.proofs.UserDedup.Filtered.{in_flat, from_flat}
use Rattle.compact_lists.proofs.UserDedup.Once.{Once}
use Rattle.compact_lists.proofs.UserDedup.Sorting.{Rises, has_number, number_later, number_cases}
use Rattle.checkpoints.specs.CloudMemory.Memory.{Memory, Remembers}
use Rattle.checkpoints.proofs.CloudMemoryLaws.KeyCounts.{all_keys}
use Rattle.checkpoints.proofs.CloudAreas.Lists.{in_map, from_map}
use Rattle.checkpoints.proofs.UserDedup.Pages.{Key}
use Rattle.checkpoints.proofs.CloudMemoryLaws.Next.{of, holds_of}
use Rattle.compact_lists.specs.Live.{begun_in}
use Rattle.compact_lists.proofs.Sums.{sum_alike, sum_ones, sum_mapped, sum_flat}
use Rattle.compact_lists.proofs.Parts.{numbered}
use Rattle.compact_memories.specs.Kept.{commands_in}
use Rattle.compact_memories.proofs.Weights.{sum_keys}
use Rattle.compact_memories.proofs.Keeping.{owners_counted, files_once, files_there}

-- ---- a sum over all numbers, by those that give something

rises_once : (ns : List ℕ) → Rises ns → Once ns
rises_once [] r = tt
rises_once (n ∷ ns) r = (λ c. let no = r.0 n c in absurd (omega (arith, no)), rises_once ns r.1)

below : (n : ℕ) (xs : List ℕ) → Once xs → ((u : ℕ) → Contains xs u → u < n) → (f : ℕ → ℕ) → ((u : ℕ) → (Contains xs u → ⊥) → f u ≡ 0)
    → sum_below n f ≡ sum_by f xs
below n [] once low f none = sum_below-zeros n f (λ u. none u (contains_nothing u))
below n (x ∷ xs) once low f none =
    let change = sum_below-change n x f g (low x (contains_here x xs)) (λ k other. sym (off k other)) in
    let rest = below n xs once.1 (λ u c. low u (contains_later x xs u c)) g without in
    let same = sum_alike g f xs (λ u c. off u (λ e. once.0 (subst (Contains xs) e c))) in
    let cons = sum_by-cons f x xs in
    omega (arith, change, rest, same, cons, at)
  where
    g : ℕ → ℕ
    g u = cond (u == x) 0 (f u)

    at : g x ≡ 0
    at = ap (λ (b : Bool). cond b 0 (f x)) (eq-eqb x x refl)

    off : (u : ℕ) → u ≢ x → g u ≡ f u
    off u other = ap (λ (b : Bool). cond b 0 (f u)) (ne_eqb u x other)

    without : (u : ℕ) → (Contains xs u → ⊥) → g u ≡ 0
    without u lacks = by_test (u == x) refl
      where
        by_test : (b : Bool) → (u == x) ≡ b → cond b 0 (f u) ≡ 0
        by_test true t = refl
        by_test false t = none u (λ c. elim (contains_cases x xs u c) [
          | inl same ↦ absurd (let no : false ≡ true = sym t ∙ eq-eqb u x (sym same) in cc)
          | inr later ↦ lacks later
        ])

-- ---- lists of lists

once_append : {Y : Type 0} (firsts others : List Y) → Once firsts → Once others → ((y : Y) → Contains firsts y → Contains others y → ⊥) → Once (firsts ++ others)
once_append [] others one two apart = two
once_append (a ∷ firsts) others one two apart = (
  λ c. elim (Contains-append_cases firsts others a c) [
    | inl here ↦ one.0 here
    | inr later ↦ apart a (contains_here a firsts) later
  ],
  once_append firsts others one.1 two (λ y c d. apart y (contains_later a firsts y c) d),
)

once_flat : {X Y : Type 0} (g : X → List Y) (xs : List X) → Once xs → ((x : X) → Once (g x)) → ((a b : X) (y : Y) → Contains (g a) y → Contains (g b) y → a ≡ b) → Once (flat_map g xs)
once_flat g [] once each apart = tt
once_flat g (x ∷ xs) once each apart =
    subst Once (sym (flat_map-cons g x xs))
    (once_append (g x) (flat_map g xs) (each x) (once_flat g xs once.1 each apart) (λ y c d.
    let f = from_flat g xs y d in
    once.0 (subst (Contains xs) (sym (apart x f.0 y c f.2)) f.1)))

-- ---- the users of a list

pub no_commands : (list : List Command) (n : ℕ) → (Contains (users_in list) n → ⊥) → commands_of (user_at n) list ≡ []
no_commands [] n lacks = refl
no_commands (c ∷ list) n lacks =
    ap (λ (b : Bool). cond b (c ∷ commands_of (user_at n) list) (commands_of (user_at n) list))
    (ne_eqb (user_of c).0 n (λ same. lacks (subst (Contains (users_in (c ∷ list))) same (has_number (user_of c).0 (users_in list)))))
    ∙ no_commands list n (λ d. lacks (number_later (user_of c).0 (users_in list) n d))

users_low : (list : List Command) → ((c : Command) → Contains list c → (user_of c).0 < 2 ^ 32) → (n : ℕ) → Contains (users_in list) n → n < 2 ^ 32
users_low [] low n c = absurd (contains_nothing n c)
users_low (command ∷ list) low n c =
    elim (number_cases (user_of command).0 (users_in list) n c) [
      | inl same ↦ subst (λ (m : ℕ). m < 2 ^ 32) same (low command (contains_here command list))
      | inr later ↦ users_low list (λ d e. low d (contains_later command list d e)) n later
    ]

pub member : (n : ℕ) (ns : List ℕ) → Contains ns n ⊎ (Contains ns n → ⊥)
member n [] = inr (contains_nothing n)
member n (m ∷ ns) =
    elim (cases_eq m n) [
      | inl same ↦ inl (subst (Contains (m ∷ ns)) same (contains_here m ns))
      | inr other ↦ elim (member n ns) [
        | inl later ↦ inl (contains_later m ns n later)
        | inr lacks ↦ inr (λ c. elim (contains_cases m ns n c) [
          | inl same ↦ other same
          | inr later ↦ lacks later
        ])
      ]
    ]

module _ (shape : Shape) (cloud : ℕ) (list : List Command) (m : Memory) (sound : IsSound shape cloud list) (r : Remembers shape list m) where
  abbrev users : List ℕ
  users = users_in list

  abbrev view : ℕ → View
  view n = user_view shape list (user_at n)

  no_user : (n : ℕ) → (Contains users n → ⊥) → view n ≡ no_view
  no_user n lacks = ap (fold (view_after shape) no_view) (no_commands list n lacks)

  -- ---- batches

  abbrev has : ℕ → ℕ
  has n = keys_of (λ (k : Owner). k.user) m.owners n

  has_is : (n : ℕ) → has n ≡ length (view n).own
  has_is n = owners_counted shape cloud list m (user_at n) sound r

  batches : batches_of m.owners ≡ sum_by (λ (n : ℕ). begun_in (length (view n).own)) users
  batches =
      below (2 ^ 32) users (rises_once users (users_rise list)) (users_low list (λ c d. (all_fit shape cloud list sound c d).0)) (λ n. begun (has n))
      (λ n lacks. ap begun (has_is n ∙ ap (λ (v : View). length v.own) (no_user n lacks)))
      ∙ sum_alike (λ (n : ℕ). begun (has n)) (λ (n : ℕ). begun_in (length (view n).own)) users (λ n c. ap begun (has_is n))

  -- ---- entries

  abbrev keys : ℕ → List FileKey
  keys n = map (of (user_at n)) (map file_key (view n).files)

  abbrev all : List FileKey
  all = flat_map keys users

  is_of : (n : ℕ) (k : FileKey) → Contains (keys n) k → k.user ≡ n
  is_of n k c = let f = from_map (of (user_at n)) (map file_key (view n).files) k c in ap (λ (q : FileKey). q.user) (sym f.2)

  all_once : Once all
  all_once =
      once_flat keys users (rises_once users (users_rise list)) (λ n. files_once shape cloud list m (user_at n) sound r) (λ a b k c d. sym (is_of a k c) ∙ is_of b k d)

  each_there : (k : FileKey) → Contains all k → (true ≡ true) × IsSome (get m.files k)
  each_there k c = let f = from_flat keys users k c in (refl, (files_there shape cloud list m (user_at f.0) sound r k f.2).1)

  each_listed : (k : FileKey) → true ≡ true → IsSome (get m.files k) → Contains all k
  each_listed k t some =
      let key : Key = (record { 0 = k.tag }, record { 0 = k.version }) in
      let here = (holds_of shape list m r (user_at k.user) key).0 some in
      elim (member k.user users) [
        | inl known ↦ in_flat keys users k.user k known (in_map (of (user_at k.user)) (map file_key (view k.user).files) key here)
        | inr lacks ↦ absurd (contains_nothing key (subst (λ (v : View). Contains (map file_key v.files) key) (no_user k.user lacks) here))
      ]

  lengths : (n : ℕ) → sum_by (λ (k : FileKey). 1) (keys n) ≡ files_of shape list (user_at n)
  lengths n =
      sum_mapped (λ (k : FileKey). 1) (of (user_at n)) (map file_key (view n).files)
      ∙ sum_mapped (λ (k : Key). 1) file_key (view n).files
      ∙ sum_ones (view n).files

  files : len m.files ≡ sum_by (λ (n : ℕ). files_of shape list (user_at n)) users
  files =
      sym (all_keys m.files)
      ∙ sum_keys key_total key_exact (λ (k : FileKey). true) (λ (e : FileKey × Entry). 1) (λ (k : FileKey). 1) m.files all all_once each_there each_listed (λ k e c at. refl)
      ∙ sum_flat (λ (k : FileKey). 1) keys users
      ∙ sum_alike (λ (n : ℕ). sum_by (λ (k : FileKey). 1) (keys n)) (λ (n : ℕ). files_of shape list (user_at n)) users (λ n c. lengths n)

  pub numbers_are : commands_in m ≡ length (compact shape list)
  numbers_are = (λ i. batches i + files i) ∙ sym (numbered shape cloud list sound)

pub numbers : (shape : Shape) (cloud : ℕ) (list : List Command) (m : Memory) → IsSound shape cloud list → Remembers shape list m → commands_in m ≡ length (compact shape list)
numbers shape cloud list m sound r = numbers_are shape cloud list m sound r
