-- What all users have spent is no more than the rows of the table say together.
use Rattle.std.proofs.Common.{◌≡◌, inl, inr, ℕ, zero, suc, ◌+◌, ◌<◌, ◌≤◌, Bool, List, [], ◌∷◌, length, refl, sym, ap, ◌∙◌, subst, arith, eq-eqb, take-suc}
use Rattle.std.specs.Prelude.{filter, not, ◌==◌, take, slice_index_or}
use Rattle.std.specs.List.{sum_by}
use Rattle.std.proofs.lemmas.Bool.{cases_eq}
use Rattle.std.proofs.lemmas.List.Sums.{sum_by_push}
use Rattle.std.proofs.lemmas.List.Filters.{sum_by-filter_both}
use Rattle.cd_edges.specs.CdBase.ids.UserId.{UserId}
use Rattle.cd_edges.specs.CdBase.shape.Shape.{Shape}
use Rattle.record_checks.specs.JournalStart.rooms.UserRooms.{UserRooms}
use Rattle.record_checks.specs.SpentTable.Spent.{Spent as Row}
use Rattle.record_checks.specs.SpentTable.Spending.{nothing as no_row}
use Rattle.record_checks.specs.UserDedup.command.Command.{Command}
use Rattle.record_checks.specs.UserDedup.Cloud.{user_of, commands_of}
use Rattle.record_checks.specs.UserDedup.Spending.{SpentByUser, spent_of, spent_by_all, IsWithin}
use Rattle.record_checks.proofs.UserDedup.Filtered.{in_filter}
use Rattle.record_checks.proofs.CloudAreas.Counting.{without_less, own_without, no_weight, all_nothing}
use Rattle.record_checks.proofs.CloudAreas.Room.{spent_above, shares_by, shares_sum, recipes_by, recipes_total}
use Rattle.record_checks.specs.CloudMemory.Memory.{Memory, Remembers}

-- the sum of these numbers
abbrev sum_to : (ℕ → ℕ) → ℕ → ℕ
sum_to f zero = 0
sum_to f (suc n) = sum_to f n + f n

module _ {X : Type 0} (w : X → ℕ) (user : X → ℕ) (f : ℕ → ℕ) where
  abbrev of : ℕ → X → Bool
  of u x = user x == u

  -- what all of some things weigh, by users
  by_users : (n : ℕ) (xs : List X) → ((u : ℕ) → u < n → sum_by w (filter (of u) xs) ≤ f u) → ((u : ℕ) → n ≤ u → sum_by w (filter (of u) xs) ≡ 0) → sum_by w xs ≤ sum_to f n
  by_users zero xs below none =
      let all = all_nothing w user xs (λ x c.
      let own = no_weight w user (filter (of (user x)) xs) x (in_filter (of (user x)) xs x c (eq-eqb (user x) (user x) refl)) in
      let nothing = none (user x) (omega arith) in
      omega (arith, own, nothing)) in
      omega (arith, all)
  by_users (suc n) xs below none =
      let others : X → Bool = λ x. not (user x == n) in
      let rest = by_users n (filter others xs)
      (λ u lt. let a = without_less w user u n xs in let b = below u (omega (arith, lt)) in omega (arith, a, b))
      (λ u ge. elim (cases_eq u n) [
        | inl same ↦ ap (sum_by w) (subst (λ (v : ℕ). filter (of v) (filter others xs) ≡ []) (sym same) (own_without w user n xs))
        | inr other ↦ (let a = without_less w user u n xs in let b = none u (omega (arith, other, ge)) in omega (arith, a, b))
      ]) in
      let both = sum_by-filter_both (of n) others (λ x. refl) w xs in
      let last = below n (omega arith) in
      omega (arith, rest, both, last)

-- the numbers of rows
rows_sum : (g : Row → ℕ) (rows : List Row) (n : ℕ) → n ≤ length rows → sum_to (λ u. g (slice_index_or rows u no_row)) n ≡ sum_by g (take n rows)
rows_sum g rows zero le = refl
rows_sum g rows (suc n) le =
    let rest = rows_sum g rows n (omega (arith, le)) in
    let next = ap (sum_by g) (take-suc rows n no_row (omega (arith, le))) in
    let push = sum_by_push g (take n rows) (slice_index_or rows n no_row) in
    omega (arith, rest, next, push)

take_whole : {X : Type 0} (xs : List X) → take (length xs) xs ≡ xs
take_whole [] = refl
take_whole (x ∷ xs) = ap (λ l. x ∷ l) (take_whole xs)

all_rows : (g : Row → ℕ) (rows : List Row) → sum_to (λ u. g (slice_index_or rows u no_row)) (length rows) ≡ sum_by g rows
all_rows g rows = rows_sum g rows (length rows) (omega arith) ∙ ap (sum_by g) (take_whole rows)

abbrev user_at : ℕ → UserId
user_at u = record { 0 = u }

module _ (shape : Shape) (rooms : UserRooms) (list : List Command) (within : IsWithin shape rooms list) (m : Memory) (r : Remembers shape list m) (users_are : length m.spent ≡ rooms.users) where
  pub shares_in_rows : (spent_by_all list).shares ≤ sum_by (λ (row : Row). row.shares) m.spent
  shares_in_rows =
      let each : ℕ → ℕ = λ u. (slice_index_or m.spent u no_row).shares in
      let by = by_users (shares_by shape rooms list within) (λ (c : Command). (user_of c).0) each rooms.users list
      (λ u lt.
      let row : (slice_index_or m.spent u no_row).shares ≡ (spent_of list (user_at u)).shares = ap (λ (s : SpentByUser). s.shares) (r.spent (user_at u)) in
      let sum = shares_sum shape rooms list within (commands_of (user_at u) list) in
      omega (arith, row, sum))
      (λ u ge.
      let none = ap (λ (s : SpentByUser). s.shares) (spent_above shape rooms list within u ge) in
      let sum = shares_sum shape rooms list within (commands_of (user_at u) list) in
      omega (arith, none, sum)) in
      let all = shares_sum shape rooms list within list in
      let rows = ap (sum_to each) (sym users_are) ∙ all_rows (λ (row : Row). row.shares) m.spent in
      omega (arith, by, all, rows)

  pub recipes_in_rows : (spent_by_all list).recipes ≤ sum_by (λ (row : Row). row.recipes) m.spent
  recipes_in_rows =
      let each : ℕ → ℕ = λ u. (slice_index_or m.spent u no_row).recipes in
      let by = by_users (recipes_by shape rooms list within) (λ (c : Command). (user_of c).0) each rooms.users list
      (λ u lt.
      let row : (slice_index_or m.spent u no_row).recipes ≡ (spent_of list (user_at u)).recipes = ap (λ (s : SpentByUser). s.recipes) (r.spent (user_at u)) in
      let sum = recipes_total shape rooms list within (commands_of (user_at u) list) in
      omega (arith, row, sum))
      (λ u ge.
      let none = ap (λ (s : SpentByUser). s.recipes) (spent_above shape rooms list within u ge) in
      let sum = recipes_total shape rooms list within (commands_of (user_at u) list) in
      omega (arith, none, sum)) in
      let all = recipes_total shape rooms list within list in
      let rows = ap (sum_to each) (sym users_are) ∙ all_rows (λ (row : Row). row.recipes) m.spent in
      omega (arith, by, all, rows)
