-- How many fingerprints each user owns, and the batches that they make.
use Rattle.std.specs.Prelude.{ℕ, zero, suc, ◌+◌, ◌-◌, ◌/◌, ◌==◌, unwrap_or, sum_by, if◌then◌else◌}
use Rattle.std.specs.declared.cmp.Ordering.{Ordering}
use Rattle.std.specs.Ordering.{nat_cmp, on}
use Rattle.std.specs.FinMap.{FinMap, get, insert, remove, entries}
use Rattle.share_index.specs.declared.key.UserNumber.{UserNumber}

-- the order of users' numbers
abbrev pub number_cmp : UserNumber → UserNumber → Ordering
number_cmp = on (λ n. n.value) nat_cmp

abbrev pub number_of : ℕ → UserNumber
number_of user = record { value = user }

-- each user that owns some, and how many users there may be
pub record UserCounts : Type 0 where
  pub counts : FinMap number_cmp ℕ
  pub room : ℕ

-- how many a user owns
abbrev pub count_at : FinMap number_cmp ℕ → ℕ → ℕ
count_at m user = unwrap_or (get m (number_of user)) 0

-- how many all users own
abbrev pub total : FinMap number_cmp ℕ → ℕ
total m = sum_by (λ e. e.1) (entries m)

-- the counts with one fewer of a user's
abbrev pub lowered : FinMap number_cmp ℕ → ℕ → FinMap number_cmp ℕ
lowered m user = (if count_at m user == 1 then remove m (number_of user) else insert m (number_of user) (count_at m user - 1))

-- how many batches of 256 so many fingerprints begin
abbrev pub begun : ℕ → ℕ
begun count = (count + 255) / 256

-- the begun batches of all users together
abbrev pub batches_in : FinMap number_cmp ℕ → ℕ
batches_in m = sum_by (λ e. begun e.1) (entries m)

-- f 0 + f 1 + .. with so many summands
unfoldable pub sum_below : ℕ → (ℕ → ℕ) → ℕ
sum_below zero f = 0
sum_below (suc n) f = sum_below n f + f n
