-- One user's numbers with more.
use Rattle.std.proofs.Common.{◌≡◌, ℕ, ◌+◌, List, ap, ◌∙◌, arith}
use Rattle.std.specs.Prelude.{slice_set}
use Rattle.spent_table.specs.declared.Spent.{Spent}
use Rattle.spent_table.specs.Spending.{both, of_shares, of_recipe}

none_more : (n : ℕ) → n ≡ n + 0
none_more n = omega arith

pub shares_more : (table : List Spent) (user : ℕ) (read had : Spent) (owners bytes : ℕ) → read ≡ had
    → slice_set table user (record { owners = read.owners + owners; shares = read.shares + bytes; recipes = read.recipes }) ≡ slice_set table user (both had (of_shares owners bytes))
shares_more table user read had owners bytes is =
    λ i. slice_set table user (record { owners = (is i).owners + owners; shares = (is i).shares + bytes; recipes = (ap (λ (r : Spent). r.recipes) is ∙ none_more had.recipes) i })

pub recipe_more : (table : List Spent) (user : ℕ) (read had : Spent) (bytes : ℕ) → read ≡ had
    → slice_set table user (record { owners = read.owners; shares = read.shares; recipes = read.recipes + bytes }) ≡ slice_set table user (both had (of_recipe bytes))
recipe_more table user read had bytes is =
    λ i. slice_set table user (record { owners = (ap (λ (r : Spent). r.owners) is ∙ none_more had.owners) i; shares = (ap (λ (r : Spent). r.shares) is ∙ none_more had.shares) i; recipes = (is i).recipes + bytes })
