use Rattle.std.proofs.Common.{[], length, get_or, arith, inl, inr, ap, ◌≡◌}
use Rattle.std.proofs.lemmas.Bool.{cases_lt}
use Rattle.std.proofs.lemmas.List.{get_or_past}
use Rattle.file_recipe.specs.FileRecipe.{secrets}
use Rattle.file_recipe.proofs.Secrets.{secrets_joined, secret_at, secret_inner, secrets_few}
use Rattle.file_recipe.proofs.laws.secret_laws.Goals as goal

pub returns : goal.returns
returns c = record {
  joined = secrets_joined;
  some = λ file i lt. (secret_at file i lt).some;
  longest = λ file i. elim (cases_lt i (length (secrets file))) [
    | inl lt ↦ (secret_at file i lt).few
    | inr le ↦ let past : length (get_or (secrets file) i []) ≡ 0 = ap length (get_or_past (secrets file) i [] le) in omega arith
  ];
  shortest = secret_inner;
  few = secrets_few;
}
