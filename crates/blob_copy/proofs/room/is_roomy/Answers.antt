use Rattle.std.proofs.Common.{◌≡◌, true, false, rules, sym, ◌∙◌}
use Rattle.std.proofs.lemmas.Bool.{false≢true}
use Rattle.blob_copy.proofs.room.is_roomy.Goals as goal

pub returns-then-not-are_rows_within : goal.returns-then-not-are_rows_within
returns-then-not-are_rows_within c =
    let off : c.are_rows_within.result ≡ false = search rules in
    (λ no. absurd (false≢true no), λ roomy. absurd (false≢true (sym off ∙ c.are_rows_within.ensures.1 roomy.spent)))

pub returns-then-not-shares_fit : goal.returns-then-not-shares_fit
returns-then-not-shares_fit c =
    let off : c.shares_fit.result ≡ false = search rules in
    (λ no. absurd (false≢true no), λ roomy. absurd (false≢true (sym off ∙ c.shares_fit.ensures.1 roomy.ends.shares)))

pub returns : goal.returns
returns c =
    let rows : c.are_rows_within.result ≡ true = search rules in
    let shares : c.shares_fit.result ≡ true = search rules in (
      λ yes. record { spent = c.are_rows_within.ensures.0 rows; ends = record { shares = c.shares_fit.ensures.0 shares; recipes = c.recipes_fit.ensures.0 yes } },
      λ roomy. c.recipes_fit.ensures.1 roomy.ends.recipes,
    )
