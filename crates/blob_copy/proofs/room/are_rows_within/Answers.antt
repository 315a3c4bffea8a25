use Rattle.std.proofs.Common.{◌≡◌, true, false, rules, sym, subst, ◌∙◌, arith}
use Rattle.std.proofs.lemmas.Bool.{false≢true}
use Rattle.std.specs.Prelude.{slice_index_or}
use Rattle.record_laws.specs.SpentTable.Spending.{nothing}
use borrow.Author.Count.{below_more}
use Rattle.blob_copy.specs.Switched.{IsRowWithin}
use Rattle.blob_copy.proofs.Rows.{all_within, one_within}
use Rattle.blob_copy.proofs.room.are_rows_within.Goals as goal

pub loop-user-init : goal.loop-user-init
loop-user-init c = λ k lt. absurd (omega (arith, lt))

pub loop-user-preserved : goal.loop-user-preserved
loop-user-preserved c =
    let on : c.is_row_within.result ≡ true = search rules in
    below_more (λ k. IsRowWithin c.args.rooms.now (slice_index_or c.args.memory.now.spent k nothing)) c.loop-user.user c.loop-user.invariant
    (subst (IsRowWithin c.args.rooms.now) c.spent-row.ensures.kept (c.is_row_within.ensures.0 on))

pub returns-then-not-is_row_within : goal.returns-then-not-is_row_within
returns-then-not-is_row_within c =
    let off : c.is_row_within.result ≡ false = search rules in (
      λ no. absurd (false≢true no),
      λ w. absurd (false≢true (sym off ∙ c.is_row_within.ensures.1 (subst (IsRowWithin c.args.rooms.now) (sym c.spent-row.ensures.kept) (one_within c.args.rooms.now c.args.memory.now.spent c.loop-user.user c.loop-user-test.true w)))),
    )

pub returns : goal.returns
returns c = (λ yes. all_within c.args.rooms.now c.args.memory.now.spent c.requires (λ k lt. c.loop-user.invariant k (let past = c.loop-user-test.false in omega (arith, past, lt))), λ w. search rules)
