use Rattle.std.proofs.Common.{◌≡◌, ℕ, ◌≤◌, List, length, Ok, Err, inl, refl, sym, ap, ◌∙◌, subst, arith}
use Rattle.std.specs.Prelude.{Result, IfErr}
use Rattle.record_checks.specs.RecordBody.view.BodyView.{BodyView}
use Rattle.record_checks.specs.RecordBody.Seen.{seen, StartsIn}
use Rattle.record_checks.specs.RecordBody.Spelling.{Commit, Delete, body_bytes, IsBody}
use Rattle.record_checks.proofs.RecordBody.Spelled.{length-delete}
use Rattle.record_checks.proofs.RecordBody.FirstSpelled.{length-commit}
use Rattle.first_records.specs.declared.errors.Fault.{Fault}
use Rattle.first_records.specs.declared.errors.Fault.TheVariants.{Field, Passes}
use Rattle.first_records.specs.Judging.{IsForeign}
use Rattle.first_records.specs.Steps.{IsFaultWithin}
use Rattle.first_records.proofs.record.take_view.Goals as goal

within_more : (a b : ℕ) (r : Result Unit Fault) → a ≤ b → IfErr r (IsFaultWithin a) → IfErr r (IsFaultWithin b)
within_more a b (Ok u) more within = tt
within_more a b (Err (Field place)) more within = omega (arith, more, within)
within_more a b (Err (Passes room)) more within = tt

pub unreachable-requires : goal.unreachable-requires
unreachable-requires c =
    c.requires.own (subst (IsForeign c.args.inside) (sym (c.requires.fits.spelled ∙ ap (λ (v : BodyView). body_bytes (seen v)) c.in-Spent.is)) (inl refl))

pub returns-in-Put-clause-within : goal.returns-in-Put-clause-within
returns-in-Put-clause-within c =
    let starts = subst (StartsIn c.args.body.now) c.in-Put.is c.requires.starts in
    subst (λ (l : List ℕ). IfErr c.take_put.result (IsFaultWithin (length l))) starts.0 c.take_put.ensures.within

pub returns-in-Commit-clause-within : goal.returns-in-Commit-clause-within
returns-in-Commit-clause-within c =
    let fits : IsBody c.args.body.now (Commit c.in-Commit.commit) = subst (λ (v : BodyView). IsBody c.args.body.now (seen v)) c.in-Commit.is c.requires.fits in
    let long : length c.args.body.now ≡ 89 = ap length fits.spelled ∙ length-commit c.in-Commit.commit fits.fits in
    within_more 89 (length c.args.body.now) c.take_commit.result (omega (arith, long)) c.take_commit.ensures.within

pub returns-in-Delete-clause-within : goal.returns-in-Delete-clause-within
returns-in-Delete-clause-within c =
    let fits : IsBody c.args.body.now (Delete c.in-Delete.delete) = subst (λ (v : BodyView). IsBody c.args.body.now (seen v)) c.in-Delete.is c.requires.fits in
    let long : length c.args.body.now ≡ 45 = ap length fits.spelled ∙ length-delete c.in-Delete.delete fits.fits in
    within_more 45 (length c.args.body.now) c.take_delete.result (omega (arith, long)) c.take_delete.ensures.within

pub returns-in-Kept-clause-within : goal.returns-in-Kept-clause-within
returns-in-Kept-clause-within c =
    let starts = subst (StartsIn c.args.body.now) c.in-Kept.is c.requires.starts in
    subst (λ (l : List ℕ). IfErr c.take_kept.result (IsFaultWithin (length l))) starts.0 c.take_kept.ensures.within
