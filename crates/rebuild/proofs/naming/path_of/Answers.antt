use Rattle.std.proofs.Common.{◌==◌, ℕ, List, position, length, Result, Err, sym, ap, ◌∙◌, subst, arith}
use Rattle.lane_steps.specs.CaontRs.Opening.{opened}
use Rattle.lane_steps.specs.CaontRs.opening.RecoverErr.{RecoverErr}
use Rattle.rebuild.specs.declared.naming.NameErr.{NameErr}
use Rattle.rebuild.specs.Found.{name_judged, path_judged}
use Rattle.rebuild.specs.Steps.{NameIs}
use Rattle.rebuild.proofs.Names.{opened_long}
use Rattle.rebuild.proofs.naming.path_of.Goals as goal

pub test_path-requires-clause-some : goal.test_path-requires-clause-some
test_path-requires-clause-some c =
    let whole = ap length c.as_slice.ensures ∙ ap length c.in-Ok.ensures ∙ c.requires.whole in
    let long = opened_long c.args.shape c.args.name_len c.args.points.now c.as_slice.result.now c.in-Ok-open_name.path whole c.in-Ok-open_name.ensures.opens in
    omega (arith, ap length c.as_slice-2.ensures, c.requires.some)

pub test_path-requires-clause-few : goal.test_path-requires-clause-few
test_path-requires-clause-few c =
    let whole = ap length c.as_slice.ensures ∙ ap length c.in-Ok.ensures ∙ c.requires.whole in
    let long = opened_long c.args.shape c.args.name_len c.args.points.now c.as_slice.result.now c.in-Ok-open_name.path whole c.in-Ok-open_name.ensures.opens in
    omega (arith, ap length c.as_slice-2.ensures, c.requires.few)

pub returns-clause-judges : goal.returns-clause-judges
returns-clause-judges c version =
    let e : Result (List ℕ) NameErr = Err c.in-Err-test_path.e in
    let due = ap (λ (l : List ℕ). opened c.args.shape c.args.name_len c.args.points.now l) (sym c.in-Ok.ensures ∙ sym c.as_slice.ensures) ∙ c.in-Ok-open_name.ensures.opens in
    subst (λ (r : Result (List ℕ) RecoverErr). NameIs (name_judged c.args.shape (c.args.tag, version) r) e) (sym due)
    (subst (λ (l : List ℕ). NameIs (path_judged c.args.shape (c.args.tag, version) l (position (λ byte. byte == 0) l)) e) c.as_slice-2.ensures (c.in-Err-test_path.ensures.judges version))
