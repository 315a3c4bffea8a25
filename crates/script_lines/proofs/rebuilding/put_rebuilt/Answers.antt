use Rattle.std.proofs.Common.{[], ◌∷◌, length, map, refl, sym, ◌∙◌, subst}
use Rattle.std.specs.Prelude.{Result}
use Rattle.session_model.specs.Rebuild.error.RebuildErr.{RebuildErr}
use Rattle.session_model.specs.Rebuild.skips.Rebuilt.{Rebuilt}
use Rattle.session_model.specs.Transcript.line.Line.TheVariants as lines
use Rattle.session_model.specs.Steps.{skip_line}
use Rattle.script_lines.specs.Rebuilding.{SaysRebuild}
use Rattle.script_lines.proofs.Lines.{on_ok}
use Rattle.script_lines.proofs.rebuilding.put_rebuilt.Goals as goal

pub returns-in-Ok : goal.returns-in-Ok
returns-in-Ok c =
    let Is : Result Rebuilt RebuildErr → Type 0 = λ came. SaysRebuild c.args.user c.args.cloud.0 came c.args.text.now c.put_done.new.text in
    on_ok c.put_done.result _ _ (λ said. subst Is (sym c.in-Ok.is)
    (lines.Rebuilt c.args.user c.args.cloud c.in-Ok.rebuilt.files (length c.in-Ok.rebuilt.skipped) ∷ map skip_line c.in-Ok.rebuilt.skipped, refl, said)) c.put_done.ensures

pub returns-in-Some : goal.returns-in-Some
returns-in-Some c =
    let Is : Result Rebuilt RebuildErr → Type 0 = λ came. SaysRebuild c.args.user c.args.cloud.0 came c.args.text.now c.put_line.new.text in
    on_ok c.put_line.result _ _ (λ said. subst Is (sym c.in-Err.is)
    (lines.Refused c.in-Some.why ∷ [], (c.in-Some.why, sym c.as_stop.ensures ∙ c.in-Some.is, refl), said)) c.put_line.ensures.ok
