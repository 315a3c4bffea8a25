use Rattle.std.proofs.Common.{◌++◌, [], ◌∷◌, sym, ap, ◌∙◌}
use Rattle.std.specs.Option.{option_copied}
use Rattle.session_model.specs.Session.Texts.{text_of}
use Rattle.session_model.specs.Transcript.line.Line.{Line}
use Rattle.script_lines.proofs.Skipping.{skips_on}
use Rattle.script_lines.proofs.rebuilding.put_skips.Goals as goal

pub loop-place-preserved : goal.loop-place-preserved
loop-place-preserved c =
    skips_on c.args.text.now c.loop-place.text c.put_line.new.text c.args.skips.now c.loop-place.place c.in-Some.skip.now
    (sym c.get.ensures ∙ ap option_copied c.in-Some.is) c.loop-place.invariant
    (c.in-Ok.ensures.ok ∙ ap (λ (line : Line). c.loop-place.text ++ text_of (line ∷ [])) c.as_skipped.ensures)
