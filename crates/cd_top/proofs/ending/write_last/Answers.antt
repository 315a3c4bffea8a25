use Rattle.std.proofs.Common.{List, ℕ, ◌++◌, ap, ◌∙◌}
use Rattle.two_worlds.specs.Transcript.Endings.{ending_text as text_of_ending}
use Rattle.cd_top.proofs.Texts.{front_at}
use Rattle.cd_top.proofs.ending.write_last.Goals as goal

pub returns : goal.returns
returns g c =
    let read = c.as_slice.ensures ∙ c.in-Ok.ensures.ok ∙ ap (λ (l : List ℕ). l ++ text_of_ending c.args.last.now) c.new-text.ensures in
    (front_at _ _ _ _ _ read c.in-Err-write_all.ensures.prefix.1, c.in-Err-write_all.ensures.cause.failed)
