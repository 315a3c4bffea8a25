use Rattle.std.proofs.Common.{◌≡◌, ℕ, List, [], rules, refl, ◌∙◌, ap}
use Rattle.std.specs.Prelude.{slice_set}
use Rattle.std.proofs.lemmas.Bool.{and_parts, ltb-true}
use Rattle.restore_command.specs.Recalling.{kept_of}
use Rattle.restore_command.proofs.Recalled.{first_came}
use Rattle.restore_command.proofs.recalling.RecallingLinkLink.ask.Goals as goal

pub returns-in-Ok-clause-passes : goal.returns-in-Ok-clause-passes
returns-in-Ok-clause-passes g c =
    let old = c.args.self.now in
    let cloud = c.args.cloud.0 in
    let same : c.args.request.now ≡ old.wanted = search rules in
    let none : kept_of old.kept cloud ≡ [] = search rules in
    let both = and_parts _ _ c.requires.reached in
    first_came g.P.Ports.tells g.P.Ports.faults old
    (record { link = c.ask-2.new.self; wanted = old.wanted; kept = c.keep.new.self }) cloud c.args.request.now refl
    (c.requires.some, c.requires.framed) both.0 c.ask-2.new.reply same none (ltb-true _ _ both.1)
    (c.keep.ensures ∙ ap (λ (l : List ℕ). slice_set old.kept cloud l) c.content.ensures.value) c.in-Ok.ensures.passes
