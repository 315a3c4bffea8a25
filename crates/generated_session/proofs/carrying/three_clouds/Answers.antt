use Rattle.std.proofs.Common.{ℕ, List, [], ◌∷◌, ◌++◌, ap, ◌∙◌, sym, subst}
use Rattle.std.specs.List.Sorted.{IsStrictlyIncreasing}
use Rattle.generated_session.proofs.Clouds.{rise_one, rise_two, rise_three}
use Rattle.generated_session.proofs.carrying.three_clouds.Goals as goal

pub push-requires : goal.push-requires
push-requires c = subst (λ (l : List ℕ). IsStrictlyIncreasing (l ++ c.args.first ∷ [])) (sym c.new-clouds.ensures) (rise_one c.args.first)

pub push-requires-2 : goal.push-requires-2
push-requires-2 c =
    subst (λ (l : List ℕ). IsStrictlyIncreasing (l ++ c.args.second ∷ [])) (sym (c.in_ok-push.ensures.ok ∙ ap (λ (l : List ℕ). l ++ c.args.first ∷ []) c.new-clouds.ensures)) (rise_two c.args.first c.args.second c.requires.0)

pub push-requires-3 : goal.push-requires-3
push-requires-3 c =
    subst (λ (l : List ℕ). IsStrictlyIncreasing (l ++ c.args.third ∷ [])) (sym (c.in_ok-push-2.ensures.ok ∙ ap (λ (l : List ℕ). l ++ c.args.second ∷ []) (c.in_ok-push.ensures.ok ∙ ap (λ (l : List ℕ). l ++ c.args.first ∷ []) c.new-clouds.ensures)))
    (rise_three c.args.first c.args.second c.args.third c.requires.0 c.requires.1)
