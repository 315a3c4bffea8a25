use Rattle.std.proofs.Common.{◌≡◌, ◌++◌, ◌∷◌, [], ℕ, List, length, sym, ap, subst, refl, rules}
use Rattle.std.specs.List.Sorted.{IsStrictlyIncreasing}
use Rattle.transcript.specs.CdBase.Numbers.{numbers_of}
use Rattle.subset_restore.proofs.Choices.{rising_front}
use Rattle.subset_restore.proofs.Walking.{with_next}
use Rattle.subset_restore.proofs.trying.+push_all.Goals as goal

pub push-requires : goal.push-requires
push-requires t c =
    let more = numbers_of c.in-Some.more.now in
    let one = c.args.named.now ++ c.in-Some.cloud.0 ∷ [] in
    rising_front one more (subst IsStrictlyIncreasing (with_next c.args.named.now more (numbers_of c.args.clouds.now) one c.in-Some.cloud.0 (ap numbers_of c.in-Some.ensures) refl) c.requires)

pub push_all-requires : goal.push_all-requires
push_all-requires t c =
    let more = numbers_of c.in-Some.more.now in
    let one = c.args.named.now ++ c.in-Some.cloud.0 ∷ [] in
    let shorter : length c.args.clouds.now ≡ length (c.in-Some.cloud ∷ c.in-Some.more.now) = ap length c.in-Some.ensures in
    let rises : IsStrictlyIncreasing (c.push.new.self ++ more) = subst (λ (l : List ℕ). IsStrictlyIncreasing (l ++ more)) (sym c.in-Ok.ensures.ok)
    (subst IsStrictlyIncreasing (with_next c.args.named.now more (numbers_of c.args.clouds.now) one c.in-Some.cloud.0 (ap numbers_of c.in-Some.ensures) refl) c.requires) in
    search rules
