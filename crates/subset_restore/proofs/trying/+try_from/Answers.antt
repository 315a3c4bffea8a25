use Rattle.std.proofs.Common.{◌≡◌, ◌<◌, ◌≤◌, ◌+◌, ◌-◌, ◌++◌, ◌∷◌, ℕ, Bool, List, length, sym, ap, subst, rules, ◌∙◌, arith}
use Rattle.std.specs.Prelude.{All, IsTrue}
use Rattle.std.specs.List.{Contains}
use Rattle.std.specs.List.Sorted.{IsStrictlyIncreasing}
use Rattle.std.proofs.lemmas.List.{length-map}
use Rattle.transcript.specs.CdBase.ids.CloudNo.{CloudNo}
use Rattle.transcript.specs.CdBase.Numbers.{numbers_of}
use Rattle.subset_restore.proofs.Choices.{rising_front, rising_without}
use Rattle.subset_restore.proofs.Walking.{all_front, all_without, part_of, with_next, long_with, walk_one, walk_none, walk_twice, walk_found, walk_lacked}
use Rattle.subset_restore.proofs.trying.+try_from.Goals as goal

pub try_one-requires-clause-rises : goal.try_one-requires-clause-rises
try_one-requires-clause-rises g t c = subst IsStrictlyIncreasing (sym c.as_slice.ensures) (rising_front c.args.choices.now.chosen.now (numbers_of c.args.choices.now.rest.now) c.requires.rises)

pub try_one-requires-clause-within : goal.try_one-requires-clause-within
try_one-requires-clause-within g t c =
    subst (All (λ cloud. cloud < c.args.wanted.now.shape.n)) (sym c.as_slice.ensures) (all_front (λ cloud. cloud < c.args.wanted.now.shape.n) c.args.choices.now.chosen.now (numbers_of c.args.choices.now.rest.now) c.requires.within)

pub returns-then-need-eq0-clause-goes : goal.returns-then-need-eq0-clause-goes
returns-then-need-eq0-clause-goes g t c =
    walk_one g.L.Link.tells g.L.Link.talk c.args.wanted.now.shape c.args.wanted.now.user c.args.wanted.now.path.now c.args.wanted.now.version c.args.link.now c.try_one.new.link c.args.out.now c.try_one.new.out c.args.choices.now.chosen.now (numbers_of c.args.choices.now.rest.now) (numbers_of c.as_slice.result.now) c.args.choices.now.need
    c.args.refusals.now c.try_one.new.refusals c.try_one.result c.as_slice.ensures (omega arith) c.try_one.ensures.goes

pub returns-then-rest-need-clause-goes : goal.returns-then-rest-need-clause-goes
returns-then-rest-need-clause-goes g t c =
    let long = length-map c.args.choices.now.rest.now (λ (cloud : CloudNo). cloud.0) in
    walk_none g.L.Link.tells g.L.Link.talk c.args.wanted.now.shape c.args.wanted.now.user c.args.wanted.now.path.now c.args.wanted.now.version c.args.link.now c.args.out.now c.args.choices.now.chosen.now (numbers_of c.args.choices.now.rest.now) c.args.choices.now.need c.args.refusals.now (omega (arith, long))

pub try_from-requires : goal.try_from-requires
try_from-requires g t c =
    let chosen = c.args.choices.now.chosen.now in
    let rest = numbers_of c.args.choices.now.rest.now in
    let more = numbers_of c.in-Some.more.now in
    let named = c.with-with.result in
    let some : 1 ≤ c.args.choices.now.need = omega arith in
    let e : chosen ++ rest ≡ named ++ more = with_next chosen more rest named c.in-Some.cloud.0 (ap numbers_of c.in-Some.ensures) c.with-with.ensures in
    let shorter : length c.args.choices.now.rest.now ≡ length (c.in-Some.cloud ∷ c.in-Some.more.now) = ap length c.in-Some.ensures in
    let reached : (cloud : ℕ) → Contains (named ++ more) cloud → IsTrue (g.L.Link.tells.reaches c.args.link.now cloud) =
    λ cloud has. c.requires.reached cloud (subst (λ (l : List ℕ). Contains l cloud) (sym e) has) in
    let count : length named + (c.args.choices.now.need - 1) ≡ c.args.wanted.now.shape.k = long_with chosen named c.in-Some.cloud.0 c.args.choices.now.need c.args.wanted.now.shape.k c.with-with.ensures c.requires.count some in
    let rises : IsStrictlyIncreasing (named ++ more) = subst IsStrictlyIncreasing e c.requires.rises in
    let within : All (λ cloud. cloud < c.args.wanted.now.shape.n) (named ++ more) = subst (All (λ cloud. cloud < c.args.wanted.now.shape.n)) e c.requires.within in
    search rules

pub try_from-requires-in-Refused : goal.try_from-requires-in-Refused
try_from-requires-in-Refused g t c =
    let chosen = c.args.choices.now.chosen.now in
    let more = numbers_of c.in-Some.more.now in
    let shorter : length c.args.choices.now.rest.now ≡ length (c.in-Some.cloud ∷ c.in-Some.more.now) = ap length c.in-Some.ensures in
    let shape : g.L.Link.tells.shape c.try_from.new.link ≡ c.args.wanted.now.shape = c.try_from.ensures.keeps.shape ∙ c.requires.shape in
    let reached : (cloud : ℕ) → Contains (chosen ++ more) cloud → IsTrue (g.L.Link.tells.reaches c.try_from.new.link cloud) =
    λ cloud has. subst (λ (r : ℕ → Bool). IsTrue (r cloud)) (sym c.try_from.ensures.keeps.reaches)
    (c.requires.reached cloud (subst (λ (l : List ℕ). Contains (chosen ++ l) cloud) (sym (ap numbers_of c.in-Some.ensures)) (part_of chosen more c.in-Some.cloud.0 cloud has))) in
    let rises : IsStrictlyIncreasing (chosen ++ more) = rising_without chosen c.in-Some.cloud.0 more (subst (λ (l : List ℕ). IsStrictlyIncreasing (chosen ++ l)) (ap numbers_of c.in-Some.ensures) c.requires.rises) in
    let within : All (λ cloud. cloud < c.args.wanted.now.shape.n) (chosen ++ more) =
    all_without (λ cloud. cloud < c.args.wanted.now.shape.n) chosen more c.in-Some.cloud.0 (subst (λ (l : List ℕ). All (λ cloud. cloud < c.args.wanted.now.shape.n) (chosen ++ l)) (ap numbers_of c.in-Some.ensures) c.requires.within) in
    search rules

pub returns-in-Refused-clause-goes : goal.returns-in-Refused-clause-goes
returns-in-Refused-clause-goes g t c =
    let chosen = c.args.choices.now.chosen.now in
    let rest = numbers_of c.args.choices.now.rest.now in
    let more = numbers_of c.in-Some.more.now in
    let named = c.with-with.result in
    let some : 1 ≤ c.args.choices.now.need = omega arith in
    walk_twice g.L.Link.tells g.L.Link.talk c.args.wanted.now.shape c.args.wanted.now.user c.args.wanted.now.path.now c.args.wanted.now.version c.args.link.now c.try_from.new.link c.try_from-in-Refused.new.link c.args.out.now c.try_from.new.out c.try_from-in-Refused.new.out chosen more rest named c.in-Some.cloud.0 c.args.choices.now.need
    c.args.refusals.now c.try_from.new.refusals c.try_from-in-Refused.new.refusals c.try_from-in-Refused.result (ap numbers_of c.in-Some.ensures) c.with-with.ensures some c.in-Refused.ensures.goes c.try_from-in-Refused.ensures.goes

pub returns-in-Restored-clause-goes : goal.returns-in-Restored-clause-goes
returns-in-Restored-clause-goes g t c =
    let chosen = c.args.choices.now.chosen.now in
    let rest = numbers_of c.args.choices.now.rest.now in
    let more = numbers_of c.in-Some.more.now in
    let named = c.with-with.result in
    let some : 1 ≤ c.args.choices.now.need = omega arith in
    walk_found g.L.Link.tells g.L.Link.talk c.args.wanted.now.shape c.args.wanted.now.user c.args.wanted.now.path.now c.args.wanted.now.version c.args.link.now c.try_from.new.link c.args.out.now c.try_from.new.out chosen more rest named c.in-Some.cloud.0 c.args.choices.now.need
    c.args.refusals.now c.try_from.new.refusals (ap numbers_of c.in-Some.ensures) c.with-with.ensures some c.in-Restored.ensures.goes

pub returns-in-NoMemory-clause-goes : goal.returns-in-NoMemory-clause-goes
returns-in-NoMemory-clause-goes g t c =
    let chosen = c.args.choices.now.chosen.now in
    let rest = numbers_of c.args.choices.now.rest.now in
    let more = numbers_of c.in-Some.more.now in
    let named = c.with-with.result in
    let some : 1 ≤ c.args.choices.now.need = omega arith in
    walk_lacked g.L.Link.tells g.L.Link.talk c.args.wanted.now.shape c.args.wanted.now.user c.args.wanted.now.path.now c.args.wanted.now.version c.args.link.now c.try_from.new.link c.args.out.now c.try_from.new.out chosen more rest named c.in-Some.cloud.0 c.args.choices.now.need
    c.args.refusals.now c.try_from.new.refusals (ap numbers_of c.in-Some.ensures) c.with-with.ensures some c.in-NoMemory.ensures.goes
