use Rattle.std.proofs.Common.{refl, ◌≡◌, ℕ, ◌+◌, ◌-◌, List, ◌++◌, length, take, drop, min, arith, subst, sym, ◌∙◌, ap}
use Rattle.frames.specs.Frames.{IsLength, length_in}
use Rattle.frames.specs.Steps.{RefusesLength}
use Rattle.frames.proofs.FrameLaws.{rest_is}
use Rattle.frames.proofs.PushLaws.{refuses, finishes, Finishes}
use Rattle.frames.proofs.framer.Framer.push.Goals as goal

pub returns-then-not-is_length-clause-err : goal.returns-then-not-is_length-clause-err
returns-then-not-is_length-clause-err c =
    let old = c.self.inside.standing.items in
    let new = c.fill-head.new.standing.items in
    let found : c.length_at-found.result ≡ length_in new = c.length_at-found.ensures ∙ ap length_in c.as_slice.ensures.value in
    let wrong : IsLength (length_in new) → ⊥ = λ lawful. let k = c.if-not-is_length.ensures.1 (subst IsLength (sym found) lawful) in cc in
    let step = refuses old c.args.piece.now c.fill-head.result new c.fill-head.ensures.count c.fill-head.ensures.items (omega (arith, ap length c.as_slice.ensures.value)) wrong in
    rw (← c.self.view_is) (subst (λ (n : ℕ). RefusesLength old c.args.piece.now n new) (sym found) step)

-- what stands at the end
finished : (c : goal.After-fill-body) → Finishes c.self.inside.standing.items c.args.piece.now (c.fill-head.result + c.fill-body.result) c.fill-body.new.standing.items
finished c =
    let piece = c.args.piece.now in
    let mid = c.fill-head.new.standing.items in
    let head = c.fill-head.result in
    let found : c.length_at-found.result ≡ length_in mid = c.length_at-found.ensures ∙ ap length_in c.as_slice.ensures.value in
    let rest = rest_is head piece in
    let lawful : IsLength (length_in mid) = subst IsLength found (c.if-not-is_length.ensures.0 refl) in
    let count = c.fill-body.ensures.count
    ∙ ap (λ (n : ℕ). min (4 + n - length mid) (length (take (length piece - head) (drop head piece)))) found
    ∙ ap (λ (l : List ℕ). min (4 + length_in mid - length mid) (length l)) rest in
    finishes c.self.inside.standing.items piece head mid c.fill-body.result c.fill-body.new.standing.items c.self.invariant.0 c.fill-head.ensures.count c.fill-head.ensures.items
    (omega (arith, ap length c.as_slice.ensures.value)) lawful count (c.fill-body.ensures.items ∙ ap (λ (l : List ℕ). mid ++ take c.fill-body.result l) rest) c.fill-body.ensures.bytes

pub invariant_of-self-2 : goal.invariant_of-self-2
invariant_of-self-2 c = ((finished c).stands, omega (arith, c.self.invariant.1))

pub returns-clause-ok : goal.returns-clause-ok
returns-clause-ok c = rw (← c.self.view_is) (finished c).takes
