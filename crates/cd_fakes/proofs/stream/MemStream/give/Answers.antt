use Rattle.std.proofs.Common.{◌≡◌, ◌≤◌, ◌-◌, ℕ, List, take, drop, length, arith, ◌∙◌, ap, length-take, length-drop}
use Rattle.cd_fakes.proofs.Copied.{consumed}
use Rattle.cd_fakes.proofs.stream.MemStream.give.Goals as goal

pub returns-clause-came : goal.returns-clause-came
returns-clause-came c =
    let held = c.args.self.now.bytes.items in let place = c.args.self.now.place in let count = c.min-count.result in
    let new = c.copy_from_slice.new.self in let out = c.args.out.now in
    let same : c.deref.result.now ≡ held = c.deref.ensures.value in
    let much : length (take (length c.deref.result.now - place) (drop place c.deref.result.now)) ≡ length held - place =
    omega (arith, ap length same, length-take (length c.deref.result.now - place) (drop place c.deref.result.now), length-drop place c.deref.result.now) in
    let within : count ≤ length held - place = omega (arith, much) in
    let copied : new ≡ take count (take (length held - place) (drop place held)) =
    c.copy_from_slice.ensures.after ∙ ap (λ (l : List ℕ). take count (take (length l - place) (drop place l))) same in
    consumed held out new place count within copied
