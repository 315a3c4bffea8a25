use Rattle.std.proofs.Common.{◌≡◌, ◌≤◌, ◌-◌, ℕ, List, take, drop, length, arith, ◌∙◌, ap, length-take, length-drop, length-append}
use Rattle.std.proofs.Math.ListN.{drop_of_length-le}
use Rattle.mem_disk.proofs.Copied.{consumed, copied_len}
use Rattle.cd_fakes.proofs.source.MemSourceSource.read.Goals as goal

pub returns-clause-bytes : goal.returns-clause-bytes
returns-clause-bytes c =
    let held = c.args.self.now.bytes.items in let place = c.args.self.now.place in let count = c.min-count.result in
    let new = c.copy_from_slice.new.self in let out = c.args.out.now in
    let same : c.deref.result.now ≡ held = c.deref.ensures.value in
    let much : length (take (length c.deref.result.now - place) (drop place c.deref.result.now)) ≡ length held - place =
    omega (arith, ap length same, length-take (length c.deref.result.now - place) (drop place c.deref.result.now), length-drop place c.deref.result.now) in
    let within : count ≤ length held - place = omega (arith, much) in
    let copied : new ≡ take count (take (length held - place) (drop place held)) =
    c.copy_from_slice.ensures.after ∙ ap (λ (l : List ℕ). take count (take (length l - place) (drop place l))) same in (
      consumed held out new place count within copied,
      λ none some. drop_of_length-le held (omega (arith, much, none, some, copied_len held out new place count within copied, length-append new (drop count out), length-drop count out)),
    )
