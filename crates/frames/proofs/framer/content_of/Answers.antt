use Rattle.std.proofs.Common.{◌≡◌, ◌<◌, List, ℕ, length, drop, sym, subst, ◌∙◌, ap, arith}
use Rattle.std.proofs.lemmas.List.{length-drop}
use Rattle.frames.specs.Frames.{IsFrameOf, length_in}
use Rattle.frames.proofs.FrameLaws.{framed, rest_is}
use Rattle.frames.proofs.framer.content_of.Goals as goal

pub returns-then-content-length_at-clause-some : goal.returns-then-content-length_at-clause-some
returns-then-content-length_at-clause-some c =
    let bytes = c.args.standing.now in
    let rest = rest_is 4 bytes in
    let count : length (drop 4 bytes) ≡ length_in bytes = ap length (sym rest) ∙ c.if-content-length_at.true ∙ c.length_at.ensures in
    let more : 4 < length bytes = omega arith in
    let lawful = (c.requires more).0 in
    subst (λ (l : List ℕ). IsFrameOf l bytes) (sym rest) (framed bytes (λ i. let fits = c.type_inv.standing i in omega arith) (record { lawful = lawful; long = omega (arith, length-drop 4 bytes) }))
