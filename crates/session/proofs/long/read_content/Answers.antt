use Rattle.std.proofs.Common.{ℕ, List, ◌≡◌, ◌++◌, Some, refl, ap, ◌∙◌, arith}
use Rattle.journal_start.specs.Grammar.Hexadecimal.{unhex}
use Rattle.session.proofs.Fronts.{content_read}
use Rattle.session.proofs.long.read_content.Goals as goal

pub returns-in-Ok : goal.returns-in-Ok
returns-in-Ok c =
    let fits = c.if-not-is_content.ensures refl in
    let tail : Some c.in-Ok-Some.more ≡ unhex c.args.tail.now = cc (c.in-Ok-Some.ensures, c.in-Ok-Some.field-0-is) in
    content_read c.args.shape c.args.jobs c.args.head.now c.args.packed c.args.tail.now c.in-Ok-Some.more c.args.name.user c.args.name.path c.args.name.version c.extend.new.self (omega arith)
    c.requires.named c.requires.bytes tail (c.in-Ok.ensures.ok ∙ ap (λ (x : List ℕ). c.args.packed ++ x) c.as_slice-in-Ok-Some.ensures)
    (omega (arith, fits.0, c.len.ensures, c.len-in-Ok-Some.ensures), omega (arith, fits.1, c.len.ensures, c.len-in-Ok-Some.ensures))
