use Rattle.std.proofs.Common.{◌≡◌, ◌∙◌, ◌+◌, ◌≤◌, ◌<◌, true, false, ℕ, List, length, ap, sym, arith}
use Rattle.std.specs.Prelude.{nat_le}
use Rattle.std.proofs.lemmas.Bool.Decides.{nat_tests}
use Rattle.mem_disk.specs.Areas.{joined}
use Rattle.mem_disk.proofs.Joined.{put_first, put_second}
use Rattle.mem_disk.proofs.area.MemArea.put.Goals as goal

pub returns-then-is_first-clause-held : goal.returns-then-is_first-clause-held
returns-then-is_first-clause-held c =
    let old = c.args.self.now in let at = c.args.at in let bytes = c.args.bytes.now in
    let first : nat_le (at + length bytes) old.second ≡ true = sym c.is_first.ensures ∙ c.if-is_first.true in
    let within : at + length bytes ≤ old.second = grind (arith, nat_tests, first) in
    ap (λ (l : List ℕ). joined l old.second old.high.items) c.put_over.ensures.items
    ∙ put_first old.bytes.items old.second (omega (arith, old.apart, old.bytes.ok.0)) at bytes within old.high.items

pub returns-else-is_first-clause-held : goal.returns-else-is_first-clause-held
returns-else-is_first-clause-held c =
    let old = c.args.self.now in let at = c.args.at in let bytes = c.args.bytes.now in
    let behind : nat_le (at + length bytes) old.second ≡ false = sym c.is_first.ensures ∙ c.if-is_first.false in
    let some : old.second < at + length bytes = grind (arith, nat_tests, behind) in
    let from : old.second ≤ at = grind (arith, nat_tests, behind, c.requires.0) in
    ap (λ (l : List ℕ). joined old.bytes.items old.second l) c.put_over-else-is_first.ensures.items
    ∙ put_second old.bytes.items old.second (omega (arith, old.apart, old.bytes.ok.0)) at bytes from some old.high.items
