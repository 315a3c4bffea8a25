use Rattle.std.proofs.Common.{◌≡◌, ◌∙◌, ◌+◌, ◌-◌, ℕ, List, rules, ap, arith}
use Rattle.std.specs.Prelude.{replicate}
use borrow.Rule.Slice.PartMut.{put_mid}
use Rattle.mem_disk.proofs.Filled.{filled_mid}
use Rattle.mem_disk.proofs.area.fill_from.Goals as goal

pub returns : goal.returns
returns c =
    let held = c.args.held.now in let from = c.min-from.result in let count = c.min-count.result in
    let fills : c.fill.new.self ≡ replicate count c.args.fill = search rules in
    ap (λ (l : List ℕ). put_mid from (from + count - from) held l) fills
    ∙ ap (λ (n : ℕ). put_mid from n held (replicate count c.args.fill)) (omega arith)
    ∙ filled_mid held c.args.at c.args.len c.args.fill from count c.min-from.ensures c.min-count.ensures
