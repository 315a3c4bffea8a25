use Rattle.std.proofs.Common.{◌≡◌, ◌∙◌, ◌+◌, ◌-◌, ◌∷◌, [], rules}
use Rattle.mem_disk.specs.Crashed.{filled_from}
use Rattle.mem_disk.proofs.Filled.{filled_shifted}
use Rattle.mem_disk.proofs.area.fill_behind.Goals as goal

pub returns : goal.returns
returns c =
    let held = c.args.held.now in let second = c.args.second in let at = c.args.at in let len = c.args.len in
    let fills : c.fill_from.new.held ≡ filled_from 0 c.args.fill ((at - second, at - second + (len - (second - at))) ∷ []) held = search rules in
    fills ∙ filled_shifted second at len c.args.fill held
