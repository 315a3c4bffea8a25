use Rattle.std.proofs.Common.{Bool, take, refl, sym, ap, ◌∙◌}
use Rattle.std.specs.Prelude.{◌||◌, is_some}
use Rattle.cloud_memory.specs.Rooms.{memory_of}
use Rattle.record_checks.specs.Steps.{keeps_fp}
use Rattle.record_checks.proofs.Overlaying.{kept_in}
use Rattle.record_checks.proofs.kepts.is_placed.Goals as goal

pub returns-then-is_some : goal.returns-then-is_some
returns-then-is_some c =
    let named = keeps_fp c.args.items.now.items c.args.count c.args.fp.now in
    let is = kept_in c.args.fp.now (memory_of c.args.memory.now) (take c.args.count c.args.items.now.items) in
    (λ t. is ∙ ap (λ (b : Bool). b || named) (ap is_some (sym c.place_of.ensures.kept) ∙ sym c.is_some.ensures ∙ c.if-is_some.true), λ own. refl)

pub returns : goal.returns
returns c =
    let named = keeps_fp c.args.items.now.items c.args.count c.args.fp.now in
    let is = kept_in c.args.fp.now (memory_of c.args.memory.now) (take c.args.count c.args.items.now.items) in
    let all = is ∙ ap (λ (b : Bool). b || named) (ap is_some (sym c.place_of.ensures.kept) ∙ sym c.is_some.ensures ∙ c.if-is_some.false) in
    (λ t. all ∙ sym c.is_kept.ensures ∙ t, λ own. c.is_kept.ensures ∙ sym all ∙ own)
