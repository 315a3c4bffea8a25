use Rattle.std.proofs.Common.{Bool, take, refl, sym, ap, ◌∙◌}
use Rattle.std.specs.Prelude.{◌||◌, is_some}
use Rattle.std.specs.FinMap.{get}
use Rattle.cloud_memory.specs.ShareIndex.Order.{owner_of}
use Rattle.cloud_memory.specs.Rooms.{memory_of}
use Rattle.record_checks.specs.Steps.{names_fp}
use Rattle.record_checks.proofs.Faults.{not_so, none_there}
use Rattle.record_checks.proofs.Overlaying.{owned_in, laid_in}
use Rattle.record_checks.proofs.items.is_own.Goals as goal

pub returns-then-owns-clause-own : goal.returns-then-owns-clause-own
returns-then-owns-clause-own c =
    let named = names_fp c.args.items.now.items c.args.count c.args.fp.now in
    let is = owned_in c.args.user c.args.fp.now (memory_of c.args.memory.now) (take c.args.count c.args.items.now.items) in
    (λ t. is ∙ ap (λ (b : Bool). b || named) (c.owns.ensures.kept.0 c.if-owns.true), λ own. refl)

pub returns-clause-own : goal.returns-clause-own
returns-clause-own c =
    let named = names_fp c.args.items.now.items c.args.count c.args.fp.now in
    let is = owned_in c.args.user c.args.fp.now (memory_of c.args.memory.now) (take c.args.count c.args.items.now.items) in
    let none = ap is_some (none_there (get c.args.memory.now.shares.owners (owner_of c.args.user.0 c.args.fp.now.0)) (not_so c.owns.result c.owns.ensures.kept c.if-owns.false)) in
    let all = is ∙ ap (λ (b : Bool). b || named) none in
    (λ t. all ∙ sym c.is_named.ensures ∙ t, λ own. c.is_named.ensures ∙ sym all ∙ own)

pub returns-clause-places : goal.returns-clause-places
returns-clause-places c = λ unnamed.
    laid_in c.args.user c.args.fp.now (memory_of c.args.memory.now) (take c.args.count c.args.items.now.items) (sym c.is_named.ensures ∙ unnamed)
