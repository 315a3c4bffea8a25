use Rattle.std.proofs.Common.{◌<◌, ◌-◌, length, refl, sym, ap, ◌∙◌, arith}
use Rattle.std.specs.Prelude.{is_some}
use Rattle.checkpoints.proofs.Chaining.{others_between}
use Rattle.checkpoints.proofs.puts.start_of.Goals as goal

pub returns-in-Some-clause-others : goal.returns-in-Some-clause-others
returns-in-Some-clause-others c slot le l =
    let has : c.args.user < length c.args.chains.now.firsts.items = c.if-not-has.ensures.0 refl in
    let some = c.if-from-eq0.false in let far = c.max.ensures in let next = c.next.ensures in
    others_between c.args.shares.now.owner_slots c.args.chains.now.firsts.items c.args.chains.now.nexts.items c.requires.chained
    c.args.user (c.args.from - 1) has (ap is_some (sym c.owned_at.ensures ∙ c.in-Some.is)) slot (omega (arith, le, some)) (omega (arith, l, le, far, next))
