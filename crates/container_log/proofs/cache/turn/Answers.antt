use Rattle.std.proofs.Common.{◌≡◌, ◌-◌, true, Some, length, sym, ap, ◌∙◌, arith, rules}
use Rattle.std.specs.Prelude.{slice_get, option_map}
use Rattle.container_log.specs.Caches.{is_left}
use Rattle.container_log.proofs.Turning.{Seen, turned_true, turned_none}
use Rattle.container_log.proofs.cache.turn.Goals as goal

pub returns-in-Some-default-true-clause-entries : goal.returns-in-Some-default-true-clause-entries
returns-in-Some-default-true-clause-entries c =
    let es = c.args.kept.now.entries in let p = is_left c.args.first c.args.last in
    let is : option_map (Seen p) (slice_get es (length es - 1)) ≡ Some (c.in-Some-default-true.number, true) = search rules in
    ap (λ k. k.entries) c.promote.ensures.entries ∙ turned_true p es c.in-Some-default-true.number is c.len.ensures.valid.0

pub returns-in-None-clause-entries : goal.returns-in-None-clause-entries
returns-in-None-clause-entries c =
    let es = c.args.kept.now.entries in
    turned_none (is_left c.args.first c.args.last) es (omega (arith, c.len.ensures.len, c.if-len-eq0.false)) (sym c.oldest.ensures ∙ c.in-None.is)
