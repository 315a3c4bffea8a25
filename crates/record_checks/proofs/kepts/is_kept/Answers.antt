use Rattle.std.proofs.Common.{◌≡◌, ◌∙◌, sym, false}
use Rattle.std.specs.Prelude.{bytes_eq}
use Rattle.cloud_memory.specs.RecordBody.body.KeptItem.{KeptItem}
use Rattle.record_checks.proofs.Naming.{later}
use Rattle.record_checks.proofs.kepts.is_kept.Goals as goal

pub loop-i-preserved : goal.loop-i-preserved
loop-i-preserved c =
    let other : bytes_eq c.in-Some.found.item.fp.0 c.args.fp.now.0 ≡ false = sym c.eq.ensures ∙ c.if-eq.false in
    later (λ (item : KeptItem). bytes_eq item.fp.0 c.args.fp.now.0) c.args.items.now.items c.loop-i.walk.items c.next.new.self.items c.in-Some.found.item c.args.count c.loop-i._i c.loop-i-test.true
    c.loop-i.invariant c.in-Some.ensures.items other
