use Rattle.std.proofs.Common.{ltb-true, sym}
use Rattle.cd_base.proofs.Rising.{can_push_as_read}
use Rattle.cd_base.proofs.clouds.Clouds.can_push.Goals as goal

pub returns-in-Some : goal.returns-in-Some
returns-in-Some c =
    can_push_as_read c.deref.result.now c.self.inside.items.items c.args.self.now c.in-Some.last.now c.args.value.0
    c.deref.ensures.value c.self.view_is c.in-Some.ensures.value (ltb-true _ _ (sym c.in-Some.ensures.item.0)) c.self.invariant
