use Rattle.std.proofs.Common.{◌+◌, refl, subst, sym, arith, List}
use Rattle.share_server.specs.declared.server.Server.{Server}
use Rattle.local_link.proofs.Placing.{Made, none_made, one_made}
use Rattle.local_link.proofs.servers.Servers.make.Goals as goal

pub loop-number-init : goal.loop-number-init
loop-number-init c = none_made c.args.shape c.args.rooms c.new-list.result.items c.new-list.ensures.items

pub loop-number-preserved : goal.loop-number-preserved
loop-number-preserved c =
    subst (λ (l : List Server). Made c.args.shape c.args.rooms l (c.loop-number.number + 1)) (sym c.in_ok-push.ensures.items)
    (one_made c.args.shape c.args.rooms c.loop-number.list.items c.loop-number.number (record { 0 = c.loop-number.number }) c.in_ok-make.field-0 c.loop-number.invariant refl c.in_ok-make.ensures.of c.in_ok-make.ensures.closed)

pub invariant_of-result : goal.invariant_of-result
invariant_of-result c = record {
  are_servers = record {
    count = let n = c.loop-number.invariant.long in let a = c.loop-number.auto.number-end in let b = c.loop-number-test.false in omega arith;
    each = λ number server e. (c.loop-number.invariant.each number server e).0;
  };
}
