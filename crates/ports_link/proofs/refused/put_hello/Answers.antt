use Rattle.ports_link.proofs.Texts.{hello_line}
use Rattle.ports_link.proofs.refused.put_hello.Goals as goal

pub returns-clause-ok : goal.returns-clause-ok
returns-clause-ok c =
    rw (hello_line c.args.out.now c.extend.new.self c.put_number.new.out c.put_number-2.new.out c.put_number-3.new.out
    c.put_number-4.new.out
    c.args.position c.args.n c.args.k c.args.cloud c.in_ok-extend.ensures.ok c.in_ok-put_number.ensures.ok
    c.in_ok-put_number-2.ensures.ok
    c.in_ok-put_number-3.ensures.ok c.in_ok-put_number-4.ensures.ok) c.push.ensures.ok
