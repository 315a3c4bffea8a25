use Rattle.certificate.proofs.Turns.{first_wrong, heading_read, rest_wrong}
use Rattle.certificate.proofs.reading.read_lines.Goals as goal

pub returns-in-Err-clause-wrong : goal.returns-in-Err-clause-wrong
returns-in-Err-clause-wrong c = first_wrong c.args.bytes.now c.in-Err.wrong c.in-Err.ensures.wrong

pub returns-in-Ok-read_rest-clause-reads : goal.returns-in-Ok-read_rest-clause-reads
returns-in-Ok-read_rest-clause-reads c =
    heading_read c.args.bytes.now c.in-Ok.read.1.now c.in-Ok.read.0 c.heading_in.result c.in-Ok.ensures.reads
    c.heading_in.ensures c.in-Ok.ensures.shorter c.in-Ok-read_rest.ensures.reads

pub returns-in-Err-read_rest-clause-wrong : goal.returns-in-Err-read_rest-clause-wrong
returns-in-Err-read_rest-clause-wrong c =
    rest_wrong c.args.bytes.now c.in-Ok.read.1.now c.in-Ok.read.0 c.in-Err-read_rest.wrong c.in-Ok.ensures.reads
    c.in-Ok.ensures.stands c.in-Ok.ensures.shorter c.in-Err-read_rest.ensures.wrong
