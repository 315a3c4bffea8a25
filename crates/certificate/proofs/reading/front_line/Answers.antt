use Rattle.std.proofs.Common.{◌<◌, length, arith}
use Rattle.certificate.proofs.FieldLaws.{line_takes}
use Rattle.certificate.proofs.Turns.{no_newline, line_read, rest_shorter, line_wrong}
use Rattle.certificate.proofs.reading.front_line.Goals as goal

pub returns-then-end-bytes-clause-wrong : goal.returns-then-end-bytes-clause-wrong
returns-then-end-bytes-clause-wrong c = no_newline c.args.stage c.args.number c.len_to-end.result c.args.bytes.now c.requires c.len_to-end.ensures.value c.if-end-bytes.true

pub returns-in-Ok-clause-reads : goal.returns-in-Ok-clause-reads
returns-in-Ok-clause-reads c =
    let short : c.len_to-end.result < length c.args.bytes.now = omega (arith, c.len_to-end.ensures.within, c.if-end-bytes.false) in
    line_read c.args.stage c.args.number c.len_to-end.result c.args.bytes.now c.before-2.result.now c.after.result.now c.in-Ok.line c.requires
    c.len_to-end.ensures.value short c.before-2.ensures c.after.ensures c.in-Ok.ensures.value

pub returns-in-Ok-clause-stands : goal.returns-in-Ok-clause-stands
returns-in-Ok-clause-stands c = (line_takes c.args.stage c.before-2.result.now c.in-Ok.line c.in-Ok.ensures.value).may

pub returns-in-Ok-clause-shorter : goal.returns-in-Ok-clause-shorter
returns-in-Ok-clause-shorter c =
    rest_shorter c.args.bytes.now c.after.result.now c.len_to-end.result (omega (arith, c.len_to-end.ensures.within, c.if-end-bytes.false)) c.after.ensures

pub returns-in-Err-clause-wrong : goal.returns-in-Err-clause-wrong
returns-in-Err-clause-wrong c =
    let short : c.len_to-end.result < length c.args.bytes.now = omega (arith, c.len_to-end.ensures.within, c.if-end-bytes.false) in
    line_wrong c.args.stage c.args.number c.len_to-end.result c.args.bytes.now c.before-2.result.now c.in-Err.stop c.wrong_in.result c.requires
    c.len_to-end.ensures.value short c.before-2.ensures c.in-Err.ensures.value c.in-Err.ensures.memory c.wrong_in.ensures
