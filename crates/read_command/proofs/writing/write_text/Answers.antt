use Rattle.read_command.proofs.Written.{front_of}
use Rattle.read_command.proofs.writing.write_text.Goals as goal

pub returns-in-Err : goal.returns-in-Err
returns-in-Err g c = (
  front_of c.args.bytes.now c.in-Err.field-0.sent (g.K.Sink.written c.args.sink.now) (g.K.Sink.written c.write_all.new.sink) c.in-Err.ensures.prefix.1,
  c.in-Err.ensures.cause.failed,
)
