use Rattle.std.proofs.Common.{sym}
use Rattle.message_fields.proofs.FpLaws.{length-fps_in}
use Rattle.message_fields.proofs.fps.FpsView.len.Goals as goal

pub returns : goal.returns
returns c = rw (← c.self.view_is) (sym (length-fps_in c.self.inside.count c.self.inside.bytes.now))
