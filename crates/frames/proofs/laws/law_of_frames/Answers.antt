use Rattle.frames.proofs.FrameLaws.{one_frame}
use Rattle.frames.proofs.laws.law_of_frames.Goals as goal

pub returns : goal.returns
returns c = one_frame
