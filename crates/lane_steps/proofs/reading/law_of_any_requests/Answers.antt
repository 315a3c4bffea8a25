use Rattle.lane_steps.proofs.Alone.{any_sent}
use Rattle.lane_steps.proofs.reading.law_of_any_requests.Goals as goal

pub returns : goal.returns
returns c shape lanes i request way e = let sent = any_sent shape lanes i request way e in (sent.read, sent.some, sent.framed, sent.fits)
