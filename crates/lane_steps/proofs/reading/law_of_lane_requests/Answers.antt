use Rattle.lane_steps.proofs.Reaching.{is_sent}
use Rattle.lane_steps.proofs.reading.law_of_lane_requests.Goals as goal

pub returns : goal.returns
returns c = record {
  read = λ shape lanes i request reached e. (is_sent shape lanes i request reached e).read;
  some = λ shape lanes i request reached e. (is_sent shape lanes i request reached e).some;
  framed = λ shape lanes i request reached e. (is_sent shape lanes i request reached e).framed;
  fits = λ shape lanes i request reached e. (is_sent shape lanes i request reached e).fits;
}
