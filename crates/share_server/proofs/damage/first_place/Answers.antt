use Rattle.std.proofs.Common.{◌∙◌}
use Rattle.share_server.proofs.Headers.{differs_of}
use Rattle.share_server.proofs.damage.first_place.Goals as goal

pub returns : goal.returns
returns c is_found is_asked other =
    let d = c.first_difference in let ours = c.as_slice in let theirs = c.as_slice-2 in
    differs_of c.args.found c.args.asked ours.result.now theirs.result.now d.result.0 d.result.1 (ours.ensures.value ∙ c.bytes-ours.ensures) (theirs.ensures.value ∙ c.bytes-theirs.ensures) d.ensures
    is_found is_asked other
