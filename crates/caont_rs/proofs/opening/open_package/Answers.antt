use Rattle.std.proofs.Common.{arith, ◌∙◌}
use Rattle.caont_rs.proofs.Openings.{opens}
use Rattle.caont_rs.proofs.opening.open_package.Goals as goal

pub returns : goal.returns
returns c = opens c.args.secret_len c.args.sealed.now c.split_at_mut-text.result.0.now c.split_at_mut-text.result.1.now c.copy_from_slice.new.self c.open_text.new.text c.open_text.result
    (omega arith) c.split_at_mut-text.ensures.front (c.copy_from_slice.ensures.after ∙ c.split_at_mut-text.ensures.back) (omega arith) c.open_text.ensures
