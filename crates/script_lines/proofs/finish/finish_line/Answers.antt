use Rattle.script_lines.proofs.Lines.{on_ok, on_err}
use Rattle.script_lines.proofs.Bringing.{part_done, finish_goes, finish_cut}
use Rattle.std.specs.List.{range_with_len}
use Rattle.script_lines.proofs.Reaching.{all_done_is}
use Rattle.script_lines.proofs.finish.finish_line.Goals as goal

pub returns-in-Err-clause-cut : goal.returns-in-Err-clause-cut
returns-in-Err-clause-cut g c s v is =
    let part = c.in-Err.ensures.cut s v is in
    finish_cut g.V.Shelf.cloud_at s c.args.job c.args.link.now c.finish_lanes.new.link v part (c.law_of_parts.ensures.finish s c.args.job v part.moments part.last part.cut)

pub returns-clause-does : goal.returns-clause-does
returns-clause-does g c = on_ok c.put_line.result _ _ (λ said s v is.
    finish_goes g.V.Shelf.cloud_at s c.args.job c.args.link.now c.finish_lanes.new.link c.finish_lanes.new.jobs v c.args.text.now c.finish_lanes.new.text c.put_line.new.text c.is_stored-stored.result (c.in-Ok.ensures.does s v is) (all_done_is _ _ c.is_stored-stored.ensures) said) c.put_line.ensures.ok

pub returns-clause-cut : goal.returns-clause-cut
returns-clause-cut g c = on_err c.put_line.result _ (λ s v is.
    let part = part_done g.V.Shelf.cloud_at s c.args.job (range_with_len 0 s.shape.n) c.args.link.now c.finish_lanes.new.link c.finish_lanes.new.jobs v c.args.text.now c.finish_lanes.new.text (c.in-Ok.ensures.does s v is) in
    finish_cut g.V.Shelf.cloud_at s c.args.job c.args.link.now c.finish_lanes.new.link v part (c.law_of_parts.ensures.finish s c.args.job v part.moments part.last part.cut))
