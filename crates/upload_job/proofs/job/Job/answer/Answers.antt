use Rattle.std.proofs.Common.{refl, sym, ◌∙◌, arith}
use Rattle.std.proofs.lemmas.List.{length-map}
use Rattle.upload_job.specs.Index.{share_in, shares_in, work_in}
use Rattle.upload_job.proofs.Laning.{below_seen, asked_below, answered, are_moved, others_stay}
use Rattle.upload_job.proofs.job.Job.answer.Goals as goal

pub index-requires : goal.index-requires
index-requires c =
    let below = below_seen c.self.inside.key c.self.inside.lanes.items c.args.self.now c.args.lane.0 c.self.view_is (asked_below c.args.self.now c.args.lane.0 c.requires) in
    omega arith

pub index_mut-requires : goal.index_mut-requires
index_mut-requires c =
    let below = below_seen c.self.inside.key c.self.inside.lanes.items c.args.self.now c.args.lane.0 c.self.view_is (asked_below c.args.self.now c.args.lane.0 c.requires) in
    omega arith

pub invariant_of-self : goal.invariant_of-self
invariant_of-self c =
    let below = below_seen c.self.inside.key c.self.inside.lanes.items c.args.self.now c.args.lane.0 c.self.view_is (asked_below c.args.self.now c.args.lane.0 c.requires) in
    are_moved c.self.inside.key c.self.inside.lanes.items c.args.self.now c.args.lane.0 c.index_mut.result.now c.move_lane.new.lane c.turn_of-result.result.next c.self.view_is c.requires
    c.self.invariant below c.index_mut.ensures.value c.move_lane.ensures

pub returns-clause-answers : goal.returns-clause-answers
returns-clause-answers c =
    let below = below_seen c.self.inside.key c.self.inside.lanes.items c.args.self.now c.args.lane.0 c.self.view_is (asked_below c.args.self.now c.args.lane.0 c.requires) in
    let lane = c.index.result.now in
    let len = length-map lane.wanted.items (share_in lane.recalled.bytes) ∙ sym lane.wanted.ok.0 in
    answered c.self.inside.key c.self.inside.lanes.items c.args.self.now c.args.lane.0 lane c.index_mut.result.now c.move_lane.new.lane c.turn_of-result.result.next c.args.reply.now c.turn_of-result.result.result
    c.self.view_is below c.index.ensures c.index_mut.ensures.value c.move_lane.ensures
    (c.turn_of-result.ensures.turns (work_in c.self.inside.key lane) (shares_in lane.recalled.bytes lane.wanted.items) len refl refl)

pub returns-clause-others : goal.returns-clause-others
returns-clause-others c = λ j ne. others_stay c.args.self.now _ c.args.lane.0 c.args.reply.now c.turn_of-result.result.result (returns-clause-answers c) j ne
