use Rattle.std.specs.Prelude.{Err}
use Rattle.std.proofs.Common.{rules, ◌≡◌, ◌<◌, refl, ◌∙◌, arith}
use Rattle.replay_core.proofs.Clouds.{empty_stands, on_err, if_err, prepares_one, more_empty, ends_empty}
use Rattle.replay_core.proofs.opening.empty_clouds.Goals as goal

pub loop-number-init : goal.loop-number-init
loop-number-init g c = record { same = λ cloud. refl; empty = λ cloud lt. absurd (let l : cloud < 0 = lt in omega arith) }

pub loop-number-preserved : goal.loop-number-preserved
loop-number-preserved g c = record {
  same = λ cloud. c.in_ok-empty_cloud.ensures.same cloud ∙ c.loop-number.invariant.same cloud;
  empty = more_empty (g.V.Shelf.cloud_at c.args.shelf.now) (g.V.Shelf.cloud_at c.loop-number.shelf) c.loop-number.number c.loop-number.invariant.same
      c.loop-number.invariant.empty c.in_ok-empty_cloud.ensures.empty;
}

pub returns-in_err-empty_cloud-clause-prepares : goal.returns-in_err-empty_cloud-clause-prepares
returns-in_err-empty_cloud-clause-prepares g c =
    let residual : c.from_residual.result ≡ Err c.in_err-empty_cloud.field-0.0 = search rules in
    on_err c.from_residual.result c.in_err-empty_cloud.field-0.0 _ residual
    (λ headers. prepares_one (empty_stands c.law_of_no_commands.ensures.unbegun c.law_of_no_commands.ensures.stands) headers c.args.shape (g.V.Shelf.cloud_at c.args.shelf.now) (g.V.Shelf.cloud_at c.loop-number.shelf) (g.V.Shelf.cloud_at c.empty_cloud.new.shelf) c.loop-number.number
    c.loop-number.invariant.same c.empty_cloud.ensures.prepares (omega arith) c.empty_cloud.ensures.others)

pub returns-in_err-empty_cloud-clause-end : goal.returns-in_err-empty_cloud-clause-end
returns-in_err-empty_cloud-clause-end g c =
    let residual : c.from_residual.result ≡ Err c.in_err-empty_cloud.field-0.0 = search rules in
    if_err c.from_residual.result c.in_err-empty_cloud.field-0.0 _ residual
    (ends_empty c.args.shape (g.V.Shelf.cloud_at c.args.shelf.now) (g.V.Shelf.cloud_at c.loop-number.shelf) (g.V.Shelf.cloud_at c.empty_cloud.new.shelf) c.loop-number.number
    (omega arith) c.loop-number.invariant.same c.empty_cloud.ensures.others c.loop-number.invariant.empty c.in_err-empty_cloud.field-0.0 c.in_err-empty_cloud.ensures.end)
