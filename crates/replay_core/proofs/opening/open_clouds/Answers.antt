use Rattle.std.specs.Prelude.{Err}
use Rattle.std.proofs.Common.{rules, ◌≡◌, [], refl, sym, ap, subst, ◌∙◌, arith}
use Rattle.share_server.specs.CdBase.shape.Shape.{Shape}
use Rattle.replay_core.specs.Opening.{IsEmpty, OpensClouds}
use Rattle.replay_core.proofs.Clouds.{empty_stands, on_err, if_err, ends_unopened}
use Rattle.replay_core.proofs.Links.{none_opened, one_opened, stops_opening}
use Rattle.replay_core.proofs.opening.open_clouds.Goals as goal

pub loop-number-init : goal.loop-number-init
loop-number-init g c = record {
  to = none_opened g.V.Shelf.cloud_at (empty_stands c.law_of_no_commands.ensures.unbegun c.law_of_no_commands.ensures.stands) c.args.link.now;
  same_reference = refl;
}

pub open_cloud-requires-clause-below : goal.open_cloud-requires-clause-below
open_cloud-requires-clause-below g c =
    let e = ap (λ (s : Shape). s.n) (c.loop-number.invariant.to.shape ∙ sym c.shape-shape.ensures) in omega arith

pub open_cloud-requires-clause-empty : goal.open_cloud-requires-clause-empty
open_cloud-requires-clause-empty g c =
    let e = ap (λ (s : Shape). s.n) c.shape-shape.ensures in
    subst IsEmpty (sym (c.loop-number.invariant.to.clouds_wait c.loop-number.number (omega arith))) (c.requires.empty c.loop-number.number (omega arith))

pub loop-number-preserved : goal.loop-number-preserved
loop-number-preserved g c = record {
  to = one_opened g.V.Shelf.cloud_at (empty_stands c.law_of_no_commands.ensures.unbegun c.law_of_no_commands.ensures.stands)
      c.args.link.now c.loop-number.link c.open_cloud.new.link c.loop-number.number c.loop-number.invariant.to c.open_cloud.ensures.rest
      c.open_cloud.ensures.prepares c.in_ok-open_cloud.ensures.opens c.open_cloud.ensures.rooms c.open_cloud.ensures.fate;
  same_reference = c.open_cloud.ensures.same_reference ∙ c.loop-number.invariant.same_reference;
}

pub returns-in_err-open_cloud-clause-prepares : goal.returns-in_err-open_cloud-clause-prepares
returns-in_err-open_cloud-clause-prepares g c =
    let residual : c.from_residual.result ≡ Err c.in_err-open_cloud.field-0.0 = search rules in
    let e = ap (λ (s : Shape). s.n) c.shape-shape.ensures in
    on_err c.from_residual.result c.in_err-open_cloud.field-0.0 _ residual
    (stops_opening g.V.Shelf.cloud_at (empty_stands c.law_of_no_commands.ensures.unbegun c.law_of_no_commands.ensures.stands) c.args.link.now c.loop-number.link c.open_cloud.new.link c.loop-number.number c.loop-number.invariant.to c.open_cloud.ensures.rest
    (omega arith) c.open_cloud.ensures.prepares)

pub returns-in_err-open_cloud-clause-end : goal.returns-in_err-open_cloud-clause-end
returns-in_err-open_cloud-clause-end g c =
    let residual : c.from_residual.result ≡ Err c.in_err-open_cloud.field-0.0 = search rules in
    let e = ap (λ (s : Shape). s.n) c.shape-shape.ensures in
    if_err c.from_residual.result c.in_err-open_cloud.field-0.0 _ residual
    (ends_unopened c.args.link.now.servers.shape (g.V.Shelf.cloud_at c.args.link.now.shelf.now) (g.V.Shelf.cloud_at c.loop-number.link.shelf.now)
    (g.V.Shelf.cloud_at c.open_cloud.new.link.shelf.now) c.loop-number.number (omega arith) (c.loop-number.invariant.to.clouds_wait c.loop-number.number (omega arith))
    c.requires.empty c.in_err-open_cloud.field-0.0 c.in_err-open_cloud.ensures.end)

pub returns-clause-opens : goal.returns-clause-opens
returns-clause-opens g c =
    let n : c.loop-number.number ≡ c.args.link.now.servers.shape.n =
    (let e = ap (λ (s : Shape). s.n) c.shape-shape.ensures in let a = c.loop-number.auto.number-end in let b = c.loop-number-test.false in omega arith) in
    subst (OpensClouds g.V.Shelf.cloud_at c.args.link.now c.loop-number.link) n c.loop-number.invariant.to
