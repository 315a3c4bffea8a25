use Rattle.std.proofs.Common.{◌≡◌, ◌+◌, ◌*◌, ◌≤◌, ◌^◌, ◌<◌, ◌++◌, ◌∙◌, length, arith, ap}
use Rattle.user_dedup.specs.Messages.request.Request.TheVariants as requests
use Rattle.user_dedup.specs.Messages.Requests.{request_bytes}
use Rattle.user_dedup.specs.Owning.{fps_in}
use Rattle.restore_job.proofs.Taking.{fits_shares, length_shares}
use Rattle.restore_job.proofs.fetching.shares_request.Goals as goal

pub returns-clause-asks : goal.returns-clause-asks
returns-clause-asks c =
    let e = c.in_ok-write.ensures.ok in
    let none = c.new-content.ensures in
    let fps = c.in_ok-fps.ensures in
    let range : c.args.user.0 < 2 ^ 32 = omega arith in
    record {
      fits = fits_shares c.args.user c.args.items.now range c.requires.some c.requires.few c.requires.items;
      spelled = e ∙ (λ i. none i ++ request_bytes (requests.GetShares c.args.user (fps i)));
    }

pub returns-clause-framed : goal.returns-clause-framed
returns-clause-framed c =
    let e = c.in_ok-write.ensures.ok in
    let none = c.new-content.ensures in
    let fps = c.in_ok-fps.ensures in
    let spelled : c.write.new.out ≡ request_bytes (requests.GetShares c.args.user (fps_in c.args.items.now)) = e ∙ (λ i. none i ++ request_bytes (requests.GetShares c.args.user (fps i))) in
    let long : length c.write.new.out ≡ 7 + 32 * length c.args.items.now = ap length spelled ∙ length_shares c.args.user c.args.items.now c.requires.items in
    let some : 1 ≤ length c.args.items.now = c.requires.some in
    let few : length c.args.items.now ≤ 256 = c.requires.few in
    (omega arith, omega arith)
