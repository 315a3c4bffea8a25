use Rattle.std.proofs.Common.{◌≡◌, ◌≢◌, subst}
use Rattle.commit_journal.specs.CdEdges.area.Area.{Area}
use Rattle.commit_journal.specs.CdEdges.area.Area.TheVariants.{Journal, Shares, Recipes}
use Rattle.commit_journal.proofs.CdEdges.Calls.{called_twice}
use Rattle.commit_journal.proofs.CdEdges.Moments.{told_on}
use Rattle.commit_journal.specs.CdEdges.Disk.{moment}
use Rattle.cloud_disk.specs.Held.{LogHolds, flush_moments, with_staged}
use Rattle.cloud_disk.proofs.Holding.{by_log}
use Rattle.cloud_disk.proofs.Both.{shares_flushed, first_images, both_images, both_held, moments_on, failed_later, counts_kept}
use Rattle.cloud_disk.proofs.Grown.{fronts_first, fronts_second, journal_still, both_flushed}
use Rattle.cloud_disk.proofs.flush.flush_both.Goals as goal

pub returns-in-Err-clause-any_moment : goal.returns-in-Err-clause-any_moment
returns-in-Err-clause-any_moment g c told in_shares in_recipes more h has =
    let number = c.args.cloud.0 in let shares = c.args.shares.now in let recipes = c.args.recipes.now in
    let c0 = g.V.Shelf.cloud_at c.args.shelf.now number in let c1 = g.V.Shelf.cloud_at c.flush_log.new.shelf number in
    first_images in_shares in_recipes shares recipes c0 c1 h h.shares_held.area_is (c.flush_log.ensures.any_moment told in_shares (by_log Shares in_shares shares c0.now h.shares_held))

pub returns-in-Ok-clause-any_moment : goal.returns-in-Ok-clause-any_moment
returns-in-Ok-clause-any_moment g c told in_shares in_recipes more h has =
    let number = c.args.cloud.0 in let shares = c.args.shares.now in let recipes = c.args.recipes.now in let new = c.flush_log.new.log in
    let c0 = g.V.Shelf.cloud_at c.args.shelf.now number in let c1 = g.V.Shelf.cloud_at c.flush_log.new.shelf number in let c2 = g.V.Shelf.cloud_at c.flush_log-in-Ok.new.shelf number in
    let is = h.shares_held.area_is in
    let told1 = told_on c0 c1 c.flush_log.ensures.call.told told in
    let own = by_log Shares in_shares shares c0.now h.shares_held in
    let others = subst (λ (a : Area). (other : Area) → other ≢ a → c1.now other ≡ c0.now other) is (c.in-Ok.ensures.others told) in
    let h1 = shares_flushed in_shares in_recipes shares recipes more new c0.now c1.now h (subst (λ (a : Area). LogHolds a (with_staged in_shares shares more) new c1.now) is (c.in-Ok.ensures.held told in_shares more own has)) others in
    both_images in_shares in_recipes shares recipes more new c0 c1 c2
    (first_images in_shares in_recipes shares recipes c0 c1 h is (c.flush_log.ensures.any_moment told in_shares own))
    h1 (others Journal (λ e. cc)) h.recipes_held.area_is (c.flush_log-in-Ok.ensures.any_moment told1 in_recipes (by_log Recipes in_recipes recipes c1.now h1.recipes_held))

pub returns-in-Ok-clause-held : goal.returns-in-Ok-clause-held
returns-in-Ok-clause-held g c told in_shares in_recipes more more_recipes h has has_recipes =
    let number = c.args.cloud.0 in let shares = c.args.shares.now in let recipes = c.args.recipes.now in let new = c.flush_log.new.log in
    let c0 = g.V.Shelf.cloud_at c.args.shelf.now number in let c1 = g.V.Shelf.cloud_at c.flush_log.new.shelf number in let c2 = g.V.Shelf.cloud_at c.flush_log-in-Ok.new.shelf number in
    let is = h.shares_held.area_is in
    let told1 = told_on c0 c1 c.flush_log.ensures.call.told told in
    let own = by_log Shares in_shares shares c0.now h.shares_held in
    let others = subst (λ (a : Area). (other : Area) → other ≢ a → c1.now other ≡ c0.now other) is (c.in-Ok.ensures.others told) in
    let h1 = shares_flushed in_shares in_recipes shares recipes more new c0.now c1.now h (subst (λ (a : Area). LogHolds a (with_staged in_shares shares more) new c1.now) is (c.in-Ok.ensures.held told in_shares more own has)) others in
    both_held c.flush_log-in-Ok.result (with_staged in_shares shares more) in_recipes more_recipes new recipes c.flush_log-in-Ok.new.log c0 c1 c2 h1 (others Journal (λ e. cc))
    (c.flush_log-in-Ok.ensures.held told1 in_recipes more_recipes (by_log Recipes in_recipes recipes c1.now h1.recipes_held) has_recipes) (c.flush_log-in-Ok.ensures.others told1)

pub returns-in-Ok-clause-moments : goal.returns-in-Ok-clause-moments
returns-in-Ok-clause-moments g c told =
    let number = c.args.cloud.0 in
    let c0 = g.V.Shelf.cloud_at c.args.shelf.now number in let c1 = g.V.Shelf.cloud_at c.flush_log.new.shelf number in let c2 = g.V.Shelf.cloud_at c.flush_log-in-Ok.new.shelf number in
    moments_on c.flush_log-in-Ok.result (moment c0) (moment c1) (moment c2) (flush_moments c.args.shares.now) (flush_moments c.args.recipes.now) (c.in-Ok.ensures.moments told) (c.flush_log-in-Ok.ensures.moments (told_on c0 c1 c.flush_log.ensures.call.told told))

pub returns-in-Ok-clause-call : goal.returns-in-Ok-clause-call
returns-in-Ok-clause-call g c = called_twice _ _ _ _ _ _ _ c.flush_log.ensures.call c.flush_log-in-Ok.ensures.call

pub returns-in-Ok-clause-failed : goal.returns-in-Ok-clause-failed
returns-in-Ok-clause-failed g c =
    let at = g.V.Shelf.cloud_at in let faults = g.V.Shelf.faults in
    failed_later c.flush_log-in-Ok.result (at c.args.shelf.now) (at c.flush_log.new.shelf) (at c.flush_log-in-Ok.new.shelf) c.args.cloud.0
    (faults c.args.shelf.now) (faults c.flush_log.new.shelf) (faults c.flush_log-in-Ok.new.shelf) c.flush_log.ensures.call c.flush_log-in-Ok.ensures.failed

pub returns-in-Ok-clause-uncounted : goal.returns-in-Ok-clause-uncounted
returns-in-Ok-clause-uncounted g c =
    let at = g.V.Shelf.cloud_at in let faults = g.V.Shelf.faults in let number = c.args.cloud.0 in
    counts_kept c.flush_log-in-Ok.result (at c.args.shelf.now number) (at c.flush_log.new.shelf number) (at c.flush_log-in-Ok.new.shelf number)
    (faults c.args.shelf.now) (faults c.flush_log.new.shelf) (faults c.flush_log-in-Ok.new.shelf) c.in-Ok.ensures.uncounted c.flush_log-in-Ok.ensures.uncounted

pub returns-in-Err-clause-fronts : goal.returns-in-Err-clause-fronts
returns-in-Err-clause-fronts g c told is_shares is_recipes =
    let number = c.args.cloud.0 in
    fronts_first c.args.shares.now c.args.recipes.now (g.V.Shelf.cloud_at c.args.shelf.now number) (g.V.Shelf.cloud_at c.flush_log.new.shelf number) is_shares (c.flush_log.ensures.earlier told)

pub returns-in-Ok-clause-fronts : goal.returns-in-Ok-clause-fronts
returns-in-Ok-clause-fronts g c told is_shares is_recipes =
    let number = c.args.cloud.0 in let shares = c.args.shares.now in let recipes = c.args.recipes.now in
    let c0 = g.V.Shelf.cloud_at c.args.shelf.now number in let c1 = g.V.Shelf.cloud_at c.flush_log.new.shelf number in let c2 = g.V.Shelf.cloud_at c.flush_log-in-Ok.new.shelf number in
    let told1 = told_on c0 c1 c.flush_log.ensures.call.told told in
    let others = subst (λ (a : Area). (other : Area) → other ≢ a → c1.now other ≡ c0.now other) is_shares (c.in-Ok.ensures.others told) in
    fronts_second shares recipes c0 c1 c2 (g.met.V.Shelf.reads_image c.flush_log.new.shelf number told1 Recipes) is_recipes
    (fronts_first shares recipes c0 c1 is_shares (c.flush_log.ensures.earlier told)) (others Recipes (λ e. cc)) (c.flush_log-in-Ok.ensures.earlier told1)

pub returns-in-Ok-clause-journal : goal.returns-in-Ok-clause-journal
returns-in-Ok-clause-journal g c told is_shares is_recipes =
    let number = c.args.cloud.0 in
    let c0 = g.V.Shelf.cloud_at c.args.shelf.now number in let c1 = g.V.Shelf.cloud_at c.flush_log.new.shelf number in let c2 = g.V.Shelf.cloud_at c.flush_log-in-Ok.new.shelf number in
    let told1 = told_on c0 c1 c.flush_log.ensures.call.told told in
    let others = subst (λ (a : Area). (other : Area) → other ≢ a → c1.now other ≡ c0.now other) is_shares (c.in-Ok.ensures.others told) in
    journal_still c.flush_log-in-Ok.result c.args.recipes.now.area c0 c1 c2 is_recipes (others Journal (λ e. cc)) (c.flush_log-in-Ok.ensures.others told1)

pub returns-in-Ok-clause-whole : goal.returns-in-Ok-clause-whole
returns-in-Ok-clause-whole g c told is_shares is_recipes =
    let number = c.args.cloud.0 in
    let c0 = g.V.Shelf.cloud_at c.args.shelf.now number in let c1 = g.V.Shelf.cloud_at c.flush_log.new.shelf number in let c2 = g.V.Shelf.cloud_at c.flush_log-in-Ok.new.shelf number in
    let told1 = told_on c0 c1 c.flush_log.ensures.call.told told in
    both_flushed c.flush_log-in-Ok.result c.args.shares.now c.args.recipes.now c0 c1 c2 is_shares is_recipes (c.in-Ok.ensures.whole told) (c.in-Ok.ensures.others told)
    (c.flush_log-in-Ok.ensures.whole told1) (c.flush_log-in-Ok.ensures.others told1)
