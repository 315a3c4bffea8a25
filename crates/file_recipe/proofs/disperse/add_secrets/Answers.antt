use Rattle.std.proofs.Common.{◌≡◌, ◌<◌, ◌-◌, ℕ, List, length, get_or, slice_range, ap, ◌∙◌}
use Rattle.caont_rs.specs.Package.{share}
use Rattle.caont_rs.specs.ReedSolomon.Dispersal.{row}
use Rattle.file_recipe.proofs.Shares.{along_none, along_more, along_all}
use Rattle.file_recipe.proofs.disperse.add_secrets.Goals as goal

pub loop-end-init : goal.loop-end-init
loop-end-init c = along_none c.args.shape c.args.first c.args.base c.args.part.now c.args.ends.now c.args.files.now c.requires.ends

pub loop-end-preserved : goal.loop-end-preserved
loop-end-preserved c =
    let secret : List ℕ = slice_range c.args.part.now (c.loop-end.start - c.args.base) (get_or c.args.ends.now c.loop-end.end-index 0 - c.args.base) in
    let rows : (j : ℕ) → j < c.args.shape.n → row c.share_len-width.result j c.as_slice.result.now ≡ share c.args.shape j secret = λ j lt.
    ap (row c.share_len-width.result j) c.as_slice.ensures ∙ ap (λ (w : ℕ). row w j c.disperse.new.out) c.share_len-width.ensures.value
    ∙ c.in_ok-disperse.ensures.shares j lt ∙ ap (share c.args.shape j) c.part_at-secret.ensures in
    along_more c.args.shape c.args.first c.args.base c.args.part.now c.args.ends.now c.loop-end.end-index c.loop-end.start (length c.part_at-secret.result.now) c.share_len-width.result c.as_slice.result.now
    c.args.files.now c.loop-end.files c.add_shares.new.files c.loop-end.invariant c.loop-end-test.true c.loop-end.auto.files c.requires.clouds (ap length c.part_at-secret.ensures) rows c.in_ok-add_shares.ensures

pub returns : goal.returns
returns c = along_all c.args.shape c.args.first c.args.base c.args.part.now c.args.ends.now c.loop-end.end-index c.loop-end.start c.args.files.now c.loop-end.files c.loop-end.invariant c.loop-end-test.false
