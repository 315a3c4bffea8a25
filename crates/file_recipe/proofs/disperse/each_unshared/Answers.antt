use Rattle.std.proofs.Common.{◌+◌, ◌∙◌, arith}
use Rattle.file_recipe.proofs.Shares.{one_unshared, row_is}
use Rattle.file_recipe.proofs.disperse.each_unshared.Goals as goal

pub loop-place-preserved : goal.loop-place-preserved
loop-place-preserved c =
    c.in_ok-push.ensures.items
    ∙ one_unshared c.args.shape c.args.path.now c.args.file.now c.args.first c.loop-place.place c.loop-place.files.items c.in_ok-unshared.unshared c.loop-place.invariant
    (c.in_ok-unshared.ensures (c.args.first + c.loop-place.place) (row_is c.args.names.now.width (c.args.first + c.loop-place.place) c.args.names.now.shares.now ∙ c.requires.names (c.args.first + c.loop-place.place) (omega (arith, c.requires.within, c.loop-place-test.true))))
