use Rattle.std.specs.Prelude.{slice_index}
use Rattle.rabin_chunker.proofs.Algebra.{rolls_two}
use Rattle.rabin_chunker.proofs.tables.roll_two.Goals as goal

pub returns : goal.returns
returns c =
    rolls_two c.args.fingerprint c.leaving_two.result c.leaving.result c.carried-middle.result c.carried_two-high.result
    (slice_index c.args.oldest 0) (slice_index c.args.newest 0) (slice_index c.args.oldest 1) (slice_index c.args.newest 1)
    c.requires c.element_fits3.fits c.leaving_two.ensures c.leaving.ensures c.carried-middle.ensures c.carried_two-high.ensures
