use Rattle.gf256.proofs.Lanes.{low_ok, high_ok, lane_added, lanes_long}
use Rattle.gf256.proofs.multiple.add_products.Goals as goal

pub swizzle : goal.swizzle
swizzle c = low_ok c.args.source c.fits-source

pub swizzle-2 : goal.swizzle-2
swizzle-2 c = high_ok c.args.source c.fits-source

pub returns-clause-long : goal.returns-clause-long
returns-clause-long c = lanes_long c.args.low c.args.high c.args.source c.args.target c.fits-source c.fits-target.0

pub returns-clause-lanes : goal.returns-clause-lanes
returns-clause-lanes c = λ i h. lane_added c.args.low c.args.high c.args.source c.args.target i c.fits-source c.fits-target.0 h
