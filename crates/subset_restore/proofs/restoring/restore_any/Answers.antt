use Rattle.std.proofs.Common.{sym, refl, ◌∙◌}
use Rattle.transcript.specs.CdBase.Numbers.{numbers_of}
use Rattle.subset_restore.proofs.Walking.{start_found, start_lacked, start_refused, start_none}
use Rattle.subset_restore.proofs.restoring.restore_any.Goals as goal

pub returns-in-Restored-clause-restored : goal.returns-in-Restored-clause-restored
returns-in-Restored-clause-restored g c = (start_found g.L.Link.tells g.L.Link.talk c.args.shape c.args.user c.args.path.now c.args.version c.args.link.now c.try_from.new.link c.args.out.now c.try_from.new.out c.none.result (numbers_of c.as_slice.result.now) c.args.clouds.now c.args.shape.k c.none-refusals.result c.try_from.new.refusals c.none.ensures c.as_slice.ensures refl c.none-refusals.ensures c.in-Restored.ensures.goes).0

pub returns-in-Restored-clause-asked : goal.returns-in-Restored-clause-asked
returns-in-Restored-clause-asked g c = (start_found g.L.Link.tells g.L.Link.talk c.args.shape c.args.user c.args.path.now c.args.version c.args.link.now c.try_from.new.link c.args.out.now c.try_from.new.out c.none.result (numbers_of c.as_slice.result.now) c.args.clouds.now c.args.shape.k c.none-refusals.result c.try_from.new.refusals c.none.ensures c.as_slice.ensures refl c.none-refusals.ensures c.in-Restored.ensures.goes).1

pub returns-in-NoMemory-clause-restored : goal.returns-in-NoMemory-clause-restored
returns-in-NoMemory-clause-restored g c = (start_lacked g.L.Link.tells g.L.Link.talk c.args.shape c.args.user c.args.path.now c.args.version c.args.link.now c.try_from.new.link c.args.out.now c.try_from.new.out c.none.result (numbers_of c.as_slice.result.now) c.args.clouds.now c.args.shape.k c.none-refusals.result c.try_from.new.refusals c.none.ensures c.as_slice.ensures refl c.none-refusals.ensures c.in-NoMemory.ensures.goes).0

pub returns-in-NoMemory-clause-asked : goal.returns-in-NoMemory-clause-asked
returns-in-NoMemory-clause-asked g c = (start_lacked g.L.Link.tells g.L.Link.talk c.args.shape c.args.user c.args.path.now c.args.version c.args.link.now c.try_from.new.link c.args.out.now c.try_from.new.out c.none.result (numbers_of c.as_slice.result.now) c.args.clouds.now c.args.shape.k c.none-refusals.result c.try_from.new.refusals c.none.ensures c.as_slice.ensures refl c.none-refusals.ensures c.in-NoMemory.ensures.goes).1

pub returns-in-Some-clause-restored : goal.returns-in-Some-clause-restored
returns-in-Some-clause-restored g c = (start_refused g.L.Link.tells g.L.Link.talk c.args.shape c.args.user c.args.path.now c.args.version c.args.link.now c.try_from.new.link c.args.out.now c.try_from.new.out c.none.result (numbers_of c.as_slice.result.now) c.args.clouds.now c.args.shape.k c.none-refusals.result c.try_from.new.refusals c.in-Some.refusal c.none.ensures c.as_slice.ensures refl c.none-refusals.ensures c.requires.count c.in-Refused.ensures.goes (sym c.first.ensures ∙ c.in-Some.is)).none

pub returns-in-Some-clause-asked : goal.returns-in-Some-clause-asked
returns-in-Some-clause-asked g c = (start_refused g.L.Link.tells g.L.Link.talk c.args.shape c.args.user c.args.path.now c.args.version c.args.link.now c.try_from.new.link c.args.out.now c.try_from.new.out c.none.result (numbers_of c.as_slice.result.now) c.args.clouds.now c.args.shape.k c.none-refusals.result c.try_from.new.refusals c.in-Some.refusal c.none.ensures c.as_slice.ensures refl c.none-refusals.ensures c.requires.count c.in-Refused.ensures.goes (sym c.first.ensures ∙ c.in-Some.is)).asked

pub returns-in-Some-clause-named : goal.returns-in-Some-clause-named
returns-in-Some-clause-named g c = (start_refused g.L.Link.tells g.L.Link.talk c.args.shape c.args.user c.args.path.now c.args.version c.args.link.now c.try_from.new.link c.args.out.now c.try_from.new.out c.none.result (numbers_of c.as_slice.result.now) c.args.clouds.now c.args.shape.k c.none-refusals.result c.try_from.new.refusals c.in-Some.refusal c.none.ensures c.as_slice.ensures refl c.none-refusals.ensures c.requires.count c.in-Refused.ensures.goes (sym c.first.ensures ∙ c.in-Some.is)).named

pub unreachable-requires : goal.unreachable-requires
unreachable-requires g c = start_none g.L.Link.tells g.L.Link.talk c.args.shape c.args.user c.args.path.now c.args.version c.args.link.now c.try_from.new.link c.args.out.now c.try_from.new.out c.none.result (numbers_of c.as_slice.result.now) c.args.clouds.now c.args.shape.k c.none-refusals.result c.try_from.new.refusals c.none.ensures c.as_slice.ensures refl c.none-refusals.ensures c.requires.count c.in-Refused.ensures.goes (sym c.first.ensures ∙ c.in-None.is)
