use Rattle.std.proofs.Common.{ℕ, sym, subst}
use Rattle.std.specs.FinMap.{get}
use Rattle.cloud_memory.specs.CloudAreas.Placing.{region_start}
use Rattle.record_checks.specs.Checks.{Lies, KeptFault, PlacedTwice, KeptMisplaced}
use Rattle.record_checks.proofs.Faults.{not_so, none_there}
use Rattle.record_checks.proofs.kepts.kept_fault.Goals as goal

pub returns-then-placed-clause-fault : goal.returns-then-placed-clause-fault
returns-then-placed-clause-fault c = λ m facts. PlacedTwice (facts.laid.0 c.if-placed.true)

pub returns-then-not-lies-clause-fault : goal.returns-then-not-lies-clause-fault
returns-then-not-lies-clause-fault c = λ m facts.
    let g = c.args.ground.now in
    let item = c.args.found.now.item in
    let misplaced = not_so c.lies.result c.lies.ensures c.if-not-lies.true in
    subst (KeptFault g c.args.inside m item c.args.found.now.fp_at) (sym c.requires)
    (KeptMisplaced (none_there (get m.places item.fp.0) (not_so c.args.placed facts.laid c.if-placed.false))
    (λ lies. misplaced (subst (λ (first : ℕ). Lies c.args.inside first c.args.end g.shares_len item.place) (sym c.first_of.ensures)
    (subst (λ (end : ℕ). Lies c.args.inside (region_start g.region) end g.shares_len item.place) (sym facts.end_is) lies))))
