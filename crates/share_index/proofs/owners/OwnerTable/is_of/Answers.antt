use Rattle.std.proofs.Common.{◌∙◌, ap}
use Rattle.pool_map.specs.Slots.{slot_of, listed-shown}
use Rattle.share_index.specs.Owning.{Owners, shows_fp}
use Rattle.share_index.proofs.Owning.{owner_total}
use Rattle.share_index.proofs.Scanning.{same-test, shows-held}
use Rattle.share_index.proofs.owners.OwnerTable.is_of.Goals as goal

pub returns-in-Some-clause-shows : goal.returns-in-Some-clause-shows
returns-in-Some-clause-shows c =
    c.eq.ensures ∙ same-test c.in-Some.owner.now.fp c.args.fp.now
    ∙ shows-held c.self.inside.table.slots c.args.slot c.args.fp.now c.in-Some.owner.now c.in-Some.field-0-1.now c.in-Some.ensures.pair
    ∙ ap (λ (o : Owners). shows_fp c.args.fp.now (slot_of o.slots c.args.slot)) c.self.view_is

pub returns-in-Some-clause-each : goal.returns-in-Some-clause-each
returns-in-Some-clause-each c = rw (← c.self.view_is) (listed-shown _ owner_total c.self.inside.table c.at.ensures.each)

pub returns-in-None-clause-each : goal.returns-in-None-clause-each
returns-in-None-clause-each c = rw (← c.self.view_is) (listed-shown _ owner_total c.self.inside.table c.at.ensures.each)
