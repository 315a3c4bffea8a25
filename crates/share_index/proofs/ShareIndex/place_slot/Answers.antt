use Rattle.std.proofs.Common.{◌∙◌, ap, sym}
use Rattle.std.specs.Prelude.{is_some}
use Rattle.std.specs.FinMap.{get}
use Rattle.share_index.specs.Shares.{Shares}
use Rattle.share_index.proofs.Indexing.{slot-placed, present-place}
use Rattle.share_index.proofs.ShareIndex.place_slot.Goals as goal

pub returns-clause-slot : goal.returns-clause-slot
returns-clause-slot c = rw (← c.self.view_is) (slot-placed c.self.inside.places.kept c.self.inside.places.slots c.args.fp.now.0 c.find.result c.find.ensures.slot)

pub returns-clause-placed : goal.returns-clause-placed
returns-clause-placed c =
    c.find.ensures.present
    ∙ sym (present-place c.self.inside.places.kept c.args.fp.now.0)
    ∙ ap (λ (s : Shares). is_some (get s.places c.args.fp.now.0)) c.self.view_is
