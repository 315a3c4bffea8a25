-- Items of a Kept are read as they are spelled.
use Rattle.std.proofs.Common.{List, length, refl}
use Rattle.std.specs.Prelude.{All}
use Rattle.message_fields.proofs.Grammar.Laws.{lawful_then}
use Rattle.message_fields.proofs.Grammar.FieldLaws.{IsBytes, Anything, LawfulBytes, lawful_bytes}
use Rattle.message_fields.specs.Fingerprints.{IsBatch, is_batch}
use Rattle.message_fields.proofs.PartLaws.{lawful_made, lawful_times, lawful_counted}
use Rattle.message_fields.proofs.FpLaws.{batch_from, batch_to, small_batch}
use Rattle.record_body.proofs.FirstItemLaws.{lawful_place}
use Rattle.record_body.specs.declared.body.KeptItem.{KeptItem}
use Rattle.record_body.specs.Spelling.{kept_bytes, kept_fields, FitsKept}
use Rattle.record_body.specs.Reading.{item_at, items_at}

pub lawful_item : LawfulBytes item_at kept_bytes FitsKept
unfolding item_at
lawful_item =
    lawful_made (lawful_then IsBytes Anything (lawful_bytes 32) lawful_place) (λ x. record { fp = record { 0 = x.0 }; place = x.1 }) (λ item. (item.fp.0, item.place)) FitsKept
    (λ x fits. (refl, fits))
    (λ item fits. (fits, refl))

abbrev pub AreItems : List KeptItem → Type 0
AreItems items = IsBatch items × All FitsKept items

pub lawful_items : LawfulBytes items_at kept_fields AreItems
unfolding items_at
lawful_items =
    lawful_counted is_batch small_batch (lawful_times lawful_item)
    (λ items ok all. let b = batch_from (length items) ok in ((b.0, b.1), all))
    (λ items are. (batch_to (length items) are.0.0 are.0.1, are.1))
