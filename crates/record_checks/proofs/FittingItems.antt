-- Items that are right, and fit what their bytes say.
use Rattle.std.proofs.Common.{None, Option, Some, ◌≡◌, ap, subst, ◌≤◌, List, [], ◌∷◌, Bool}
use Rattle.std.specs.Prelude.{All}
use Rattle.std.proofs.lemmas.List.Elements.{All-cons, All-head, All-nil, All-tail}
use Rattle.cloud_memory.specs.CdBase.place.Place.{Place}
use Rattle.cloud_memory.specs.RecordBody.FirstSpelling.{FitsPlaced, FitsItem}
use Rattle.cloud_memory.specs.MessageFields.Shares.{share_limit}
use Rattle.cloud_memory.specs.Fitting.{FitsPart, AreItemsPlaced}
use Rattle.cloud_memory.specs.RecordBody.body.PutItem.{PutItem}
use Rattle.cloud_memory.specs.Memory.{Memory}
use Rattle.cloud_memory.specs.CdBase.ids.UserId.{UserId}
use Rattle.cloud_memory.proofs.Fitting.{has_place, place_or}
use Rattle.cloud_memory.specs.Steps.{with_item}
use Rattle.record_checks.specs.Checks.{AreRight}
use Rattle.record_checks.specs.declared.ground.Ground.{Ground}

pub no_place : (place : Place) → ◌≡◌ {A = Option Place} None (Some place) → ⊥
no_place place e = cc

pub placed_fits : (o : Option Place) → FitsPlaced o → (place : Place) → o ≡ Some place → (1 ≤ place.len) × (place.len ≤ share_limit)
placed_fits None fits place e = absurd (no_place place e)
placed_fits (Some new) fits place e = subst (λ (p : Place). (1 ≤ p.len) × (p.len ≤ share_limit)) (ap (place_or new) e) fits.1

pub parts_fit : (items : List PutItem) → All FitsItem items → All FitsPart items
parts_fit [] fits = All-nil FitsPart
parts_fit (item ∷ items) fits =
    All-cons FitsPart item items (placed_fits item.place (All-head FitsItem item items fits).1) (parts_fit items (All-tail FitsItem item items fits))

-- a share whose flag is right has a place, its own or one from before
pub right_placed : (g : Ground) (inside : Bool) (user : UserId) (items : List PutItem) (m : Memory) → AreRight g inside user m items → AreItemsPlaced m.places items
right_placed g inside user [] m right = tt
right_placed g inside user (item ∷ items) m right =
    (has_place m.places item.fp item.place right.0.flagged.1, right_placed g inside user items (with_item user m item) right.1)
