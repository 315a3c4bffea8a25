-- The body of format 1 that a view in the bytes is of.
use Rattle.std.specs.Prelude.{◌≡◌, ℕ, List}
use Rattle.record_body.specs.declared.first_view.FirstBodyView.{FirstBodyView}
use Rattle.record_body.specs.declared.first_view.FirstBodyView.TheVariants as views
use Rattle.record_body.specs.FirstSpelling.{FirstBody, Put, Commit}

abbrev pub seen : FirstBodyView → FirstBody
seen (views.Put user items) = Put user items.items
seen (views.Commit commit) = Commit commit

-- the walk over the items goes over these bytes, from the first item on
abbrev pub FirstWalkStartsIn : List ℕ → FirstBodyView → Type 0
FirstWalkStartsIn bytes (views.Put user items) = (items.body ≡ bytes) × (items.at ≡ 7)
FirstWalkStartsIn bytes (views.Commit commit) = Unit {0}
