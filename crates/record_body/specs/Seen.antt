-- The body that a view in the bytes is of.
use Rattle.std.specs.Prelude.{◌≡◌, ℕ, List}
use Rattle.record_body.specs.declared.view.BodyView.{BodyView}
use Rattle.record_body.specs.declared.view.BodyView.TheVariants as views
use Rattle.record_body.specs.Spelling.{Body, Put, Commit, Delete, Kept, Spent}

abbrev pub seen : BodyView → Body
seen (views.Put user items) = Put user items.items
seen (views.Commit commit) = Commit commit
seen (views.Delete delete) = Delete delete
seen (views.Kept items) = Kept items.items
seen (views.Spent spent) = Spent spent

-- the walk over the items goes over these bytes, from the first item on
abbrev pub StartsIn : List ℕ → BodyView → Type 0
StartsIn bytes (views.Put user items) = (items.body ≡ bytes) × (items.at ≡ 7)
StartsIn bytes (views.Commit commit) = Unit {0}
StartsIn bytes (views.Delete delete) = Unit {0}
StartsIn bytes (views.Kept items) = (items.body ≡ bytes) × (items.at ≡ 3)
StartsIn bytes (views.Spent spent) = Unit {0}
