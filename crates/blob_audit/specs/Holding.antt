-- What a window has of an area.
use Rattle.std.specs.Prelude.{◌≡◌, ◌+◌, ◌≤◌, ℕ, List, take, ◌<◌, slice_index_or, Option, Result, OnOk}
use Rattle.std.specs.List.{Contains}
use Rattle.audit_base.specs.CdBase.place.Place.{Place}
use Rattle.audit_base.specs.CdBase.ids.UserId.{UserId}
use Rattle.audit_base.specs.CdBase.shape.Shape.{Shape}
use Rattle.audit_base.specs.FileIndex.key.Entry.{Entry}
use Rattle.audit_base.specs.CdEdges.area.Area.{Area}
use Rattle.audit_base.specs.CdEdges.area.Area.TheVariants.{Shares, Recipes}
use Rattle.audit_base.specs.CdEdges.Disk.{Image}
use Rattle.audit_base.specs.Whole.{Tables, stored_at}
use Rattle.container_log.specs.Places.{container_len}
use Rattle.blob_audit.specs.declared.errors.ReadErr.{ReadErr}
use Rattle.blob_audit.specs.declared.held.Held.{Held}
use Rattle.blob_audit.specs.Steps.{PlacedRead, EntryRead}

-- the bytes of a window: those of a container
abbrev pub window_len : ℕ
window_len = container_len

-- as much as there is of what was asked for is in front of the window
pub record IsHeldInWindow (area : List ℕ) (held : Held) (window : List ℕ) : Type 0 where
  pub bytes : take held.count window ≡ stored_at area held.at held.asked

-- A place lies in what was asked for.
pub record Covers (held : Held) (place : Place) : Type 0 where
  pub first : held.at ≤ place.at
  pub last : place.at + place.len ≤ held.at + held.asked

-- What is told of a share that was compared with a window, which then has what it had or more.
abbrev pub ShareAlong : List ℕ → Place → Held → List ℕ → Held → List ℕ → Image → Result (Unit {0}) ReadErr → Type 0
ShareAlong fp place old before new after image r = IsHeldInWindow (image Shares) old before → PlacedRead fp place image r × OnOk r (IsHeldInWindow (image Shares) new after)

-- the same of an entry's recipe
abbrev pub EntryAlong : Option Shape → Tables → UserId → Entry → Held → List ℕ → Held → List ℕ → Image → Result (Unit {0}) ReadErr → Type 0
EntryAlong shape t user e old before new after image r = IsHeldInWindow (image Recipes) old before → EntryRead shape t user e image r × OnOk r (IsHeldInWindow (image Recipes) new after)

-- what is told of a reading that a window goes along
abbrev pub Along : Area → (Image → Result (Unit {0}) ReadErr → Type 0) → Held → List ℕ → Held → List ℕ → Image → Result (Unit {0}) ReadErr → Type 0
Along area P old before new after image r = IsHeldInWindow (image area) old before → P image r × OnOk r (IsHeldInWindow (image area) new after)

-- ---- the order of reading

-- the slot beside a place
abbrev pub slot_at : List (ℕ × ℕ) → ℕ → ℕ
slot_at order index = (slice_index_or order index (0, 0)).1

-- A slot is in the list, beside a place.
pub record IsSlotIn (order : List (ℕ × ℕ)) (slot : ℕ) : Type 0 where
  pub at : ℕ
  pub has : Contains order (at, slot)

-- Each slot is in the list.
abbrev pub HasAll : ℕ → List (ℕ × ℕ) → Type 0
HasAll slots order = (slot : ℕ) → slot < slots → IsSlotIn order slot
