-- What becomes of a record of format 1, by its checks in their order.
use Rattle.std.specs.Prelude.{◌≡◌, ◌⊎◌, ℕ, ◌-◌, Bool, IsFalse, List, [], ◌∷◌, Some, None, IsSome, Result, Ok, Err}
use Rattle.message_fields.specs.CdBase.ids.UserId.{UserId}
use Rattle.message_fields.specs.CdBase.rooms.Room.{Room}
use Rattle.record_checks.specs.FileIndex.key.Entry.{Entry}
use Rattle.record_checks.specs.RecordBody.body.DeleteBody.{DeleteBody}
use Rattle.record_checks.specs.RecordBody.body.KeptItem.{KeptItem}
use Rattle.record_checks.specs.RecordBody.Reading.{body_at}
use Rattle.record_checks.specs.RecordBody.Spelling as bodies
use Rattle.record_checks.specs.RecordBody.Spelling.{Body}
use Rattle.record_checks.specs.RecordBody.body.BodyErr.{BodyErr}
use Rattle.record_checks.specs.RecordBody.body.CommitBody.{CommitBody}
use Rattle.record_checks.specs.RecordBody.body.PutItem.{PutItem}
use Rattle.record_checks.specs.UserDedup.Requests.{fps_of}
use Rattle.record_checks.specs.CloudMemory.Memory.{Memory}
use Rattle.record_checks.specs.CloudMemory.Steps.{with_items, with_kepts, with_entry}
use Rattle.record_checks.specs.declared.ground.Ground.{Ground}
use Rattle.record_checks.specs.Checks.{damaged_at, body_fault, put_items, kept_items, tag_at, place_at, recipe_fp_at, RecipeLies, AreRight, ItemsFault, AreRightKepts, KeptsFault, commit_entry, delete_entry, IsNamed, IsWhole}
use Rattle.record_checks.specs.Judging.{delete_left}
use Rattle.first_records.specs.declared.errors.FirstErr.{FirstErr}
use Rattle.first_records.specs.declared.errors.FirstErr.TheVariants.{Damaged, RoomsTooSmall}
use Rattle.first_records.specs.declared.errors.Fault.{Fault}
use Rattle.first_records.specs.declared.errors.Fault.TheVariants.{Field, Passes}
use Rattle.first_records.specs.Limits.{limit_of, crowded, overfull}

-- A body begins with the kind of a Spent, which format 1 doesn't have, or with that of a Kept outside of a checkpoint.
abbrev pub IsForeign : Bool → List ℕ → Type 0
IsForeign inside [] = ⊥
IsForeign inside (kind ∷ fields) = (kind ≡ 5) ⊎ (IsFalse inside × (kind ≡ 4))

-- ---- a record by what it says

-- The first check of what a record says that fails, by the place of its field in the body. `inside` says that it is one of the checkpoint's,
-- and `read` is what was read where its recipe lies.
pub data Faulty (g : Ground) (inside : Bool) (read : List ℕ) (old : Memory) : Body → ℕ → Type 0 where
  PutFaulty : (user : UserId) (items : List PutItem) (place : ℕ) → ItemsFault g inside user old put_items items place
      → Faulty g inside read old (bodies.Put user items) place
  Unplaced : (c : CommitBody) → ¬ (RecipeLies g inside old c) → Faulty g inside read old (bodies.Commit c) place_at
  Entered : (c : CommitBody) → RecipeLies g inside old c → IsSome (commit_entry old c) → Faulty g inside read old (bodies.Commit c) tag_at
  NotWhole : (c : CommitBody) → RecipeLies g inside old c → commit_entry old c ≡ None → ¬ (IsWhole g old c read)
      → Faulty g inside read old (bodies.Commit c) recipe_fp_at
  NoEntry : (d : DeleteBody) → delete_entry old d ≡ None → Faulty g inside read old (bodies.Delete d) tag_at
  NotNamed : (d : DeleteBody) (e : Entry) → delete_entry old d ≡ Some e → ¬ (IsNamed g.shape e.fp read) → Faulty g inside read old (bodies.Delete d) tag_at
  KeptFaulty : (items : List KeptItem) (place : ℕ) → KeptsFault g inside old kept_items items place → Faulty g inside read old (bodies.Kept items) place

-- None of them fails, and the record leaves this memory. Nothing is spent.
pub data Leaves (g : Ground) (inside : Bool) (read : List ℕ) (old : Memory) : Body → Memory → Type 0 where
  PutLeaves : (user : UserId) (items : List PutItem) → AreRight g inside user old items → Leaves g inside read old (bodies.Put user items) (with_items user old items)
  CommitLeaves : (c : CommitBody) → RecipeLies g inside old c → commit_entry old c ≡ None → IsWhole g old c read
      → Leaves g inside read old (bodies.Commit c) (with_entry (fps_of g.shape read) c old)
  DeleteLeaves : (d : DeleteBody) (e : Entry) → delete_entry old d ≡ Some e → IsNamed g.shape e.fp read
      → Leaves g inside read old (bodies.Delete d) (delete_left g read d old)
  KeptLeaves : (items : List KeptItem) → AreRightKepts g inside old items → Leaves g inside read old (bodies.Kept items) (with_kepts old items)

-- What becomes of a record by what it says. Rooms by number come before its checks, and rooms by bytes behind them.
pub data JudgesSaid (g : Ground) (inside : Bool) (read : List ℕ) (old : Memory) (b : Body) : Result Memory Fault → Type 0 where
  Crowded : (room : Room) → crowded old b ≡ Some room → JudgesSaid g inside read old b (Err (Passes room))
  Fails : (place : ℕ) → crowded old b ≡ None → Faulty g inside read old b place → JudgesSaid g inside read old b (Err (Field place))
  Overfull : (m : Memory) (room : Room) → crowded old b ≡ None → Leaves g inside read old b m → overfull b m ≡ Some room
      → JudgesSaid g inside read old b (Err (Passes room))
  Fits : (m : Memory) → crowded old b ≡ None → Leaves g inside read old b m → overfull b m ≡ None → JudgesSaid g inside read old b (Ok m)

-- ---- a record by its bytes

-- what is answered of a record whose body has these bytes and begins at a place of the journal, five places behind its gate
abbrev pub err_of : ℕ → List ℕ → Fault → FirstErr
err_of at body (Field place) = Damaged (damaged_at at body place)
err_of at body (Passes room) = RoomsTooSmall room (limit_of room) (at - 5)

-- What becomes of a record whose body has these bytes and begins at a place of the journal: the memory that it leaves, or why it isn't
-- taken. A kind that may not stand there is damaged, whatever follows; then comes the grammar, and then what the record says.
pub data JudgesFirst (g : Ground) (inside : Bool) (read : List ℕ) (old : Memory) (at : ℕ) (body : List ℕ) : Result Memory FirstErr → Type 0 where
  Foreign : IsForeign inside body → JudgesFirst g inside read old at body (Err (Damaged (damaged_at at body 0)))
  Unread : (e : BodyErr) → ¬ (IsForeign inside body) → body_at body ≡ Err e → JudgesFirst g inside read old at body (Err (Damaged (body_fault at body e)))
  Refused : (b : Body) (fault : Fault) → ¬ (IsForeign inside body) → body_at body ≡ Ok b → JudgesSaid g inside read old b (Err fault)
      → JudgesFirst g inside read old at body (Err (err_of at body fault))
  Taken : (b : Body) (m : Memory) → ¬ (IsForeign inside body) → body_at body ≡ Ok b → JudgesSaid g inside read old b (Ok m)
      → JudgesFirst g inside read old at body (Ok m)
