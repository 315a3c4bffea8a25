-- What becomes of a record, by its checks in their order.
use Rattle.std.specs.Prelude.{◌≡◌, ℕ, Bool, IsFalse, List, Some, None, IsSome, Result, Ok, Err}
use Rattle.cloud_memory.specs.CdBase.ids.UserId.{UserId}
use Rattle.cloud_memory.specs.FileIndex.key.Entry.{Entry}
use Rattle.cloud_memory.specs.FileIndex.Files.{key_of}
use Rattle.cloud_memory.specs.RecordBody.body.DeleteBody.{DeleteBody}
use Rattle.cloud_memory.specs.RecordBody.body.KeptItem.{KeptItem}
use Rattle.cloud_memory.specs.RecordBody.body.SpentBody.{SpentBody}
use Rattle.cloud_memory.specs.RecordBody.Reading.{body_at}
use Rattle.cloud_memory.specs.RecordBody.Spelling as bodies
use Rattle.cloud_memory.specs.RecordBody.Spelling.{Body}
use Rattle.cloud_memory.specs.RecordBody.body.BodyErr.{BodyErr}
use Rattle.cloud_memory.specs.RecordBody.body.CommitBody.{CommitBody}
use Rattle.cloud_memory.specs.RecordBody.body.PutItem.{PutItem}
use Rattle.cloud_memory.specs.UserDedup.Requests.{fps_of}
use Rattle.cloud_memory.specs.Memory.{Memory}
use Rattle.cloud_memory.specs.Steps.{with_items, with_kepts, with_spent, with_entry, without_entry, spent_on}
use Rattle.record_checks.specs.declared.damage.Damage.{Damage}
use Rattle.record_checks.specs.declared.ground.Ground.{Ground}
use Rattle.record_checks.specs.Checks.{damaged_at, body_fault, IsOfCheckpoint, first_field, put_items, kept_items, tag_at, place_at, recipe_fp_at, RecipeLies, AreRight, ItemsFault, AreRightKepts, KeptsFault, commit_entry, delete_entry, IsNamed, IsWhole, spends_behind, PutFits, CommitFits, KeptFits, MayHaveSpent}

-- ---- what a record leaves

-- what a Put leaves: its shares with their owner; behind the checkpoint they are spent
abbrev pub put_left : Bool → UserId → List PutItem → Memory → Memory
put_left inside user items m = let filled = with_items user m items in spends_behind inside user (spent_on filled items) filled

-- what a Commit leaves: its entry, with a use more of what its recipe names; behind the checkpoint the recipe is spent
abbrev pub commit_left : Ground → Bool → List ℕ → CommitBody → Memory → Memory
commit_left g inside read c m = spends_behind inside c.user (record { owners = 0; shares = 0; recipes = c.len }) (with_entry (fps_of g.shape read) c m)

-- what a Delete leaves: neither its entry nor, for each item of its recipe, a use
abbrev pub delete_left : Ground → List ℕ → DeleteBody → Memory → Memory
delete_left g read d m = without_entry (fps_of g.shape read) d.user (key_of d.user.0 d.tag.0 d.version.0) m

abbrev pub spent_left : SpentBody → Memory → Memory
spent_left s m = with_spent s.user (record { owners = s.owners; shares = s.shares; recipes = s.recipes }) m

-- ---- a record by what it says

-- What becomes of a record: the memory that it leaves, or the place in its body of the field that is damaged. `inside` says that it is one
-- of the checkpoint's, `read` is what was read where its recipe lies, and `marks` are the users who have a Spent already.
pub data JudgesBody (g : Ground) (inside : Bool) (read : List ℕ) (marks : List Bool) (old : Memory) : Body → Result Memory ℕ → Type 0 where
  PutFault : (user : UserId) (items : List PutItem) (place : ℕ) → ItemsFault g inside user old put_items items place
      → JudgesBody g inside read marks old (bodies.Put user items) (Err place)
  PutPast : (user : UserId) (items : List PutItem) → AreRight g inside user old items
      → ¬ (PutFits g inside user items (with_items user old items))
      → JudgesBody g inside read marks old (bodies.Put user items) (Err first_field)
  PutTaken : (user : UserId) (items : List PutItem) → AreRight g inside user old items
      → PutFits g inside user items (with_items user old items)
      → JudgesBody g inside read marks old (bodies.Put user items) (Ok (put_left inside user items old))
  Unplaced : (c : CommitBody) → ¬ (RecipeLies g inside old c) → JudgesBody g inside read marks old (bodies.Commit c) (Err place_at)
  Entered : (c : CommitBody) → RecipeLies g inside old c → IsSome (commit_entry old c)
      → JudgesBody g inside read marks old (bodies.Commit c) (Err tag_at)
  NotWhole : (c : CommitBody) → RecipeLies g inside old c → commit_entry old c ≡ None → ¬ (IsWhole g old c read)
      → JudgesBody g inside read marks old (bodies.Commit c) (Err recipe_fp_at)
  CommitPast : (c : CommitBody) → RecipeLies g inside old c → commit_entry old c ≡ None → IsWhole g old c read
      → ¬ (CommitFits g inside c old)
      → JudgesBody g inside read marks old (bodies.Commit c) (Err first_field)
  CommitTaken : (c : CommitBody) → RecipeLies g inside old c → commit_entry old c ≡ None → IsWhole g old c read
      → CommitFits g inside c old
      → JudgesBody g inside read marks old (bodies.Commit c) (Ok (commit_left g inside read c old))
  NoEntry : (d : DeleteBody) → delete_entry old d ≡ None → JudgesBody g inside read marks old (bodies.Delete d) (Err tag_at)
  NotNamed : (d : DeleteBody) (e : Entry) → delete_entry old d ≡ Some e → ¬ (IsNamed g.shape e.fp read)
      → JudgesBody g inside read marks old (bodies.Delete d) (Err tag_at)
  Deleted : (d : DeleteBody) (e : Entry) → delete_entry old d ≡ Some e → IsNamed g.shape e.fp read
      → JudgesBody g inside read marks old (bodies.Delete d) (Ok (delete_left g read d old))
  KeptDamaged : (items : List KeptItem) (place : ℕ) → KeptsFault g inside old kept_items items place
      → JudgesBody g inside read marks old (bodies.Kept items) (Err place)
  KeptPast : (items : List KeptItem) → AreRightKepts g inside old items → ¬ (KeptFits g (with_kepts old items))
      → JudgesBody g inside read marks old (bodies.Kept items) (Err first_field)
  KeptTaken : (items : List KeptItem) → AreRightKepts g inside old items → KeptFits g (with_kepts old items)
      → JudgesBody g inside read marks old (bodies.Kept items) (Ok (with_kepts old items))
  SpentPast : (s : SpentBody) → ¬ (MayHaveSpent g marks s) → JudgesBody g inside read marks old (bodies.Spent s) (Err first_field)
  SpentTaken : (s : SpentBody) → MayHaveSpent g marks s → JudgesBody g inside read marks old (bodies.Spent s) (Ok (spent_left s old))

-- ---- a record by its bytes

-- What becomes of a record whose body has these bytes and begins at a place of the journal: the memory that it leaves, or the damage. A record
-- that may stand in a checkpoint alone is damaged at its kind outside of one, whatever follows; then comes the grammar, and then the checks
-- of what it says.
pub data Judges (g : Ground) (inside : Bool) (read : List ℕ) (marks : List Bool) (old : Memory) (at : ℕ) (body : List ℕ) : Result Memory Damage → Type 0 where
  Outside : IsFalse inside → IsOfCheckpoint body → Judges g inside read marks old at body (Err (damaged_at at body 0))
  Unread : (e : BodyErr) → ¬ (IsFalse inside × IsOfCheckpoint body) → body_at body ≡ Err e
      → Judges g inside read marks old at body (Err (body_fault at body e))
  Damaged : (b : Body) (place : ℕ) → ¬ (IsFalse inside × IsOfCheckpoint body) → body_at body ≡ Ok b
      → JudgesBody g inside read marks old b (Err place) → Judges g inside read marks old at body (Err (damaged_at at body place))
  Taken : (b : Body) (m : Memory) → ¬ (IsFalse inside × IsOfCheckpoint body) → body_at body ≡ Ok b
      → JudgesBody g inside read marks old b (Ok m) → Judges g inside read marks old at body (Ok m)
