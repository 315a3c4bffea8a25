-- What a record passes to be taken, and which kinds format 1 has.
use Rattle.std.proofs.Common.{◌≡◌, ◌≢◌, ◌⊎◌, inl, inr, ℕ, Bool, true, false, List, None, arith}
use Rattle.std.specs.Prelude.{IsFalse}
use Rattle.journal_halves.specs.CdBase.ids.UserId.{UserId}
use Rattle.first_records.specs.RecordBody.body.CommitBody.{CommitBody}
use Rattle.first_records.specs.RecordBody.body.PutItem.{PutItem}
use Rattle.first_records.specs.RecordBody.body.DeleteBody.{DeleteBody}
use Rattle.first_records.specs.RecordBody.body.KeptItem.{KeptItem}
use Rattle.first_records.specs.RecordBody.Spelling as bodies
use Rattle.first_records.specs.RecordBody.Spelling.{Body, body_bytes}
use Rattle.compact_memories.specs.CloudMemory.Memory.{Memory}
use Rattle.record_laws.specs.RecordChecks.ground.Ground.{Ground}
use Rattle.record_laws.specs.Leaving.{recipe_for}
use Rattle.record_laws.proofs.Behind.{ReadsNone}
use Rattle.first_records.specs.Judging.{IsForeign, Leaves}
use Rattle.first_records.specs.Limits.{crowded}
use Rattle.first_laws.specs.Leaving.{first_left}

-- A record with its recipe passes the checks over the memory, of which each room by number has place for it.
pub record IsTaken (g : Ground) (inside : Bool) (area : List ℕ) (m : Memory) (body : Body) : Type 0 where
  pub own : IsForeign inside (body_bytes body) → ⊥
  pub few : crowded m body ≡ None
  pub leaves : Leaves g inside (recipe_for area m body) m body (first_left g.shape area m body)
  pub reads : ReadsNone g area inside m body

-- ---- kinds

known_kind : (kind : ℕ) (inside : Bool) → kind ≢ 5 → kind ≢ 4 → (kind ≡ 5) ⊎ (IsFalse inside × (kind ≡ 4)) → ⊥
known_kind kind inside five four (inl e) = five e
known_kind kind inside five four (inr e) = four e.1

inside_kind : (kind : ℕ) → kind ≢ 5 → (kind ≡ 5) ⊎ (IsFalse true × (kind ≡ 4)) → ⊥
inside_kind kind five (inl e) = five e
inside_kind kind five (inr e) = let no : true ≡ false = e.0 in cc

-- a kind of a command is taken wherever it stands
pub put_own : (user : UserId) (items : List PutItem) (inside : Bool) → IsForeign inside (body_bytes (bodies.Put user items)) → ⊥
put_own user items inside of = known_kind 1 inside (λ e. omega (arith, e)) (λ e. omega (arith, e)) of

pub commit_own : (c : CommitBody) (inside : Bool) → IsForeign inside (body_bytes (bodies.Commit c)) → ⊥
commit_own c inside of = known_kind 2 inside (λ e. omega (arith, e)) (λ e. omega (arith, e)) of

pub delete_own : (d : DeleteBody) (inside : Bool) → IsForeign inside (body_bytes (bodies.Delete d)) → ⊥
delete_own d inside of = known_kind 3 inside (λ e. omega (arith, e)) (λ e. omega (arith, e)) of

-- a Kept stands in a checkpoint
pub kept_own : (items : List KeptItem) → IsForeign true (body_bytes (bodies.Kept items)) → ⊥
kept_own items of = inside_kind 4 (λ e. omega (arith, e)) of
