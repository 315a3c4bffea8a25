-- Where a record passes no room.
use Rattle.std.proofs.Common.{◌≡◌, ℕ, ◌+◌, ◌≤◌, nat_lt, Bool, cond, List, length, Option, Some, None, refl, ap, ◌∙◌, arith, ltb-true}
use Rattle.std.specs.Prelude.{count_by, is_some}
use Rattle.std.specs.Option.{option_or}
use Rattle.std.specs.FinMap.{get, len, len-insert}
use Rattle.std.proofs.lemmas.Bool.{false_from_ne_true}
use Rattle.journal_halves.specs.CdBase.ids.Fp.{Fp}
use Rattle.journal_halves.specs.CdBase.ids.UserId.{UserId}
use Rattle.journal_halves.specs.CdBase.rooms.Room.{Room}
use Rattle.journal_halves.specs.CdBase.rooms.Room.TheVariants.{Shares, Recipes, Fps, Owners, Files}
use Rattle.compact_memories.specs.FileIndex.Files.{key_of}
use Rattle.compact_memories.proofs.FileIndexLaws.Order.{key_total}
use Rattle.first_records.specs.RecordBody.body.CommitBody.{CommitBody}
use Rattle.first_records.specs.RecordBody.body.PutItem.{PutItem}
use Rattle.first_records.specs.RecordBody.body.KeptItem.{KeptItem}
use Rattle.first_records.specs.RecordBody.Spelling as bodies
use Rattle.first_records.specs.RecordBody.Spelling.{Body}
use Rattle.compact_memories.specs.CloudMemory.Memory.{Memory}
use Rattle.compact_memories.specs.CloudMemory.Steps.{with_items, with_kepts, with_entry}
use Rattle.record_laws.specs.RecordChecks.ground.Ground.{Ground}
use Rattle.record_laws.specs.RecordChecks.Checks.{AreRight, AreRightKepts}
use Rattle.record_laws.specs.RecordChecks.Steps.{has_place}
use Rattle.record_laws.proofs.RecordChecks.Rooming.{placed_after}
use Rattle.record_laws.proofs.RecordChecks.KeptWalking.{placed_after as kepts_placed}
use Rattle.first_records.specs.Limits.{limit_of, if_past, crowded, overfull}
use Rattle.first_laws.proofs.Most.{owners_after}

fits_in : (room : Room) (used : ℕ) → used ≤ limit_of room → if_past room used ≡ None
fits_in room used le =
    ap (λ (b : Bool). cond {A = Option Room} b (Some room) None)
    (false_from_ne_true (nat_lt (limit_of room) used) (λ t. let lt = ltb-true (limit_of room) used t in absurd (omega (arith, lt, le))))

pub put_fits : (g : Ground) (inside : Bool) (user : UserId) (items : List PutItem) (m : Memory) → AreRight g inside user m items → len (with_items user m items).places ≤ 262144
    → len (with_items user m items).owners ≤ 524288 → crowded m (bodies.Put user items) ≡ None
put_fits g inside user items m right places owners =
    let placed = placed_after g inside user m items right in
    let owned = owners_after g inside user m items right in
    let few : len m.places + count_by has_place items ≤ 262144 = omega (arith, placed, places) in
    let few_owners : len m.owners + length items ≤ 524288 = omega (arith, owned, owners) in
    (λ i. option_or (fits_in Fps (len m.places + count_by has_place items) few i) (fits_in Owners (len m.owners + length items) few_owners i))

pub kepts_fit : (g : Ground) (inside : Bool) (items : List KeptItem) (m : Memory) → AreRightKepts g inside m items → len (with_kepts m items).places ≤ 262144
    → crowded m (bodies.Kept items) ≡ None
kepts_fit g inside items m right places =
    let placed = kepts_placed g inside m items right in
    let few : len m.places + length items ≤ 262144 = omega (arith, placed, places) in
    fits_in Fps (len m.places + length items) few

pub commit_fits : (names : List Fp) (c : CommitBody) (m : Memory) → get m.files (key_of c.user.0 c.tag.0 c.version.0) ≡ None → len (with_entry names c m).files ≤ 16384
    → crowded m (bodies.Commit c) ≡ None
commit_fits names c m none files =
    let more = len-insert key_total m.files (key_of c.user.0 c.tag.0 c.version.0) (record { at = c.at; len = c.len; fp = c.fp })
    ∙ ap (λ o. cond (is_some o) (len m.files) (len m.files + 1)) none in
    let few : len m.files + 1 ≤ 16384 = omega (arith, more, files) in
    fits_in Files (len m.files + 1) few

-- by bytes
pub ends_fit : (body : Body) (m : Memory) → m.shares_end ≤ 8589934592 → m.recipes_end ≤ 1073741824 → overfull body m ≡ None
ends_fit (bodies.Put user items) m shares recipes = fits_in Shares m.shares_end shares
ends_fit (bodies.Commit c) m shares recipes = fits_in Recipes m.recipes_end recipes
ends_fit (bodies.Delete d) m shares recipes = refl
ends_fit (bodies.Kept items) m shares recipes = fits_in Shares m.shares_end shares
ends_fit (bodies.Spent s) m shares recipes = refl
