use Rattle.std.proofs.Common.{ℕ, Option, sym, ap, subst, ◌∙◌, inl, inr}
use Rattle.std.specs.Prelude.{◌≤◌, ◌⊎◌, IfSome, length}
use Rattle.compact_memories.specs.PoolMap.Accounts.{keys_of}
use Rattle.compact_memories.specs.PoolMap.Slots.{IsListed}
use Rattle.compact_memories.specs.FileIndex.Files.{Files}
use Rattle.compact_memories.specs.FileIndex.key.FileKey.{FileKey}
use Rattle.compact_memories.specs.FileIndex.Order.{key_exact}
use Rattle.compact_memories.proofs.FileIndexLaws.Order.{key_total}
use Rattle.compact_memories.specs.ShareIndex.key.Owner.{Owner}
use Rattle.compact_memories.specs.ShareIndex.Order.{owner_exact}
use Rattle.compact_memories.specs.ShareIndex.Shares.{Shares}
use Rattle.compact_memories.proofs.ShareIndexLaws.Owning.{owner_total}
use Rattle.compact_memories.specs.CloudMemory.Rooms.{memory_of}
use Rattle.large_users.specs.Counting.{IsSeen, IsUserFound, AreSeen}
use Rattle.large_users.specs.Large.{OfEach, IsOwnerSized, IsEntrySized}
use Rattle.large_users.proofs.Counts.{none_of, some_of}
use Rattle.large_users.proofs.Passed.{owner_found, file_found}
use Rattle.large_users.proofs.large.least_other.Goals as goal

pub returns-clause-seen : goal.returns-clause-seen
returns-clause-seen c m users is user from below =
    let shares = c.args.memory.now.shares in let files = c.args.memory.now.files in
    let owner = c.least_owner-owner in let other = c.least_with-other in
    let owners = subst (λ (s : Shares). IsListed s.owners s.owner_slots) c.shares-2.ensures owner.ensures.each in
    let entries = subst (λ (f : Files). IsListed f.files f.slots) c.files.ensures other.ensures.each in
    let seen = subst (λ (s : Shares). AreSeen (λ (k : Owner). k.user) c.args.from s.owner_slots (length s.owner_slots) owner.result) c.shares-2.ensures owner.ensures.seen in
    let had = subst (λ (f : Files). AreSeen (λ (k : FileKey). k.user) c.args.from f.slots (length f.slots) other.result) c.files.ensures other.ensures.seen in
    let own = none_of owner_total owner_exact (λ (k : Owner). k.user) shares.owners shares.owner_slots owners c.args.from c.least_of.result user
    (λ u s k v at same lt. (c.least_of.ensures.seen c.args.from u).0 (subst (IsSeen c.args.from owner.result) same (seen s k v lt at))) from below in
    let has = none_of key_total key_exact (λ (k : FileKey). k.user) files.files files.slots entries c.args.from c.least_of.result user
    (λ u s k v at same lt. (c.least_of.ensures.seen c.args.from u).1 (subst (IsSeen c.args.from other.result) same (had s k v lt at))) from below in
    (sym (ap (λ o. keys_of (λ (k : Owner). k.user) o user) is.owners) ∙ own, sym (ap (λ f. keys_of (λ (k : FileKey). k.user) f user) is.files) ∙ has)

pub returns-clause-found : goal.returns-clause-found
returns-clause-found c m users is =
    let n = memory_of c.args.memory.now in
    let shares = c.args.memory.now.shares in let files = c.args.memory.now.files in
    let owner = c.least_owner-owner in let other = c.least_with-other in
    let owners = subst (λ (s : Shares). IsListed s.owners s.owner_slots) c.shares-2.ensures owner.ensures.each in
    let entries = subst (λ (f : Files). IsListed f.files f.slots) c.files.ensures other.ensures.each in
    let found = subst (λ (s : Shares). IsUserFound (λ (k : Owner). k.user) c.args.from s.owner_slots owner.result) c.shares-2.ensures owner.ensures.found in
    let had = subst (λ (f : Files). IsUserFound (λ (k : FileKey). k.user) c.args.from f.slots other.result) c.files.ensures other.ensures.found in
    elim c.least_of.ensures.which [
      | inl same ↦
          subst (λ (o : Option ℕ). IfSome o (λ (user : ℕ). (c.args.from ≤ user) × ((1 ≤ keys_of (λ (k : Owner). k.user) m.owners user) ⊎ (1 ≤ keys_of (λ (k : FileKey). k.user) m.files user)))) (sym same)
          (owner_found owner.result c.args.from m n is.owners
          (some_of owner_total owner_exact (λ (k : Owner). k.user) shares.owners shares.owner_slots owners c.args.from owner.result found))
      | inr same ↦
          subst (λ (o : Option ℕ). IfSome o (λ (user : ℕ). (c.args.from ≤ user) × ((1 ≤ keys_of (λ (k : Owner). k.user) m.owners user) ⊎ (1 ≤ keys_of (λ (k : FileKey). k.user) m.files user)))) (sym same)
          (file_found other.result c.args.from m n is.files
          (some_of key_total key_exact (λ (k : FileKey). k.user) files.files files.slots entries c.args.from other.result had))
    ]

pub returns-clause-sized : goal.returns-clause-sized
returns-clause-sized c = record {
  listed = record {
    places = subst (λ (s : Shares). IsListed s.places s.place_slots) c.shares.ensures c.place_at.ensures.each;
    owners = subst (λ (s : Shares). IsListed s.owners s.owner_slots) c.shares-2.ensures c.least_owner-owner.ensures.each;
    entries = subst (λ (f : Files). IsListed f.files f.slots) c.files.ensures c.least_with-other.ensures.each;
  };
  owners = subst (λ (s : Shares). OfEach IsOwnerSized s.owner_slots (length s.owner_slots)) c.shares-2.ensures c.least_owner-owner.ensures.sized;
  entries = subst (λ (f : Files). OfEach IsEntrySized f.slots (length f.slots)) c.files.ensures c.least_with-other.ensures.sized;
}
