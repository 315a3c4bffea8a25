-- What is answered of all slots, as what is answered of all that a memory lists.
use Rattle.std.proofs.Common.{◌≡◌, ◌⊎◌, inl, inr, ℕ, ◌+◌, List, Option, Some, None, Result, Ok, Err, refl, sym, subst, arith, below_more}
use Rattle.std.specs.FinMap.{get}
use Rattle.audit_base.specs.CdBase.ids.Fp.{Fp}
use Rattle.audit_base.specs.CdBase.ids.UserId.{UserId}
use Rattle.audit_base.specs.CdBase.place.Place.{Place}
use Rattle.audit_base.specs.CdBase.shape.Shape.{Shape}
use Rattle.audit_base.specs.CdEdges.area.Area.TheVariants.{Shares, Recipes}
use Rattle.audit_base.specs.CdEdges.Disk.{Cloud, Image}
use Rattle.audit_base.specs.CdEdges.Shelf.{HasFailed, KeepsCounts}
use Rattle.audit_base.specs.CloudMemory.cloud.CloudMemory.{CloudMemory}
use Rattle.audit_base.specs.CloudMemory.Live.{live_at, IsEachLive}
use Rattle.audit_base.specs.FileIndex.key.Entry.{Entry}
use Rattle.audit_base.specs.FileIndex.key.FileKey.{FileKey}
use Rattle.audit_base.specs.FileIndex.Files.{key_of}
use Rattle.pool_map.specs.Slots.{slot_of, IsListed}
use Rattle.audit_base.specs.ShareIndex.Order.{owner_of}
use Rattle.audit_base.specs.UserDedup.Cloud.{fingerprint}
use Rattle.audit_base.specs.Whole.{Tables, IsOwned, IsStored, IsGood, stored_at, tables_of}
use Rattle.audit_base.specs.Whole as rotten
use Rattle.audit_base.proofs.Found.{owner_counted}
use Rattle.blob_audit.specs.declared.errors.ReadErr.{ReadErr}
use Rattle.blob_audit.specs.declared.errors.ReadErr.TheVariants.{Fault, Rotten, NoMemory}
use Rattle.blob_audit.specs.Reading.{StoredIs, GoodIs, OnReadFault, IsUnlike}
use Rattle.blob_audit.specs.Reading as unlike
use Rattle.blob_audit.specs.Steps.{has_fault, Counted, IsWholeBlob, IsFine, ShareRead, FileRead, AllAs, SharesRead, FilesRead, BothRead}
use Rattle.blob_audit.proofs.Owners.{owned_by_some}

-- ---- slots one after another

module _ (Q : ℕ → Result (Unit {0}) ReadErr → Type 0) where
  pub none_yet : AllAs 0 Q (Ok tt)
  none_yet slot less = absurd (omega arith)

  pub one_more : (slots : ℕ) → AllAs slots Q (Ok tt) → Q slots (Ok tt) → AllAs (slots + 1) Q (Ok tt)
  one_more slots before here = below_more (λ slot. Q slot (Ok tt)) slots before here

-- ---- shares

-- a share that isn't as it was stored
pub record BadShare (t : Tables) (area : List ℕ) (named found : Fp) : Type 0 where
  pub place : Place
  pub owned : IsOwned t named
  pub has : get t.places named.0 ≡ Some place
  pub is_found : found ≡ fingerprint (stored_at area place.at place.len)
  pub lacks : IsStored area place.at place.len named → ⊥

pub good_share : (memory : CloudMemory) (image : Image) → IsEachLive memory.shares → SharesRead memory image (Ok tt)
    → (fp : Fp) (place : Place) → IsOwned (tables_of memory) fp → get memory.shares.places fp.0 ≡ Some place → IsStored (image Shares) place.at place.len fp
good_share memory image each all fp place owned has =
    let live = each.stands fp.0 place has (owner_counted memory.shares.owners (owner_of owned.user.0 fp.0) owned.owns.uses owned.owns.has) in
    let whole : IsWholeBlob (stored_at (image Shares) place.at place.len) place.len fp = subst (λ (o : Option (List ℕ × Place)). ShareRead o image (Ok tt)) live.2 (all live.0 live.1) in
    record { full = whole.full; hash = whole.hash }

pub bad_share : (memory : CloudMemory) (image : Image) (named found : Fp) → IsEachLive memory.shares → SharesRead memory image (Err (Rotten named found)) → BadShare (tables_of memory) (image Shares) named found
bad_share memory image named found each some = at_slot (live_at memory.shares some.0) refl some.1
  where
    at_slot : (o : Option (List ℕ × Place)) → live_at memory.shares some.0 ≡ o → ShareRead o image (Err (Rotten named found)) → BadShare (tables_of memory) (image Shares) named found
    at_slot None is bad = absurd bad
    at_slot (Some s) is bad =
        let has = each.listed some.0 s.0 s.1 is in
        subst (λ (n : Fp). BadShare (tables_of memory) (image Shares) n found) (sym bad.is_named) (record {
          place = s.1;
          owned = owned_by_some (tables_of memory) (record { 0 = s.0 }) has.1;
          has = has.0;
          is_found = bad.is_found;
          lacks = λ stored. bad.lacks (record { full = stored.full; hash = stored.hash });
        })

-- ---- files

-- an entry that isn't fine
pub record BadFile (shape : Option Shape) (t : Tables) (area : List ℕ) (named found : Fp) : Type 0 where
  pub key : FileKey
  pub entry : Entry
  pub has : get t.files key ≡ Some entry
  pub is_named : entry.fp ≡ named
  pub is_found : found ≡ fingerprint (stored_at area entry.at entry.len)
  pub lacks : IsFine shape t (record { 0 = key.user }) entry (stored_at area entry.at entry.len) → ⊥

pub good_file : (shape : Option Shape) (memory : CloudMemory) (image : Image) → IsListed memory.files.files memory.files.slots → FilesRead shape memory image (Ok tt)
    → (key : FileKey) (e : Entry) → get memory.files.files key ≡ Some e → IsFine shape (tables_of memory) (record { 0 = key.user }) e (stored_at (image Recipes) e.at e.len)
good_file shape memory image each all key e has =
    let stands = each.stands key e has in
    subst (λ (o : Option (FileKey × Entry)). FileRead shape (tables_of memory) o image (Ok tt)) stands.2 (all stands.0 stands.1)

pub bad_file : (shape : Option Shape) (memory : CloudMemory) (image : Image) (named found : Fp) → IsListed memory.files.files memory.files.slots → FilesRead shape memory image (Err (Rotten named found))
    → BadFile shape (tables_of memory) (image Recipes) named found
bad_file shape memory image named found each some = at_slot (slot_of memory.files.slots some.0) refl some.1
  where
    at_slot : (o : Option (FileKey × Entry)) → slot_of memory.files.slots some.0 ≡ o → FileRead shape (tables_of memory) o image (Err (Rotten named found)) → BadFile shape (tables_of memory) (image Recipes) named found
    at_slot None is bad = absurd bad
    at_slot (Some f) is bad = record {
      key = f.0;
      entry = f.1;
      has = each.listed some.0 f.0 f.1 is;
      is_named = sym bad.is_named;
      is_found = bad.is_found;
      lacks = bad.lacks;
    }

-- ---- both

pub both_read : (shape : Option Shape) (memory : CloudMemory) (image : Image) (r : Result (Unit {0}) ReadErr) → SharesRead memory image (Ok tt) → FilesRead shape memory image r → BothRead shape memory image r
both_read shape memory image (Ok u) shares files = (shares, files)
both_read shape memory image (Err error) shares files = inr files

unlike_of : (memory : CloudMemory) (image : Image) (named found : Fp) → BadShare (tables_of memory) (image Shares) named found ⊎ BadFile None (tables_of memory) (image Recipes) named found → IsUnlike image (tables_of memory) named found
unlike_of memory image named found (inl bad) = unlike.Share bad.place bad.owned bad.has bad.is_found bad.lacks
unlike_of memory image named found (inr bad) =
    unlike.File (record { 0 = bad.key.user }) (record { 0 = bad.key.tag }) (record { 0 = bad.key.version }) bad.entry bad.has bad.is_named bad.is_found
    (λ stored. bad.lacks (record { whole = record { full = stored.full; hash = stored.hash }; good = tt }))

pub stored_is : (memory : CloudMemory) (image : Image) (r : Result (Unit {0}) ReadErr) → IsEachLive memory.shares → IsListed memory.files.files memory.files.slots → BothRead None memory image r → StoredIs image (tables_of memory) r
stored_is memory image (Ok u) shares files both = record {
  shares = good_share memory image shares both.0;
  files = λ user tag version e has.
      let fine = good_file None memory image files both.1 (key_of user.0 tag.0 version.0) e has in
      record { full = fine.whole.full; hash = fine.whole.hash };
}
stored_is memory image (Err Fault) shares files both = tt
stored_is memory image (Err (Rotten named found)) shares files both =
    unlike_of memory image named found
    (elim both [ inl s ↦ inl (bad_share memory image named found shares s) | inr f ↦ inr (bad_file None memory image named found files f) ])
stored_is memory image (Err NoMemory) shares files both = tt

good_of : (shape : Shape) (t : Tables) (image : Image) (user : UserId) (e : Entry) → IsFine (Some shape) t user e (stored_at (image Recipes) e.at e.len) → IsGood shape image t user e
good_of shape t image user e fine = record {
  there = record { full = fine.whole.full; hash = fine.whole.hash };
  recipe = fine.good.recipe;
  is_recipe = fine.good.is_recipe;
  owned = fine.good.owned;
}

fine_of : (shape : Shape) (t : Tables) (image : Image) (user : UserId) (e : Entry) → IsGood shape image t user e → IsFine (Some shape) t user e (stored_at (image Recipes) e.at e.len)
fine_of shape t image user e good = record {
  whole = record { full = good.there.full; hash = good.there.hash };
  good = record { recipe = good.recipe; is_recipe = good.is_recipe; owned = good.owned };
}

rotten_of : (shape : Shape) (memory : CloudMemory) (image : Image) (named found : Fp) → BadShare (tables_of memory) (image Shares) named found ⊎ BadFile (Some shape) (tables_of memory) (image Recipes) named found
    → rotten.IsRottenNow shape image (tables_of memory) named found
rotten_of shape memory image named found (inl bad) = rotten.Share bad.place bad.owned bad.has bad.is_found bad.lacks
rotten_of shape memory image named found (inr bad) =
    rotten.File (record { 0 = bad.key.user }) (record { 0 = bad.key.tag }) (record { 0 = bad.key.version }) bad.entry bad.has bad.is_named bad.is_found
    (λ good. bad.lacks (fine_of shape (tables_of memory) image (record { 0 = bad.key.user }) bad.entry good))

pub good_is : (shape : Shape) (memory : CloudMemory) (image : Image) (r : Result (Unit {0}) ReadErr) → IsEachLive memory.shares → IsListed memory.files.files memory.files.slots → BothRead (Some shape) memory image r → GoodIs shape image (tables_of memory) r
good_is shape memory image (Ok u) shares files both = record {
  shares = good_share memory image shares both.0;
  files = λ user tag version e has. good_of shape (tables_of memory) image user e (good_file (Some shape) memory image files both.1 (key_of user.0 tag.0 version.0) e has);
}
good_is shape memory image (Err Fault) shares files both = tt
good_is shape memory image (Err (Rotten named found)) shares files both =
    rotten_of shape memory image named found
    (elim both [ inl s ↦ inl (bad_share memory image named found shares s) | inr f ↦ inr (bad_file (Some shape) memory image named found files f) ])
good_is shape memory image (Err NoMemory) shares files both = tt

-- the counts of faults, by what was answered
pub counts_are : (r : Result (Unit {0}) ReadErr) (old new : Cloud) (before now : ℕ) → Counted (has_fault r) old new before now → OnReadFault r (HasFailed old new before now) (KeepsCounts old new before now)
counts_are (Ok u) old new before now counts = counts
counts_are (Err Fault) old new before now counts = counts
counts_are (Err (Rotten named found)) old new before now counts = counts
counts_are (Err NoMemory) old new before now counts = counts
