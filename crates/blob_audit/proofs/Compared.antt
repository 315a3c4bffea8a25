-- What is answered of a blob's bytes, and of the reading that brought them.
use Rattle.std.proofs.Common.{◌≡◌, ℕ, ◌≤◌, ◌<◌, Bool, false, List, [], ◌∷◌, length, Option, Some, None, Result, Ok, Err, refl, sym, ◌∙◌, subst, arith}
use Rattle.std.specs.Prelude.{IsSome, IsTrue, IfSome, ◌↔◌}
use Rattle.std.specs.List.{Contains}
use Rattle.std.specs.FinMap.{get}
use Rattle.std.proofs.lemmas.List.Elements.{All-contains, All-nil, All-cons}
use Rattle.audit_base.specs.CdBase.ids.Fp.{Fp}
use Rattle.audit_base.specs.CdBase.ids.UserId.{UserId}
use Rattle.audit_base.specs.CdBase.shape.Shape.{Shape}
use Rattle.audit_base.specs.CloudMemory.Sharing.{AreOwned}
use Rattle.audit_base.specs.FileIndex.key.Entry.{Entry}
use Rattle.audit_base.specs.Recipe.Spelling.{IsRecipe}
use Rattle.audit_base.specs.Recipe.recipe.Recipe.{Recipe}
use Rattle.audit_base.proofs.Recipe.Written.{longest, one}
use Rattle.audit_base.specs.ShareIndex.Order.{owner_of}
use Rattle.audit_base.proofs.UserDedup.Owned.{contains_here, contains_later}
use Rattle.audit_base.specs.UserDedup.Cloud.{fingerprint}
use Rattle.audit_base.specs.UserDedup.Owning.{fps_in}
use Rattle.audit_base.specs.Whole.{Tables, Owns}
use Rattle.blob_audit.specs.declared.errors.ReadErr.{ReadErr}
use Rattle.blob_audit.specs.declared.errors.ReadErr.TheVariants.{Fault, Rotten, NoMemory}
use Rattle.blob_audit.specs.Steps.{has_fault, IsWholeBlob, IsOwnRecipe, IsFine, IsBlobRefused, BlobJudgedAs, BlobAs}

-- no answer about bytes is a device's fault
pub judged_calm : (fine : Type 0) (fp real : Fp) (r : Result (Unit {0}) ReadErr) → BlobJudgedAs fine fp real r → has_fault r ≡ false
judged_calm fine fp real (Ok u) j = refl
judged_calm fine fp real (Err Fault) j = absurd j
judged_calm fine fp real (Err (Rotten named found)) j = refl
judged_calm fine fp real (Err NoMemory) j = absurd j

pub blob_judged : (fine : Type 0) (fp real : Fp) (r : Result (Unit {0}) ReadErr) → BlobJudgedAs fine fp real r → BlobAs fine fp real r
blob_judged fine fp real (Ok u) j = j
blob_judged fine fp real (Err Fault) j = absurd j
blob_judged fine fp real (Err (Rotten named found)) j = j
blob_judged fine fp real (Err NoMemory) j = absurd j

-- a refused blob is refused where more is asked
pub refused_more : (fine more : Type 0) (fp real : Fp) (e : ReadErr) → (more → fine) → BlobJudgedAs fine fp real (Err e) → BlobJudgedAs more fp real (Err e)
refused_more fine more fp real Fault only j = absurd j
refused_more fine more fp real (Rotten named found) only j = record { is_named = j.is_named; is_found = j.is_found; lacks = λ m. j.lacks (only m) }
refused_more fine more fp real NoMemory only j = absurd j

-- a blob that is stored, and isn't fine beside
pub refused_whole : (bytes : List ℕ) (len : ℕ) (fp : Fp) (fine : Type 0) → IsWholeBlob bytes len fp → (fine → ⊥) → IsBlobRefused fine fp (fingerprint bytes) fp fp
refused_whole bytes len fp fine whole lacks = record { is_named = refl; is_found = sym whole.hash; lacks = lacks }

-- ---- recipes

-- a recipe has at most so many bytes
pub recipe_short : (shape : Shape) (bytes : List ℕ) (r : Recipe) → IsRecipe shape bytes r → length bytes ≤ 1180190
recipe_short shape bytes r is = subst (λ (xs : List ℕ). length xs ≤ 1180190) (sym is.spelled) (longest shape r is.fits)

-- longer bytes are none
pub too_long : (shape : Shape) (t : Tables) (user : UserId) (bytes : List ℕ) (len : ℕ) → length bytes ≡ len → 4194304 < len → IsOwnRecipe shape t user bytes → ⊥
too_long shape t user bytes len is more own = let short = recipe_short shape bytes own.recipe own.is_recipe in omega (arith, is, more, short)

-- so an entry that is too long is refused
pub long_refused : (shape : Option Shape) (s : Shape) → shape ≡ Some s → (t : Tables) (user : UserId) (e : Entry) (bytes : List ℕ) → 4194304 < e.len → IsWholeBlob bytes e.len e.fp → IsBlobRefused (IsFine shape t user e bytes) e.fp (fingerprint bytes) e.fp e.fp
long_refused shape s is t user e bytes more whole =
    refused_whole bytes e.len e.fp (IsFine shape t user e bytes) whole
    (λ fine. too_long s t user bytes e.len whole.full more (subst (λ (o : Option Shape). IfSome o (λ q. IsOwnRecipe q t user bytes)) is fine.good))

got_some : (o : Option ℕ) → IsSome o → (uses : ℕ) × (o ≡ Some uses)
got_some None s = absurd cc
got_some (Some uses) s = (uses, refl)

-- what all own, each owns
pub owned_each : (t : Tables) (user : UserId) (names : List Fp) → AreOwned t.owners user names → (fp : Fp) → Contains names fp → Owns t user fp
owned_each t user names all fp has =
    let s = got_some (get t.owners (owner_of user.0 fp.0)) (All-contains (λ (f : Fp). IsSome (get t.owners (owner_of user.0 f.0))) names fp all has) in
    record { uses = s.0; has = s.1 }

some_is : (o : Option ℕ) (uses : ℕ) → o ≡ Some uses → IsSome o
some_is None uses e = absurd (let no : None ≡ Some uses = e in cc)
some_is (Some x) uses e = refl

pub owned_all : (t : Tables) (user : UserId) (names : List Fp) → ((fp : Fp) → Contains names fp → Owns t user fp) → AreOwned t.owners user names
owned_all t user [] each = All-nil (λ (f : Fp). IsSome (get t.owners (owner_of user.0 f.0)))
owned_all t user (name ∷ names) each =
    All-cons (λ (f : Fp). IsSome (get t.owners (owner_of user.0 f.0))) name names
    (let o = each name (contains_here name names) in some_is (get t.owners (owner_of user.0 name.0)) o.uses o.has)
    (owned_all t user names (λ fp has. each fp (contains_later name names fp has)))

-- a recipe that was read is the one that a good one would be
pub own_recipe_is : (shape : Shape) (t : Tables) (user : UserId) (bytes : List ℕ) (r : Recipe) (b : Bool) → IsRecipe shape bytes r → IsTrue b ↔ AreOwned t.owners user (fps_in r.items) → IsTrue b ↔ IsOwnRecipe shape t user bytes
own_recipe_is shape t user bytes r b is owned = (
  λ so. record { recipe = r; is_recipe = is; owned = owned_each t user (fps_in r.items) (owned.0 so) },
  λ own. owned.1 (owned_all t user (fps_in r.items)
      (subst (λ (q : Recipe). (fp : Fp) → Contains (fps_in q.items) fp → Owns t user fp) (one shape own.recipe r own.is_recipe.fits is.fits (sym own.is_recipe.spelled ∙ is.spelled)) own.owned)),
)
