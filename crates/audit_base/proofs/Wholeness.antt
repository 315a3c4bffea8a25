-- A cloud of which each listed blob is good is whole, and so is one that serves a list.
use Rattle.std.proofs.Common.{◌≡◌, ℕ, Bool, true, cond, List, length, take, drop, Option, Some, None, refl, sym, ap, ◌∙◌, subst, inl, inr}
use Rattle.std.specs.Prelude.{IsSome}
use Rattle.std.specs.List.{Contains}
use Rattle.std.specs.FinMap.{get, entries, get-retain_keys}
use Rattle.std.proofs.lemmas.Bool.{lt-ltb, cases_Bool}
use Rattle.std.proofs.lemmas.List.Elements.{All-contains}
use Rattle.cloud_memory.specs.CdBase.ids.Fp.{Fp}
use Rattle.cloud_memory.specs.CdBase.ids.UserId.{UserId}
use Rattle.cloud_memory.specs.CdBase.shape.Shape.{Shape}
use Rattle.cd_edges.specs.declared.area.Area.TheVariants.{Shares, Recipes}
use Rattle.cd_edges.specs.Disk.{Image}
use Rattle.cloud_memory.specs.FileIndex.key.Entry.{Entry}
use Rattle.cloud_memory.specs.FileIndex.key.FileKey.{FileKey}
use Rattle.cloud_memory.specs.FileIndex.Files.{key_of}
use Rattle.cloud_memory.specs.FileIndex.Order.{key_cmp, key_exact}
use Rattle.cloud_memory.specs.Recipe.Spelling.{IsRecipe}
use Rattle.cloud_memory.specs.CdBase.place.Place.{Place}
use Rattle.cloud_memory.specs.CdBase.Order.{fp_cmp, fp_exact}
use Rattle.cloud_memory.specs.ShareIndex.Order.{owner_of}
use Rattle.cloud_memory.proofs.UserDedup.Owned.{among_contains, contains_among}
use Rattle.cloud_memory.specs.UserDedup.Cloud.{fingerprint}
use Rattle.cloud_memory.specs.UserDedup.Owning.{is_among, fps_in}
use Rattle.audit_base.specs.Own.{is_live, live, live_shares}
use Rattle.audit_base.specs.Served.{ServedTables, Views}
use Rattle.audit_base.specs.Whole.{Tables, Owns, IsOwned, ArePlaced, stored_at, IsStored, IsGood, WholeNow}
use Rattle.audit_base.proofs.Found.{got_in, owner_counted}

-- ---- what is listed

owned_live : (t : Tables) (fp : Fp) → IsOwned t fp → is_live t fp.0 ≡ true
owned_live t fp owned = lt-ltb _ _ (owner_counted t.owners (owner_of owned.user.0 fp.0) owned.owns.uses owned.owns.has)

live_has : (t : Tables) (fp : List ℕ) (place : Place) → is_live t fp ≡ true → get t.places fp ≡ Some place → get (live t) fp ≡ Some place
live_has t fp place is has =
    get-retain_keys t.places (is_live t) fp (λ x tied. ap (is_live t) (sym (fp_exact fp x tied)))
    ∙ ap (λ (b : Bool). cond b (get t.places fp) None) is ∙ has

pub owned_listed : (t : Tables) (fp : Fp) (place : Place) → IsOwned t fp → get t.places fp.0 ≡ Some place → Contains (live_shares t) (fp.0, place)
owned_listed t fp place owned has = got_in fp_cmp fp_exact (live t) fp.0 place (live_has t fp.0 place (owned_live t fp owned) has)

pub by_lines : (shape : Shape) (image : Image) (t : Tables) → ArePlaced t
    → ((fp : List ℕ) (place : Place) → Contains (live_shares t) (fp, place) → IsStored (image Shares) place.at place.len (record { 0 = fp }))
    → ((key : FileKey) (e : Entry) → Contains (entries t.files) (key, e) → IsGood shape image t (record { 0 = key.user }) e)
    → WholeNow shape image t
by_lines shape image t placed shares files = record {
  shares = λ fp owned.
      let p = placed fp owned in
      (p.0, p.1, shares fp.0 p.0 (owned_listed t fp p.0 owned p.1));
  files = λ user tag version e has. files (key_of user.0 tag.0 version.0) e (got_in key_cmp key_exact t.files (key_of user.0 tag.0 version.0) e has);
}

-- ---- what a list leaves

some_is : (place : Option Place) → IsSome place → (p : Place) × (place ≡ Some p)
some_is None s = absurd cc
some_is (Some p) s = (p, refl)

not_none : {A : Type 0} (x : A) → None ≡ Some x → ⊥
not_none x e = cc

owns_contains : (shape : Shape) (image : Image) (t : Tables) (v : Views) → ServedTables shape image t v → (user : UserId) (fp : Fp) → Owns t user fp → Contains (v.own user) fp
owns_contains shape image t v s user fp owns =
    elim (cases_Bool (is_among (v.own user) fp)) [
      | inl among ↦ among_contains (v.own user) fp among
      | inr lacking ↦
          let none : None ≡ Some owns.uses
          = sym (s.owners user fp ∙ ap (λ (b : Bool). cond b (Some (v.uses user fp)) None) lacking) ∙ owns.has in
          absurd (not_none owns.uses none)
    ]

contains_owns : (shape : Shape) (image : Image) (t : Tables) (v : Views) → ServedTables shape image t v → (user : UserId) (fp : Fp) → Contains (v.own user) fp → Owns t user fp
contains_owns shape image t v s user fp has = record {
  uses = v.uses user fp;
  has = s.owners user fp ∙ ap (λ (b : Bool). cond b (Some (v.uses user fp)) None) (contains_among (v.own user) fp has);
}

-- so many bytes, which are these
there_by : (area bytes : List ℕ) (at len : ℕ) (fp : Fp) → len ≡ length bytes → take (length bytes) (drop at area) ≡ bytes → fingerprint bytes ≡ fp → IsStored area at len fp
there_by area bytes at len fp long here hash =
    let is : stored_at area at len ≡ bytes = ap (λ (n : ℕ). take n (drop at area)) long ∙ here in
    record { full = ap length is ∙ sym long; hash = ap fingerprint is ∙ hash }

pub by_serving : (shape : Shape) (image : Image) (t : Tables) (v : Views) → ServedTables shape image t v → WholeNow shape image t
by_serving shape image t v s = record {
  shares = λ fp owned.
      let has = owns_contains shape image t v s owned.user fp owned.owns in
      let p = some_is (get t.places fp.0) (s.placed owned.user fp has) in
      (p.0, p.1, there_by (image Shares) (v.held fp) p.0.at p.0.len fp (s.lens fp p.0 p.1) (s.strings fp p.0 p.1) (s.held owned.user fp has));
  files = λ user tag version e has.
      let is = s.files user tag version e has in
      let own = s.names user tag version is.bytes is.there in
      let here = s.entries user tag version e is.bytes has is.there in
      let same : stored_at (image Recipes) e.at e.len ≡ is.bytes = ap (λ (n : ℕ). take n (drop e.at (image Recipes))) is.len ∙ here in
      record {
        there = there_by (image Recipes) is.bytes e.at e.len e.fp is.len here is.fp;
        recipe = own.recipe;
        is_recipe = subst (λ (b : List ℕ). IsRecipe shape b own.recipe) (sym same) own.is_recipe;
        owned = λ fp named. contains_owns shape image t v s user fp (All-contains (Contains (v.own user)) (fps_in own.recipe.items) fp own.owned named);
      };
}
