-- What an open store that serves a list knows of its blobs.
use Rattle.std.proofs.Common.{◌≡◌, ℕ, List, [], length, map, take, drop, Option, Some, None, refl, sym, ap, ◌∙◌, subst}
use Rattle.std.specs.Prelude.{All, IsSome, option_map, unwrap_or}
use Rattle.std.specs.List.{Contains}
use Rattle.std.specs.FinMap.{get}
use Rattle.share_server.specs.CdBase.ids.Fp.{Fp}
use Rattle.share_server.specs.CdBase.ids.Tag.{Tag}
use Rattle.share_server.specs.CdBase.ids.UserId.{UserId}
use Rattle.share_server.specs.CdBase.ids.Version.{Version}
use Rattle.share_server.specs.CdBase.shape.Shape.{Shape}
use Rattle.share_server.specs.CdEdges.area.Area.TheVariants.{Shares, Recipes}
use Rattle.share_server.specs.CdEdges.Disk.{Cloud, reads}
use Rattle.blob_audit.specs.FileIndex.key.Entry.{Entry}
use Rattle.blob_audit.specs.FileIndex.Files.{key_of}
use Rattle.share_server.specs.Recipe.recipe.Recipe.{Recipe}
use Rattle.share_server.specs.Recipe.Spelling.{IsRecipe}
use Rattle.share_server.proofs.Recipe.Written.{again}
use Rattle.share_server.specs.UserDedup.file_list.FileEntry.{FileEntry}
use Rattle.share_server.specs.UserDedup.Cloud.{fingerprint, user_view, strings_in, held_bytes}
use Rattle.share_server.specs.UserDedup.Owning.{fps_in}
use Rattle.share_server.specs.UserDedup.Pages.{entry_at}
use Rattle.share_server.specs.UserDedup.Requests.{fps_of, fps_read}
use Rattle.share_server.proofs.UserDedup.EntryLists.{found_entry}
use Rattle.share_server.proofs.UserDedup.Sound.{entries_owned}
use Rattle.share_server.specs.UserDedup.command.Command.{Command}
use Rattle.share_server.proofs.UserDedup.CompactSound.{files_fit}
use Rattle.share_server.proofs.UserDedup.Views.{held_is, owned_is_held}
use Rattle.cloud_disk.specs.CloudAreas.Standing.{Chain}
use Rattle.cloud_disk.specs.Disk.{Disk}
use Rattle.blob_audit.specs.CloudMemory.cloud.CloudMemory.{CloudMemory}
use Rattle.blob_audit.specs.CloudMemory.Memory.{summary, summary_of}
use Rattle.cloud_store.specs.Checkpoints.Known.{IsDiskKnown}
use Rattle.cloud_disk.specs.JournalStart.start.Header.{Header}
use Rattle.cloud_disk.proofs.CloudAreas.Lists.{in_map}
use Rattle.cloud_store.specs.declared.store.CloudStore.{CloudStore}
use Rattle.cloud_store.specs.Store.{Serves}
use Rattle.blob_audit.specs.AuditBase.Served.{ServedTables, Views, IsEntryOf, NamesOwn}
use Rattle.blob_audit.specs.AuditBase.Whole.{WholeNow, tables_of}
use Rattle.blob_audit.proofs.AuditBase.Wholeness.{by_serving}
use Rattle.audit.specs.Serving.{views_of}

mapped : {A B : Type 0} (f : A → B) (o : Option A) (y : B) → option_map f o ≡ Some y → (x : A) × (o ≡ Some x) × (f x ≡ y)
mapped f None y e = absurd (let no : None ≡ Some y = e in cc)
mapped f (Some x) y e = let two : Some (f x) ≡ Some y = e in (x, refl, cc)

-- a recipe names what it reads as naming
named : (shape : Shape) (bytes : List ℕ) (r : Recipe) → IsRecipe shape bytes r → fps_of shape bytes ≡ fps_in r.items
named shape bytes r is = ap (fps_of shape) is.spelled ∙ ap fps_read (again shape r is.fits)

module _ (header : Header) (list : List Command) (c : Chain) (commands region : ℕ) (memory : CloudMemory) (disk : Disk) (cloud : Cloud)
    (k : IsDiskKnown header list c commands region memory disk cloud) where
  abbrev shape : Shape
  shape = header.shape

  abbrev v : Views
  v = views_of header.shape list

  is_placed : (user : UserId) (fp : Fp) → Contains (v.own user) fp → IsSome (get memory.shares.places fp.0)
  is_placed user fp has =
      let h = owned_is_held shape list user fp has in
      let s = held_is list fp h.0 h.1 in
      (k.remembers.placed fp).1 (subst (Contains (map fingerprint (strings_in list))) s.0 (in_map fingerprint (strings_in list) h.0 s.1))

  is_held : (user : UserId) (fp : Fp) → Contains (v.own user) fp → fingerprint (held_bytes list fp) ≡ fp
  is_held user fp has =
      let h = owned_is_held shape list user fp has in
      ap (λ (o : Option (List ℕ)). fingerprint (unwrap_or o [])) h.1 ∙ h.2

  is_entry : (user : UserId) (tag : Tag) (version : Version) (e : Entry) → get memory.files.files (key_of user.0 tag.0 version.0) ≡ Some e → IsEntryOf v user tag version e
  is_entry user tag version e has =
      let o = entry_at (user_view shape list user).files (tag, version) in
      let both : option_map summary_of o ≡ Some (summary e) = sym (k.remembers.files user tag version) ∙ ap (option_map summary) has in
      let x = mapped summary_of o (summary e) both in
      record {
        bytes = x.0.recipe;
        there = ap (option_map (λ (f : FileEntry). f.recipe)) x.1;
        len = sym (ap (λ (p : ℕ × Fp). p.0) x.2);
        fp = ap (λ (p : ℕ × Fp). p.1) x.2;
      }

  names_own : (user : UserId) (tag : Tag) (version : Version) (bytes : List ℕ) → v.recipe user tag version ≡ Some bytes → NamesOwn shape (v.own user) bytes
  names_own user tag version bytes there =
      let files = (user_view shape list user).files in
      let x = mapped (λ (f : FileEntry). f.recipe) (entry_at files (tag, version)) bytes there in
      let found = found_entry files (tag, version) x.0 x.1 in
      let r = (files_fit shape header.cloud.0 list k.on.read.sound user x.0 found.1).1 in
      let own = entries_owned shape header.cloud.0 list user x.0 k.on.read.sound found.1 in
      subst (NamesOwn shape (v.own user)) x.2 (record {
        recipe = r.0;
        is_recipe = r.1;
        owned = subst (All (Contains (v.own user))) (named shape x.0.recipe r.0 r.1) own;
      })

  lies : (user : UserId) (tag : Tag) (version : Version) (e : Entry) (bytes : List ℕ) → get memory.files.files (key_of user.0 tag.0 version.0) ≡ Some e
      → v.recipe user tag version ≡ Some bytes → take (length bytes) (drop e.at (reads cloud.now Recipes)) ≡ bytes
  lies user tag version e bytes has there =
      let x = mapped (λ (f : FileEntry). f.recipe) (entry_at (user_view shape list user).files (tag, version)) bytes there in
      subst (λ (b : List ℕ). take (length b) (drop e.at (reads cloud.now Recipes)) ≡ b) x.2 (k.stand.entries user (tag, version) e x.0 has x.1)

  pub is_served : ServedTables shape (reads cloud.now) (tables_of memory) v
  is_served = record {
    owners = k.remembers.owners;
    placed = is_placed;
    lens = k.remembers.lens;
    files = is_entry;
    held = is_held;
    names = names_own;
    strings = k.stand.strings;
    entries = lies;
  }

pub served : (list : List Command) (c : Chain) (store : CloudStore) (cloud : Cloud) → Serves list c store cloud
    → ServedTables store.header.shape (reads cloud.now) (tables_of store.memory) (views_of store.header.shape list)
served list c store cloud s = is_served store.header list c store.commands store.region store.memory store.disk cloud s.known

pub whole : (list : List Command) (c : Chain) (store : CloudStore) (cloud : Cloud) → Serves list c store cloud
    → WholeNow store.header.shape (reads cloud.now) (tables_of store.memory)
whole list c store cloud s =
    by_serving store.header.shape (reads cloud.now) (tables_of store.memory) (views_of store.header.shape list) (served list c store cloud s)
