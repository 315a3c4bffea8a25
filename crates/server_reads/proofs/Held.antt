-- Where the shares and recipes of a list lie that a memory remembers.
use Rattle.std.proofs.Common.{◌≡◌, ℕ, ◌≤◌, List, [], ◌∷◌, length, map, Option, Some, None, true, false, refl, sym, ap, ◌∙◌, subst, arith, inl, inr}
use Rattle.std.specs.Prelude.{is_some, option_map, unwrap_or}
use Rattle.std.specs.List.{Contains}
use Rattle.std.specs.FinMap.{get}
use Rattle.std.proofs.lemmas.List.Elements.{All-contains}
use Rattle.cloud_memory.specs.CdBase.ids.Fp.{Fp}
use Rattle.cloud_memory.specs.CdBase.ids.Tag.{Tag}
use Rattle.cloud_memory.specs.CdBase.ids.UserId.{UserId}
use Rattle.cloud_memory.specs.CdBase.ids.Version.{Version}
use Rattle.cloud_memory.specs.CdBase.place.Place.{Place}
use Rattle.cloud_memory.specs.CdBase.shape.Shape.{Shape}
use Rattle.cd_edges.specs.declared.area.Area.TheVariants.{Shares}
use Rattle.cd_edges.specs.Disk.{Image}
use Rattle.cloud_memory.specs.ContainerLog.Laying.{IsAt}
use Rattle.cloud_memory.specs.FileIndex.key.Entry.{Entry}
use Rattle.cloud_memory.specs.FileIndex.Files.{key_of}
use Rattle.messages.specs.MessageFields.Shares.{IsShare}
use Rattle.cloud_memory.specs.UserDedup.command.Command.{Command}
use Rattle.cloud_memory.specs.UserDedup.file_list.FileEntry.{FileEntry}
use Rattle.cloud_memory.specs.UserDedup.Cloud.{fingerprint, user_view, strings_in, held_string, held_bytes}
use Rattle.cloud_memory.specs.UserDedup.Pages.{entry_at}
use Rattle.cloud_memory.specs.UserDedup.Dedup.{IsSound}
use Rattle.cloud_memory.proofs.UserDedup.Owned.{contains_here, contains_later, contains_nothing, contains_cases}
use Rattle.cloud_memory.proofs.UserDedup.Views.{held_is, owned_is_held}
use Rattle.cloud_memory.proofs.UserDedup.Sound.{found_entry}
use Rattle.cloud_memory.specs.Memory.{Memory, Remembers, Stand, summary, summary_of}
use Rattle.server_reads.specs.Found.{EntryStands}
use Rattle.server_reads.specs.Steps.{KeepsRemembered}
use Rattle.server_reads.proofs.Sound.{strings_fit, recipes_fit}

-- ---- shares

-- the string that is held for a fingerprint, and where it lies
pub record HeldAt (image : Image) (list : List Command) (m : Memory) (fp : Fp) : Type 0 where
  pub place : Place
  pub found : get m.places fp.0 ≡ Some place
  pub string : List ℕ
  pub held : held_string list fp ≡ Some string
  pub long : length string ≡ place.len
  pub share : IsShare string
  pub named : fingerprint string ≡ fp
  pub lies : IsAt (image Shares) (record { place = place.at; blob = string })

share_of : (shape : Shape) (number : ℕ) (list : List Command) (fp : Fp) (s : List ℕ) → IsSound shape number list → held_string list fp ≡ Some s → IsShare s
share_of shape number list fp s sound held = All-contains IsShare (strings_in list) s (strings_fit shape number list sound) (held_is list fp s held).1

named_among : (strings : List (List ℕ)) (s : List ℕ) → Contains strings s → Contains (map fingerprint strings) (fingerprint s)
named_among [] s c = absurd (contains_nothing s c)
named_among (x ∷ strings) s c =
    elim (contains_cases x strings s c) [
      | inl same ↦ subst (λ (y : List ℕ). Contains (map fingerprint (x ∷ strings)) (fingerprint y)) same (contains_here (fingerprint x) (map fingerprint strings))
      | inr later ↦ contains_later (fingerprint x) (map fingerprint strings) (fingerprint s) (named_among strings s later)
    ]

pub held_at : (image : Image) (shape : Shape) (number : ℕ) (list : List Command) (m : Memory) (user : UserId) (fp : Fp) → KeepsRemembered image shape number list m
    → Contains (user_view shape list user).own fp → HeldAt image list m fp
held_at image shape number list m user fp k c = by_place (get m.places fp.0) refl
  where
    owned : (s : List ℕ) × (held_string list fp ≡ Some s) × (fingerprint s ≡ fp)
    owned = owned_is_held shape list user fp c

    there : Contains (map fingerprint (strings_in list)) fp
    there = subst (Contains (map fingerprint (strings_in list))) owned.2 (named_among (strings_in list) owned.0 (held_is list fp owned.0 owned.1).1)

    bytes : held_bytes list fp ≡ owned.0
    bytes = ap (λ (o : Option (List ℕ)). unwrap_or o []) owned.1

    by_place : (o : Option Place) → get m.places fp.0 ≡ o → HeldAt image list m fp
    by_place None e = absurd (let wrong : false ≡ true = ap (λ (o : Option Place). is_some o) (sym e) ∙ (k.remembers.placed fp).1 there in cc)
    by_place (Some place) e = record {
      place = place;
      found = e;
      string = owned.0;
      held = owned.1;
      long = ap length (sym bytes) ∙ sym (k.remembers.lens fp place e);
      share = share_of shape number list fp owned.0 k.sound owned.1;
      named = owned.2;
      lies = subst (λ (b : List ℕ). IsAt (image Shares) (record { place = place.at; blob = b })) bytes (k.stands.strings fp place e);
    }

-- ---- recipes

pub entry_stands : (recipes : List ℕ) (shape : Shape) (number : ℕ) (list : List Command) (m : Memory) (user : UserId) (tag : Tag) (version : Version) (entry : Entry)
    → (shares : List ℕ) → IsSound shape number list → Remembers shape list m → Stand shape shares recipes list m → get m.files (key_of user.0 tag.0 version.0) ≡ Some entry
    → EntryStands recipes (user_view shape list user).files (tag, version) entry
entry_stands recipes shape number list m user tag version entry shares sound remembers stands e = by_file (entry_at files (tag, version)) refl
  where
    files : List FileEntry
    files = (user_view shape list user).files

    tied : Some (summary entry) ≡ option_map summary_of (entry_at files (tag, version))
    tied = ap (option_map summary) (sym e) ∙ remembers.files user tag version

    by_file : (o : Option FileEntry) → entry_at files (tag, version) ≡ o → EntryStands recipes files (tag, version) entry
    by_file None at = absurd (let no : Some (summary entry) ≡ None = tied ∙ ap (option_map summary_of) at in cc)
    by_file (Some file) at =
        let alike : Some (summary entry) ≡ Some (summary_of file) = tied ∙ ap (option_map summary_of) at in
        let same : summary entry ≡ summary_of file = cc in
        let long : length file.recipe ≡ entry.len = sym (ap (λ (p : ℕ × Fp). p.0) same) in
        let small = recipes_fit shape number list sound user file (found_entry files (tag, version) file at).1 in
        let some : 1 ≤ length file.recipe = small.0 in
        let few : length file.recipe ≤ 1180190 = small.1 in
        record {
          file = file;
          here = at;
          some = omega arith;
          few = omega arith;
          long = long;
          named = sym (ap (λ (p : ℕ × Fp). p.1) same);
          lies = stands.entries user (tag, version) entry file e at;
        }

pub none_there : (shape : Shape) (list : List Command) (m : Memory) (user : UserId) (tag : Tag) (version : Version) → Remembers shape list m
    → get m.files (key_of user.0 tag.0 version.0) ≡ None → entry_at (user_view shape list user).files (tag, version) ≡ None
none_there shape list m user tag version r e = by_file (entry_at files (tag, version)) refl
  where
    files : List FileEntry
    files = (user_view shape list user).files

    by_file : (o : Option FileEntry) → entry_at files (tag, version) ≡ o → entry_at files (tag, version) ≡ None
    by_file None at = at
    by_file (Some file) at =
        absurd (let no : option_map summary None ≡ Some (summary_of file) = ap (option_map summary) (sym e) ∙ r.files user tag version ∙ ap (option_map summary_of) at in cc)
