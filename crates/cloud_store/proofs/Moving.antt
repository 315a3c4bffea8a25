-- What is to be added to a store is to be added to it once room was made.
use Rattle.std.proofs.Common.{◌≡◌, ℕ, List, [], ◌∷◌, ◌++◌, Some, Result, Ok, Err, sym, ap, subst}
use Rattle.std.specs.Prelude.{OnOk}
use Rattle.recipe.specs.CdBase.ids.Fp.{Fp}
use Rattle.recipe.specs.CdBase.ids.Tag.{Tag}
use Rattle.recipe.specs.CdBase.ids.UserId.{UserId}
use Rattle.recipe.specs.CdBase.ids.Version.{Version}
use Rattle.checkpoints.specs.CdEdges.Disk.{Cloud}
use Rattle.checkpoints.specs.ContainerLog.Places.{place_of}
use Rattle.checkpoints.specs.ContainerLog.States as logs
use Rattle.checkpoints.specs.JournalStart.start.Header.{Header}
use Rattle.checkpoints.specs.RecordBody.Spelling as bodies
use Rattle.checkpoints.specs.UserDedup.file_list.FileEntry.{FileEntry}
use Rattle.checkpoints.specs.UserDedup.Pages.{entry_at}
use Rattle.checkpoints.specs.UserDedup.Requests.{fps_of}
use Rattle.checkpoints.specs.UserDedup.command.Command.{Command}
use Rattle.checkpoints.specs.UserDedup.command.Command.TheVariants as asked
use Rattle.checkpoints.specs.UserDedup.Dedup.{IsSound}
use Rattle.checkpoints.specs.UserDedup.Cloud.{user_view}
use Rattle.checkpoints.specs.CloudAreas.Standing.{Chain}
use Rattle.checkpoints.specs.CloudDisk.Disk.{Stages, shares_laid}
use Rattle.checkpoints.specs.CloudMemory.cloud.CloudMemory.{CloudMemory}
use Rattle.checkpoints.specs.CloudMemory.rooms.New.{New}
use Rattle.checkpoints.specs.CloudMemory.Rooms.{memory_of}
use Rattle.checkpoints.specs.CloudMemory.Steps.{parts_of}
use Rattle.cloud_store.specs.declared.store.CloudStore.{CloudStore}
use Rattle.cloud_store.specs.Store.{Serves, KeepsServing}
use Rattle.cloud_store.specs.Adding.{IsPut, IsCommit, IsDelete}

-- facts of an answer of Ok
pub all_ok : {T E A B C D : Type 0} (r : Result T E) → OnOk r A → OnOk r B → OnOk r C → (A → B → C → D) → OnOk r D
all_ok (Ok v) a b c f = f a b c
all_ok (Err e) a b c f = tt

module _ (list : List Command) where
  abbrev IsSoundWith : Header → Command → Type 0
  IsSoundWith h command = IsSound h.shape h.cloud.0 (list ++ command ∷ [])

module _ (list : List Command) (c d : Chain) (old mid : CloudStore) (c0 c1 : Cloud) (keeps : KeepsServing old mid) (serves : Serves list d mid c1) where
  header_is : mid.header ≡ old.header
  header_is = ap (λ (s : CloudStore). s.header) keeps.same

  memory_is : mid.memory ≡ old.memory
  memory_is = ap (λ (s : CloudStore). s.memory) keeps.same

  pub put_moved : (user : UserId) (news : List New) (strings : List (List ℕ)) → IsPut list c old user news strings c0 → IsPut list d mid user news strings c1
  put_moved user news strings p = record {
    serves = serves;
    sound = subst (λ (h : Header). IsSoundWith list h (asked.Put user strings)) (sym header_is) p.sound;
    are_of = p.are_of;
    shares =
        subst (λ (l : logs.State). Stages l (shares_laid list (asked.Put user strings) (bodies.Put user (parts_of user (memory_of mid.memory) news)))) (sym keeps.shares)
        (subst (λ (m : CloudMemory). Stages old.disk.shares (shares_laid list (asked.Put user strings) (bodies.Put user (parts_of user (memory_of m) news)))) (sym memory_is) p.shares);
    recipes = subst (λ (l : logs.State). Stages l []) (sym keeps.recipes) p.recipes;
  }

  pub commit_moved : (user : UserId) (tag : Tag) (version : Version) (fp : Fp) (len : ℕ) (names : List Fp) (recipe : List ℕ)
      → IsCommit list c old user tag version fp len names recipe c0 → IsCommit list d mid user tag version fp len names recipe c1
  commit_moved user tag version fp len names recipe p = record {
    serves = serves;
    sound = subst (λ (h : Header). IsSoundWith list h (asked.Commit user tag version recipe)) (sym header_is) p.sound;
    fp_is = p.fp_is;
    len_is = p.len_is;
    names_are = subst (λ (h : Header). fps_of h.shape recipe ≡ names) (sym header_is) p.names_are;
    shares = subst (λ (l : logs.State). Stages l []) (sym keeps.shares) p.shares;
    recipes =
        subst (λ (l : logs.State). Stages l (record { place = place_of mid.memory.recipes_end len; blob = recipe } ∷ [])) (sym keeps.recipes)
        (subst (λ (m : CloudMemory). Stages old.disk.recipes (record { place = place_of m.recipes_end len; blob = recipe } ∷ [])) (sym memory_is) p.recipes);
  }

  pub delete_moved : (user : UserId) (tag : Tag) (version : Version) (entry : FileEntry) (recipe : List ℕ)
      → IsDelete list c old user tag version entry recipe c0 → IsDelete list d mid user tag version entry recipe c1
  delete_moved user tag version entry recipe p = record {
    serves = serves;
    sound = subst (λ (h : Header). IsSoundWith list h (asked.Delete user tag version)) (sym header_is) p.sound;
    there = subst (λ (h : Header). entry_at (user_view h.shape list user).files (tag, version) ≡ Some entry) (sym header_is) p.there;
    recipe_is = p.recipe_is;
    shares = subst (λ (l : logs.State). Stages l []) (sym keeps.shares) p.shares;
    recipes = subst (λ (l : logs.State). Stages l []) (sym keeps.recipes) p.recipes;
  }
