-- What a Delete does, by a list that the store serves.
use Rattle.std.proofs.Common.{◌≡◌, ℕ, List, Option, Some, None, refl, ap}
use Rattle.server_reads.specs.CdBase.ids.Tag.{Tag}
use Rattle.server_reads.specs.CdBase.ids.UserId.{UserId}
use Rattle.server_reads.specs.CdBase.ids.Version.{Version}
use Rattle.server_reads.specs.CdBase.shape.Shape.{Shape}
use Rattle.server_reads.specs.CdEdges.Disk.{Cloud}
use Rattle.cloud_store.specs.JournalStart.rooms.UserRooms.{UserRooms}
use Rattle.server_reads.specs.Messages.request.Request.TheVariants as requests
use Rattle.server_reads.specs.Messages.reply.Reply.TheVariants as replies
use Rattle.server_reads.specs.Messages.Requests.{FitsRequest}
use Rattle.server_reads.specs.UserDedup.command.Command.{Command}
use Rattle.server_reads.specs.UserDedup.command.Command.TheVariants as commands
use Rattle.server_reads.specs.UserDedup.file_list.FileEntry.{FileEntry}
use Rattle.server_reads.specs.UserDedup.Cloud.{user_view}
use Rattle.server_reads.specs.UserDedup.Dedup.{Outcome, only, delete_outcome, answer_over, Added}
use Rattle.server_reads.specs.UserDedup.Pages.{entry_at}
use Rattle.server_reads.specs.UserDedup.Spending.{full_for}
use Rattle.cloud_store.specs.CloudAreas.Standing.{Chain}
use Rattle.cloud_store.proofs.DiskProofs.Standing.{none_staged}
use Rattle.cloud_store.specs.declared.store.CloudStore.{CloudStore}
use Rattle.cloud_store.specs.Store.{Serves}
use Rattle.cloud_store.specs.Adding.{NoneStaged, IsDelete}
use Rattle.server_commands.specs.Serving.{serves}
use Rattle.server_commands.proofs.Doing.{served_only, served_added, adding}

-- ---- outcomes

no_room : (shape : Shape) (rooms : UserRooms) (list : List Command) (user : UserId) (tag : Tag) (version : Version) → full_for shape rooms list (commands.Delete user tag version) ≡ None
unfolding full_for
no_room shape rooms list user tag version = refl

module _ (s : CloudStore) (list : List Command) (user : UserId) (tag : Tag) (version : Version) where
  abbrev command : Command
  command = commands.Delete user tag version

  answers : (o : Option FileEntry) → entry_at (user_view s.header.shape list user).files (tag, version) ≡ o
      → answer_over s.header.shape s.header.cloud.0 list (requests.Delete user tag version) ≡ delete_outcome o command
  answers o at = ap (λ (e : Option FileEntry). delete_outcome e command) at

  pub missing_served : entry_at (user_view s.header.shape list user).files (tag, version) ≡ None → serves s list (requests.Delete user tag version) ≡ only replies.Missing
  missing_served at = served_only (full_for s.header.shape s.header.rooms list) _ replies.Missing (answers None at)

  pub deleted_served : (file : FileEntry) → entry_at (user_view s.header.shape list user).files (tag, version) ≡ Some file
      → serves s list (requests.Delete user tag version) ≡ adding replies.Deleted command
  deleted_served file at = served_added (full_for s.header.shape s.header.rooms list) _ replies.Deleted command (answers (Some file) at) (no_room s.header.shape s.header.rooms list user tag version)

  pub is_delete : (c : Chain) (cloud : Cloud) (file : FileEntry) (recipe : List ℕ) → Serves list c s cloud → FitsRequest (requests.Delete user tag version)
      → entry_at (user_view s.header.shape list user).files (tag, version) ≡ Some file → file.recipe ≡ recipe → NoneStaged s → IsDelete list c s user tag version file recipe cloud
  is_delete c cloud file recipe is fits at same none = record {
    serves = is;
    sound = Added list (requests.Delete user tag version) command is.known.on.read.sound fits tt (ap (λ (o : Outcome). o.adds) (answers (Some file) at));
    there = at;
    recipe_is = same;
    shares = none_staged s.disk.shares none.shares;
    recipes = none_staged s.disk.recipes none.recipes;
  }
