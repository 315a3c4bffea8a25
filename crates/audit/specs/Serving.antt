-- What each user has of a list of commands, as a law of audits speaks of it.
use Rattle.std.specs.Prelude.{ℕ, List, option_map}
use Rattle.share_server.specs.CdBase.shape.Shape.{Shape}
use Rattle.share_server.specs.UserDedup.command.Command.{Command}
use Rattle.share_server.specs.UserDedup.file_list.FileEntry.{FileEntry}
use Rattle.share_server.specs.UserDedup.Cloud.{user_view, held_bytes}
use Rattle.share_server.specs.UserDedup.Pages.{entry_at}
use Rattle.blob_audit.specs.CloudMemory.Memory.{uses_of}
use Rattle.blob_audit.specs.AuditBase.Served.{Views}

abbrev pub views_of : Shape → List Command → Views
views_of shape list = record {
  own = λ user. (user_view shape list user).own;
  uses = λ user fp. uses_of shape (user_view shape list user).files fp;
  recipe = λ user tag version. option_map (λ (e : FileEntry). e.recipe) (entry_at (user_view shape list user).files (tag, version));
  held = held_bytes list;
}
