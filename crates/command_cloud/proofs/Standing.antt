-- What an opening says of a cloud that stays from then on.
use Rattle.std.proofs.Common.{◌≡◌, ℕ, false, List, [], ◌∷◌, ◌++◌, sym, ap, ◌∙◌, subst}
use Rattle.backup_command.specs.CdBase.ids.CloudNo.{CloudNo}
use Rattle.backup_command.specs.CdBase.shape.Shape.{Shape}
use Rattle.backup_command.specs.CdEdges.Causes.{Rose}
use Rattle.backup_command.specs.CdEdges.area.Area.TheVariants.{Recipes}
use Rattle.backup_command.specs.CdEdges.Disk.{Areas, Cloud, Image, LeavesOnly, SomeLeaves, reads}
use Rattle.backup_command.specs.CdEdges.Shelf.{IsCall, HasFailed, KeepsCounts, Stays}
use Rattle.serve_command.specs.CloudMemory.Memory.{Memory}
use Rattle.serve_command.specs.ShareServer.Names.{header_of}
use Rattle.serve_command.specs.ShareServer.Serving.{number_of, some_commands}
use Rattle.serve_command.specs.ShareServer.server.Server.{Server}
use Rattle.serve_command.specs.CloudOpening.Spared.{Spares}
use Rattle.cloud_opening.specs.Synced.{AreSynced, BeginsSynced, IsAreaSynced}
use Rattle.cloud_opening.specs.CommitJournal.Openings.{MayBeBegun}
use Rattle.cloud_opening.specs.JournalStart.rooms.UserRooms.{UserRooms}
use Rattle.cloud_opening.specs.JournalStart.start.Header.{Header}
use Rattle.cloud_opening.specs.UserDedup.command.Command.{Command}
use Rattle.command_cloud.specs.Opened.{CloudCall, IsOpenedIn, IsUnchanged, StandsWithin, cloud_call}

module _ (old mid new : Cloud) (stays : Stays mid new) where
  -- each image since
  leaves_still : (P : Image → Type 0) → LeavesOnly old mid P → LeavesOnly old new P
  leaves_still P run = record {
    since = run.since;
    past = stays.past ∙ run.past;
    each = subst (λ (n : Areas). (image : Image) → SomeLeaves (run.since ++ n ∷ []) image → P image) (sym stays.now) run.each;
  }

  synced_still : AreSynced old mid → AreSynced old new
  synced_still a = record {
    first = a.first;
    second = a.second;
    past = stays.past ∙ a.past;
    journal = a.journal;
    shares = a.shares;
    recipes = subst (λ (n : Areas). IsAreaSynced Recipes a.second n) (sym stays.now) a.recipes;
  }

  begins_still : BeginsSynced old mid → BeginsSynced old new
  begins_still b = record { synced = b.synced; first = b.first; since = b.since; past = stays.past ∙ b.past }

  pub spared_still : (header : Header) (commands : ℕ) → Spares header false old mid (some_commands commands)
      → Spares header false old new (some_commands commands)
  spared_still header commands s = record {
    any_moment = leaves_still (MayBeBegun old.now header false) s.any_moment;
    still_read = subst (λ (n : Areas). MayBeBegun old.now header false (reads n)) (sym stays.now) s.still_read;
    synced = begins_still s.synced;
    begun_stays = λ begun. synced_still (s.begun_stays begun);
    unasked = λ is. synced_still (s.unasked is);
  }

-- the same cloud before, whatever comes behind
pub stands_still : (shape : Shape) (cloud : CloudNo) (old mid new : Cloud) (before middle now : ℕ) (own : UserRooms) (list : List Command)
    → StandsWithin (cloud_call shape cloud old new before now) own list → StandsWithin (cloud_call shape cloud old mid before middle) own list
stands_still shape cloud old mid new before middle now own list s = record {
  told = s.told;
  begun = s.begun;
  stands = s.stands;
  within = s.within;
}

pub opened_still : (shape : Shape) (cloud : CloudNo) (old mid new : Cloud) (before middle now : ℕ) (rooms : UserRooms) (memory : Memory)
    → Stays mid new → IsOpenedIn rooms memory (cloud_call shape cloud old mid before middle)
    → IsOpenedIn rooms memory (cloud_call shape cloud old new before now)
opened_still shape cloud old mid new before middle now rooms memory stays o = record {
  allowed = o.allowed;
  found = o.found;
  commands = o.commands;
  exact = o.exact;
  begun = o.begun;
  spared = λ told. spared_still old mid new stays _ o.commands (o.spared told);
  own_rooms = λ own list s. o.own_rooms own list (stands_still shape cloud old mid new before middle now own list s);
  of_list = λ own list s. o.of_list own list (stands_still shape cloud old mid new before middle now own list s);
}

-- counts from before the opening, in which none rose
pub kept_since : (old mid new : Cloud) (before middle now : ℕ) → KeepsCounts old mid before middle → KeepsCounts mid new middle now
    → KeepsCounts old new before now
kept_since old mid new before middle now still k =
    record { cloud = k.cloud ∙ still.cloud; total = k.total ∙ still.total }

pub failed_since : (old mid new : Cloud) (before middle now : ℕ) → KeepsCounts old mid before middle → HasFailed mid new middle now
    → HasFailed old new before now
failed_since old mid new before middle now still f = record {
  cloud = subst (λ (n : ℕ). Rose n new.faults) still.cloud f.cloud;
  total = subst (λ (n : ℕ). Rose n now) still.total f.total;
}

-- a cloud that nothing changed stays
pub untouched_stays : (call : CloudCall) → IsUnchanged call → Stays call.old call.new
untouched_stays call u = record {
  armed = ap (λ (k : Cloud). k.armed) u.cloud_is;
  past = ap (λ (k : Cloud). k.past) u.cloud_is;
  now = ap (λ (k : Cloud). k.now) u.cloud_is;
}

-- the same by the number of the cloud that the server has
pub call_at : (rooms : UserRooms) (server : Server) (shape : Shape) (cloud : CloudNo) (old new : ℕ → Cloud) (before now : ℕ)
    → server.store.header ≡ header_of shape rooms cloud.0 → IsCall old new (number_of server) before now → IsCall old new cloud.0 before now
call_at rooms server shape cloud old new before now is call = subst (λ (h : Header). IsCall old new h.cloud.0 before now) is call
