-- A deletion at one cloud, as a line of the session.
use Rattle.std.proofs.Common.{◌≡◌, ℕ, ◌<◌, Bool, true, false, List, [], ◌∷◌, Option, Some, None, refl, sym, ap, subst, inl, inr}
use Rattle.std.specs.Prelude.{◌≢◌, IsTrue, IsOk, Result, Ok, Err}
use Rattle.std.specs.Bool.{MatchBool}
use Rattle.session_model.specs.CaontRs.Package.{tag}
use Rattle.recipe.specs.CdBase.ids.CloudNo.{CloudNo}
use Rattle.recipe.specs.CdBase.ids.Tag.{Tag}
use Rattle.recipe.specs.CdBase.ids.UserId.{UserId}
use Rattle.recipe.specs.CdBase.ids.Version.{Version}
use Rattle.recipe.specs.CdBase.shape.Shape.{Shape}
use Rattle.session_model.specs.CdEdges.Disk.{Cloud}
use Rattle.deletions.specs.Replies.{line_of}
use Rattle.deletions.specs.Messages.request.Request.{Request}
use Rattle.deletions.specs.Messages.request.Request.TheVariants as requests
use Rattle.deletions.specs.Messages.Requests.{IsRequest}
use Rattle.deletions.specs.Messages.reply.Reply.{Reply}
use Rattle.deletions.specs.Messages.reply.Reply.TheVariants as replies
use Rattle.deletions.specs.Messages.Answering.{IsReplyTo}
use Rattle.deletions.specs.Messages.Replies.{IsReply}
use Rattle.session_model.specs.UserDedup.command.Command.{Command}
use Rattle.session_model.specs.UserDedup.command.Command.TheVariants as commands
use Rattle.session_model.specs.UserDedup.file_list.FileEntry.{FileEntry}
use Rattle.session_model.specs.UserDedup.link.Lost.{Lost}
use Rattle.session_model.specs.UserDedup.Cloud.{user_view}
use Rattle.session_model.specs.UserDedup.Dedup.{FullRoom, delete_outcome, by_room, unless_full}
use Rattle.session_model.specs.UserDedup.Pages.{entry_at}
use Rattle.session_model.specs.UserDedup.Exec.{Peer, Exec, ExecTold, ExecUntold, served}
use Rattle.session_model.specs.UserDedup.Link.{Asks, LeavesOthers, exchange_of}
use Rattle.session_model.specs.UserDedup.Requests.{asked_at}
use Rattle.session_model.proofs.UserDedup.Asked.{asked_law}
use Rattle.session_model.proofs.Parts.{put}
use Rattle.session_model.specs.UploadJob.Lanes.{LaneView}
use Rattle.session_model.specs.LocalLink.link.LocalLink.{LocalLink}
use Rattle.session_model.specs.LocalLink.Tells.{is_delivered, full_at, telling, PassesOn}
use Rattle.session_model.specs.Session.event.Event.TheVariants as events
use Rattle.session_model.specs.Transcript.line.Line.{Line}
use Rattle.session_model.specs.Transcript.line.Line.TheVariants as lines
use Rattle.session_model.specs.Vault.{Setting, Vault, HasVaultExecuted}
use Rattle.session_model.specs.Steps.{IsDeleteLine}
use Rattle.script_lines.specs.At.{IsAtVault, KeepsOtherClouds}
use Rattle.script_lines.specs.Does.{Images, Goes, IsLineCut}
use Rattle.script_lines.proofs.Going.{before_exec, moves, executes, images_executed, leaves_rest, cut_behind}

-- ---- what is said of a reply

-- the reply has a line, and it is a deletion's
pub record Said (cloud : CloudNo) (reply : Reply) : Type 0 where
  pub told : Line
  pub line_is : line_of cloud reply ≡ Some told
  pub is : IsDeleteLine cloud.0 reply told

said_told : (cloud : CloudNo) (full : Command → Option FullRoom) (command : Command) (entry : Option FileEntry) → Said cloud (unless_full full (delete_outcome entry command)).reply
said_told cloud full command None = record { told = lines.Missing cloud; line_is = refl; is = refl }
said_told cloud full command (Some entry) = by_full (full command)
  where
    by_full : (room : Option FullRoom) → Said cloud (by_room (record { reply = replies.Deleted; adds = Some command }) room).reply
    by_full None = record { told = lines.Deleted cloud; line_is = refl; is = refl }
    by_full (Some f) = record { told = lines.Full cloud f.room f.used f.need f.limit; line_is = refl; is = refl }

said_untold : (cloud : CloudNo) (user : UserId) (tag : Tag) (version : Version) (reply : Reply) → IsReplyTo 0 (requests.Delete user tag version) reply → reply ≢ replies.NoMemory → Said cloud reply
said_untold cloud user tag version (replies.Hello n k c format) to some = absurd to
said_untold cloud user tag version (replies.Known flags) to some = absurd to
said_untold cloud user tag version (replies.Stored new) to some = absurd to
said_untold cloud user tag version replies.Committed to some = absurd to
said_untold cloud user tag version replies.Exists to some = absurd to
said_untold cloud user tag version (replies.Lacking place) to some = absurd to
said_untold cloud user tag version (replies.Recipe bytes) to some = absurd to
said_untold cloud user tag version replies.Missing to some = record { told = lines.Missing cloud; line_is = refl; is = refl }
said_untold cloud user tag version (replies.Shares shares) to some = absurd to
said_untold cloud user tag version (replies.NotYours place) to some = absurd to
said_untold cloud user tag version (replies.Entries entries) to some = absurd to
said_untold cloud user tag version (replies.Full room used need limit) to some = record { told = lines.Full cloud room used need limit; line_is = refl; is = refl }
said_untold cloud user tag version replies.Fault to some = record { told = lines.Fault cloud; line_is = refl; is = refl }
said_untold cloud user tag version (replies.Damaged at byte) to some = record { told = lines.Damaged cloud at byte; line_is = refl; is = refl }
said_untold cloud user tag version (replies.Rotten named found) to some = record { told = lines.Rotten cloud named found; line_is = refl; is = refl }
said_untold cloud user tag version (replies.Malformed at) to some = absurd to
said_untold cloud user tag version replies.NoMemory to some = absurd (some refl)
said_untold cloud user tag version replies.Deleted to some = record { told = lines.Deleted cloud; line_is = refl; is = refl }

said_exec : (cloud : CloudNo) (shape : Shape) (told : Bool) (full : List Command → Command → Option FullRoom) (p q : Peer) (user : UserId) (tag : Tag) (version : Version) (reply : Reply)
    → Exec shape told (served shape cloud.0 full) p (requests.Delete user tag version) reply q → Said cloud reply
said_exec cloud shape told full p q user tag version reply exec = by_told told exec.does
  where
    by_told : (b : Bool) → MatchBool b (ExecTold (served shape cloud.0 full) p (requests.Delete user tag version) reply q) (ExecUntold shape p (requests.Delete user tag version) reply q) → Said cloud reply
    by_told true (inl a) =
        subst (Said cloud) (sym a.served) (said_told cloud (full a.before) (commands.Delete user tag version) (entry_at (user_view shape a.before user).files (tag, version)))
    by_told true (inr f) = subst (Said cloud) (sym f.reply_is) (record { told = lines.Fault cloud; line_is = refl; is = refl })
    by_told false x = said_untold cloud user tag version reply x.kind x.memory

-- ---- the cloud executes it

module _ {V : Type 0} (clouds : V → ℕ → Cloud) where
  -- however the ask ended
  pub ask_leaves : (old new : LocalLink V) (cloud : ℕ) (content bytes : List ℕ) (result : Result (Unit {0}) Lost) → (telling clouds).passes old (exchange_of cloud content result bytes) new
      → KeepsOtherClouds clouds old new × (new.shelf.ghost_name ≡ old.shelf.ghost_name)
  ask_leaves old new cloud content bytes (Ok u) passes = (leaves_rest clouds old new cloud passes.reached passes.rest, passes.same_reference)
  ask_leaves old new cloud content bytes (Err e) passes = (leaves_rest clouds old new cloud passes.reached passes.rest, passes.same_reference)

  module _ (s : Setting) (user : UserId) (path : List ℕ) (version : Version) (cloud : CloudNo) where
    -- the request, by a shape
    abbrev pub asks : Shape → Request
    asks shape = requests.Delete user (record { 0 = tag shape path }) version

    -- The cloud executed the deletion, and what it replied has this line.
    pub record Deletes (old new : LocalLink V) (jobs : List (List LaneView)) (v : Vault) (bytes : List ℕ) : Type 0 where
      pub left : Peer
      pub reply : Reply
      pub exec : HasVaultExecuted s cloud.0 v.peers (asks s.shape) reply (put v.peers cloud.0 left)
      pub is_at : IsAtVault clouds s new jobs (record { peers = put v.peers cloud.0 left; jobs = v.jobs })
      pub images : Images clouds s old new (before_exec v.peers cloud.0 (asks s.shape) reply ∷ []) (put v.peers cloud.0 left)
      pub reads : IsReply bytes reply
      pub said : Said cloud reply

    heard : (old new : LocalLink V) (jobs : List (List LaneView)) (v : Vault) (content bytes : List ℕ) (u : Unit {0}) → IsAtVault clouds s old jobs v → cloud.0 < old.servers.shape.n
        → IsRequest content (asks old.servers.shape) → PassesOn clouds old (record { cloud = cloud.0; content = content; reply = Some bytes }) new → LeavesOthers (telling clouds) cloud.0 old new
        → ((r : Request) → asked_at old.servers.shape content ≡ Ok r → Asks {E = Lost} (telling clouds) cloud.0 old r bytes (Ok u) new) → Deletes old new jobs v bytes
    heard old new jobs v content bytes u is below request passes others executed =
        let r = asks s.shape in
        let p = v.peers cloud.0 in
        let lt : cloud.0 < s.shape.n = subst (λ (sh : Shape). cloud.0 < sh.n) is.link_at.shape below in
        let asked : asked_at old.servers.shape content ≡ Ok r =
        (asked_law old.servers.shape content r passes.bytes).1 (record { asked = subst (λ (sh : Shape). IsRequest content (asks sh)) is.link_at.shape request; recipe = tt }) in
        let went = executed r asked p (is.link_at.stands cloud.0 lt) in
        let reply = went.2.0 in
        record {
          left = went.0;
          reply = reply;
          exec = executes clouds s old v.peers cloud.0 r reply went.0 is.link_at lt went.2.2;
          is_at = record { link_at = moves clouds s old new v.peers cloud.0 went.0 is.link_at others passes.rest passes.rooms passes.fate went.1; jobs_are = is.jobs_are };
          images = images_executed clouds s old new v.peers cloud.0 r reply (put v.peers cloud.0 went.0) is.link_at passes.rest (λ told. passes.images p r told (is.link_at.stands cloud.0 lt) asked);
          reads = went.2.1;
          said = said_exec cloud old.servers.shape (clouds old.shelf.now cloud.0).told (full_at old.servers cloud.0) p went.0 user (record { 0 = tag s.shape path }) version reply went.2.2;
        }

    -- the link loses nothing
    pub deletes : (old new : LocalLink V) (jobs : List (List LaneView)) (v : Vault) (content bytes : List ℕ) (result : Result (Unit {0}) Lost) → IsAtVault clouds s old jobs v → cloud.0 < old.servers.shape.n
        → IsRequest content (asks old.servers.shape) → (telling clouds).passes old (exchange_of cloud.0 content result bytes) new → LeavesOthers (telling clouds) cloud.0 old new
        → ((r : Request) → asked_at old.servers.shape content ≡ Ok r → Asks {E = Lost} (telling clouds) cloud.0 old r bytes result new)
        → (IsTrue (is_delivered old.fate) → IsOk result × IsTrue (is_delivered new.fate)) → Deletes old new jobs v bytes
    deletes old new jobs v content bytes (Ok u) is below request passes others executed lossless = heard old new jobs v content bytes u is below request passes others executed
    deletes old new jobs v content bytes (Err e) is below request passes others executed lossless = absurd (let f : false ≡ true = (lossless (ap is_delivered is.link_at.fate)).0 in cc)

    pub delete_goes : (old new : LocalLink V) (jobs : List (List LaneView)) (v : Vault) (bytes : List ℕ) (d : Deletes old new jobs v bytes) (line : Line) → line ≡ d.said.told
        → Goes clouds s (events.Delete user path version cloud) old new jobs v (line ∷ [])
    delete_goes old new jobs v bytes d line same = record {
      moments = before_exec v.peers cloud.0 (asks s.shape) d.reply ∷ [];
      after = record { peers = put v.peers cloud.0 d.left; jobs = v.jobs };
      is_at = d.is_at;
      step = ((d.reply, line, d.exec, subst (IsDeleteLine cloud.0 d.reply) (sym same) d.said.is, refl, refl), refl);
      images = d.images;
    }

    -- the text of the line found no memory
    pub delete_cut : (old new : LocalLink V) (jobs : List (List LaneView)) (v : Vault) (bytes : List ℕ) → Deletes old new jobs v bytes → IsLineCut clouds s (events.Delete user path version cloud) old new v
    delete_cut old new jobs v bytes d =
        cut_behind clouds s (events.Delete user path version cloud) old new jobs v (d.said.told ∷ []) (delete_goes old new jobs v bytes d d.said.told refl)
