-- A session before its clouds are opened, and as they are.
use Rattle.std.proofs.Common.{◌≡◌, ℕ, ◌<◌, ◌≤◌, false, List, [], ◌∷◌, refl, sym, ap, ◌∙◌, subst, inl, inr, ◌⊎◌}
use Rattle.std.specs.Prelude.{Option, Some, None}
use Rattle.std.specs.Io.KnownBytes.{Appends}
use Rattle.std.proofs.lemmas.Bool.{cases_lt}
use Rattle.share_server.specs.CdBase.shape.Shape.{Shape}
use Rattle.share_server.specs.JournalStart.start.Header.{Header}
use Rattle.share_server.specs.CdEdges.Disk.{Cloud}
use Rattle.share_server.proofs.CdEdges.Moments.{weaker, at_end, each_since}
use Rattle.share_server.specs.CloudAreas.Peers.{StandsForSome}
use Rattle.script_lines.specs.LocalLink.link.LocalLink.{LocalLink}
use Rattle.script_lines.specs.LocalLink.Calls.{no_commands}
use Rattle.share_server.specs.declared.server.Server.{Server}
use Rattle.script_lines.specs.LocalLink.fate.Fate.TheVariants.{Deliver}
use Rattle.script_lines.specs.LocalLink.servers.Servers.{Servers}
use Rattle.script_lines.specs.LocalLink.Steps.{IsClosedIn}
use Rattle.script_lines.specs.LocalLink.Tells as tells
use Rattle.script_lines.specs.LocalLink.Tells.{server_at, rooms_of, StandsAt}
use Rattle.script_lines.proofs.OfLocalLink.Standing.{some_server}
use Rattle.two_worlds.specs.Session.Lines.{ReaderState}
use Rattle.two_worlds.specs.Transcript.line.Line.TheVariants as lines
use Rattle.two_worlds.specs.Session.Scripts.{ScriptPlace, Begins, Reaches}
use Rattle.two_worlds.specs.Session.Texts.{text_of}
use Rattle.script_lines.specs.SessionModel.Vault.{Setting, opening}
use Rattle.script_lines.specs.SessionModel.Run.{IsListIn}
use Rattle.script_lines.specs.SessionModel.Headline.{Session, IsRun}
use Rattle.script_lines.proofs.SessionModel.Faults.{faults_rose}
use Rattle.two_worlds.proofs.Two.{two_worlds}
use Rattle.script_lines.specs.At.{header_in}
use Rattle.script_lines.proofs.Going.{header_is}
use Rattle.replay_core.specs.Opening.{IsEmpty, IsThere, IsHead, Prepares, PreparesAll, OpensClouds}
use Rattle.replay_core.specs.Replayed.{Replayed}
use Rattle.replay_core.specs.Going.{ReplayStart, IsReplayReady, HasCome}
use Rattle.replay_core.proofs.Sessions.{map_told}
use Rattle.replay_core.proofs.Whole.{Laws, arms_by}

-- no cloud is opened, and no line was carried out
abbrev pub unopened_of : Setting → (ℕ → Cloud) → Session
unopened_of s old =
    record { setting = s; opened = false; history = []; between = opening old; begun = None; last = λ cloud. no_commands (old cloud) }

pub replayed_unopened : Laws → (status : ℕ) (start : ReplayStart) (s : Setting) (new : ℕ → Cloud) → (status ≡ 0 → ⊥) → ((cloud : ℕ) → s.told cloud ≡ (start.old cloud).told)
    → PreparesAll (header_in s) s.shape start.old new → Replayed status start.old new (unopened_of s start.old)
replayed_unopened laws status start s new some told prepares = record {
  told_so = told;
  carried = run;
  counts = λ cloud lt. let p = prepares.each cloud lt in record { faults = p.later; armings = sym p.armings; same = λ e. absurd (some e) };
  arms = arms_by start.old new (unopened_of s start.old) run (λ cloud lt. sym (prepares.each cloud lt).armings) prepares.others;
  others = prepares.others;
  given = laws.given start.old (unopened_of s start.old) run;
  more = laws.more start.old (unopened_of s start.old) run;
  kept = laws.kept start.old new (unopened_of s start.old) run;
  disks = λ empty cloud lt t.
      let since = (prepares.each cloud lt).images (sym (told cloud) ∙ t) (λ image area is. empty cloud image area (sym (told cloud) ∙ t) is) in
      record {
        now = λ image is. let x = at_end (start.old cloud) (new cloud) (StandsForSome (header_in s cloud) (λ list. list ≡ [])) since image is in (x.0, inl x.1, x.2);
        each = λ image is. let x = each_since (start.old cloud) (new cloud) (StandsForSome (header_in s cloud) (λ list. list ≡ [])) since image is in (x.0, inl (inl x.1), x.2);
      };
  reads_so = λ e. absurd (some e);
  private = laws.private start.old (unopened_of s start.old) run;
  faults = faults_rose start.old (unopened_of s start.old) run;
  worlds = two_worlds start.old (unopened_of s start.old);
}
  where
    run : IsRun start.old (unopened_of s start.old)
    run = record { unopened = λ e. (refl, refl); lines = tt; answered = refl; begun = refl }

-- ---- the link

pub ready_by : {V : Type 0} (clouds : V → ℕ → Cloud) (start : ReplayStart) (s : Setting) (link : LocalLink V) (servers : Servers) (shelf : V) (reader : ReaderState) (left : Option (List ℕ))
    (source : ℕ) (written : Option (List ℕ)) (sink : ℕ) → ((cloud : ℕ) → s.told cloud ≡ (start.old cloud).told) → link.servers ≡ servers → servers.shape ≡ s.shape
    → ((cloud : ℕ) (server : Server) → server_at servers cloud ≡ Some server → IsClosedIn s.rooms server) → link.fate ≡ Deliver → link.shelf.now ≡ shelf
    → ((cloud : ℕ) → clouds shelf cloud ≡ start.old cloud) → ((cloud : ℕ) → cloud < s.shape.n → IsEmpty (start.old cloud)) → IsHead start.script s.shape s.rooms reader left
    → source ≡ start.source → written ≡ start.written → sink ≡ start.sink → IsReplayReady clouds start s link reader left source written sink
ready_by {V} clouds start s link servers shelf reader left source written sink told of shape closed fate shelf_is same empty head from wrote sank = record {
  told = told;
  shape = ap (λ (sv : Servers). sv.shape) of ∙ shape;
  rooms = λ cloud lt.
      let here = some_server servers cloud (subst (λ (sh : Shape). cloud < sh.n) (sym shape) lt) in
      let rooms = (closed cloud here.0 here.1).rooms_are in
      ap (λ (sv : Servers). rooms_of (server_at sv cloud)) of ∙ ap rooms_of here.1 ∙ rooms;
  fate = fate;
  same = λ cloud. ap (λ (sh : V). clouds sh cloud) shelf_is ∙ same cloud;
  empty = λ cloud area lt told. empty cloud lt told area;
  read = head;
  source_is = from;
  sink_is = sank;
  written_is = wrote;
}

module _ {V : Type 0} (clouds : V → ℕ → Cloud) (laws : Laws) (start : ReplayStart) (s : Setting) (old : LocalLink V) (reader : ReaderState) (left : Option (List ℕ)) (source : ℕ)
    (written : Option (List ℕ)) (sink : ℕ) (ready : IsReplayReady clouds start s old reader left source written sink) where
  pub same_all : clouds old.shelf.now ≡ start.old
  same_all = λ i cloud. ready.same cloud i

  pub header_ready : (cloud : ℕ) → cloud < s.shape.n → tells.header_at old.servers cloud ≡ header_in s cloud
  header_ready cloud lt = header_is old.servers s cloud ready.shape (ready.rooms cloud lt)

  pub below : (cloud : ℕ) → cloud < s.shape.n → cloud < old.servers.shape.n
  below cloud lt = subst (λ (sh : Shape). cloud < sh.n) (sym ready.shape) lt

  past : (cloud : ℕ) → s.shape.n ≤ cloud → old.servers.shape.n ≤ cloud
  past cloud le = subst (λ (sh : Shape). sh.n ≤ cloud) (sym ready.shape) le

  prepares_ready : (new : ℕ → Cloud) (cloud : ℕ) → cloud < s.shape.n → Prepares (tells.header_at old.servers cloud) (clouds old.shelf.now cloud) (new cloud)
      → Prepares (header_in s cloud) (start.old cloud) (new cloud)
  prepares_ready new cloud lt is =
      subst (λ (c : Cloud). Prepares (header_in s cloud) c (new cloud)) (ready.same cloud)
      (subst (λ (h : Header). Prepares h (clouds old.shelf.now cloud) (new cloud)) (header_ready cloud lt) is)

  pub all_ready : (new : ℕ → Cloud) → PreparesAll (tells.header_at old.servers) old.servers.shape (clouds old.shelf.now) new → PreparesAll (header_in s) s.shape start.old new
  all_ready new prepares = record {
    each = λ cloud lt. prepares_ready new cloud lt (prepares.each cloud (below cloud lt));
    others = λ cloud le. prepares.others cloud (past cloud le) ∙ ready.same cloud;
  }

  module _ (new : LocalLink V) (to : OpensClouds clouds old new old.servers.shape.n) where
    pub prepares_at : (cloud : ℕ) → cloud < s.shape.n → Prepares (header_in s cloud) (start.old cloud) (clouds new.shelf.now cloud)
    prepares_at cloud lt = prepares_ready (clouds new.shelf.now) cloud lt (to.prepares cloud (below cloud lt))

    pub waits_at : (cloud : ℕ) → s.shape.n ≤ cloud → clouds new.shelf.now cloud ≡ start.old cloud
    waits_at cloud le = to.clouds_wait cloud (past cloud le) ∙ ready.same cloud

    pub told_at : (cloud : ℕ) → (cloud < s.shape.n) ⊎ (s.shape.n ≤ cloud) → (clouds new.shelf.now cloud).told ≡ (start.old cloud).told
    told_at cloud (inl lt) = (prepares_at cloud lt).told
    told_at cloud (inr le) = ap (λ (c : Cloud). c.told) (waits_at cloud le)

    -- all clouds are opened, and this is written
    abbrev pub come_first : (written_now : Option (List ℕ)) (sink_now : ℕ) → sink_now ≡ sink → Appends written written_now (text_of (lines.Opened s.shape ∷ []))
        → HasCome clouds start s new [] reader left source written_now sink_now 0
    come_first written_now sink_now same wrote = record {
      history = [];
      at = opening start.old;
      told = ready.told;
      began = ready.empty;
      count = refl;
      is_at = record {
        link_at = record {
          shape = to.shape ∙ ready.shape;
          told = λ cloud. told_at cloud (cases_lt cloud s.shape.n) ∙ sym (ready.told cloud);
          rooms = λ cloud lt. to.rooms cloud ∙ ready.rooms cloud lt;
          fate = to.fate ∙ ready.fate;
          stands = λ cloud lt. subst (λ (c : Cloud). StandsAt clouds new cloud (no_commands c)) (ready.same cloud) (to.stands cloud (below cloud lt));
        };
        jobs_are = refl;
      };
      turns = refl;
      are_lines = tt;
      uploads = refl;
      images = λ empty cloud lt told.
          weaker (start.old cloud) (clouds new.shelf.now cloud) (StandsForSome (header_in s cloud) (λ list. list ≡ []))
          (StandsForSome (header_in s cloud) (IsListIn s cloud [] (opening start.old).peers))
          ((prepares_at cloud lt).images (sym (ready.told cloud) ∙ told) (λ image area is. empty cloud image area (sym (ready.told cloud) ∙ told) is))
          (λ image x. (x.0, inl (inl x.1), x.2));
      others = waits_at;
      read = map_told start.script (λ (script : List ℕ). (place : ScriptPlace) × Begins script s.shape s.rooms place × IsThere reader left 0 place)
          (λ (script : List ℕ). (place : ScriptPlace) × Reaches script s.shape s.rooms [] place × IsThere reader left 0 place)
          (λ script x. (x.0, (x.0, x.1, refl), x.2)) ready.read;
      printed = subst (λ (o : Option (List ℕ)). Appends o written_now (text_of (lines.Opened s.shape ∷ []))) ready.written_is wrote;
      source_is = ready.source_is;
      sink_is = same ∙ ready.sink_is;
    }
