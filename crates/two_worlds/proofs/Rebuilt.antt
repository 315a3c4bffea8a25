-- A rebuild of a session, as a user's own session has it.
use Rattle.std.proofs.Common.{◌≡◌, ◌≢◌, ◌⊎◌, ℕ, ◌<◌, ◌≤◌, Bool, true, false, cond, List, [], ◌∷◌, ◌++◌, length, map, Option, Some, None, Result, Ok, Err, refl, sym, ap, ◌∙◌, subst, inl, inr, arith}
use Rattle.std.specs.Prelude.{All, MatchOption, IsTrue, ◌==◌, option_map}
use Rattle.std.specs.List.{Contains}
use Rattle.std.proofs.lemmas.Bool.{cases_eq, cases_lt, eqb-true}
use Rattle.std.proofs.lemmas.List.{map-append}
use Rattle.std.proofs.lemmas.List.Elements.{All-contains, All-weaker, Contains-append_left, Contains-append_right}
use Rattle.recipe.specs.CdBase.ids.Fp.{Fp}
use Rattle.recipe.specs.CdBase.ids.Tag.{Tag}
use Rattle.recipe.specs.CdBase.ids.UserId.{UserId}
use Rattle.recipe.specs.CdBase.ids.Version.{Version}
use Rattle.recipe.specs.CdBase.shape.Shape.{Shape}
use Rattle.session_model.specs.CdEdges.Causes.{Rose}
use Rattle.session_model.specs.CdEdges.Disk.{Cloud}
use Rattle.session_model.specs.CaontRs.Package.{share}
use Rattle.session_model.specs.FileRecipe.FileRecipe.{secrets, recipe_bytes}
use Rattle.session_model.specs.Messages.reply.Reply.{Reply}
use Rattle.session_model.specs.UserDedup.command.Command.{Command}
use Rattle.session_model.specs.UserDedup.file_list.FileEntry.{FileEntry}
use Rattle.session_model.specs.UserDedup.view.View.{View}
use Rattle.session_model.specs.UserDedup.Cloud.{fingerprint, commands_of, held_string, strings_in, is_of}
use Rattle.session_model.specs.UserDedup.Pages.{entry_at}
use Rattle.session_model.specs.UserDedup.Exec.{Peer, Exec, Settles}
use Rattle.session_model.proofs.UserDedup.Owned.{contains_here, contains_later, contains_nothing, contains_cases}
use Rattle.session_model.proofs.UserDedup.Views.{strings_among, sent_is_held, held_is}
use Rattle.session_model.specs.UploadJob.Upload.{FileVersion}
use Rattle.session_model.specs.LaneSteps.Runs.{LaneTurn, Progress, LaneRun, progress_after, request_of}
use Rattle.session_model.specs.RestoreJob.error.RestoreErr.{RestoreErr}
use Rattle.session_model.specs.RestoreJob.error.RestoreErr.TheVariants as refusals
use Rattle.session_model.specs.RestoreJob.Refusals.{Names}
use Rattle.session_model.specs.RestoreJob.Asking.{Reads, MayRead, AreRead}
use Rattle.session_model.specs.RestoreJob.Restored.{Unrestored, restored_file, given_by, missing}
use Rattle.session_model.specs.KeptFiles.Kept.{Keeps, key_of}
use Rattle.session_model.specs.Rebuild.error.SkipWhy.{SkipWhy}
use Rattle.session_model.specs.Rebuild.error.RebuildErr.{RebuildErr}
use Rattle.session_model.specs.Rebuild.error.RebuildErr.TheVariants as errors
use Rattle.session_model.specs.Rebuild.skips.Skip.{Skip}
use Rattle.session_model.specs.Rebuild.skips.Rebuilt.{Rebuilt}
use Rattle.session_model.specs.Rebuild.Found.{Finding, skip_of, name_opened, name_judged, version_with, version_named, unless_skipped, recipes_differ, version_under, keys_in, finding_under, findings, first_of}
use Rattle.session_model.specs.Rebuild.Rebuilding.{Progressed, nothing_yet, last_said, lane_of, BringsOne, BringsAll, ReadStopped, asked_for, EndsAs, IsFrontOfList, LeavesBut, Rebuilds, RunsTo}
use Rattle.session_model.specs.Rebuild.Over.{HandsOn, ReadCaused, is_lost}
use Rattle.session_model.specs.Rebuild.Over as rebuilding
use Rattle.session_model.specs.Rebuild.Turns.{EndsLane, LaneEnded, LaneGoes, LanesGo, OfReply, SaidLast, goes_to}
use Rattle.session_model.specs.Rebuild.Standing.{entry_in, HasEntryWith, HasOther}
use Rattle.session_model.specs.Rebuild.Kept.{HasVersion, HasAnother, SkipCaused, Refills}
use Rattle.session_model.specs.Transcript.line.Line.{Line}
use Rattle.session_model.specs.Transcript.line.Line.TheVariants as lines
use Rattle.session_model.specs.Vault.{Setting, served_at, with_peer}
use Rattle.session_model.specs.Steps.{Moment, executed, quiet, told_so, cloud_no, skip_line, AreRebuildLines, turn_moment, target_moments, AllTold, RebuildStep}
use Rattle.two_worlds.specs.Worlds.{own_line, sent_strings}
use Rattle.two_worlds.proofs.Alone.{Apart, Among, same_view}
use Rattle.two_worlds.proofs.Peers.{plain, exec_told, own_peer, IsCalmPeer, calm_exec, other_exec, own_exec, as_exec, settled_as, read_same}
use Rattle.two_worlds.proofs.Restored.{version_alike, findings_alike}
use Rattle.session_model.proofs.With.{with_here, with_other, all_counts, run_all, one_all, brought}
use Rattle.two_worlds.proofs.Own.{own_peers, own_moment, Still, Known, KnownAt, known_first, known_rest, Premises, CalmPeers, lane_asker, apart_lists}

abbrev pub own_one : UserId → Cloud → LaneTurn Peer → LaneTurn Peer
own_one u k t = record { before = own_peer u k t.before; request = t.request; reply = t.reply }

-- ---- what doesn't speak of lists

module _ (u : UserId) (k : Cloud) where
  pub same_last : (turns : List (LaneTurn Peer)) → last_said (map (own_one u k) turns) ≡ last_said turns
  same_last [] = refl
  same_last (t ∷ []) = refl
  same_last (t ∷ v ∷ turns) = same_last (v ∷ turns)

  own_goes : (p : Progress) (turns : List (LaneTurn Peer)) → LaneGoes p turns → LaneGoes p (map (own_one u k) turns)
  own_goes p [] x = x
  own_goes p (t ∷ turns) x = (x.0, x.1, own_goes (progress_after p t.reply) turns x.2)

  own_lanes_go : (shape : Shape) (user : UserId) (target : ℕ) (versions : List FileVersion) (turns : List (LaneTurn Peer)) → LanesGo shape user target versions turns
      → LanesGo shape user target versions (map (own_one u k) turns)
  own_lanes_go shape user target [] turns x = ap (map (own_one u k)) x
  own_lanes_go shape user target (v ∷ versions) turns x =
      (map (own_one u k) x.0, map (own_one u k) x.1, ap (map (own_one u k)) x.2 ∙ map-append (own_one u k) x.0 x.1, x.3, own_goes (lane_of shape target v) x.0 x.4, own_lanes_go shape user target versions x.1 x.5)

  same_goes : (p : Progress) (turns : List (LaneTurn Peer)) → goes_to p (map (own_one u k) turns) ≡ goes_to p turns
  same_goes p [] = refl
  same_goes p (t ∷ turns) = same_goes (progress_after p t.reply) turns

  own_end : (p : Progress) (turns : List (LaneTurn Peer)) → LaneEnded p turns → LaneEnded p (map (own_one u k) turns)
  own_end p turns x = subst (λ (q : Progress). IsTrue q.stopped ⊎ (request_of q.lane ≡ None)) (sym (same_goes p turns)) x

  own_ends : (shape : Shape) (user : UserId) (target : ℕ) (turns : List (LaneTurn Peer)) → EndsLane shape user target turns → EndsLane shape user target (map (own_one u k) turns)
  own_ends shape user target turns x = record {
    front = map (own_one u k) x.front;
    lane = map (own_one u k) x.lane;
    version = x.version;
    split = ap (map (own_one u k)) x.split ∙ map-append (own_one u k) x.front x.lane;
    user_is = x.user_is;
    goes = own_goes (lane_of shape target x.version) x.lane x.goes;
    ended = own_end (lane_of shape target x.version) x.lane x.ended;
  }

  own_ended : (r : Result Rebuilt RebuildErr) (shape : Shape) (user : UserId) (target : ℕ) (turns : List (LaneTurn Peer)) → OfReply r (EndsLane shape user target turns)
      → OfReply r (EndsLane shape user target (map (own_one u k) turns))
  own_ended (Ok x) shape user target turns y = tt
  own_ended (Err (errors.FromRestore e)) shape user target turns y = tt
  own_ended (Err errors.TargetLost) shape user target turns y = tt
  own_ended (Err errors.TargetFault) shape user target turns y = own_ends shape user target turns y
  own_ended (Err (errors.TargetDamaged at byte)) shape user target turns y = own_ends shape user target turns y
  own_ended (Err (errors.TargetRotten named found)) shape user target turns y = own_ends shape user target turns y
  own_ended (Err (errors.TargetFull room used need limit)) shape user target turns y = own_ends shape user target turns y
  own_ended (Err (errors.TargetLacking place)) shape user target turns y = own_ends shape user target turns y
  own_ended (Err errors.TargetNoMemory) shape user target turns y = own_ends shape user target turns y
  own_ended (Err (errors.TargetStrange kind)) shape user target turns y = tt
  own_ended (Err errors.NoMemory) shape user target turns y = tt

  own_said : (r : Result Rebuilt RebuildErr) (turns : List (LaneTurn Peer)) → SaidLast r turns → SaidLast r (map (own_one u k) turns)
  own_said (Ok x) turns said = said
  own_said (Err (errors.FromRestore e)) turns said = said
  own_said (Err errors.TargetLost) turns said = said
  own_said (Err errors.TargetFault) turns said = same_last turns ∙ said
  own_said (Err (errors.TargetDamaged at byte)) turns said = same_last turns ∙ said
  own_said (Err (errors.TargetRotten named found)) turns said = same_last turns ∙ said
  own_said (Err (errors.TargetFull room used need limit)) turns said = same_last turns ∙ said
  own_said (Err (errors.TargetLacking place)) turns said = same_last turns ∙ said
  own_said (Err errors.TargetNoMemory) turns said = same_last turns ∙ said
  own_said (Err (errors.TargetStrange kind)) turns said = said
  own_said (Err errors.NoMemory) turns said = said

module _ (u : UserId) (k : Cloud) where
  -- a cloud that was read was so in the user's own session
  pub own_settles : (p q : Peer) → p.pending ≡ None → Settles p q → Settles (own_peer u k p) (own_peer u k q)
  own_settles p q none x = record { list = inl (ap (commands_of u) (settled_as p q.list none x.list)); pending = refl }

  pub own_reads : (p q : Peer) → p.pending ≡ None → Reads p q → Reads (own_peer u k p) (own_peer u k q)
  own_reads p q none x = (own_settles p q none x.0, record { faults = omega arith; armings = refl })

  pub own_may_read : (p q : Peer) → p.pending ≡ None → MayRead p q → MayRead (own_peer u k p) (own_peer u k q)
  own_may_read p q none (inl x, counts) = (inl (record { list = ap (commands_of u) x.list; pending = refl }), record { faults = omega arith; armings = refl })
  own_may_read p q none (inr x, counts) = (inr (own_settles p q none x), record { faults = omega arith; armings = refl })

module _ (u : UserId) (k : ℕ → Cloud) where
  -- no device failed of those that are read, nor of the target
  read_caused : (shape : Shape) (told : ℕ → Bool) (e : RestoreErr) (from : List ℕ) (old new : ℕ → Peer) → ((c : ℕ) → Contains from c → Rose (old c).faults (new c).faults → ⊥) → Names (Contains from) e
      → ReadCaused (told_so shape) told e old new → ReadCaused (told_so shape) told e (own_peers u k old) (own_peers u k new)
  read_caused shape told (refusals.Missing cloud) from old new none names c = c
  read_caused shape told (refusals.Lost cloud) from old new none names c = c
  read_caused shape told (refusals.CloudFault cloud) from old new none names c = absurd (none cloud.0 names c)
  read_caused shape told (refusals.CloudDamaged cloud at byte) from old new none names c = c
  read_caused shape told (refusals.CloudRotten cloud named found) from old new none names c = c
  read_caused shape told (refusals.CloudNoMemory cloud) from old new none names c = c
  read_caused shape told (refusals.Strange cloud kind) from old new none names c = c
  read_caused shape told (refusals.RecipesDiffer one two place) from old new none names c = c
  read_caused shape told (refusals.ShareLength cloud secret found wanted) from old new none names c = c
  read_caused shape told (refusals.BadShare cloud secret named found) from old new none names c = c
  read_caused shape told (refusals.BadSecret secret named found) from old new none names c = c
  read_caused shape told (refusals.BadPad secret at byte) from old new none names c = c
  read_caused shape told refusals.NoMemory from old new none names c = c

  own_caused : (shape : Shape) (told : ℕ → Bool) (target : ℕ) (from : List ℕ) (r : Result Rebuilt RebuildErr) (old new : ℕ → Peer)
      → ((c : ℕ) → Contains (target ∷ from) c → Rose (old c).faults (new c).faults → ⊥) → HandsOn from r → rebuilding.CausesRebuildEnd (told_so shape) told target r old new
      → rebuilding.CausesRebuildEnd (told_so shape) told target r (own_peers u k old) (own_peers u k new)
  own_caused shape told target from (Ok x) old new none hands c = c
  own_caused shape told target from (Err (errors.FromRestore e)) old new none hands c = read_caused shape told e from old new (λ d has. none d (contains_later target from d has)) hands.1 c
  own_caused shape told target from (Err errors.TargetLost) old new none hands c = c
  own_caused shape told target from (Err errors.TargetFault) old new none hands c = absurd (none target (contains_here target from) c)
  own_caused shape told target from (Err (errors.TargetDamaged at byte)) old new none hands c = c
  own_caused shape told target from (Err (errors.TargetRotten named found)) old new none hands c = c
  own_caused shape told target from (Err (errors.TargetFull room used need limit)) old new none hands c = c
  own_caused shape told target from (Err (errors.TargetLacking place)) old new none hands c = c
  own_caused shape told target from (Err errors.TargetNoMemory) old new none hands c = c
  own_caused shape told target from (Err (errors.TargetStrange kind)) old new none hands c = c
  own_caused shape told target from (Err errors.NoMemory) old new none hands c = c

  own_leaves : (from : List ℕ) (target : ℕ) (old new : ℕ → Peer) → ((c : ℕ) → (old c).pending ≡ None) → LeavesBut from target old new → LeavesBut from target (own_peers u k old) (own_peers u k new)
  own_leaves from target old new none x = record {
    read = λ c ne. own_may_read u (k c) (old c) (new c) (none c) (x.read c ne);
    others = λ c ne no. ap (own_peer u (k c)) (x.others c ne no);
    counts = record { faults = omega arith; armings = refl };
  }

  -- the clouds, the target as some peer
  own_with : (old : ℕ → Peer) (target : ℕ) (p : Peer) → own_peers u k (with_peer old target p) ≡ with_peer (own_peers u k old) target (own_peer u (k target) p)
  own_with old target p = λ i c. by_test c (c == target) refl i
    where
      by_test : (c : ℕ) (b : Bool) → (c == target) ≡ b → own_peer u (k c) (cond b p (old c)) ≡ cond b (own_peer u (k target) p) (own_peer u (k c) (old c))
      by_test c true e = ap (λ (d : ℕ). own_peer u (k d) p) (eqb-true c target e)
      by_test c false e = refl

  own_target_moments : (old : ℕ → Peer) (target : ℕ) (turns : List (LaneTurn Peer)) (end : Peer)
      → map (own_moment u k) (target_moments old target turns end) ≡ target_moments (own_peers u k old) target (map (own_one u (k target)) turns) (own_peer u (k target) end)
  own_target_moments old target [] end = ap (λ (peers : ℕ → Peer). quiet peers) (own_with old target end)
  own_target_moments old target (t ∷ turns) end =
      let h = own_with old target t.before in let rest = own_target_moments old target turns end in
      λ i. executed (h i) target t.request t.reply ∷ rest i

module _ (u : UserId) where
  -- ---- the answer names no job

  skips_same : (vs : List FileVersion) (skips : List Skip) → map (own_line u vs) (map skip_line skips) ≡ map skip_line skips
  skips_same vs [] = refl
  skips_same vs (skip ∷ skips) = ap (λ (l : List Line). skip_line skip ∷ l) (skips_same vs skips)

  pub rebuild_lines_same : (vs : List FileVersion) (user : UserId) (target : ℕ) (r : Result Rebuilt RebuildErr) (answers : List Line) → AreRebuildLines user target r answers
      → AreRebuildLines user target r (map (own_line u vs) answers)
  rebuild_lines_same vs user target (Ok rebuilt) answers e =
      ap (map (own_line u vs)) e ∙ ap (λ (l : List Line). lines.Rebuilt user (cloud_no target) rebuilt.files (length rebuilt.skipped) ∷ l) (skips_same vs rebuilt.skipped)
  rebuild_lines_same vs user target (Err e) answers is = (is.0, is.1, ap (map (own_line u vs)) is.2)

-- ---- a version that is found is the user's

module _ (user : UserId) (key : Tag × Version) where
  abbrev IsFor : Result FileVersion SkipWhy → Type 0
  IsFor found = (v : FileVersion) → found ≡ Ok v → v.user ≡ user

  with_for : (path : List ℕ) (r : Result (List ℕ) Unrestored) → IsFor (version_with user key path r)
  with_for path (Ok file) v e = let f : Ok (record { user = user; path = path; number = key.1; file = file }) ≡ Ok v = e in let g : record { user = user; path = path; number = key.1; file = file } ≡ v = cc in ap (λ (w : FileVersion). w.user) (sym g)
  with_for path (Err why) v e = absurd (let no : Err (skip_of why) ≡ Ok v = e in cc)

  named_for : (name : Result (List ℕ) SkipWhy) (r : Result (List ℕ) Unrestored) → IsFor (version_named user key name r)
  named_for (Ok path) r v e = with_for path r v e
  named_for (Err why) r v e = absurd (let no : Err why ≡ Ok v = e in cc)

  unless_for : (o : Option Unrestored) (r : Result FileVersion SkipWhy) → IsFor r → IsFor (unless_skipped o r)
  unless_for None r is v e = is v e
  unless_for (Some why) r is v e = absurd (let no : Err (skip_of why) ≡ Ok v = e in cc)

  pub under_for : (shape : Shape) (lists : ℕ → List Command) (from : List ℕ) (v : FileVersion) → version_under shape lists from user key ≡ Ok v → v.user ≡ user
  unfolding version_under
  under_for shape lists from v e =
      let all = map (given_by shape lists user key) from in
      let file = restored_file shape lists user key from in
      let name = name_judged shape key (name_opened shape all) in
      unless_for (missing shape lists user key from) (unless_skipped (recipes_differ all) (version_named user key name file))
      (unless_for (recipes_differ all) (version_named user key name file) (named_for name file)) v e

-- each of the findings is
abbrev pub AreFor : UserId → List Finding → Type 0
AreFor user [] = Unit {0}
AreFor user (f ∷ fs) = ((v : FileVersion) → f.found ≡ Ok v → v.user ≡ user) × AreFor user fs

under_all : (shape : Shape) (lists : ℕ → List Command) (from : List ℕ) (user : UserId) (keys : List (Tag × Version)) → AreFor user (map (finding_under shape lists from user) keys)
under_all shape lists from user [] = tt
under_all shape lists from user (key ∷ keys) = (under_for user key shape lists from, under_all shape lists from user keys)

front_for : (user : UserId) (front rest : List Finding) → AreFor user (front ++ rest) → AreFor user front
front_for user [] rest x = tt
front_for user (f ∷ front) rest x = (x.0, front_for user front rest x.1)

pub found_for : (shape : Shape) (lists : ℕ → List Command) (from : List ℕ) (user : UserId) (found : List Finding) → IsFrontOfList found (findings shape lists from user) → AreFor user found
found_for shape lists from user found front =
    front_for user found front.rest (subst (AreFor user) front.split (under_all shape lists from user (keys_in shape (lists (first_of from)) user)))

-- ---- the target

module _ (s : Setting) (u : UserId) (k : ℕ → Cloud) (In : ℕ → List ℕ → Type 0) (prem : Premises s u k In) (target : ℕ) (below : target < s.shape.n) where
  -- what is known of the target before one of its turns
  pub record KnownTurn (t : LaneTurn Peer) : Type 0 where
    pub lists : (x : List ℕ) → Contains (strings_in t.before.list) x → In target x
    pub sent : (x : List ℕ) → Contains (sent_strings t.request) x → In target x

  abbrev pub KnownTurns : List (LaneTurn Peer) → Type 0
  KnownTurns turns = (t : LaneTurn Peer) → Contains turns t → KnownTurn t

  pub known_turns : (old : ℕ → Peer) (turns : List (LaneTurn Peer)) (end : Peer) → Known In (target_moments old target turns end) → KnownTurns turns
  known_turns old [] end known t has = absurd (contains_nothing t has)
  known_turns old (v ∷ turns) end known t has = elim (contains_cases v turns t has) [
    | inl same ↦ subst KnownTurn same (record {
      lists = λ x c. (known_first In (turn_moment old target v) (target_moments old target turns end) known).lists target x
          (subst (λ (p : Peer). Contains (strings_in p.list) x) (sym (with_here old target v.before)) c);
      sent = λ x c. (known_first In (turn_moment old target v) (target_moments old target turns end) known).sent x c;
    })
    | inr later ↦ known_turns old turns end (known_rest In (turn_moment old target v) (target_moments old target turns end) known) t later
  ]

  first_turns : (one two : List (LaneTurn Peer)) → KnownTurns (one ++ two) → KnownTurns one
  first_turns one two known t has = known t (Contains-append_left one two t has)

  last_turns : (one two : List (LaneTurn Peer)) → KnownTurns (one ++ two) → KnownTurns two
  last_turns one two known t has = known t (Contains-append_right one two t has)

  rose_before : (a b c : ℕ) → b ≤ c → (Rose a c → ⊥) → Rose a b → ⊥
  rose_before a b c up still rose = still (omega (arith, up, rose))

  rose_behind : (a b c : ℕ) → a ≤ b → (Rose a c → ⊥) → Rose b c → ⊥
  rose_behind a b c up still rose = still (omega (arith, up, rose))

  run_counts : (p : Progress) (old : Peer) (turns : List (LaneTurn Peer)) (last : Progress) (new : Peer) → LaneRun (Exec s.shape true (served_at s target)) p old turns last new → old.faults ≤ new.faults
  run_counts p old turns last new run = (all_counts s target old turns new (run_all s target (prem.told target below) p old turns last new run)).faults

  -- ---- a lane

  calm_peer_run : (p : Progress) (old : Peer) (turns : List (LaneTurn Peer)) (last : Progress) (new : Peer) → LaneRun (Exec s.shape true (served_at s target)) p old turns last new
      → IsCalmPeer s.shape u old → (Rose old.faults new.faults → ⊥) → IsCalmPeer s.shape u new
  calm_peer_run p old [] last new run calm still = subst (IsCalmPeer s.shape u) (sym run.2) calm
  calm_peer_run p old (t ∷ turns) last new run calm still =
      let up = run_counts (progress_after p t.reply) run.3.0 turns last new run.3.2 in
      let first = plain s.shape (served_at s target) old t.request t.reply run.3.0 calm.pending (rose_before old.faults run.3.0.faults new.faults up still) run.3.1 in
      calm_peer_run (progress_after p t.reply) run.3.0 turns last new run.3.2
      (calm_exec s u (k target) target old t.request t.reply run.3.0 first calm)
      (rose_behind old.faults run.3.0.faults new.faults run.3.1.counts.faults still)

  other_peer_run : (p : Progress) → p.lane.work.user.0 ≢ u.0 → (old : Peer) (turns : List (LaneTurn Peer)) (last : Progress) (new : Peer) → LaneRun (Exec s.shape true (served_at s target)) p old turns last new
      → IsCalmPeer s.shape u old → (Rose old.faults new.faults → ⊥) → own_peer u (k target) new ≡ own_peer u (k target) old
  other_peer_run p other old [] last new run calm still = ap (own_peer u (k target)) run.2
  other_peer_run p other old (t ∷ turns) last new run calm still =
      let up = run_counts (progress_after p t.reply) run.3.0 turns last new run.3.2 in
      let first = plain s.shape (served_at s target) old t.request t.reply run.3.0 calm.pending (rose_before old.faults run.3.0.faults new.faults up still) run.3.1 in
      other_peer_run (progress_after p t.reply) other run.3.0 turns last new run.3.2
      (calm_exec s u (k target) target old t.request t.reply run.3.0 first calm)
      (rose_behind old.faults run.3.0.faults new.faults run.3.1.counts.faults still)
      ∙ other_exec s u (k target) target old t.request t.reply run.3.0 first
      (λ same. other (sym (ap (λ (w : UserId). w.0) (lane_asker p.lane.work p.lane.state t.request run.2)) ∙ same))

  own_peer_run : (p : Progress) → p.lane.work.user ≡ u → (old : Peer) (turns : List (LaneTurn Peer)) (last : Progress) (new : Peer) → LaneRun (Exec s.shape true (served_at s target)) p old turns last new
      → IsCalmPeer s.shape u old → (Rose old.faults new.faults → ⊥) → KnownTurns turns
      → LaneRun (Exec s.shape true (served_at s target)) p (own_peer u (k target) old) (map (own_one u (k target)) turns) last (own_peer u (k target) new)
  own_peer_run p same old [] last new run calm still known = (run.0, run.1, ap (own_peer u (k target)) run.2)
  own_peer_run p same old (t ∷ turns) last new run calm still known =
      let up = run_counts (progress_after p t.reply) run.3.0 turns last new run.3.2 in
      let first = plain s.shape (served_at s target) old t.request t.reply run.3.0 calm.pending (rose_before old.faults run.3.0.faults new.faults up still) run.3.1 in
      let here = known t (contains_here t turns) in
      let among : (x : List ℕ) → Among old.list t.request x → In target x = λ x a. elim a [
        | inl has ↦ here.lists x (subst (λ (q : Peer). Contains (strings_in q.list) x) (sym run.1) has)
        | inr has ↦ here.sent x has
      ] in
      let exec = as_exec s u (k target) target (own_peer u (k target) old) t.request t.reply (own_peer u (k target) run.3.0) (prem.told target below)
      (own_exec s u (k target) target old t.request t.reply run.3.0 first (lane_asker p.lane.work p.lane.state t.request run.2 ∙ same)
      (λ one two a b. prem.apart target below one two (among one a) (among two b))) refl in (
        run.0,
        ap (own_peer u (k target)) run.1,
        run.2,
        (
          own_peer u (k target) run.3.0,
          exec_told s.shape (s.told target) (served_at s target) (own_peer u (k target) old) t.request t.reply (own_peer u (k target) run.3.0) (prem.told target below) exec,
          own_peer_run (progress_after p t.reply) same run.3.0 turns last new run.3.2
              (calm_exec s u (k target) target old t.request t.reply run.3.0 first calm)
              (rose_behind old.faults run.3.0.faults new.faults run.3.1.counts.faults still)
              (λ v has. known v (contains_later t turns v has)),
        ),
      )

  -- ---- one version

  abbrev Brings : Finding → Progressed → Peer → List (LaneTurn Peer) → Progressed → Peer → Type 0
  Brings f r old turns after new = BringsOne s.shape target (served_at s target) f.key f.found r old turns after new

  one_counts : (f : Finding) (r : Progressed) (old : Peer) (turns : List (LaneTurn Peer)) (after : Progressed) (new : Peer) → Brings f r old turns after new → old.faults ≤ new.faults
  one_counts f r old turns after new x =
      (all_counts s target old turns new (one_all s target (prem.told target below) f.key f.found r old turns after new x)).faults

  calm_one : (key : Tag × Version) (found : Result FileVersion SkipWhy) (r : Progressed) (old : Peer) (turns : List (LaneTurn Peer)) (after : Progressed) (new : Peer)
      → BringsOne s.shape target (served_at s target) key found r old turns after new
      → IsCalmPeer s.shape u old → (Rose old.faults new.faults → ⊥) → IsCalmPeer s.shape u new
  calm_one key (Err why) r old turns after new x calm still = subst (IsCalmPeer s.shape u) (sym x.2) calm
  calm_one key (Ok v) r old turns after new x calm still = calm_peer_run (lane_of s.shape target v) old turns x.0 new x.2 calm still

  other_one : (user : UserId) → user.0 ≢ u.0 → (key : Tag × Version) (found : Result FileVersion SkipWhy) → ((v : FileVersion) → found ≡ Ok v → v.user ≡ user)
      → (r : Progressed) (old : Peer) (turns : List (LaneTurn Peer)) (after : Progressed) (new : Peer) → BringsOne s.shape target (served_at s target) key found r old turns after new
      → IsCalmPeer s.shape u old → (Rose old.faults new.faults → ⊥) → own_peer u (k target) new ≡ own_peer u (k target) old
  other_one user other key (Err why) is r old turns after new x calm still = ap (own_peer u (k target)) x.2
  other_one user other key (Ok v) is r old turns after new x calm still =
      other_peer_run (lane_of s.shape target v) (λ same. other (sym (ap (λ (w : UserId). w.0) (is v refl)) ∙ same)) old turns x.0 new x.2 calm still

  own_brings_one : (key : Tag × Version) (found : Result FileVersion SkipWhy) → ((v : FileVersion) → found ≡ Ok v → v.user ≡ u)
      → (r : Progressed) (old : Peer) (turns : List (LaneTurn Peer)) (after : Progressed) (new : Peer) → BringsOne s.shape target (served_at s target) key found r old turns after new
      → IsCalmPeer s.shape u old → (Rose old.faults new.faults → ⊥) → KnownTurns turns
      → BringsOne s.shape target (served_at s target) key found r (own_peer u (k target) old) (map (own_one u (k target)) turns) after (own_peer u (k target) new)
  own_brings_one key (Err why) is r old turns after new x calm still known = (x.0, ap (map (own_one u (k target))) x.1, ap (own_peer u (k target)) x.2)
  own_brings_one key (Ok v) is r old turns after new x calm still known =
      (x.0, x.1, own_peer_run (lane_of s.shape target v) (is v refl) old turns x.0 new x.2 calm still known, same_last u (k target) turns ∙ x.3, x.4)

  -- ---- all

  abbrev pub BringsThem : List Finding → Progressed → Peer → List (LaneTurn Peer) → Progressed → Peer → Type 0
  BringsThem fs r old turns after new = BringsAll s.shape target (served_at s target) fs r old turns after new

  them_counts : (fs : List Finding) (r : Progressed) (old : Peer) (turns : List (LaneTurn Peer)) (after : Progressed) (new : Peer) → BringsThem fs r old turns after new → old.faults ≤ new.faults
  them_counts fs r old turns after new x = (all_counts s target old turns new (brought s target (prem.told target below) fs r old turns after new x)).faults

  abbrev Behind : Option Reply → List Finding → Progressed → Peer → List (LaneTurn Peer) → Progressed → Peer → Type 0
  Behind o fs next mid rest after new = MatchOption o (BringsThem fs next mid rest after new) (λ said. (rest ≡ []) × (after ≡ next) × (new ≡ mid))

  behind_counts : (o : Option Reply) (fs : List Finding) (next : Progressed) (mid : Peer) (rest : List (LaneTurn Peer)) (after : Progressed) (new : Peer) → Behind o fs next mid rest after new → mid.faults ≤ new.faults
  behind_counts None fs next mid rest after new x = them_counts fs next mid rest after new x
  behind_counts (Some said) fs next mid rest after new x = subst (λ (q : Peer). mid.faults ≤ q.faults) (sym x.2) (let e : mid.faults ≤ mid.faults = omega arith in e)

  pub calm_brings : (fs : List Finding) (r : Progressed) (old : Peer) (turns : List (LaneTurn Peer)) (after : Progressed) (new : Peer) → BringsThem fs r old turns after new
      → IsCalmPeer s.shape u old → (Rose old.faults new.faults → ⊥) → IsCalmPeer s.shape u new
  calm_brings [] r old turns after new x calm still = subst (IsCalmPeer s.shape u) (sym x.2) calm
  calm_brings (f ∷ fs) r old turns after new x calm still =
      let up = behind_counts x.0.stop fs x.0 x.1 x.3 after new x.6 in
      let one = one_counts f r old x.2 x.0 x.1 x.4 in
      by_stop x.0.stop x.6
      (calm_one f.key f.found r old x.2 x.0 x.1 x.4 calm (rose_before old.faults x.1.faults new.faults up still))
      (rose_behind old.faults x.1.faults new.faults one still)
      (calm_brings fs x.0 x.1 x.3 after new)
    where
      by_stop : (o : Option Reply) → Behind o fs x.0 x.1 x.3 after new → IsCalmPeer s.shape u x.1 → (Rose x.1.faults new.faults → ⊥)
          → (BringsThem fs x.0 x.1 x.3 after new → IsCalmPeer s.shape u x.1 → (Rose x.1.faults new.faults → ⊥) → IsCalmPeer s.shape u new) → IsCalmPeer s.shape u new
      by_stop None y c st again = again y c st
      by_stop (Some said) y c st again = subst (IsCalmPeer s.shape u) (sym y.2) c

  pub other_brings : (user : UserId) → user.0 ≢ u.0 → (fs : List Finding) → AreFor user fs → (r : Progressed) (old : Peer) (turns : List (LaneTurn Peer)) (after : Progressed) (new : Peer)
      → BringsThem fs r old turns after new → IsCalmPeer s.shape u old → (Rose old.faults new.faults → ⊥) → own_peer u (k target) new ≡ own_peer u (k target) old
  other_brings user other [] are r old turns after new x calm still = ap (own_peer u (k target)) x.2
  other_brings user other (f ∷ fs) are r old turns after new x calm still =
      let up = behind_counts x.0.stop fs x.0 x.1 x.3 after new x.6 in
      let one = one_counts f r old x.2 x.0 x.1 x.4 in
      let first = rose_before old.faults x.1.faults new.faults up still in
      by_stop x.0.stop x.6
      (calm_one f.key f.found r old x.2 x.0 x.1 x.4 calm first)
      (rose_behind old.faults x.1.faults new.faults one still)
      (other_brings user other fs are.1 x.0 x.1 x.3 after new)
      ∙ other_one user other f.key f.found are.0 r old x.2 x.0 x.1 x.4 calm first
    where
      by_stop : (o : Option Reply) → Behind o fs x.0 x.1 x.3 after new → IsCalmPeer s.shape u x.1 → (Rose x.1.faults new.faults → ⊥)
          → (BringsThem fs x.0 x.1 x.3 after new → IsCalmPeer s.shape u x.1 → (Rose x.1.faults new.faults → ⊥) → own_peer u (k target) new ≡ own_peer u (k target) x.1) → own_peer u (k target) new ≡ own_peer u (k target) x.1
      by_stop None y c st again = again y c st
      by_stop (Some said) y c st again = ap (own_peer u (k target)) y.2

  pub own_brings : (fs : List Finding) → AreFor u fs → (r : Progressed) (old : Peer) (turns : List (LaneTurn Peer)) (after : Progressed) (new : Peer)
      → BringsThem fs r old turns after new → IsCalmPeer s.shape u old → (Rose old.faults new.faults → ⊥) → KnownTurns turns
      → BringsThem fs r (own_peer u (k target) old) (map (own_one u (k target)) turns) after (own_peer u (k target) new)
  own_brings [] are r old turns after new x calm still known = (x.0, ap (map (own_one u (k target))) x.1, ap (own_peer u (k target)) x.2)
  own_brings (f ∷ fs) are r old turns after new x calm still known =
      let up = behind_counts x.0.stop fs x.0 x.1 x.3 after new x.6 in
      let one = one_counts f r old x.2 x.0 x.1 x.4 in
      let first = rose_before old.faults x.1.faults new.faults up still in
      let both = subst KnownTurns x.5 known in (
        x.0,
        own_peer u (k target) x.1,
        map (own_one u (k target)) x.2,
        map (own_one u (k target)) x.3,
        own_brings_one f.key f.found are.0 r old x.2 x.0 x.1 x.4 calm first (first_turns x.2 x.3 both),
        ap (map (own_one u (k target))) x.5 ∙ map-append (own_one u (k target)) x.2 x.3,
        by_stop x.0.stop x.6
            (calm_one f.key f.found r old x.2 x.0 x.1 x.4 calm first)
            (rose_behind old.faults x.1.faults new.faults one still) (last_turns x.2 x.3 both) (own_brings fs are.1 x.0 x.1 x.3 after new),
      )
    where
      by_stop : (o : Option Reply) → Behind o fs x.0 x.1 x.3 after new → IsCalmPeer s.shape u x.1 → (Rose x.1.faults new.faults → ⊥) → KnownTurns x.3
          → (BringsThem fs x.0 x.1 x.3 after new → IsCalmPeer s.shape u x.1 → (Rose x.1.faults new.faults → ⊥) → KnownTurns x.3
          → BringsThem fs x.0 (own_peer u (k target) x.1) (map (own_one u (k target)) x.3) after (own_peer u (k target) new))
          → Behind o fs x.0 (own_peer u (k target) x.1) (map (own_one u (k target)) x.3) after (own_peer u (k target) new)
      by_stop None y c st kn again = again y c st kn
      by_stop (Some said) y c st kn again = (ap (map (own_one u (k target))) y.0, y.1, ap (own_peer u (k target)) y.2)

-- ---- what a rebuild over told clouds leaves

module _ (s : Setting) (u : UserId) (k : ℕ → Cloud) (In : ℕ → List ℕ → Type 0) (prem : Premises s u k In) (target : ℕ) (below : target < s.shape.n) (from : List ℕ) (within : All (λ cloud. cloud < s.shape.n) from) where
  told_all : AllTold s (target ∷ from)
  told_all c has = elim (contains_cases target from c has) [
    | inl same ↦ subst (λ (d : ℕ). IsTrue (s.told d)) same (is_true (prem.told target below))
    | inr later ↦ is_true (prem.told c (All-contains (λ cloud. cloud < s.shape.n) from c within later))
  ]
    where
      is_true : {b : Bool} → b ≡ true → IsTrue b
      is_true e = e

  module _ (user : UserId) (old : ℕ → Peer) (answers : List Line) (moments : List Moment) (new : ℕ → Peer) (x : RebuildStep s user target from old answers moments new)
      (calm : CalmPeers s u k In old) (still : Still s.shape.n old new) where
    -- it's none that want of memory or a lost ask cut
    pub whole : Rebuilds s.shape user target (served_at s target) from x.turns x.result old new
    whole = by_result x.result x.lines_are x.found (x.told told_all).0
      where
        by_result : (r : Result Rebuilt RebuildErr) → AreRebuildLines user target r answers → is_lost r ≡ false → RunsTo s.shape user target (served_at s target) from r x.turns old (new target) new
            → Rebuilds s.shape user target (served_at s target) from x.turns r old new
        by_result (Ok rebuilt) ls found runs = runs
        by_result (Err (errors.FromRestore e)) ls found runs = runs
        by_result (Err errors.TargetLost) ls found runs = absurd (let no : true ≡ false = found in cc)
        by_result (Err errors.TargetFault) ls found runs = runs
        by_result (Err (errors.TargetDamaged at byte)) ls found runs = runs
        by_result (Err (errors.TargetRotten named found)) ls lost runs = runs
        by_result (Err (errors.TargetFull room used need limit)) ls found runs = runs
        by_result (Err (errors.TargetLacking place)) ls found runs = runs
        by_result (Err errors.TargetNoMemory) ls found runs = runs
        by_result (Err (errors.TargetStrange kind)) ls found runs = runs
        by_result (Err errors.NoMemory) ls found runs = absurd (let no : None ≡ Some ls.0 = ls.1 in cc)

    -- the other clouds are as they were
    pub rest_same : (c : ℕ) → c ≢ target → new c ≡ old c
    rest_same c ne = elim (cases_lt c s.shape.n) [
      | inl here ↦ read_same (old c) (new c) (calm.each c).pending (still c here) (x.leaves.read c ne)
      | inr over ↦ x.leaves.others c ne (λ has. let here = All-contains (λ cloud. cloud < s.shape.n) from c within has in omega (arith, here, over))
    ]

    target_calm : IsCalmPeer s.shape u (new target)
    target_calm = calm_brings s u k In prem target below whole.found nothing_yet (old target) x.turns whole.last (new target) whole.brings (calm.each target) (still target below)

    pub calm_rebuild : CalmPeers s u k In new
    calm_rebuild = record {
      each = λ c. elim (cases_eq c target) [
        | inl same ↦ subst (λ (d : ℕ). IsCalmPeer s.shape u (new d)) (sym same) target_calm
        | inr ne ↦ subst (IsCalmPeer s.shape u) (sym (rest_same c ne)) (calm.each c)
      ];
      beyond = λ c over. ap (λ (q : Peer). q.list) (rest_same c (λ same. let e : c ≡ target = same in omega (arith, e, over, below))) ∙ calm.beyond c over;
    }

    pub other_rebuild : user.0 ≢ u.0 → own_peers u k new ≡ own_peers u k old
    other_rebuild other = λ i c. at c i
      where
        at : (c : ℕ) → own_peer u (k c) (new c) ≡ own_peer u (k c) (old c)
        at c = elim (cases_eq c target) [
          | inl same ↦ subst (λ (d : ℕ). own_peer u (k d) (new d) ≡ own_peer u (k d) (old d)) (sym same)
              (other_brings s u k In prem target below user other whole.found
              (found_for s.shape (λ cloud. (new cloud).list) from user whole.found whole.front)
              nothing_yet (old target) x.turns whole.last (new target) whole.brings (calm.each target) (still target below))
          | inr ne ↦ ap (own_peer u (k c)) (rest_same c ne)
        ]

-- ---- the user's own rebuild

module _ (s : Setting) (u : UserId) (k : ℕ → Cloud) (In : ℕ → List ℕ → Type 0) (prem : Premises s u k In) (target : ℕ) (below : target < s.shape.n) (from : List ℕ) (within : All (λ cloud. cloud < s.shape.n) from)
    (old : ℕ → Peer) (answers : List Line) (moments : List Moment) (new : ℕ → Peer) (x : RebuildStep s u target from old answers moments new)
    (calm : CalmPeers s u k In old) (still : Still s.shape.n old new) (known : Known In moments) where
  r : Rebuilds s.shape u target (served_at s target) from x.turns x.result old new
  r = whole s u k In prem target below from within u old answers moments new x calm still

  after : CalmPeers s u k In new
  after = calm_rebuild s u k In prem target below from within u old answers moments new x calm still

  known_all : Known In (quiet old ++ target_moments old target x.turns (new target))
  known_all = subst (Known In) x.moments_are known

  known_target : Known In (target_moments old target x.turns (new target))
  known_target m has = known_all m (Contains-append_right (quiet old) (target_moments old target x.turns (new target)) m has)

  -- the last of these moments has the clouds as they are behind the rebuild
  last_moment : (turns : List (LaneTurn Peer)) → Contains (target_moments old target turns (new target)) (record { peers = with_peer old target (new target); event = None })
  last_moment [] = contains_here (record { peers = with_peer old target (new target); event = None }) []
  last_moment (t ∷ turns) = contains_later (turn_moment old target t) (target_moments old target turns (new target)) _ (last_moment turns)

  same_end : with_peer old target (new target) ≡ new
  same_end = λ i c. at c i
    where
      at : (c : ℕ) → with_peer old target (new target) c ≡ new c
      at c = elim (cases_eq c target) [
        | inl same ↦ subst (λ (d : ℕ). with_peer old target (new target) d ≡ new d) (sym same) (with_here old target (new target))
        | inr ne ↦ with_other old target (new target) c ne ∙ sym (rest_same s u k In prem target below from within u old answers moments new x calm still c ne)
      ]

  known_after : KnownAt In (record { peers = new; event = None })
  known_after = subst (λ (peers : ℕ → Peer). KnownAt In (record { peers = peers; event = None })) same_end (known_target _ (last_moment x.turns))

  apart : (c : ℕ) → Apart (Contains (strings_in (new c).list))
  apart = apart_lists s u k In prem (record { peers = new; event = None }) after known_after

  same_findings : findings s.shape (λ c. (own_peers u k new c).list) from u ≡ findings s.shape (λ c. (new c).list) from u
  same_findings = findings_alike s.shape u (λ c. (new c).list) (λ c. (after.each c).owned) apart from

  own_front : IsFrontOfList r.found (findings s.shape (λ c. (own_peers u k new c).list) from u)
  own_front = record { rest = r.front.rest; split = same_findings ∙ r.front.split }

  own_brought : BringsAll s.shape target (served_at s target) r.found nothing_yet (own_peer u (k target) (old target)) (map (own_one u (k target)) x.turns) r.last (own_peer u (k target) (new target))
  own_brought = own_brings s u k In prem target below r.found (found_for s.shape (λ c. (new c).list) from u r.found r.front) nothing_yet (old target) x.turns r.last (new target) r.brings
      (calm.each target) (still target below) (known_turns s u k In prem target below old x.turns (new target) known_target)

  reads_there : (clouds : List ℕ) → AreRead clouds old new → AreRead clouds (own_peers u k old) (own_peers u k new)
  reads_there clouds read c has = own_reads u (k c) (old c) (new c) (calm.each c).pending (read c has)

  stopped_there : (e : RestoreErr) → ReadStopped from e old new → ReadStopped from e (own_peers u k old) (own_peers u k new)
  stopped_there (refusals.CloudFault cloud) y = absurd (still cloud.0 (All-contains (λ cloud. cloud < s.shape.n) from cloud.0 within y.0) y.1.0)
  stopped_there (refusals.Lost cloud) y = y
  stopped_there (refusals.Missing cloud) y = absurd y
  stopped_there (refusals.CloudDamaged cloud at byte) y = absurd y
  stopped_there (refusals.CloudRotten cloud named found) y = absurd y
  stopped_there (refusals.CloudNoMemory cloud) y = absurd y
  stopped_there (refusals.Strange cloud kind) y = absurd y
  stopped_there (refusals.RecipesDiffer one two place) y = absurd y
  stopped_there (refusals.ShareLength cloud secret found wanted) y = absurd y
  stopped_there (refusals.BadShare cloud secret named found) y = absurd y
  stopped_there (refusals.BadSecret secret named found) y = absurd y
  stopped_there (refusals.BadPad secret at byte) y = absurd y
  stopped_there refusals.NoMemory y = absurd y

  ends_there : (all : List Finding) (q : Result Rebuilt RebuildErr) → EndsAs r.found all r.last from old new q → EndsAs r.found all r.last from (own_peers u k old) (own_peers u k new) q
  ends_there all (Ok rebuilt) y = (y.0, y.1, reads_there (asked_for from r.found) y.2)
  ends_there all (Err (errors.FromRestore e)) y = (y.0, stopped_there e y.1)
  ends_there all (Err errors.TargetLost) y = (y.0, y.1, y.2, reads_there (asked_for from r.found) y.3)
  ends_there all (Err errors.TargetFault) y = (y.0, y.1, y.2, reads_there (asked_for from r.found) y.3)
  ends_there all (Err (errors.TargetDamaged at byte)) y = (y.0, y.1, y.2, reads_there (asked_for from r.found) y.3)
  ends_there all (Err (errors.TargetRotten named found)) y = (y.0, y.1, y.2, reads_there (asked_for from r.found) y.3)
  ends_there all (Err (errors.TargetFull room used need limit)) y = (y.0, y.1, y.2, reads_there (asked_for from r.found) y.3)
  ends_there all (Err (errors.TargetLacking place)) y = (y.0, y.1, y.2, reads_there (asked_for from r.found) y.3)
  ends_there all (Err errors.TargetNoMemory) y = (y.0, y.1, y.2, reads_there (asked_for from r.found) y.3)
  ends_there all (Err (errors.TargetStrange kind)) y = (y.0, y.1, y.2, reads_there (asked_for from r.found) y.3)
  ends_there all (Err errors.NoMemory) y = (y.0, y.1, y.2, reads_there (asked_for from r.found) y.3)

  own_rebuilds : Rebuilds s.shape u target (served_at s target) from (map (own_one u (k target)) x.turns) x.result (own_peers u k old) (own_peers u k new)
  own_rebuilds = record {
    found = r.found;
    front = own_front;
    last = r.last;
    brings = own_brought;
    ends = subst (λ (all : List Finding). EndsAs r.found all r.last from (own_peers u k old) (own_peers u k new) x.result) (sym same_findings)
        (ends_there (findings s.shape (λ c. (new c).list) from u) x.result r.ends);
  }

  runs_there : (q : Result Rebuilt RebuildErr) (turns : List (LaneTurn Peer)) → is_lost q ≡ false → AreRebuildLines u target q answers
      → Rebuilds s.shape u target (served_at s target) from turns q (own_peers u k old) (own_peers u k new)
      → RunsTo s.shape u target (served_at s target) from q turns (own_peers u k old) (own_peer u (k target) (new target)) (own_peers u k new)
  runs_there (Ok rebuilt) turns found ls y = y
  runs_there (Err (errors.FromRestore e)) turns found ls y = y
  runs_there (Err errors.TargetLost) turns found ls y = absurd (let no : true ≡ false = found in cc)
  runs_there (Err errors.TargetFault) turns found ls y = y
  runs_there (Err (errors.TargetDamaged at byte)) turns found ls y = y
  runs_there (Err (errors.TargetRotten named found)) turns lost ls y = y
  runs_there (Err (errors.TargetFull room used need limit)) turns found ls y = y
  runs_there (Err (errors.TargetLacking place)) turns found ls y = y
  runs_there (Err errors.TargetNoMemory) turns found ls y = y
  runs_there (Err (errors.TargetStrange kind)) turns found ls y = y
  runs_there (Err errors.NoMemory) turns found ls y = absurd (let no : None ≡ Some ls.0 = ls.1 in cc)

  -- ---- what it leaves of kept versions

  held_up : (c : ℕ) (fp : Fp) (string : List ℕ) → held_string (own_peers u k new c).list fp ≡ Some string → held_string (new c).list fp ≡ Some string
  held_up c fp string h =
      let own = held_is (own_peers u k new c).list fp string h in
      let there = strings_among (is_of u) (new c).list string own.1 in
      let all = sent_is_held (new c).list fp (string, there, own.0) in
      all.1 ∙ ap (λ (y : List ℕ). Some y) (apart c all.0 string (held_is (new c).list fp all.0 all.1).1 there (all.2 ∙ sym own.0))

  keeps_up : (c : ℕ) (path : List ℕ) (version : Version) (file : List ℕ) → Keeps s.shape c (own_peers u k new c).list u path version file → Keeps s.shape c (new c).list u path version file
  keeps_up c path version file kept = record {
    entry = subst (λ (v : View). option_map (λ (entry : FileEntry). entry.recipe) (entry_at v.files (key_of s.shape path version)) ≡ Some (recipe_bytes s.shape c path file)) (same_view s.shape u (new c).list) kept.entry;
    shares = All-weaker (λ secret. held_string (own_peers u k new c).list (fingerprint (share s.shape c secret)) ≡ Some (share s.shape c secret))
        (λ secret. held_string (new c).list (fingerprint (share s.shape c secret)) ≡ Some (share s.shape c secret)) (λ secret h. held_up c (fingerprint (share s.shape c secret)) (share s.shape c secret) h) (secrets file) kept.shares;
  }

  same_entry : (c : ℕ) (key : Tag × Version) → entry_in s.shape (own_peers u k new c).list u key ≡ entry_in s.shape (new c).list u key
  same_entry c key = ap (λ (v : View). entry_at v.files key) (same_view s.shape u (new c).list)

  has_there : (key : Tag × Version) (recipe : List ℕ) → HasEntryWith s.shape (new target).list u key recipe → HasEntryWith s.shape (own_peers u k new target).list u key recipe
  has_there key recipe h = (h.0, same_entry target key ∙ h.1, h.2)

  other_there : (key : Tag × Version) (recipe : List ℕ) → HasOther s.shape (new target).list u key recipe → HasOther s.shape (own_peers u k new target).list u key recipe
  other_there key recipe h = (h.0, same_entry target key ∙ h.1, h.2)

  version_there : (v : FileVersion) → v.user ≡ u → HasVersion s.shape target (new target).list v → HasVersion s.shape target (own_peers u k new target).list v
  version_there v same h =
      subst (λ (w : UserId). HasEntryWith s.shape (own_peers u k new target).list w (key_of s.shape v.path v.number) (recipe_bytes s.shape target v.path v.file)) (sym same)
      (has_there (key_of s.shape v.path v.number) (recipe_bytes s.shape target v.path v.file) (subst (λ (w : UserId). HasEntryWith s.shape (new target).list w (key_of s.shape v.path v.number) (recipe_bytes s.shape target v.path v.file)) same h))

  another_there : (v : FileVersion) → v.user ≡ u → HasAnother s.shape target (new target).list v → HasAnother s.shape target (own_peers u k new target).list v
  another_there v same h =
      subst (λ (w : UserId). HasOther s.shape (own_peers u k new target).list w (key_of s.shape v.path v.number) (recipe_bytes s.shape target v.path v.file)) (sym same)
      (other_there (key_of s.shape v.path v.number) (recipe_bytes s.shape target v.path v.file) (subst (λ (w : UserId). HasOther s.shape (new target).list w (key_of s.shape v.path v.number) (recipe_bytes s.shape target v.path v.file)) same h))

  same_under : (key : Tag × Version) → version_under s.shape (λ c. (own_peers u k new c).list) from u key ≡ version_under s.shape (λ c. (new c).list) from u key
  same_under key = version_alike s.shape u key (λ c. (new c).list) (λ c. (after.each c).owned) apart from

  skip_there : (skip : Skip) → SkipCaused s.shape target from u new skip → SkipCaused s.shape target from u (own_peers u k new) skip
  skip_there skip (inl e) = inl (same_under (skip.tag, skip.version) ∙ e)
  skip_there skip (inr y) =
      inr (y.0, (y.1.0, same_under (skip.tag, skip.version) ∙ y.1.1, another_there y.1.0 (under_for u (skip.tag, skip.version) s.shape (λ c. (new c).list) from y.1.0 y.1.1) y.1.2))

  refills_there : (q : Result Rebuilt RebuildErr) → Refills s.shape target from u new q → Refills s.shape target from u (own_peers u k new) q
  refills_there (Err e) y = tt
  refills_there (Ok rebuilt) y = (
    (λ v same is_path path_bytes file_bytes few keeps. elim (y.0 v same is_path path_bytes file_bytes few (λ c has. keeps_up c v.path v.number v.file (keeps c has))) [
      | inl has ↦ inl (version_there v same has)
      | inr has ↦ inr (another_there v same has.0, has.1)
    ]),
    (λ skip has. skip_there skip (y.1 skip has)),
  )

  pub own_rebuild : (vs : List FileVersion) → RebuildStep s u target from (own_peers u k old) (map (own_line u vs) answers) (map (own_moment u k) moments) (own_peers u k new)
  own_rebuild vs = record {
    result = x.result;
    turns = map (own_one u (k target)) x.turns;
    lines_are = rebuild_lines_same u vs u target x.result answers x.lines_are;
    moments_are = ap (map (own_moment u k)) x.moments_are ∙ ap (λ (l : List Moment). record { peers = own_peers u k old; event = None } ∷ l) (own_target_moments u k old target x.turns (new target));
    found = x.found;
    executes = brought s target (prem.told target below) r.found nothing_yet (own_peer u (k target) (old target)) (map (own_one u (k target)) x.turns) r.last (own_peer u (k target) (new target)) own_brought;
    leaves = own_leaves u k from target old new (λ c. (calm.each c).pending) x.leaves;
    named = x.named;
    caused = own_caused u k s.shape s.told target from x.result old new (λ c has. still c (elim (contains_cases target from c has) [
      | inl same ↦ subst (λ (d : ℕ). d < s.shape.n) same below
      | inr later ↦ All-contains (λ cloud. cloud < s.shape.n) from c within later
    ])) x.named x.caused;
    said = own_said u (k target) x.result x.turns x.said;
    ended = own_ended u (k target) x.result s.shape u target x.turns x.ended;
    own = (x.own.0, own_lanes_go u (k target) s.shape u target x.own.0 x.turns x.own.1);
    told = λ told. (runs_there x.result (map (own_one u (k target)) x.turns) x.found x.lines_are own_rebuilds, refills_there x.result (x.told told).1);
  }
