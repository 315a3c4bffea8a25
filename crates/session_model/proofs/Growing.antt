-- A told cloud's lists grow, line by line.
use Rattle.std.proofs.Common.{◌≡◌, ℕ, Bool, true, List, [], ◌∷◌, ◌++◌, map, Option, Some, None, Result, Ok, Err, refl, sym, ap, ◌∙◌, subst, inl, inr, ◌⊎◌, ◌-◌, length, append-nil}
use Rattle.std.specs.Prelude.{IsTrue, IsSomeAnd, MatchOption, option_to_list, slice_get}
use Rattle.std.specs.List.{Contains}
use Rattle.std.proofs.lemmas.List.Elements.{All-nil, All-cons, Contains-append_cases, Contains-append_right}
use Rattle.std.specs.Bool.{MatchBool}
use Rattle.std.proofs.lemmas.Bool.{cases_eq}
use Rattle.session.specs.CdBase.ids.Tag.{Tag}
use Rattle.session.specs.CdBase.ids.UserId.{UserId}
use Rattle.session.specs.CdBase.ids.Version.{Version}
use Rattle.session.specs.CdBase.shape.Shape.{Shape}
use Rattle.subset_restore.specs.CaontRs.Package.{tag}
use Rattle.local_link.specs.CommitJournal.errors.OpenErr.{OpenErr}
use Rattle.local_link.specs.CommitJournal.errors.OpenErr.TheVariants as errors
use Rattle.rebuild.specs.Messages.request.Request.{Request}
use Rattle.rebuild.specs.Messages.request.Request.TheVariants as requests
use Rattle.rebuild.specs.Messages.reply.Reply.{Reply}
use Rattle.subset_restore.specs.UserDedup.command.Command.{Command}
use Rattle.subset_restore.specs.UserDedup.command.Command.TheVariants as commands
use Rattle.subset_restore.specs.UserDedup.file_list.FileEntry.{FileEntry}
use Rattle.subset_restore.specs.UserDedup.Cloud.{user_view}
use Rattle.subset_restore.specs.UserDedup.Dedup.{Outcome, FullRoom, TakesVersionOut as TakesOut, delete_outcome, by_room, unless_full}
use Rattle.subset_restore.specs.UserDedup.Pages.{entry_at}
use Rattle.subset_restore.proofs.UserDedup.Growing.{Each, GrowsBy, IfCommand, AddsBy, AsksNoDelete, IsNoDelete, adds_no_delete, ends_none, grows_then}
use Rattle.subset_restore.specs.UserDedup.Exec.{Peer, MaySettleAs, Settles, KeepsPeer, IsCut, Exec, ExecTold, ExecUntold}
use Rattle.local_link.specs.ShareServer.Serving.{ReopensAs}
use Rattle.rebuild.specs.UploadJob.Upload.{FileVersion}
use Rattle.rebuild.specs.KeptFiles.Kept.{Keeps, key_of, AreHarmless}
use Rattle.rebuild.proofs.KeptFiles.Keeping.{keeps_still}
use Rattle.rebuild.specs.UploadJob.Lanes as lanes
use Rattle.rebuild.specs.LaneSteps.Runs.{LaneTurn, Progress, LaneRun, lane_at, progress_after}
use Rattle.rebuild.specs.declared.error.SkipWhy.{SkipWhy}
use Rattle.rebuild.specs.Found.{Finding}
use Rattle.rebuild.specs.Rebuilding.{Progressed, lane_of, BringsOne, BringsAll}
use Rattle.rebuild.proofs.Lanes.{lane_asks_no_delete}
use Rattle.rebuild.proofs.Telling.{own_no_delete}
use Rattle.subset_restore.specs.UserDedup.Spending.{full_for}
use Rattle.session.specs.declared.event.Event.{Event}
use Rattle.session.specs.declared.event.Event.TheVariants as events
use Rattle.session.specs.Transcript.refusal.Refusal.{Refusal}
use Rattle.session.specs.Transcript.line.Line.{Line}
use Rattle.session_model.specs.Vault.{Setting, Vault, HasVaultExecuted, OneGoes, served_at, lanes_of, with_peer, ExecutesAll}
use Rattle.subset_restore.proofs.UserDedup.Owned.{contains_cases, contains_nothing, contains_here, contains_later}
use Rattle.session_model.specs.Steps.{Moment, Execution, moment_of, turn_moment, target_moments, LaneStep, DropStep, FinishLanes, ListRun, ReopensUntold, VStep}
use Rattle.session_model.specs.Kept.{EndsKept, paths_of}
use Rattle.session_model.specs.Headline.{Begun, ComesTo, IsPartOf, event_of}
use Rattle.session_model.proofs.Jobs.{asks_at}
use Rattle.session_model.proofs.With.{with_here, same_other}

-- Each list that the cloud may settle as is one that it might have settled as before, and more commands, each of which is such.
abbrev pub GrowsAs : (Command → Type 0) → Peer → Peer → Type 0
GrowsAs P p q = (list : List Command) → MaySettleAs q list → (before : List Command) × GrowsBy P before list × MaySettleAs p before

-- .. none of which is a Delete
abbrev pub Grows : Peer → Peer → Type 0
Grows p q = GrowsAs IsNoDelete p q

-- the command takes no version of this key out
abbrev pub Spares : UserId → Tag × Version → Command → Type 0
Spares user key command = ¬ TakesOut user key command

-- .. each of which leaves the version
abbrev pub GrowsBut : UserId → Tag × Version → Peer → Peer → Type 0
GrowsBut user key p q = GrowsAs (Spares user key) p q

nothing_pending : (p : Peer) (list : List Command) → p.pending ≡ None → MaySettleAs p list → list ≡ p.list
nothing_pending p list is (inl same) = same
nothing_pending p list is (inr some) = absurd (subst (λ (o : Option Command). IsSomeAnd o (λ command. list ≡ p.list ++ command ∷ [])) is some)

pub stays_in : (p q : Peer) → KeepsPeer p q → (list : List Command) → MaySettleAs q list → MaySettleAs p list
stays_in p q stays list (inl same) = inl (same ∙ stays.list)
stays_in p q stays list (inr some) =
    inr (subst (λ (l : List Command). IsSomeAnd p.pending (λ command. list ≡ l ++ command ∷ [])) stays.list
    (subst (λ (o : Option Command). IsSomeAnd o (λ command. list ≡ q.list ++ command ∷ [])) stays.pending some))

pub settles_in : (p q : Peer) → Settles p q → (list : List Command) → MaySettleAs q list → MaySettleAs p list
settles_in p q s list settles = subst (MaySettleAs p) (sym (nothing_pending q list s.pending settles)) s.list

module _ (P : Command → Type 0) where
  just : (old new : List Command) → new ≡ old → GrowsBy P old new
  just old new e = ([], e ∙ sym (append-nil old), tt)

  pub in_as : (p q : Peer) → ((list : List Command) → MaySettleAs q list → MaySettleAs p list) → GrowsAs P p q
  in_as p q fewer list settles = (list, just list list refl, fewer list settles)

  pub same_as : (p q : Peer) → q ≡ p → GrowsAs P p q
  same_as p q e = in_as p q (λ list settles. subst (λ (x : Peer). MaySettleAs x list) e settles)

  pub on_as : (p q r : Peer) → GrowsAs P p q → GrowsAs P q r → GrowsAs P p r
  on_as p q r one two list settles =
      let y = two list settles in
      let x = one y.0 y.2 in
      (x.0, grows_then P x.0 y.0 list x.1 y.1, x.2)

  pending_grows : (l : List Command) (o : Option Command) (list : List Command) → IfCommand P o → IsSomeAnd o (λ command. list ≡ l ++ command ∷ []) → GrowsBy P l list
  pending_grows l None list quiet some = absurd some
  pending_grows l (Some command) list quiet some = (command ∷ [], some, (quiet, tt))

  each_of : (o : Option Command) → IfCommand P o → Each P (option_to_list o)
  each_of None quiet = tt
  each_of (Some command) quiet = (quiet, tt)

  pub told_as : (serve : List Command → Request → Outcome) (p q : Peer) (request : Request) (reply : Reply) → AddsBy P serve request → ExecTold serve p request reply q → GrowsAs P p q
  told_as serve p q request reply adds (inl a) list settles =
      let added : List Command = option_to_list (serve a.before request).adds in
      (a.before, (added, nothing_pending q list a.pending settles ∙ a.list, each_of (serve a.before request).adds (adds a.before)), a.settled)
  told_as serve p q request reply adds (inr f) list settles = failed f.left settles
    where
      failed : KeepsPeer p q ⊎ IsCut serve p request q → MaySettleAs q list → (before : List Command) × GrowsBy P before list × MaySettleAs p before
      failed (inl stays) settles = (list, just list list refl, stays_in p q stays list settles)
      failed (inr cut) (inl same) = (q.list, just q.list list same, cut.list)
      failed (inr cut) (inr some) =
          (q.list, pending_grows q.list q.pending list (subst (IfCommand P) (sym cut.pending) (adds q.list)) some, cut.list)

pub grows_in : (p q : Peer) → ((list : List Command) → MaySettleAs q list → MaySettleAs p list) → Grows p q
grows_in p q fewer = in_as IsNoDelete p q fewer

pub grows_same : (p q : Peer) → q ≡ p → Grows p q
grows_same p q e = same_as IsNoDelete p q e

pub grows_on : (p q r : Peer) → Grows p q → Grows q r → Grows p r
grows_on p q r one two = on_as IsNoDelete p q r one two

pub grows_told : (serve : List Command → Request → Outcome) (p q : Peer) (request : Request) (reply : Reply) → AddsBy IsNoDelete serve request → ExecTold serve p request reply q → Grows p q
grows_told serve p q request reply adds x = told_as IsNoDelete serve p q request reply adds x

-- ---- a version that no command takes out

module _ (user : UserId) (key : Tag × Version) where
  each_spares : (more : List Command) → Each IsNoDelete more → Each (Spares user key) more
  each_spares [] each = tt
  each_spares (command ∷ more) each = (ends_none user key command each.0, each_spares more each.1)

  -- what is no Delete takes none out
  pub but_of : (p q : Peer) → Grows p q → GrowsBut user key p q
  but_of p q grows list settles =
      let x = grows list settles in
      (x.0, (x.1.0, x.1.1, each_spares x.1.0 x.1.2), x.2)

  harmless : (more : List Command) → Each (Spares user key) more → AreHarmless user key more
  harmless [] each = All-nil (λ command. ¬ TakesOut user key command)
  harmless (command ∷ more) each = All-cons (λ command. ¬ TakesOut user key command) command more each.0 (harmless more each.1)

-- Where each list that the cloud may settle as keeps the version, so does each behind such commands.
pub keeps_but : (shape : Shape) (c : ℕ) (v : FileVersion) (p q : Peer) → ((list : List Command) → MaySettleAs p list → Keeps shape c list v.user v.path v.number v.file)
    → GrowsBut v.user (key_of shape v.path v.number) p q → (list : List Command) → MaySettleAs q list → Keeps shape c list v.user v.path v.number v.file
keeps_but shape c v p q keeps grows list settles =
    let x = grows list settles in
    subst (λ (l : List Command). Keeps shape c l v.user v.path v.number v.file) (sym x.1.1)
    (keeps_still shape c x.0 x.1.0 v.user v.path v.number v.file (harmless v.user (key_of shape v.path v.number) x.1.0 x.1.2) (keeps x.0 x.2))

-- of the paths that the line names none but the version's own has its tag
abbrev pub TagsApart : Shape → FileVersion → Event → Type 0
TagsApart shape v event = (path : List ℕ) → Contains (paths_of event) path → tag shape path ≡ tag shape v.path → path ≡ v.path

-- none of the turns asks a Delete
abbrev pub AskNoDelete : {S : Type 0} → List (LaneTurn S) → Type 0
AskNoDelete {S} turns = (t : LaneTurn S) → Contains turns t → AsksNoDelete t.request

module _ (s : Setting) (c : ℕ) where
  -- what a cloud adds for a request that is no Delete
  adds_at : (request : Request) → AsksNoDelete request → AddsBy IsNoDelete (served_at s c) request
  adds_at request asks = adds_no_delete s.shape c (full_for s.shape s.rooms) request asks

  -- what is brought to a told target of a rebuild
  grows_brings : (p : Peer) (request : Request) (reply : Reply) (q : Peer) → AsksNoDelete request → Exec s.shape true (served_at s c) p request reply q → Grows p q
  grows_brings p request reply q asks x = grows_told (served_at s c) p q request reply (adds_at request asks) x.does

  pub grows_lane_run : (p : Progress) (old : Peer) (turns : List (LaneTurn Peer)) (last : Progress) (new : Peer) → LaneRun (Exec s.shape true (served_at s c)) p old turns last new → Grows old new
  grows_lane_run p old [] last new run = grows_same old new run.2
  grows_lane_run p old (t ∷ turns) last new run =
      let mid : Peer = run.3.0 in
      grows_on old mid new (grows_brings old t.request t.reply mid (lane_asks_no_delete p.lane.work p.lane.state t.request run.2) run.3.1)
      (grows_lane_run (progress_after p t.reply) mid turns last new run.3.2)

  grows_found : (key : Tag × Version) (found : Result FileVersion SkipWhy) (r : Progressed) (old : Peer) (turns : List (LaneTurn Peer)) (after : Progressed) (new : Peer)
      → BringsOne s.shape c (served_at s c) key found r old turns after new → Grows old new
  grows_found key (Err why) r old turns after new x = grows_same old new x.2
  grows_found key (Ok v) r old turns after new x = grows_lane_run (lane_of s.shape c v) old turns x.0 new x.2

  pub grows_brought : (fs : List Finding) (r : Progressed) (old : Peer) (turns : List (LaneTurn Peer)) (after : Progressed) (new : Peer) → BringsAll s.shape c (served_at s c) fs r old turns after new → Grows old new
  grows_brought [] r old turns after new x = grows_same old new x.2
  grows_brought (f ∷ fs) r old turns after new x =
      grows_on old x.1 new (grows_found f.key f.found r old x.2 x.0 x.1 x.4) (behind x.0.stop (λ b. grows_brought fs x.0 x.1 x.3 after new b) x.6)
    where
      behind : (o : Option Reply) → (BringsAll s.shape c (served_at s c) fs x.0 x.1 x.3 after new → Grows x.1 new)
          → MatchOption o (BringsAll s.shape c (served_at s c) fs x.0 x.1 x.3 after new) (λ said. (x.3 ≡ []) × (after ≡ x.0) × (new ≡ x.1)) → Grows x.1 new
      behind None again m = again m
      behind (Some said) again m = grows_same x.1 new m.2

module _ (s : Setting) (c : ℕ) (told : IsTrue (s.told c)) where
  pub grows_executes : (cloud : ℕ) (old new : ℕ → Peer) (request : Request) (reply : Reply) → AsksNoDelete request → HasVaultExecuted s cloud old request reply new → Grows (old c) (new c)
  grows_executes cloud old new request reply asks x = elim (cases_eq c cloud) [
    | inl same ↦ subst (λ (n : ℕ). Grows (old n) (new n)) (sym same) (grows_told (served_at s cloud) (old cloud) (new cloud) request reply (adds_at s cloud request asks)
        (subst (λ (b : Bool). MatchBool b (ExecTold (served_at s cloud) (old cloud) request reply (new cloud)) (ExecUntold s.shape (old cloud) request reply (new cloud)))
        (subst (λ (n : ℕ). IsTrue (s.told n)) same told) x.does.does))
    | inr ne ↦ grows_same (old c) (new c) (x.others c ne)
  ]

  grows_one : (cloud : ℕ) (Goes : Peer → Peer → Type 0) (old new : ℕ → Peer) → OneGoes cloud Goes old new → (c ≡ cloud → Goes (old cloud) (new cloud) → Grows (old cloud) (new cloud)) → Grows (old c) (new c)
  grows_one cloud Goes old new x there = elim (cases_eq c cloud) [
    | inl same ↦ subst (λ (n : ℕ). Grows (old n) (new n)) (sym same) (there same x.goes)
    | inr ne ↦ grows_same (old c) (new c) (x.others c ne)
  ]

  pub grows_run : (cloud : ℕ) (p : Progress) (old : ℕ → Peer) (turns : List (LaneTurn (ℕ → Peer))) (last : Progress) (new : ℕ → Peer) → LaneRun (HasVaultExecuted s cloud) p old turns last new → Grows (old c) (new c)
  grows_run cloud p old [] last new run = grows_same (old c) (new c) (ap (λ (f : ℕ → Peer). f c) run.2)
  grows_run cloud p old (t ∷ turns) last new run =
      grows_on (old c) (run.3.0 c) (new c) (grows_executes cloud old run.3.0 t.request t.reply (lane_asks_no_delete p.lane.work p.lane.state t.request run.2) run.3.1) (grows_run cloud (progress_after p t.reply) run.3.0 turns last new run.3.2)

  pub grows_finish : (job : ℕ) (clouds : List ℕ) (old : Vault) (answers : List Line) (moments : List Moment) (new : Vault) → FinishLanes s job clouds old answers moments new → Grows (old.peers c) (new.peers c)
  grows_finish job [] old answers moments new f = grows_same (old.peers c) (new.peers c) (ap (λ (v : Vault). v.peers c) f.2)
  grows_finish job (cloud ∷ clouds) old answers moments new f =
      grows_on (old.peers c) (f.3.peers c) (new.peers c) (grows_run cloud _ old.peers f.0 f.1 f.3.peers f.7) (grows_finish job clouds f.3 f.5 f.6 new f.13)

  -- the request of a job's lane
  asks_lane : (job cloud : ℕ) (old : Vault) (request : Request) → lanes.request_at (lanes_of old.jobs job) cloud ≡ Some request → AsksNoDelete request
  asks_lane job cloud old request asks =
      let lane = lane_at (lanes_of old.jobs job) cloud in
      lane_asks_no_delete lane.work lane.state request (asks_at (lanes_of old.jobs job) cloud request asks)

  grows_lane : (job cloud : ℕ) (request : Option Request) (old : Vault) (answers : List Line) (moments : List Moment) (new : Vault) → lanes.request_at (lanes_of old.jobs job) cloud ≡ request → LaneStep s job cloud request old answers moments new → Grows (old.peers c) (new.peers c)
  grows_lane job cloud None old answers moments new asks x = grows_same (old.peers c) (new.peers c) (ap (λ (v : Vault). v.peers c) x.2)
  grows_lane job cloud (Some request) old answers moments new asks x = grows_executes cloud old.peers new.peers request x.0 (asks_lane job cloud old request asks) x.3

  grows_drop : (job cloud : ℕ) (request : Option Request) (old : Vault) (answers : List Line) (moments : List Moment) (new : Vault) → lanes.request_at (lanes_of old.jobs job) cloud ≡ request → DropStep s job cloud request old answers moments new → Grows (old.peers c) (new.peers c)
  grows_drop job cloud None old answers moments new asks x = grows_same (old.peers c) (new.peers c) (ap (λ (v : Vault). v.peers c) x.2)
  grows_drop job cloud (Some request) old answers moments new asks x = grows_executes cloud old.peers new.peers request x.0 (asks_lane job cloud old request asks) x.1

  grows_list : (user : UserId) (cloud : ℕ) (above : Option (Tag × Version)) (old : ℕ → Peer) (turns : List (LaneTurn (ℕ → Peer))) (listed : Result (List (Tag × Version)) Refusal) (new : ℕ → Peer)
      → ListRun s user cloud above old turns listed new → Grows (old c) (new c)
  grows_list user cloud above old [] listed new run = absurd run
  grows_list user cloud above old (t ∷ turns) listed new run =
      grows_on (old c) (run.2.0 c) (new c) (grows_executes cloud old run.2.0 t.request t.reply (subst AsksNoDelete (sym run.1) tt) run.2.1) (elim run.2.2 [
        | inl x ↦ grows_same (run.2.0 c) (new c) (ap (λ (f : ℕ → Peer). f c) x.2)
        | inr x ↦ grows_list user cloud (slice_get x.0 (length x.0 - 1)) run.2.0 turns x.1 new x.5
      ])

  -- the requests of a rebuild's target
  grows_exec : (p : Peer) (request : Request) (reply : Reply) (q : Peer) → AsksNoDelete request → Exec s.shape (s.told c) (served_at s c) p request reply q → Grows p q
  grows_exec p request reply q asks x =
      grows_told (served_at s c) p q request reply (adds_at s c request asks) (subst (λ (b : Bool). MatchBool b (ExecTold (served_at s c) p request reply q) (ExecUntold s.shape p request reply q)) told x.does)

  pub grows_all : (p : Peer) (turns : List (LaneTurn Peer)) (q : Peer) → AskNoDelete turns → ExecutesAll s c p turns q → Grows p q
  grows_all p [] q asks x = grows_same p q x
  grows_all p (t ∷ turns) q asks x =
      grows_on p x.1.0 q (grows_exec p t.request t.reply x.1.0 (asks t (contains_here t turns)) x.1.1)
      (grows_all x.1.0 turns q (λ u has. asks u (contains_later t turns u has)) x.1.2)

  grows_read : (p q : Peer) → KeepsPeer p q ⊎ Settles p q → Grows p q
  grows_read p q (inl stays) = grows_in p q (stays_in p q stays)
  grows_read p q (inr settles) = grows_in p q (settles_in p q settles)

  grows_reopen : (result : Result ℕ OpenErr) (p q : Peer) → ReopensAs true p q result → Grows p q
  grows_reopen (Ok commands) p q r = grows_in p q (settles_in p q r.0)
  grows_reopen (Err errors.Fault) p q r = grows_in p q (stays_in p q r.0)
  grows_reopen (Err (errors.NotBegun len)) p q r = grows_same p q r.0
  grows_reopen (Err (errors.OtherStore found asked at)) p q r = absurd r
  grows_reopen (Err (errors.Damaged at byte)) p q r = absurd r

  -- ---- a deletion

  -- a deletion adds itself, or nothing
  adds_deletion : (P : Command → Type 0) (cloud : ℕ) (user : UserId) (t : Tag) (version : Version) → P (commands.Delete user t version) → AddsBy P (served_at s cloud) (requests.Delete user t version)
  adds_deletion P cloud user t version is list = by_entry (entry_at (user_view s.shape list user).files (t, version))
    where
      by_full : (entry : FileEntry) (room : Option FullRoom) → IfCommand P (by_room (delete_outcome (Some entry) (commands.Delete user t version)) room).adds
      by_full entry None = is
      by_full entry (Some full) = tt

      by_entry : (entry : Option FileEntry) → IfCommand P (unless_full (full_for s.shape s.rooms list) (delete_outcome entry (commands.Delete user t version))).adds
      by_entry None = tt
      by_entry (Some entry) = by_full entry (full_for s.shape s.rooms list (commands.Delete user t version))

  grows_deleted : (owner : UserId) (key : Tag × Version) (cloud : ℕ) (user : UserId) (t : Tag) (version : Version) (old new : ℕ → Peer) (reply : Reply)
      → (c ≡ cloud → Spares owner key (commands.Delete user t version)) → HasVaultExecuted s cloud old (requests.Delete user t version) reply new → GrowsBut owner key (old c) (new c)
  grows_deleted owner key cloud user t version old new reply spares x = elim (cases_eq c cloud) [
    | inl same ↦ subst (λ (n : ℕ). GrowsBut owner key (old n) (new n)) (sym same)
        (told_as (Spares owner key) (served_at s cloud) (old cloud) (new cloud) (requests.Delete user t version) reply
        (adds_deletion (Spares owner key) cloud user t version (spares same))
        (subst (λ (b : Bool). MatchBool b (ExecTold (served_at s cloud) (old cloud) (requests.Delete user t version) reply (new cloud)) (ExecUntold s.shape (old cloud) (requests.Delete user t version) reply (new cloud)))
        (subst (λ (n : ℕ). IsTrue (s.told n)) same told) x.does.does))
    | inr ne ↦ same_as (Spares owner key) (old c) (new c) (x.others c ne)
  ]

  -- ---- every line

  but : (v : FileVersion) (old new : Vault) → Grows (old.peers c) (new.peers c) → GrowsBut v.user (key_of s.shape v.path v.number) (old.peers c) (new.peers c)
  but v old new grows = but_of v.user (key_of s.shape v.path v.number) (old.peers c) (new.peers c) grows

  pub grows_step : (v : FileVersion) (old : Vault) (event : Event) (answers : List Line) (moments : List Moment) (new : Vault) → VStep s old event answers moments new → TagsApart s.shape v event → ¬ EndsKept c v event
      → GrowsBut v.user (key_of s.shape v.path v.number) (old.peers c) (new.peers c)
  grows_step v old (events.Upload user path version bytes) answers moments new x apart lasts = but v old new (grows_same (old.peers c) (new.peers c) (ap (λ (f : ℕ → Peer). f c) x.2))
  grows_step v old (events.Step job lane) answers moments new x apart lasts = but v old new (grows_lane job lane.0 (lanes.request_at (lanes_of old.jobs job) lane.0) old answers moments new refl x)
  grows_step v old (events.Lose job lane) answers moments new x apart lasts = but v old new (grows_same (old.peers c) (new.peers c) (ap (λ (w : Vault). w.peers c) x.2))
  grows_step v old (events.Drop job lane) answers moments new x apart lasts = but v old new (grows_drop job lane.0 (lanes.request_at (lanes_of old.jobs job) lane.0) old answers moments new refl x)
  grows_step v old (events.Finish job) answers moments new x apart lasts = but v old new (grows_finish job _ old x.0 moments new x.1)
  grows_step v old (events.Get user path version clouds) answers moments new x apart lasts = but v old new (grows_in (old.peers c) (new.peers c) (by_read (x.1.read.read c).0))
    where
      by_read : KeepsPeer (old.peers c) (new.peers c) ⊎ Settles (old.peers c) (new.peers c) → (list : List Command) → MaySettleAs (new.peers c) list → MaySettleAs (old.peers c) list
      by_read (inl stays) = stays_in (old.peers c) (new.peers c) stays
      by_read (inr settles) = settles_in (old.peers c) (new.peers c) settles
  grows_step v old (events.Arm cloud calls keep) answers moments new x apart lasts =
      but v old new (grows_one cloud.0 _ old.peers new.peers x.0 (λ same armed. grows_in (old.peers cloud.0) (new.peers cloud.0) (stays_in (old.peers cloud.0) (new.peers cloud.0) armed.stays)))
  grows_step v old (events.Restart cloud) answers moments new x apart lasts =
      but v old new (grows_one cloud.0 _ old.peers new.peers x.1 (λ same r. grows_reopen r.0 (old.peers cloud.0) (new.peers cloud.0)
      (subst (λ (b : Bool). MatchBool b (ReopensAs true (old.peers cloud.0) (new.peers cloud.0) r.0) (ReopensUntold r.0 (old.peers cloud.0) (new.peers cloud.0))) (subst (λ (n : ℕ). IsTrue (s.told n)) same told) r.2)))
  grows_step v old (events.List user cloud) answers moments new x apart lasts = but v old new (grows_list user cloud.0 None old.peers x.0 x.1 new.peers x.2)
  grows_step v old (events.Replace cloud) answers moments new x apart lasts = but v old new (grows_one cloud.0 _ old.peers new.peers x.1 (λ same r. absurd (lasts (sym same))))
  grows_step v old (events.Rebuild user target from) answers moments new x apart lasts = but v old new (elim (cases_eq c target.0) [
    | inl same ↦ grows_all (old.peers c) x.0.turns (new.peers c) (λ t has. own_no_delete s.shape user target.0 x.0.own.0 x.0.turns t x.0.own.1 has) (subst (λ (n : ℕ). ExecutesAll s n (old.peers n) x.0.turns (new.peers n)) (sym same) x.0.executes)
    | inr ne ↦ grows_read (old.peers c) (new.peers c) (x.0.leaves.read c ne).0
  ])
  grows_step v old (events.Delete user path version cloud) answers moments new x apart lasts =
      grows_deleted v.user (key_of s.shape v.path v.number) cloud.0 user (key_of s.shape path version).0 version old.peers new.peers x.0.0
      (λ same out. lasts (sym same, out.0, apart path (contains_here path []) (ap (λ (k : Tag × Version). k.0.0) out.1), ap (λ (k : Tag × Version). k.1) out.1)) x.0.2

  -- ---- at each moment of a line

  grows_turn : (cloud : ℕ) (p : Progress) (old : ℕ → Peer) (turns : List (LaneTurn (ℕ → Peer))) (last : Progress) (new : ℕ → Peer) → LaneRun (HasVaultExecuted s cloud) p old turns last new
      → (m : Moment) → Contains (map (moment_of cloud) turns) m → Grows (old c) (m.peers c)
  grows_turn cloud p old [] last new run m has = absurd (contains_nothing m has)
  grows_turn cloud p old (t ∷ turns) last new run m has = elim (contains_cases (moment_of cloud t) (map (moment_of cloud) turns) m has) [
    | inl same ↦ grows_same (old c) (m.peers c) (ap (λ (n : Moment). n.peers c) (sym same) ∙ ap (λ (f : ℕ → Peer). f c) run.1)
    | inr later ↦ grows_on (old c) (run.3.0 c) (m.peers c) (grows_executes cloud old run.3.0 t.request t.reply (lane_asks_no_delete p.lane.work p.lane.state t.request run.2) run.3.1) (grows_turn cloud (progress_after p t.reply) run.3.0 turns last new run.3.2 m later)
  ]

  grows_finish_at : (job : ℕ) (clouds : List ℕ) (old : Vault) (answers : List Line) (moments : List Moment) (new : Vault) → FinishLanes s job clouds old answers moments new
      → (m : Moment) → Contains moments m → Grows (old.peers c) (m.peers c)
  grows_finish_at job [] old answers moments new f m has = absurd (contains_nothing m (subst (λ (l : List Moment). Contains l m) f.1 has))
  grows_finish_at job (cloud ∷ clouds) old answers moments new f m has = elim (Contains-append_cases (map (moment_of cloud) f.0) f.6 m (subst (λ (l : List Moment). Contains l m) f.12 has)) [
    | inl here ↦ grows_turn cloud _ old.peers f.0 f.1 f.3.peers f.7 m here
    | inr later ↦ grows_on (old.peers c) (f.3.peers c) (m.peers c) (grows_run cloud _ old.peers f.0 f.1 f.3.peers f.7) (grows_finish_at job clouds f.3 f.5 f.6 new f.13 m later)
  ]

  grows_alone : (old : ℕ → Peer) (event : Option Execution) (moments : List Moment) → moments ≡ record { peers = old; event = event } ∷ [] → (m : Moment) → Contains moments m → Grows (old c) (m.peers c)
  grows_alone old event moments e m has = elim (contains_cases (record { peers = old; event = event }) [] m (subst (λ (l : List Moment). Contains l m) e has)) [
    | inl same ↦ grows_same (old c) (m.peers c) (ap (λ (n : Moment). n.peers c) (sym same))
    | inr none ↦ absurd (contains_nothing m none)
  ]

  grows_lane_at : (job cloud : ℕ) (request : Option Request) (old : Vault) (answers : List Line) (moments : List Moment) (new : Vault) → LaneStep s job cloud request old answers moments new
      → (m : Moment) → Contains moments m → Grows (old.peers c) (m.peers c)
  grows_lane_at job cloud None old answers moments new x = grows_alone old.peers None moments x.1
  grows_lane_at job cloud (Some request) old answers moments new x = grows_alone old.peers _ moments x.4

  grows_drop_at : (job cloud : ℕ) (request : Option Request) (old : Vault) (answers : List Line) (moments : List Moment) (new : Vault) → DropStep s job cloud request old answers moments new
      → (m : Moment) → Contains moments m → Grows (old.peers c) (m.peers c)
  grows_drop_at job cloud None old answers moments new x = grows_alone old.peers None moments x.1
  grows_drop_at job cloud (Some request) old answers moments new x = grows_alone old.peers _ moments x.2

  grows_list_at : (user : UserId) (cloud : ℕ) (above : Option (Tag × Version)) (old : ℕ → Peer) (turns : List (LaneTurn (ℕ → Peer))) (listed : Result (List (Tag × Version)) Refusal) (new : ℕ → Peer)
      → ListRun s user cloud above old turns listed new → (m : Moment) → Contains (map (moment_of cloud) turns) m → Grows (old c) (m.peers c)
  grows_list_at user cloud above old [] listed new run m has = absurd run
  grows_list_at user cloud above old (t ∷ turns) listed new run m has = elim (contains_cases (moment_of cloud t) (map (moment_of cloud) turns) m has) [
    | inl same ↦ grows_same (old c) (m.peers c) (ap (λ (n : Moment). n.peers c) (sym same) ∙ ap (λ (f : ℕ → Peer). f c) run.0)
    | inr later ↦ grows_on (old c) (run.2.0 c) (m.peers c) (grows_executes cloud old run.2.0 t.request t.reply (subst AsksNoDelete (sym run.1) tt) run.2.1) (elim run.2.2 [
      | inl x ↦ absurd (contains_nothing m (subst (λ (l : List (LaneTurn (ℕ → Peer))). Contains (map (moment_of cloud) l) m) x.1 later))
      | inr x ↦ grows_list_at user cloud (slice_get x.0 (length x.0 - 1)) run.2.0 turns x.1 new x.5 m later
    ])
  ]

  -- the target of a rebuild
  grows_target : (old : ℕ → Peer) (p : Peer) (turns : List (LaneTurn Peer)) (end : Peer) → AskNoDelete turns → ExecutesAll s c p turns end → (m : Moment) → Contains (target_moments old c turns end) m → Grows p (m.peers c)
  grows_target old p [] end asks x m has = elim (contains_cases (record { peers = with_peer old c end; event = None }) [] m has) [
    | inl same ↦ grows_same p (m.peers c) (ap (λ (n : Moment). n.peers c) (sym same) ∙ with_here old c end ∙ x)
    | inr none ↦ absurd (contains_nothing m none)
  ]
  grows_target old p (t ∷ turns) end asks x m has = elim (contains_cases (turn_moment old c t) (target_moments old c turns end) m has) [
    | inl same ↦ grows_same p (m.peers c) (ap (λ (n : Moment). n.peers c) (sym same) ∙ with_here old c t.before ∙ x.0)
    | inr later ↦ grows_on p x.1.0 (m.peers c) (grows_exec p t.request t.reply x.1.0 (asks t (contains_here t turns)) x.1.1)
        (grows_target old x.1.0 turns end (λ u among. asks u (contains_later t turns u among)) x.1.2 m later)
  ]

  grows_rebuild : (old : ℕ → Peer) (target : ℕ) (turns : List (LaneTurn Peer)) (new : ℕ → Peer) → AskNoDelete turns → ExecutesAll s target (old target) turns (new target)
      → (m : Moment) → Contains (target_moments old target turns (new target)) m → Grows (old c) (m.peers c)
  grows_rebuild old target turns new asks x m has = elim (cases_eq c target) [
    | inl same ↦ grows_target old (old c) turns (new c) asks (subst (λ (n : ℕ). ExecutesAll s n (old n) turns (new n)) (sym same) x) m
        (subst (λ (n : ℕ). Contains (target_moments old n turns (new n)) m) (sym same) has)
    | inr ne ↦ grows_same (old c) (m.peers c) (same_other c old target turns (new target) ne m has)
  ]

  pub grows_at : (old : Vault) (event : Event) (answers : List Line) (moments : List Moment) (new : Vault) → VStep s old event answers moments new → (m : Moment) → Contains moments m → Grows (old.peers c) (m.peers c)
  grows_at old (events.Upload user path version bytes) answers moments new x = grows_alone old.peers None moments x.1
  grows_at old (events.Step job lane) answers moments new x = grows_lane_at job lane.0 (lanes.request_at (lanes_of old.jobs job) lane.0) old answers moments new x
  grows_at old (events.Lose job lane) answers moments new x = grows_alone old.peers None moments x.1
  grows_at old (events.Drop job lane) answers moments new x = grows_drop_at job lane.0 (lanes.request_at (lanes_of old.jobs job) lane.0) old answers moments new x
  grows_at old (events.Finish job) answers moments new x = grows_finish_at job _ old x.0 moments new x.1
  grows_at old (events.Get user path version clouds) answers moments new x = grows_alone old.peers None moments x.3
  grows_at old (events.Arm cloud calls keep) answers moments new x = grows_alone old.peers None moments x.2
  grows_at old (events.Restart cloud) answers moments new x = grows_alone old.peers None moments x.3
  grows_at old (events.List user cloud) answers moments new x = λ m has.
      grows_list_at user cloud.0 None old.peers x.0 x.1 new.peers x.2 m (subst (λ (l : List Moment). Contains l m) x.4 has)
  grows_at old (events.Replace cloud) answers moments new x = grows_alone old.peers None moments x.3
  grows_at old (events.Rebuild user target from) answers moments new x = λ m has.
      elim (contains_cases (record { peers = old.peers; event = None }) (target_moments old.peers target.0 x.0.turns (new.peers target.0)) m (subst (λ (l : List Moment). Contains l m) x.0.moments_are has)) [
        | inl same ↦ grows_same (old.peers c) (m.peers c) (ap (λ (n : Moment). n.peers c) (sym same))
        | inr later ↦ grows_rebuild old.peers target.0 x.0.turns new.peers (λ t among. own_no_delete s.shape user target.0 x.0.own.0 x.0.turns t x.0.own.1 among) x.0.executes m later
      ]
  grows_at old (events.Delete user path version cloud) answers moments new x = grows_alone old.peers _ moments x.0.5

  pub grows_last : (v : FileVersion) (between : Vault) (begun : Option Begun) (last : ℕ → Peer) → MatchOption begun (last ≡ between.peers) (λ b. IsPartOf s between b last)
      → ((event : Event) → Contains (event_of begun) event → TagsApart s.shape v event) → ((event : Event) → Contains (event_of begun) event → ¬ EndsKept c v event)
      → GrowsBut v.user (key_of s.shape v.path v.number) (between.peers c) (last c)
  grows_last v between None last x apart lasts = same_as (Spares v.user (key_of s.shape v.path v.number)) (between.peers c) (last c) (ap (λ (f : ℕ → Peer). f c) x)
  grows_last v between (Some b) last x apart lasts = by_rest x.1 x.3 x.4
    where
      by_rest : (rest : List Moment) → VStep s between b.event x.0 (b.moments ++ rest) x.2 → ComesTo rest x.2.peers last → GrowsBut v.user (key_of s.shape v.path v.number) (between.peers c) (last c)
      by_rest [] step comes =
          on_as (Spares v.user (key_of s.shape v.path v.number)) (between.peers c) (x.2.peers c) (last c)
          (grows_step v between b.event x.0 (b.moments ++ []) x.2 step (apart b.event (contains_here b.event [])) (lasts b.event (contains_here b.event [])))
          (same_as (Spares v.user (key_of s.shape v.path v.number)) (x.2.peers c) (last c) (ap (λ (f : ℕ → Peer). f c) comes))
      by_rest (m ∷ rest) step comes =
          but_of v.user (key_of s.shape v.path v.number) (between.peers c) (last c)
          (grows_on (between.peers c) (m.peers c) (last c) (grows_at between b.event x.0 (b.moments ++ m ∷ rest) x.2 step m (Contains-append_right b.moments (m ∷ rest) m (contains_here m rest)))
          (grows_same (m.peers c) (last c) (ap (λ (f : ℕ → Peer). f c) comes)))
