-- There is one session of a script over told clouds whose counts don't rise.
use Rattle.std.proofs.Common.{◌≡◌, ℕ, ◌+◌, ◌-◌, ◌<◌, ◌^◌, Bool, true, false, List, [], ◌∷◌, ◌++◌, length, map, None, Result, Ok, Err, refl, sym, ap, ◌∙◌, subst, inl, inr, arith}
use Rattle.std.specs.Prelude.{min}
use Rattle.std.specs.Bool.{MatchBool}
use Rattle.std.specs.List.{Contains, range_with_len}
use Rattle.std.proofs.lemmas.Bool.{cases_eq}
use Rattle.recipe.specs.CdBase.ids.CloudNo.{CloudNo}
use Rattle.session_model.specs.CdEdges.Causes.{Rose}
use Rattle.session_model.specs.CommitJournal.errors.OpenErr.{OpenErr}
use Rattle.session_model.specs.CommitJournal.errors.OpenErr.TheVariants as errors
use Rattle.session_model.specs.Messages.request.Request.TheVariants as requests
use Rattle.session_model.specs.Messages.reply.Reply.{Reply}
use Rattle.session_model.specs.Messages.reply.Reply.TheVariants as replies
use Rattle.session_model.specs.UserDedup.Exec.{Peer}
use Rattle.session_model.specs.UserDedup.Cloud.{counted}
use Rattle.session_model.specs.ShareServer.Serving.{ReopensAs}
use Rattle.session_model.specs.LocalLink.Calls.{Armed}
use Rattle.session_model.specs.KeptFiles.Kept.{key_of}
use Rattle.session_model.specs.UploadJob.Lanes as lanes
use Rattle.session_model.specs.Session.event.Event.{Event}
use Rattle.session_model.specs.Session.event.Event.TheVariants as events
use Rattle.session_model.specs.Session.Spelling.{FitsEvent, AreClouds}
use Rattle.session_model.specs.Session.Scripts.{AreLines, jobs_after}
use Rattle.session_model.specs.Transcript.line.Line.{Line}
use Rattle.session_model.specs.Transcript.line.Line.TheVariants as lines
use Rattle.session_model.specs.Vault.{Setting, Vault, OneGoes, lanes_of}
use Rattle.session_model.specs.Steps.{Moment, executed, moment_of, cloud_no, list_lines, IsRestartLine, ReopensUntold, RestartStep, IsReplaceLine, ReplaceStep, IsDeleteLine, VStep, all_done}
use Rattle.session_model.specs.Run.{Answered, Turns, script_of}
use Rattle.two_worlds.proofs.Peers.{same_peer, settled_as}
use Rattle.two_worlds.proofs.Own.{Still}
use Rattle.two_worlds.proofs.Once.{Rested, Once, executes_once, rested_executes, lane_once, drop_once, finish_once, list_once, get_once}
use Rattle.two_worlds.proofs.Refilled.{rebuild_once}
use Rattle.two_worlds.proofs.Turns.{AllStill}
use Rattle.two_worlds.proofs.Lines.{in_range}

-- ---- lines on one cloud

-- a cloud behind a replacement, and behind an arming
abbrev replaced_peer : Peer → Peer
replaced_peer p = record { list = []; pending = None; faults = p.faults; armings = p.armings }

abbrev armed_peer : Peer → Peer
armed_peer p = record { list = p.list; pending = None; faults = p.faults; armings = min (p.armings + 1) (2 ^ 64 - 1) }

module _ (cloud : ℕ) (p q : Peer) (none : p.pending ≡ None) (still : Rose p.faults q.faults → ⊥) where
  opened_so : (r : Result ℕ OpenErr) (line : Line) → IsRestartLine cloud r line → ReopensAs true p q r → (line ≡ lines.Restarted (cloud_no cloud) (counted p.list)) × (q ≡ p)
  opened_so (Ok commands) line is x =
      let list = settled_as p q.list none x.0.list in
      (is ∙ ap (λ (n : ℕ). lines.Restarted (cloud_no cloud) n) (x.3 ∙ ap counted list), same_peer p q list (x.0.pending ∙ sym none) x.1 x.2)
  opened_so (Err errors.Fault) line is x = absurd (still x.1)
  opened_so (Err (errors.NotBegun len)) line is x = absurd (let no : true ≡ false = x.1 in cc)
  opened_so (Err (errors.OtherStore found asked at)) line is x = absurd x
  opened_so (Err (errors.Damaged at byte)) line is x = absurd x

  restart_so : (s : Setting) → s.told cloud ≡ true → (line : Line) → RestartStep s cloud line p q → (line ≡ lines.Restarted (cloud_no cloud) (counted p.list)) × (q ≡ p)
  restart_so s told line x =
      opened_so x.0 line x.1 (subst (λ (b : Bool). MatchBool b (ReopensAs true p q x.0) (ReopensUntold x.0 p q)) told x.2)

  says_so : (told : Bool) → told ≡ true → (line : Line) → IsReplaceLine told cloud p.faults q.faults line → (line ≡ lines.Replaced (cloud_no cloud)) × (q.faults ≡ p.faults)
  says_so told is (lines.Replaced c) x = (ap (λ (d : CloudNo). lines.Replaced d) x.0, x.1)
  says_so told is (lines.Fault c) x = absurd (still x.1)
  says_so told is (lines.Damaged c at byte) x = absurd (let no : true ≡ false = sym is ∙ x.1 in cc)
  says_so told is (lines.Opened shape) x = absurd x
  says_so told is (lines.Done count) x = absurd x
  says_so told is (lines.Job job) x = absurd x
  says_so told is (lines.Step job lane news) x = absurd x
  says_so told is (lines.JobStored job) x = absurd x
  says_so told is (lines.Lost job lane) x = absurd x
  says_so told is (lines.End job stored) x = absurd x
  says_so told is (lines.Got bytes) x = absurd x
  says_so told is (lines.Refused why) x = absurd x
  says_so told is (lines.Entries user c count) x = absurd x
  says_so told is (lines.Entry tag version) x = absurd x
  says_so told is (lines.Armed c) x = absurd x
  says_so told is (lines.Restarted c commands) x = absurd x
  says_so told is (lines.Rebuilt user c files skipped) x = absurd x
  says_so told is (lines.Skipped tag version why) x = absurd x
  says_so told is (lines.Deleted c) x = absurd x
  says_so told is (lines.Missing c) x = absurd x
  says_so told is (lines.Full c room used need limit) x = absurd x
  says_so told is (lines.Rotten c named found) x = absurd x
  says_so told is (lines.NoMemory c) x = absurd x
  says_so told is (lines.Strange c kind) x = absurd x

  replace_so : (s : Setting) → s.told cloud ≡ true → (line : Line) → ReplaceStep s cloud line p q → (line ≡ lines.Replaced (cloud_no cloud)) × (q ≡ replaced_peer p)
  replace_so s told line x =
      let says = says_so (s.told cloud) told line x.says in
      (says.0, same_peer (replaced_peer p) q x.list x.pending says.1 x.armings)

arm_so : (p q : Peer) → p.pending ≡ None → Armed p q → q ≡ armed_peer p
arm_so p q none x = same_peer (armed_peer p) q x.stays.list (x.stays.pending ∙ none) x.faults x.armings

one_same : (cloud : ℕ) (G1 G2 : Peer → Peer → Type 0) (old one two : ℕ → Peer) → OneGoes cloud G1 old one → OneGoes cloud G2 old two → one cloud ≡ two cloud → one ≡ two
one_same cloud G1 G2 old one two x y same = λ i c. at c i
  where
    at : (c : ℕ) → one c ≡ two c
    at c = elim (cases_eq c cloud) [
      | inl e ↦ subst (λ (d : ℕ). one d ≡ two d) (sym e) same
      | inr ne ↦ x.others c ne ∙ sym (y.others c ne)
    ]

one_rested : (cloud : ℕ) (G : Peer → Peer → Type 0) (old new : ℕ → Peer) → OneGoes cloud G old new → Rested old → (new cloud).pending ≡ None → Rested new
one_rested cloud G old new x rested none c = elim (cases_eq c cloud) [
  | inl e ↦ subst (λ (d : ℕ). (new d).pending ≡ None) (sym e) none
  | inr ne ↦ ap (λ (p : Peer). p.pending) (x.others c ne) ∙ rested c
]

-- ---- a deletion

deleted_once : (cloud : ℕ) (reply : Reply) (l1 l2 : Line) → IsDeleteLine cloud reply l1 → IsDeleteLine cloud reply l2 → l1 ≡ l2
deleted_once cloud replies.Deleted l1 l2 x y = x ∙ sym y
deleted_once cloud replies.Missing l1 l2 x y = x ∙ sym y
deleted_once cloud (replies.Full room used need limit) l1 l2 x y = x ∙ sym y
deleted_once cloud replies.Fault l1 l2 x y = x ∙ sym y
deleted_once cloud (replies.Damaged at byte) l1 l2 x y = x ∙ sym y
deleted_once cloud (replies.Rotten named found) l1 l2 x y = x ∙ sym y
deleted_once cloud (replies.Hello n k c format) l1 l2 x y = absurd x
deleted_once cloud (replies.Known flags) l1 l2 x y = absurd x
deleted_once cloud (replies.Stored new) l1 l2 x y = absurd x
deleted_once cloud replies.Committed l1 l2 x y = absurd x
deleted_once cloud replies.Exists l1 l2 x y = absurd x
deleted_once cloud (replies.Lacking place) l1 l2 x y = absurd x
deleted_once cloud (replies.Recipe bytes) l1 l2 x y = absurd x
deleted_once cloud (replies.Shares shares) l1 l2 x y = absurd x
deleted_once cloud (replies.NotYours place) l1 l2 x y = absurd x
deleted_once cloud (replies.Entries entries) l1 l2 x y = absurd x
deleted_once cloud (replies.Malformed at) l1 l2 x y = absurd x
deleted_once cloud replies.NoMemory l1 l2 x y = absurd x

-- ---- each line

module _ (s : Setting) (told : (c : ℕ) → c < s.shape.n → s.told c ≡ true) where
  module _ (old : Vault) (a1 a2 : List Line) (m1 m2 : List Moment) (n1 n2 : Vault) (rested : Rested old.peers)
      (still1 : Still s.shape.n old.peers n1.peers) (still2 : Still s.shape.n old.peers n2.peers) where
    vaults : n1.peers ≡ n2.peers → n1.jobs ≡ n2.jobs → n1 ≡ n2
    vaults p j = λ i. record { peers = p i; jobs = j i }

    all_lanes : (c : ℕ) → Contains (range_with_len 0 s.shape.n) c → c < s.shape.n
    all_lanes c has = let h = in_range 0 s.shape.n c has in omega (arith, h)

    -- k is at least 2, so a rebuild reads some cloud
    none_read : (from : List ℕ) → AreClouds s.shape from → from ≡ [] → ⊥
    none_read from are none = let count = are.count in let e = ap (λ (l : List ℕ). length l) none in let several = s.shape.several in omega (arith, count, e, several)

    pub step_once : (jobs : ℕ) (event : Event) → FitsEvent s.shape jobs event → VStep s old event a1 m1 n1 → VStep s old event a2 m2 n2 → Once s told a1 a2 m1 m2 n1 n2
    step_once jobs (events.Upload user path version bytes) fits x y = record {
      answers = x.0 ∙ sym y.0;
      moments = x.1 ∙ sym y.1;
      new = vaults (x.2 ∙ sym y.2) (x.3 ∙ sym y.3);
      rested = subst Rested (sym x.2) rested;
    }
    step_once jobs (events.Step job lane) fits x y = lane_once s told job lane.0 fits.1 old a1 a2 m1 m2 n1 n2 rested still1 still2 (lanes.request_at (lanes_of old.jobs job) lane.0) x y
    step_once jobs (events.Lose job lane) fits x y = record {
      answers = x.0 ∙ sym y.0;
      moments = x.1 ∙ sym y.1;
      new = x.2 ∙ sym y.2;
      rested = subst (λ (v : Vault). Rested v.peers) (sym x.2) rested;
    }
    step_once jobs (events.Drop job lane) fits x y = drop_once s told job lane.0 fits.1 old a1 a2 m1 m2 n1 n2 rested still1 still2 (lanes.request_at (lanes_of old.jobs job) lane.0) x y
    step_once jobs (events.Finish job) fits x y =
        let f = finish_once s told job (range_with_len 0 s.shape.n) all_lanes old x.0 y.0 m1 m2 n1 n2 rested still1 still2 x.1 y.1 in
        record {
          answers = x.2 ∙ (λ i. f.answers i ++ lines.End job (all_done (lanes_of (f.new i).jobs job)) ∷ []) ∙ sym y.2;
          moments = f.moments;
          new = f.new;
          rested = f.rested;
        }
    step_once jobs (events.Get user path version clouds) fits x y =
        let g = get_once s told user path version clouds fits.1.within old.peers n1.peers n2.peers x.0 y.0 rested still1 still2 x.1 y.1 in
        record {
          answers = x.2 ∙ ap (λ (l : Line). l ∷ []) g.0 ∙ sym y.2;
          moments = x.3 ∙ sym y.3;
          new = vaults g.1 (x.4 ∙ sym y.4);
          rested = g.2;
        }
    step_once jobs (events.Arm cloud calls keep) fits x y =
        let p = arm_so (old.peers cloud.0) (n1.peers cloud.0) (rested cloud.0) x.0.goes in
        let q = arm_so (old.peers cloud.0) (n2.peers cloud.0) (rested cloud.0) y.0.goes in
        record {
          answers = x.1 ∙ sym y.1;
          moments = x.2 ∙ sym y.2;
          new = vaults (one_same cloud.0 Armed Armed old.peers n1.peers n2.peers x.0 y.0 (p ∙ sym q)) (x.3 ∙ sym y.3);
          rested = one_rested cloud.0 Armed old.peers n1.peers x.0 rested (ap (λ (r : Peer). r.pending) p);
        }
    step_once jobs (events.Restart cloud) fits x y =
        let p = restart_so cloud.0 (old.peers cloud.0) (n1.peers cloud.0) (rested cloud.0) (still1 cloud.0 fits) s (told cloud.0 fits) x.0 x.1.goes in
        let q = restart_so cloud.0 (old.peers cloud.0) (n2.peers cloud.0) (rested cloud.0) (still2 cloud.0 fits) s (told cloud.0 fits) y.0 y.1.goes in
        record {
          answers = x.2 ∙ ap (λ (l : Line). l ∷ []) (p.0 ∙ sym q.0) ∙ sym y.2;
          moments = x.3 ∙ sym y.3;
          new = vaults (one_same cloud.0 (RestartStep s cloud.0 x.0) (RestartStep s cloud.0 y.0) old.peers n1.peers n2.peers x.1 y.1 (p.1 ∙ sym q.1)) (x.4 ∙ sym y.4);
          rested = one_rested cloud.0 (RestartStep s cloud.0 x.0) old.peers n1.peers x.1 rested (ap (λ (r : Peer). r.pending) p.1 ∙ rested cloud.0);
        }
    step_once jobs (events.List user cloud) fits x y =
        let l = list_once s told user cloud.0 fits None old.peers x.0 y.0 x.1 y.1 n1.peers n2.peers rested still1 still2 x.2 y.2 in
        record {
          answers = x.3 ∙ ap (list_lines user cloud.0) l.1 ∙ sym y.3;
          moments = x.4 ∙ ap (map (moment_of cloud.0)) l.0 ∙ sym y.4;
          new = vaults l.2 (x.5 ∙ sym y.5);
          rested = l.3;
        }
    step_once jobs (events.Replace cloud) fits x y =
        let p = replace_so cloud.0 (old.peers cloud.0) (n1.peers cloud.0) (rested cloud.0) (still1 cloud.0 fits) s (told cloud.0 fits) x.0 x.1.goes in
        let q = replace_so cloud.0 (old.peers cloud.0) (n2.peers cloud.0) (rested cloud.0) (still2 cloud.0 fits) s (told cloud.0 fits) y.0 y.1.goes in
        record {
          answers = x.2 ∙ ap (λ (l : Line). l ∷ []) (p.0 ∙ sym q.0) ∙ sym y.2;
          moments = x.3 ∙ sym y.3;
          new = vaults (one_same cloud.0 (ReplaceStep s cloud.0 x.0) (ReplaceStep s cloud.0 y.0) old.peers n1.peers n2.peers x.1 y.1 (p.1 ∙ sym q.1)) (x.4 ∙ sym y.4);
          rested = one_rested cloud.0 (ReplaceStep s cloud.0 x.0) old.peers n1.peers x.1 rested (ap (λ (r : Peer). r.pending) p.1);
        }
    step_once jobs (events.Rebuild user target from) fits x y = by_from from fits.1.0 fits.1.1 x y
      where
        by_from : (from : List ℕ) → AreClouds s.shape from → ¬ Contains from target.0 → VStep s old (events.Rebuild user target from) a1 m1 n1 → VStep s old (events.Rebuild user target from) a2 m2 n2
            → Once s told a1 a2 m1 m2 n1 n2
        by_from [] are apart x y = absurd (none_read [] are refl)
        by_from (first ∷ from) are apart x y =
            let r = rebuild_once s user target.0 fits.0 told first from are.within apart old.peers rested a1 a2 m1 m2 n1.peers n2.peers still1 still2 x.0 y.0 in
            record { answers = r.0; moments = r.1; new = vaults r.2 (x.1 ∙ sym y.1); rested = r.3 }
    step_once jobs (events.Delete user path version cloud) fits x y =
        let request = requests.Delete user (key_of s.shape path version).0 version in
        let d = executes_once s told cloud.0 fits.1 old.peers n1.peers n2.peers request x.0.0 y.0.0 rested still1 still2 x.0.2 y.0.2 in
        record {
          answers = x.0.4 ∙ ap (λ (l : Line). l ∷ []) (deleted_once cloud.0 x.0.0 x.0.1 y.0.1 x.0.3 (subst (λ (r : Reply). IsDeleteLine cloud.0 r y.0.1) (sym d.0) y.0.3)) ∙ sym y.0.4;
          moments = x.0.5 ∙ ap (λ (r : Reply). executed old.peers cloud.0 request r ∷ []) d.0 ∙ sym y.0.5;
          new = vaults d.1 (x.1 ∙ sym y.1);
          rested = rested_executes s told cloud.0 fits.1 old.peers n1.peers request x.0.0 rested still1 x.0.2;
        }

  -- ---- all lines

  no_lines : (event : Event) (script : List Event) → [] ≡ event ∷ script → ⊥
  no_lines event script e = let no : [] ≡ event ∷ script = e in cc

  pub turns_once : (jobs : ℕ) (old : Vault) (h1 h2 : List Answered) (n1 n2 : Vault) → Rested old.peers → AreLines s.shape jobs (script_of h1) → AllStill s.shape.n h1 → AllStill s.shape.n h2
      → script_of h1 ≡ script_of h2 → Turns s old h1 n1 → Turns s old h2 n2 → (h1 ≡ h2) × (n1 ≡ n2)
  turns_once jobs old [] [] n1 n2 rested ls s1 s2 same x y = (refl, x ∙ sym y)
  turns_once jobs old [] (b ∷ h2) n1 n2 rested ls s1 s2 same x y = absurd (no_lines b.event (script_of h2) same)
  turns_once jobs old (a ∷ h1) [] n1 n2 rested ls s1 s2 same x y = absurd (no_lines a.event (script_of h1) (sym same))
  turns_once jobs old (a ∷ h1) (b ∷ h2) n1 n2 rested ls s1 s2 same x y =
      let f : a.event ∷ script_of h1 ≡ b.event ∷ script_of h2 = same in
      let event : a.event ≡ b.event = cc in
      let rest : script_of h1 ≡ script_of h2 = cc in
      let quiet1 = subst (λ (v : Vault). Still s.shape.n v.peers a.after.peers) x.0 s1.0 in
      let quiet2 = subst (λ (v : Vault). Still s.shape.n v.peers b.after.peers) y.0 s2.0 in
      let one = step_once old a.answers b.answers a.moments b.moments a.after b.after rested quiet1 quiet2 jobs a.event ls.0 x.1
      (subst (λ (e : Event). VStep s old e b.answers b.moments b.after) (sym event) y.1) in
      let more = turns_once (jobs_after jobs a.event) a.after h1 h2 n1 n2 one.rested ls.2 s1.1 s2.1 rest x.2
      (subst (λ (v : Vault). Turns s v h2 n2) (sym one.new) y.2) in
      let before = x.0 ∙ sym y.0 in
      ((λ i. record { before = before i; event = event i; answers = one.answers i; moments = one.moments i; after = one.new i } ∷ more.0 i), more.1)
