-- A rebuild that brings a version leaves lists at the target that keep it; and a device that fails on the way has its count rise.
use Rattle.std.proofs.Common.{◌≡◌, ℕ, ◌≤◌, ◌<◌, true, List, [], ◌∷◌, ◌++◌, Option, Some, None, Result, Ok, Err, refl, sym, ap, ◌∙◌, subst, inl, inr, ◌⊎◌, arith}
use Rattle.std.specs.Prelude.{IsTrue, slice_index, MatchOption, IsSomeAnd}
use Rattle.std.specs.List.{Contains}
use Rattle.std.proofs.lemmas.List.Elements.{Contains-append_left, Contains-push}
use Rattle.std.proofs.lemmas.Grind.{flat_map-append}
use Rattle.std.proofs.lemmas.Option.{same_Some}
use Rattle.session.specs.CdEdges.Causes.{Rose}
use Rattle.session.specs.CdBase.ids.Tag.{Tag}
use Rattle.session.specs.CdBase.ids.Version.{Version}
use Rattle.subset_restore.specs.CaontRs.Package.{share}
use Rattle.rebuild.specs.FileRecipe.FileRecipe.{secrets}
use Rattle.rebuild.specs.ReedSolomon.Dispersal.{AreChoice}
use Rattle.rebuild.specs.Messages.request.Request.{Request}
use Rattle.rebuild.specs.Messages.reply.Reply.{Reply}
use Rattle.rebuild.specs.Messages.reply.Reply.TheVariants as replies
use Rattle.subset_restore.specs.UserDedup.command.Command.{Command}
use Rattle.subset_restore.specs.UserDedup.Cloud.{fingerprint, strings_of}
use Rattle.subset_restore.specs.UserDedup.Exec.{Peer, MaySettleAs, Exec, ExecTold}
use Rattle.subset_restore.proofs.UserDedup.Owned.{contains_cases, contains_nothing}
use Rattle.subset_restore.specs.UserDedup.Spending.{full_for}
use Rattle.subset_restore.specs.UserDedup.Cloud.{strings_in}
use Rattle.rebuild.specs.UploadJob.news.LaneNews.TheVariants as lane_news
use Rattle.rebuild.specs.UploadJob.Upload.{FileVersion, work_of}
use Rattle.rebuild.specs.UploadJob.Lane.{LaneState, Asking, Sending, Committing, Done, Refused, lane_request, news_of}
use Rattle.rebuild.specs.LaneSteps.Runs.{LaneTurn, Progress, LaneRun, progress_after}
use Rattle.rebuild.specs.KeptFiles.Kept.{Keeps, key_of}
use Rattle.rebuild.specs.declared.error.SkipWhy.{SkipWhy}
use Rattle.rebuild.specs.declared.error.SkipWhy.TheVariants as whys
use Rattle.rebuild.specs.declared.skips.Rebuilt.{Rebuilt}
use Rattle.rebuild.specs.Found.{Finding, finding_under, first_of, keys_in}
use Rattle.rebuild.specs.Rebuilding.{Progressed, nothing_yet, lane_ended, last_said, lane_of, BringsOne, BringsAll, Rebuilds}
use Rattle.rebuild.proofs.Bringing.{brought_all, first_in, skip_for, contains_map, has_key}
use Rattle.rebuild.proofs.Finding.{kept_is_found}
use Rattle.rebuild.proofs.Turning.{fault_rose}
use Rattle.rebuild.proofs.Lanes.{goes_on, done_by}
use Rattle.session_model.specs.Vault.{Setting, served_at}
use Rattle.session_model.proofs.With.{all_counts, one_all}
use Rattle.session_model.proofs.Growing.{Grows, grows_lane_run, grows_brought}
use Rattle.session_model.proofs.Committed.{IsUpload, executed_keeps}
use Rattle.session_model.proofs.Lines.{KeepsAll, keeps_on}

-- ---- where a lane ends

-- a lane that didn't stop the rebuild came to its end, or its version is skipped
ended_by : (key : Tag × Version) (lane : LaneState) (said : Reply) (r : Progressed) → (lane_ended key lane said r).stop ≡ None
    → (lane ≡ Done) ⊎ Contains (lane_ended key lane said r).skips (skip_for key whys.TargetExists)
ended_by key (Asking batch rest) said r e = absurd cc
ended_by key (Sending batch flags rest) said r e = absurd cc
ended_by key Committing said r e = absurd cc
ended_by key Done said r e = inl refl
ended_by key Refused (replies.Hello n k cloud format) r e = absurd cc
ended_by key Refused (replies.Known flags) r e = absurd cc
ended_by key Refused (replies.Stored new) r e = absurd cc
ended_by key Refused replies.Committed r e = absurd cc
ended_by key Refused replies.Exists r e = inr (Contains-push r.skips (skip_for key whys.TargetExists))
ended_by key Refused (replies.Lacking place) r e = absurd cc
ended_by key Refused (replies.Recipe bytes) r e = absurd cc
ended_by key Refused replies.Missing r e = absurd cc
ended_by key Refused (replies.Shares shares) r e = absurd cc
ended_by key Refused (replies.NotYours place) r e = absurd cc
ended_by key Refused (replies.Entries entries) r e = absurd cc
ended_by key Refused replies.Deleted r e = absurd cc
ended_by key Refused (replies.Full room used need limit) r e = absurd cc
ended_by key Refused replies.Fault r e = absurd cc
ended_by key Refused (replies.Damaged at byte) r e = absurd cc
ended_by key Refused (replies.Rotten named found) r e = absurd cc
ended_by key Refused (replies.Malformed at) r e = absurd cc
ended_by key Refused replies.NoMemory r e = absurd cc

-- one that stopped it stopped by what was said last
pub stopped_by : (key : Tag × Version) (lane : LaneState) (said x : Reply) (r : Progressed) → (lane_ended key lane said r).stop ≡ Some x → said ≡ x
stopped_by key (Asking batch rest) said x r e = same_Some said x e
stopped_by key (Sending batch flags rest) said x r e = same_Some said x e
stopped_by key Committing said x r e = same_Some said x e
stopped_by key Done said x r e = absurd cc
stopped_by key Refused (replies.Hello n k cloud format) x r e = same_Some (replies.Hello n k cloud format) x e
stopped_by key Refused (replies.Known flags) x r e = same_Some (replies.Known flags) x e
stopped_by key Refused (replies.Stored new) x r e = same_Some (replies.Stored new) x e
stopped_by key Refused replies.Committed x r e = same_Some replies.Committed x e
stopped_by key Refused replies.Exists x r e = absurd cc
stopped_by key Refused (replies.Lacking place) x r e = same_Some (replies.Lacking place) x e
stopped_by key Refused (replies.Recipe bytes) x r e = same_Some (replies.Recipe bytes) x e
stopped_by key Refused replies.Missing x r e = same_Some replies.Missing x e
stopped_by key Refused (replies.Shares shares) x r e = same_Some (replies.Shares shares) x e
stopped_by key Refused (replies.NotYours place) x r e = same_Some (replies.NotYours place) x e
stopped_by key Refused (replies.Entries entries) x r e = same_Some (replies.Entries entries) x e
stopped_by key Refused replies.Deleted x r e = same_Some replies.Deleted x e
stopped_by key Refused (replies.Full room used need limit) x r e = same_Some (replies.Full room used need limit) x e
stopped_by key Refused replies.Fault x r e = same_Some replies.Fault x e
stopped_by key Refused (replies.Damaged at byte) x r e = same_Some (replies.Damaged at byte) x e
stopped_by key Refused (replies.Rotten named found) x r e = same_Some (replies.Rotten named found) x e
stopped_by key Refused (replies.Malformed at) x r e = same_Some (replies.Malformed at) x e
stopped_by key Refused replies.NoMemory x r e = same_Some replies.NoMemory x e

-- ---- a rebuild that goes on behind a key, or stops there

abbrev pub Behind : (Peer → Progressed → Type 0) → Progressed → Peer → List (LaneTurn Peer) → Progressed → Peer → Option Reply → Type 0
Behind Rest next mid rest after new o = MatchOption o (Rest mid next) (λ said. (rest ≡ []) × (after ≡ next) × (new ≡ mid))

-- one that came to its end goes on behind each
goes_behind : (Rest : Peer → Progressed → Type 0) (next : Progressed) (mid : Peer) (rest : List (LaneTurn Peer)) (after : Progressed) (new : Peer) (o : Option Reply) → next.stop ≡ o → after.stop ≡ None
    → Behind Rest next mid rest after new o → (o ≡ None) × Rest mid next
goes_behind Rest next mid rest after new None e goes m = (refl, m)
goes_behind Rest next mid rest after new (Some said) e goes m = absurd (let k : Some said ≡ None = sym e ∙ (ap (λ (p : Progressed). p.stop) (sym m.1) ∙ goes) in cc)

-- ---- the versions that are kept

strings_later : (old more new : List Command) (string : List ℕ) → new ≡ old ++ more → Contains (strings_in old) string → Contains (strings_in new) string
strings_later old more new string e has =
    subst (λ (l : List Command). Contains (strings_in l) string) (sym e)
    (subst (λ (l : List (List ℕ)). Contains l string) (sym (flat_map-append strings_of old more)) (Contains-append_left (strings_in old) (strings_in more) string has))

strings_pending : (old new : List Command) (string : List ℕ) (o : Option Command) → IsSomeAnd o (λ command. new ≡ old ++ command ∷ []) → Contains (strings_in old) string → Contains (strings_in new) string
strings_pending old new string None some has = absurd some
strings_pending old new string (Some command) some has = strings_later old (command ∷ []) new string some has

strings_settled : (p : Peer) (list : List Command) (string : List ℕ) → MaySettleAs p list → Contains (strings_in p.list) string → Contains (strings_in list) string
strings_settled p list string (inl same) has = subst (λ (l : List Command). Contains (strings_in l) string) (sym same) has
strings_settled p list string (inr some) has = strings_pending p.list list string p.pending some has

module _ (s : Setting) (c : ℕ) (told : IsTrue (s.told c)) (v : FileVersion) (good : IsUpload v) (Known : List ℕ → Type 0)
    (apart : (string secret : List ℕ) → Known string → Contains (secrets v.file) secret → fingerprint string ≡ fingerprint (share s.shape c secret) → string ≡ share s.shape c secret) where
  abbrev AllKnown : Peer → Type 0
  AllKnown p = (string : List ℕ) → Contains (strings_in p.list) string → Known string

  known_before : (p q : Peer) → Grows p q → AllKnown q → AllKnown p
  known_before p q grows known string has =
      let x = grows q.list (inl refl) in
      known string (strings_later x.0 x.1.0 q.list string x.1.1 (strings_settled p x.0 string x.2 has))

  -- the Commit that brings a lane to its end
  commit_keeps : (p : Progress) (old mid new : Peer) (request : Request) (reply : Reply) (turns : List (LaneTurn Peer)) (last : Progress) → p.lane.work ≡ work_of s.shape v c → lane_request p.lane.work p.lane.state ≡ Some request
      → Exec s.shape true (served_at s c) old request reply mid → LaneRun (Exec s.shape true (served_at s c)) (progress_after p reply) mid turns last new → p.lane.state ≡ Committing → reply ≡ replies.Committed
      → AllKnown mid → KeepsAll s c told v good Known apart new
  commit_keeps p old mid new request reply turns last work asks exec run at said known =
      let does : ExecTold (served_at s c) old request reply mid = exec.does in
      let news : news_of p.lane.state reply ≡ Some lane_news.Committed =
      subst (λ (st : LaneState). news_of st reply ≡ Some lane_news.Committed) (sym at) (subst (λ (x : Reply). news_of Committing x ≡ Some lane_news.Committed) (sym said) refl) in
      keeps_on s c told v good Known apart mid new (executed_keeps s.shape c (full_for s.shape s.rooms) v good Known apart p.lane request old mid reply work asks does news known)
      (grows_lane_run s c (progress_after p reply) mid turns last new run)

  run_keeps : (p : Progress) (old : Peer) (turns : List (LaneTurn Peer)) (last : Progress) (new : Peer) → LaneRun (Exec s.shape true (served_at s c)) p old turns last new → p.lane.work ≡ work_of s.shape v c
      → last.lane.state ≡ Done → AllKnown new → (p.lane.state ≡ Done) ⊎ KeepsAll s c told v good Known apart new
  run_keeps p old [] last new run work done known = inl (sym (ap (λ (q : Progress). q.lane.state) run.1) ∙ done)
  run_keeps p old (t ∷ turns) last new run work done known =
      let mid : Peer = run.3.0 in
      elim (run_keeps (progress_after p t.reply) mid turns last new run.3.2 work done known) [
        | inr keeps ↦ inr keeps
        | inl heard ↦ elim (done_by p.lane.work p.lane.state t.reply t.request run.2 heard) [
          | inl was ↦ inl was
          | inr x ↦ inr (commit_keeps p old mid new t.request t.reply turns last work run.2 run.3.1 run.3.2 x.0 x.1
              (known_before mid new (grows_lane_run s c (progress_after p t.reply) mid turns last new run.3.2) known))
        ]
      ]

  -- the lane of the version
  lane_keeps : (key : Tag × Version) (r next : Progressed) (old : Peer) (turns : List (LaneTurn Peer)) (mid : Peer) → BringsOne s.shape c (served_at s c) key (Ok v) r old turns next mid → next.stop ≡ None
      → ¬ Contains next.skips (skip_for key whys.TargetExists) → AllKnown mid → KeepsAll s c told v good Known apart mid
  lane_keeps key r next old turns mid b goes absent known =
      elim (ended_by key b.0.lane.state b.1 r (sym (ap (λ (p : Progressed). p.stop) b.4) ∙ goes)) [
        | inr skipped ↦ absurd (absent (subst (λ (p : Progressed). Contains p.skips (skip_for key whys.TargetExists)) (sym b.4) skipped))
        | inl done ↦ elim (run_keeps (lane_of s.shape c v) old turns b.0 mid b.2 refl done known) [
          | inl was ↦ absurd (goes_on (work_of s.shape v c).batches was)
          | inr keeps ↦ keeps
        ]
      ]

  -- among all that was found
  walk : (fs : List Finding) (r after : Progressed) (old new : Peer) (turns : List (LaneTurn Peer)) → BringsAll s.shape c (served_at s c) fs r old turns after new → after.stop ≡ None
      → (f : Finding) → Contains fs f → f.found ≡ Ok v → ¬ Contains after.skips (skip_for f.key whys.TargetExists) → AllKnown new → KeepsAll s c told v good Known apart new
  walk [] r after old new turns b goes f has is absent known = absurd (contains_nothing f has)
  walk (g ∷ gs) r after old new turns b goes f has is absent known =
      let next : Progressed = b.0 in
      let mid : Peer = b.1 in
      let m = goes_behind (λ p q. BringsAll s.shape c (served_at s c) gs q p b.3 after new) next mid b.3 after new next.stop refl goes b.6 in
      let rest = brought_all s.shape c (full_for s.shape s.rooms) gs next after mid new b.3 m.1 goes in
      elim (contains_cases g gs f has) [
        | inr later ↦ walk gs next after mid new b.3 m.1 goes f later is absent known
        | inl same ↦ keeps_on s c told v good Known apart mid new
            (lane_keeps g.key r next old b.2 mid
            (subst (λ (o : Result FileVersion SkipWhy). BringsOne s.shape c (served_at s c) g.key o r old b.2 next mid) (ap (λ (x : Finding). x.found) same ∙ is) b.4) m.0
            (λ skipped. absent (subst (λ (x : Finding). Contains after.skips (skip_for x.key whys.TargetExists)) same (rest.kept (skip_for g.key whys.TargetExists) skipped)))
            (known_before mid new (grows_brought s c gs next mid b.3 after new m.1) known))
            (grows_brought s c gs next mid b.3 after new m.1)
      ]

-- ---- from the keys of the first cloud

-- A version that all clouds keep which were read, and that isn't skipped, each list keeps that the target may settle as.
pub refilled : (s : Setting) (c : ℕ) (told : IsTrue (s.told c)) (v : FileVersion) (good : IsUpload v) (Known : List ℕ → Type 0)
    (apart : (string secret : List ℕ) → Known string → Contains (secrets v.file) secret → fingerprint string ≡ fingerprint (share s.shape c secret) → string ≡ share s.shape c secret)
    (from : List ℕ) (turns : List (LaneTurn Peer)) (rebuilt : Rebuilt) (before after : ℕ → Peer) → AreChoice s.shape from → ((i : ℕ) → slice_index v.path i < 256) → ((i : ℕ) → slice_index v.file i < 256)
    → Rebuilds s.shape v.user c (served_at s c) from turns (Ok rebuilt) before after
    → ((source : ℕ) → Contains from source → Keeps s.shape source (after source).list v.user v.path v.number v.file)
    → ¬ Contains rebuilt.skipped (skip_for (key_of s.shape v.path v.number) whys.TargetExists)
    → ((string : List ℕ) → Contains (strings_in (after c).list) string → Known string) → KeepsAll s c told v good Known apart (after c)
refilled s c told v good Known apart from turns rebuilt before after choice letters bytes r keeps absent known =
    walk s c told v good Known apart r.found nothing_yet r.last (before c) (after c) turns r.brings (ap (λ (p : Progressed). p.stop) r.ends.1)
    (finding_under s.shape lists from v.user key)
    (subst (λ (fs : List Finding). Contains fs (finding_under s.shape lists from v.user key)) (sym r.ends.0)
    (contains_map (finding_under s.shape lists from v.user) (keys_in s.shape (lists (first_of from)) v.user) key
    (has_key s.shape (first_of from) (lists (first_of from)) v.user v.path v.number v.file (keeps (first_of from) first))))
    (kept_is_found s.shape lists v.user v.path v.number v.file from good.path letters bytes good.few choice keeps)
    (λ skipped. absent (subst (λ (p : Progressed). Contains p.skips (skip_for key whys.TargetExists)) r.ends.1 skipped))
    known
  where
    lists : ℕ → List Command
    lists cloud = (after cloud).list

    key : Tag × Version
    key = key_of s.shape v.path v.number

    first : Contains from (first_of from)
    first = first_in s.shape from choice.count

-- ---- a device of the target that fails

-- the last reply of a lane was fault
run_rose : (s : Setting) (c : ℕ) (p : Progress) (old : Peer) (turns : List (LaneTurn Peer)) (last : Progress) (new : Peer) → LaneRun (Exec s.shape true (served_at s c)) p old turns last new → last_said turns ≡ Some replies.Fault
    → Rose old.faults new.faults
run_rose s c p old [] last new run said = absurd cc
run_rose s c p old (t ∷ []) last new run said =
    let mid : Peer = run.3.0 in
    subst (λ (q : Peer). Rose old.faults q.faults) (sym run.3.2.2)
    (fault_rose s.shape c (full_for s.shape s.rooms) true p.lane.work p.lane.state t.request t.reply old mid run.2 run.3.1 (same_Some t.reply replies.Fault said))
run_rose s c p old (t ∷ u ∷ turns) last new run said =
    above old.faults run.3.0.faults new.faults run.3.1.counts.faults (run_rose s c (progress_after p t.reply) run.3.0 (u ∷ turns) last new run.3.2 said)
  where
    above : (a b c : ℕ) → a ≤ b → Rose b c → Rose a c
    above a b c le rose = omega (arith, le, rose)

one_rose : (s : Setting) (c : ℕ) (key : Tag × Version) (found : Result FileVersion SkipWhy) (r : Progressed) (old : Peer) (turns : List (LaneTurn Peer)) (next : Progressed) (mid : Peer)
    → BringsOne s.shape c (served_at s c) key found r old turns next mid → next.stop ≡ Some replies.Fault → Rose old.faults mid.faults
one_rose s c key (Err why) r old turns next mid b stop = absurd (let f : None ≡ Some replies.Fault = sym (ap (λ (p : Progressed). p.stop) b.0) ∙ stop in cc)
one_rose s c key (Ok v) r old turns next mid b stop =
    let said : b.1 ≡ replies.Fault = stopped_by key b.0.lane.state b.1 replies.Fault r (sym (ap (λ (p : Progressed). p.stop) b.4) ∙ stop) in
    run_rose s c (lane_of s.shape c v) old turns b.0 mid b.2 (b.3 ∙ ap (λ (x : Reply). Some x) said)

-- a rebuild that this stopped
pub stop_rose : (s : Setting) (c : ℕ) → s.told c ≡ true → (fs : List Finding) (r : Progressed) (old : Peer) (turns : List (LaneTurn Peer)) (last : Progressed) (new : Peer) → BringsAll s.shape c (served_at s c) fs r old turns last new
    → r.stop ≡ None → last.stop ≡ Some replies.Fault → Rose old.faults new.faults
stop_rose s c told [] r old turns last new b none stop = absurd (let f : None ≡ Some replies.Fault = sym none ∙ (sym (ap (λ (p : Progressed). p.stop) b.0) ∙ stop) in cc)
stop_rose s c told (f ∷ fs) r old turns last new b none stop = by_next b.0.stop refl b.6 (stop_rose s c told fs b.0 b.1 b.3 last new)
  where
    by_next : (o : Option Reply) → b.0.stop ≡ o → MatchOption o (BringsAll s.shape c (served_at s c) fs b.0 b.1 b.3 last new) (λ said. (b.3 ≡ []) × (last ≡ b.0) × (new ≡ b.1))
        → (BringsAll s.shape c (served_at s c) fs b.0 b.1 b.3 last new → b.0.stop ≡ None → last.stop ≡ Some replies.Fault → Rose b.1.faults new.faults) → Rose old.faults new.faults
    by_next None e m again =
        above old.faults b.1.faults new.faults (all_counts s c old b.2 b.1 (one_all s c told f.key f.found r old b.2 b.0 b.1 b.4)).faults (again m e stop)
      where
        above : (a b c : ℕ) → a ≤ b → Rose b c → Rose a c
        above a b c le rose = omega (arith, le, rose)
    by_next (Some said) e m again =
        subst (λ (q : Peer). Rose old.faults q.faults) (sym m.2) (one_rose s c f.key f.found r old b.2 b.0 b.1 b.4 (ap (λ (p : Progressed). p.stop) (sym m.1) ∙ stop))
