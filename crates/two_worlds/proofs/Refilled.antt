-- A rebuild over told clouds whose counts don't rise: there is one answer to it.
use Rattle.std.proofs.Common.{◌≡◌, ◌≢◌, ℕ, ◌<◌, ◌≤◌, true, false, cond, List, [], ◌∷◌, ◌++◌, length, map, Option, Some, None, Result, Ok, Err, refl, sym, ap, ◌∙◌, subst, inl, inr, arith}
use Rattle.std.specs.Prelude.{All, MatchOption, IsTrue, find, is_none, option_map, unwrap_or}
use Rattle.std.specs.List.{Contains}
use Rattle.std.proofs.lemmas.Bool.{cases_eq, cases_lt}
use Rattle.std.proofs.lemmas.List.Elements.{All-contains}
use Rattle.recipe.specs.CdBase.ids.Tag.{Tag}
use Rattle.recipe.specs.CdBase.ids.UserId.{UserId}
use Rattle.recipe.specs.CdBase.ids.Version.{Version}
use Rattle.recipe.specs.CdBase.shape.Shape.{Shape}
use Rattle.session_model.specs.CdEdges.Causes.{Rose}
use Rattle.session_model.specs.Messages.request.Request.{Request}
use Rattle.session_model.specs.Messages.reply.Reply.{Reply}
use Rattle.session_model.specs.Messages.reply.Reply.TheVariants as replies
use Rattle.session_model.specs.UserDedup.command.Command.{Command}
use Rattle.session_model.specs.UserDedup.Cloud.{held_string}
use Rattle.session_model.specs.UserDedup.Exec.{Peer, Exec}
use Rattle.session_model.proofs.UserDedup.Owned.{contains_here, contains_later, contains_cases}
use Rattle.session_model.specs.UploadJob.Upload.{FileVersion}
use Rattle.session_model.specs.LaneSteps.Runs.{LaneTurn, Progress, LaneRun, progress_after}
use Rattle.session_model.specs.RestoreJob.error.RestoreErr.{RestoreErr}
use Rattle.session_model.specs.RestoreJob.error.RestoreErr.TheVariants as refusals
use Rattle.session_model.specs.RestoreJob.Asking.{is_loss}
use Rattle.session_model.specs.RestoreJob.Restored.{Missing, no_recipe, recipe_in, given_by, missing, agreed, unless, restored_file}
use Rattle.session_model.specs.Rebuild.error.SkipWhy.{SkipWhy}
use Rattle.session_model.specs.Rebuild.error.RebuildErr.{RebuildErr}
use Rattle.session_model.specs.Rebuild.error.RebuildErr.TheVariants as errors
use Rattle.session_model.specs.Rebuild.skips.Skip.{Skip}
use Rattle.session_model.specs.Rebuild.skips.Rebuilt.{Rebuilt}
use Rattle.session_model.specs.Rebuild.Found.{Finding, name_opened, name_judged, unless_skipped, recipes_differ, version_named, version_under, keys_in, finding_under, findings}
use Rattle.session_model.specs.Rebuild.Rebuilding.{Progressed, nothing_yet, last_said, lane_ended, lane_of, BringsOne, BringsAll, StopsAs, ReadStopped, EndsAs, Rebuilds, RunsTo}
use Rattle.session_model.specs.Rebuild.Over.{is_lost}
use Rattle.session_model.specs.Transcript.refusal.Refusal.{Refusal}
use Rattle.session_model.specs.Transcript.refusal.Refusal.TheVariants as why
use Rattle.session_model.specs.Transcript.refusal.TargetWhy.TheVariants as target_whys
use Rattle.session_model.specs.Transcript.line.Line.{Line}
use Rattle.session_model.specs.Transcript.line.Line.TheVariants as lines
use Rattle.session_model.specs.Vault.{Setting, served_at}
use Rattle.session_model.specs.Steps.{Moment, cloud_no, skip_line, AreRebuildLines, rebuild_moments, AllTold, RebuildStep}
use Rattle.session_model.proofs.With.{all_counts, run_all, one_all, brought}
use Rattle.two_worlds.proofs.Peers.{plain, peer_after, read_same}
use Rattle.two_worlds.proofs.Own.{Still}
use Rattle.two_worlds.proofs.Once.{Rested, Does, run_once, some_same}

-- ---- what is found follows from the lists of the clouds that are read

module _ (shape : Shape) (user : UserId) (l1 l2 : ℕ → List Command) where
  abbrev pub AlikeAt : List ℕ → Type 0
  AlikeAt clouds = (c : ℕ) → Contains clouds c → l1 c ≡ l2 c

  module _ (key : Tag × Version) where
    givens_by : (clouds : List ℕ) → AlikeAt clouds → map (given_by shape l1 user key) clouds ≡ map (given_by shape l2 user key) clouds
    givens_by [] same = refl
    givens_by (c ∷ clouds) same =
        let h = same c (contains_here c clouds) in let t = givens_by clouds (λ d has. same d (contains_later c clouds d has)) in
        λ i. record {
          cloud = c;
          recipe = unwrap_or (recipe_in shape (h i) user key) no_recipe;
          held = λ fp. unwrap_or (held_string (h i) fp) [];
        } ∷ t i

    found_by : (clouds : List ℕ) → AlikeAt clouds → find (λ c. is_none (recipe_in shape (l1 c) user key)) clouds ≡ find (λ c. is_none (recipe_in shape (l2 c) user key)) clouds
    found_by [] same = refl
    found_by (c ∷ clouds) same =
        let h = same c (contains_here c clouds) in let t = found_by clouds (λ d has. same d (contains_later c clouds d has)) in
        λ i. cond (is_none (recipe_in shape (h i) user key)) (Some c) (t i)

    missing_by : (clouds : List ℕ) → AlikeAt clouds → missing shape l1 user key clouds ≡ missing shape l2 user key clouds
    missing_by clouds same = ap (option_map Missing) (found_by clouds same)

    restored_by : (clouds : List ℕ) → AlikeAt clouds → restored_file shape l1 user key clouds ≡ restored_file shape l2 user key clouds
    unfolding restored_file
    restored_by clouds same = let h = missing_by clouds same in let g = givens_by clouds same in λ i. unless (h i) (agreed shape (g i))

    under_by : (from : List ℕ) → AlikeAt from → version_under shape l1 from user key ≡ version_under shape l2 from user key
    unfolding version_under
    under_by from same =
        let h = missing_by from same in let g = givens_by from same in let t = restored_by from same in
        λ i. unless_skipped (h i) (unless_skipped (recipes_differ (g i)) (version_named user key (name_judged shape key (name_opened shape (g i))) (t i)))

  all_under : (from : List ℕ) → AlikeAt from → (keys : List (Tag × Version)) → map (finding_under shape l1 from user) keys ≡ map (finding_under shape l2 from user) keys
  all_under from same [] = refl
  all_under from same (key ∷ keys) = let h = under_by key from same in let t = all_under from same keys in λ i. record { key = key; found = h i } ∷ t i

  pub findings_by : (c : ℕ) (from : List ℕ) → AlikeAt (c ∷ from) → findings shape l1 (c ∷ from) user ≡ findings shape l2 (c ∷ from) user
  findings_by c from same =
      ap (λ (l : List Command). map (finding_under shape l1 (c ∷ from) user) (keys_in shape l user)) (same c (contains_here c from))
      ∙ all_under (c ∷ from) same (keys_in shape (l2 c) user)

-- ---- the target

module _ (s : Setting) (target : ℕ) (told : s.told target ≡ true) where
  abbrev next_of : Peer → Request → Peer
  next_of p request = peer_after (served_at s target) p request

  abbrev said_of : Peer → Request → Reply
  said_of p request = (served_at s target p.list request).reply

  rose_before : (a b c : ℕ) → b ≤ c → (Rose a c → ⊥) → Rose a b → ⊥
  rose_before a b c up still rose = still (omega (arith, up, rose))

  rose_behind : (a b c : ℕ) → a ≤ b → (Rose a c → ⊥) → Rose b c → ⊥
  rose_behind a b c up still rose = still (omega (arith, up, rose))

  counts_run : (p : Progress) (old : Peer) (turns : List (LaneTurn Peer)) (last : Progress) (new : Peer) → LaneRun (Exec s.shape true (served_at s target)) p old turns last new → old.faults ≤ new.faults
  counts_run p old turns last new run = (all_counts s target old turns new (run_all s target told p old turns last new run)).faults

  run_so : (p : Progress) (old : Peer) (turns : List (LaneTurn Peer)) (last : Progress) (new : Peer) → old.pending ≡ None → (Rose old.faults new.faults → ⊥)
      → LaneRun (Exec s.shape true (served_at s target)) p old turns last new → LaneRun (Does next_of said_of) p old turns last new × (new.pending ≡ None)
  run_so p old [] last new none still run = (run, ap (λ (q : Peer). q.pending) run.2 ∙ none)
  run_so p old (t ∷ turns) last new none still run =
      let up = counts_run (progress_after p t.reply) run.3.0 turns last new run.3.2 in
      let first = plain s.shape (served_at s target) old t.request t.reply run.3.0 none (rose_before old.faults run.3.0.faults new.faults up still) run.3.1 in
      let rest = run_so (progress_after p t.reply) run.3.0 turns last new (ap (λ (q : Peer). q.pending) first.after) (rose_behind old.faults run.3.0.faults new.faults run.3.1.counts.faults still) run.3.2 in
      ((run.0, run.1, run.2, (run.3.0, (first.reply_is, first.after), rest.0)), rest.1)

  abbrev One : Tag × Version → Result FileVersion SkipWhy → Progressed → Peer → List (LaneTurn Peer) → Progressed → Peer → Type 0
  One key found r old turns after new = BringsOne s.shape target (served_at s target) key found r old turns after new

  abbrev pub Them : List Finding → Progressed → Peer → List (LaneTurn Peer) → Progressed → Peer → Type 0
  Them fs r old turns after new = BringsAll s.shape target (served_at s target) fs r old turns after new

  one_once : (key : Tag × Version) (found : Result FileVersion SkipWhy) (r : Progressed) (old : Peer) (t1 t2 : List (LaneTurn Peer)) (a1 a2 : Progressed) (n1 n2 : Peer)
      → old.pending ≡ None → (Rose old.faults n1.faults → ⊥) → (Rose old.faults n2.faults → ⊥) → One key found r old t1 a1 n1 → One key found r old t2 a2 n2
      → (t1 ≡ t2) × (a1 ≡ a2) × (n1 ≡ n2) × (n1.pending ≡ None)
  one_once key (Err e) r old t1 t2 a1 a2 n1 n2 none s1 s2 x y = (x.1 ∙ sym y.1, x.0 ∙ sym y.0, x.2 ∙ sym y.2, ap (λ (q : Peer). q.pending) x.2 ∙ none)
  one_once key (Ok v) r old t1 t2 a1 a2 n1 n2 none s1 s2 x y =
      let p = run_so (lane_of s.shape target v) old t1 x.0 n1 none s1 x.2 in
      let q = run_so (lane_of s.shape target v) old t2 y.0 n2 none s2 y.2 in
      let same = run_once next_of said_of (lane_of s.shape target v) old t1 t2 x.0 y.0 n1 n2 p.0 q.0 in
      let said = some_same x.1 y.1 (sym x.3 ∙ ap last_said same.0 ∙ y.3) in
      (same.0, x.4 ∙ (λ i. lane_ended key (same.1 i).lane.state (said i) r) ∙ sym y.4, same.2, p.1)

  abbrev Rest : Option Reply → List Finding → Progressed → Peer → List (LaneTurn Peer) → Progressed → Peer → Type 0
  Rest o fs next mid rest after new = MatchOption o (Them fs next mid rest after new) (λ said. (rest ≡ []) × (after ≡ next) × (new ≡ mid))

  rest_counts : (o : Option Reply) (fs : List Finding) (next : Progressed) (mid : Peer) (rest : List (LaneTurn Peer)) (after : Progressed) (new : Peer) → Rest o fs next mid rest after new → mid.faults ≤ new.faults
  rest_counts None fs next mid rest after new x = (all_counts s target mid rest new (brought s target told fs next mid rest after new x)).faults
  rest_counts (Some said) fs next mid rest after new x = subst (λ (q : Peer). mid.faults ≤ q.faults) (sym x.2) (let e : mid.faults ≤ mid.faults = omega arith in e)

  pub all_once : (fs : List Finding) (r : Progressed) (old : Peer) (t1 t2 : List (LaneTurn Peer)) (a1 a2 : Progressed) (n1 n2 : Peer)
      → old.pending ≡ None → (Rose old.faults n1.faults → ⊥) → (Rose old.faults n2.faults → ⊥) → Them fs r old t1 a1 n1 → Them fs r old t2 a2 n2
      → (t1 ≡ t2) × (a1 ≡ a2) × (n1 ≡ n2) × (n1.pending ≡ None)
  all_once [] r old t1 t2 a1 a2 n1 n2 none s1 s2 x y = (x.1 ∙ sym y.1, x.0 ∙ sym y.0, x.2 ∙ sym y.2, ap (λ (q : Peer). q.pending) x.2 ∙ none)
  all_once (f ∷ fs) r old t1 t2 a1 a2 n1 n2 none s1 s2 x y =
      let up1 = rest_counts x.0.stop fs x.0 x.1 x.3 a1 n1 x.6 in
      let up2 = rest_counts y.0.stop fs y.0 y.1 y.3 a2 n2 y.6 in
      let one1 = (all_counts s target old x.2 x.1 (one_all s target told f.key f.found r old x.2 x.0 x.1 x.4)).faults in
      let one2 = (all_counts s target old y.2 y.1 (one_all s target told f.key f.found r old y.2 y.0 y.1 y.4)).faults in
      let first = one_once f.key f.found r old x.2 y.2 x.0 y.0 x.1 y.1 none (rose_before old.faults x.1.faults n1.faults up1 s1) (rose_before old.faults y.1.faults n2.faults up2 s2) x.4 y.4 in
      let rest = by_stop x.0.stop first.3 (rose_behind old.faults x.1.faults n1.faults one1 s1)
      (subst (λ (m : Peer). Rose m.faults n2.faults → ⊥) (sym first.2) (rose_behind old.faults y.1.faults n2.faults one2 s2)) x.6
      (subst (λ (m : Peer). Rest x.0.stop fs x.0 m y.3 a2 n2) (sym first.2) (subst (λ (n : Progressed). Rest n.stop fs n y.1 y.3 a2 n2) (sym first.1) y.6))
      (all_once fs x.0 x.1 x.3 y.3 a1 a2 n1 n2) in
      (x.5 ∙ (λ i. first.0 i ++ rest.0 i) ∙ sym y.5, rest.1, rest.2, rest.3)
    where
      by_stop : (o : Option Reply) → x.1.pending ≡ None
          → (Rose x.1.faults n1.faults → ⊥) → (Rose x.1.faults n2.faults → ⊥) → Rest o fs x.0 x.1 x.3 a1 n1 → Rest o fs x.0 x.1 y.3 a2 n2
          → (x.1.pending ≡ None → (Rose x.1.faults n1.faults → ⊥) → (Rose x.1.faults n2.faults → ⊥) → Them fs x.0 x.1 x.3 a1 n1 → Them fs x.0 x.1 y.3 a2 n2
          → (x.3 ≡ y.3) × (a1 ≡ a2) × (n1 ≡ n2) × (n1.pending ≡ None))
          → (x.3 ≡ y.3) × (a1 ≡ a2) × (n1 ≡ n2) × (n1.pending ≡ None)
      by_stop None none s1 s2 a b again = again none s1 s2 a b
      by_stop (Some said) none s1 s2 a b again = (a.0 ∙ sym b.0, a.1 ∙ sym b.1, a.2 ∙ sym b.2, ap (λ (q : Peer). q.pending) a.2 ∙ none)

  -- where the target's reply stopped it, more findings would have changed nothing
  pub extends : (front more : List Finding) (r : Progressed) (old : Peer) (turns : List (LaneTurn Peer)) (after : Progressed) (new : Peer) (said : Reply)
      → r.stop ≡ None → after.stop ≡ Some said → Them front r old turns after new → Them (front ++ more) r old turns after new
  extends [] more r old turns after new said going stopped x = absurd (let no : None ≡ Some said = sym going ∙ ap (λ (p : Progressed). p.stop) (sym x.0) ∙ stopped in cc)
  extends (f ∷ front) more r old turns after new said going stopped x =
      (x.0, x.1, x.2, x.3, x.4, x.5, by_stop x.0.stop refl x.6 (λ e y. extends front more x.0 x.1 x.3 after new said e stopped y))
    where
      by_stop : (o : Option Reply) → x.0.stop ≡ o → Rest o front x.0 x.1 x.3 after new
          → (x.0.stop ≡ None → Them front x.0 x.1 x.3 after new → Them (front ++ more) x.0 x.1 x.3 after new) → Rest o (front ++ more) x.0 x.1 x.3 after new
      by_stop None e y again = again e y
      by_stop (Some told_this) e y again = y

-- ---- how it ends

-- the line that a stopping reply makes
abbrev pub Says : Result Rebuilt RebuildErr → Progressed → Type 0
Says (Ok rebuilt) last = last ≡ record { files = rebuilt.files; skips = rebuilt.skipped; stop = None }
Says (Err e) last = (said : Reply) × (last.stop ≡ Some said) × StopsAs said e

module _ (s : Setting) (user : UserId) (target : ℕ) (below : target < s.shape.n) (told : (c : ℕ) → c < s.shape.n → s.told c ≡ true) (from : List ℕ) (within : All (λ cloud. cloud < s.shape.n) from)
    (old : ℕ → Peer) (rested : Rested old) where
  told_all : AllTold s (target ∷ from)
  told_all c has = elim (contains_cases target from c has) [
    | inl same ↦ subst (λ (d : ℕ). IsTrue (s.told d)) same (told target below)
    | inr later ↦ told c (All-contains (λ cloud. cloud < s.shape.n) from c within later)
  ]

  module _ (answers : List Line) (moments : List Moment) (new : ℕ → Peer) (still : Still s.shape.n old new) (x : RebuildStep s user target from old answers moments new) where
    pub whole : Rebuilds s.shape user target (served_at s target) from x.turns x.result old new
    whole = by_result x.result x.lines_are x.found (x.told told_all).0
      where
        by_result : (r : Result Rebuilt RebuildErr) → AreRebuildLines user target r answers → is_lost r ≡ false → RunsTo s.shape user target (served_at s target) from r x.turns old (new target) new
            → Rebuilds s.shape user target (served_at s target) from x.turns r old new
        by_result (Ok rebuilt) ls found runs = runs
        by_result (Err (errors.FromRestore e)) ls found runs = runs
        by_result (Err errors.TargetLost) ls found runs = absurd (let no : true ≡ false = found in cc)
        by_result (Err errors.TargetFault) ls found runs = runs
        by_result (Err (errors.TargetDamaged at byte)) ls found runs = runs
        by_result (Err (errors.TargetRotten named hash)) ls found runs = runs
        by_result (Err (errors.TargetFull room used need limit)) ls found runs = runs
        by_result (Err (errors.TargetLacking place)) ls found runs = runs
        by_result (Err errors.TargetNoMemory) ls found runs = runs
        by_result (Err (errors.TargetStrange kind)) ls found runs = runs
        by_result (Err errors.NoMemory) ls found runs = absurd (let no : None ≡ Some ls.0 = ls.1 in cc)

    pub rest_same : (c : ℕ) → c ≢ target → new c ≡ old c
    rest_same c ne = elim (cases_lt c s.shape.n) [
      | inl here ↦ read_same (old c) (new c) (rested c) (still c here) (x.leaves.read c ne)
      | inr over ↦ x.leaves.others c ne (λ has. let here = All-contains (λ cloud. cloud < s.shape.n) from c within has in omega (arith, here, over))
    ]

    no_stop : (e : RestoreErr) → is_loss e ≡ false → ReadStopped from e old new → ⊥
    no_stop (refusals.CloudFault cloud) found y = still cloud.0 (All-contains (λ cloud. cloud < s.shape.n) from cloud.0 within y.0) y.1.0
    no_stop (refusals.Lost cloud) found y = let no : true ≡ false = found in cc
    no_stop (refusals.Missing cloud) found y = y
    no_stop (refusals.CloudDamaged cloud at byte) found y = y
    no_stop (refusals.CloudRotten cloud named hash) found y = y
    no_stop (refusals.CloudNoMemory cloud) found y = y
    no_stop (refusals.Strange cloud kind) found y = y
    no_stop (refusals.RecipesDiffer a b place) found y = y
    no_stop (refusals.ShareLength cloud secret a b) found y = y
    no_stop (refusals.BadShare cloud secret a b) found y = y
    no_stop (refusals.BadSecret secret a b) found y = y
    no_stop (refusals.BadPad secret at byte) found y = y
    no_stop refusals.NoMemory found y = y

    abbrev all : List Finding
    all = findings s.shape (λ c. (new c).list) from user

    says : (r : Result Rebuilt RebuildErr) → is_lost r ≡ false → EndsAs whole.found (findings s.shape (λ c. (new c).list) from user) whole.last from old new r → Says r whole.last
    says (Ok rebuilt) found y = y.1
    says (Err (errors.FromRestore e)) found y = absurd (no_stop e found y.1)
    says (Err errors.TargetLost) found y = (y.0, y.1, y.2)
    says (Err errors.TargetFault) found y = (y.0, y.1, y.2)
    says (Err (errors.TargetDamaged at byte)) found y = (y.0, y.1, y.2)
    says (Err (errors.TargetRotten named hash)) found y = (y.0, y.1, y.2)
    says (Err (errors.TargetFull room used need limit)) found y = (y.0, y.1, y.2)
    says (Err (errors.TargetLacking place)) found y = (y.0, y.1, y.2)
    says (Err errors.TargetNoMemory) found y = (y.0, y.1, y.2)
    says (Err (errors.TargetStrange kind)) found y = (y.0, y.1, y.2)
    says (Err errors.NoMemory) found y = (y.0, y.1, y.2)

    pub it_says : Says x.result whole.last
    it_says = says x.result x.found whole.ends

    -- all findings, whether the target stopped it or not
    pub of_all : Them s target (told target below) (findings s.shape (λ c. (new c).list) from user) nothing_yet (old target) x.turns whole.last (new target)
    of_all = by_result x.result x.found whole.ends
      where
        stopped : (said : Reply) → whole.last.stop ≡ Some said → Them s target (told target below) (findings s.shape (λ c. (new c).list) from user) nothing_yet (old target) x.turns whole.last (new target)
        stopped said stop =
            subst (λ (l : List Finding). Them s target (told target below) l nothing_yet (old target) x.turns whole.last (new target)) (sym whole.front.split)
            (extends s target (told target below) whole.found whole.front.rest nothing_yet (old target) x.turns whole.last (new target) said refl stop whole.brings)

        by_result : (r : Result Rebuilt RebuildErr) → is_lost r ≡ false → EndsAs whole.found (findings s.shape (λ c. (new c).list) from user) whole.last from old new r
            → Them s target (told target below) (findings s.shape (λ c. (new c).list) from user) nothing_yet (old target) x.turns whole.last (new target)
        by_result (Ok rebuilt) found y =
            subst (λ (l : List Finding). Them s target (told target below) l nothing_yet (old target) x.turns whole.last (new target)) y.0 whole.brings
        by_result (Err (errors.FromRestore e)) found y = absurd (no_stop e found y.1)
        by_result (Err errors.TargetLost) found y = stopped y.0 y.1
        by_result (Err errors.TargetFault) found y = stopped y.0 y.1
        by_result (Err (errors.TargetDamaged at byte)) found y = stopped y.0 y.1
        by_result (Err (errors.TargetRotten named hash)) found y = stopped y.0 y.1
        by_result (Err (errors.TargetFull room used need limit)) found y = stopped y.0 y.1
        by_result (Err (errors.TargetLacking place)) found y = stopped y.0 y.1
        by_result (Err errors.TargetNoMemory) found y = stopped y.0 y.1
        by_result (Err (errors.TargetStrange kind)) found y = stopped y.0 y.1
        by_result (Err errors.NoMemory) found y = stopped y.0 y.1

-- ---- the answer of what it comes to

-- the lines by how it ended; of a told target
abbrev lines_by : UserId → ℕ → Option Reply → ℕ → List Skip → List Line
lines_by user target None files skips = lines.Rebuilt user (cloud_no target) files (length skips) ∷ map skip_line skips
lines_by user target (Some replies.Fault) files skips = lines.Refused (why.Target target_whys.Fault) ∷ []
lines_by user target (Some (replies.Damaged at byte)) files skips = lines.Refused (why.Target (target_whys.Damaged at byte)) ∷ []
lines_by user target (Some (replies.Rotten named found)) files skips = lines.Refused (why.Target (target_whys.Rotten named found)) ∷ []
lines_by user target (Some (replies.Full room used need limit)) files skips = lines.Refused (why.Target (target_whys.Full room used need limit)) ∷ []
lines_by user target (Some (replies.Lacking place)) files skips = lines.Refused (why.Target (target_whys.Lacking place)) ∷ []
lines_by user target (Some replies.NoMemory) files skips = lines.Refused (why.Target target_whys.NoMemory) ∷ []
lines_by user target (Some reply) files skips = []

stops_lines : (user : UserId) (target : ℕ) (e : RebuildErr) (said : Reply) (files : ℕ) (skips : List Skip) (answers : List Line) → StopsAs said e → AreRebuildLines user target (Err e) answers
    → answers ≡ lines_by user target (Some said) files skips
stops_lines user target errors.TargetFault said files skips answers stops ls =
    ls.2 ∙ ap (λ (w : Refusal). lines.Refused w ∷ []) (some_same ls.0 (why.Target target_whys.Fault) (sym ls.1)) ∙ ap (λ (r : Reply). lines_by user target (Some r) files skips) (sym stops)
stops_lines user target (errors.TargetDamaged at byte) said files skips answers stops ls =
    ls.2 ∙ ap (λ (w : Refusal). lines.Refused w ∷ []) (some_same ls.0 (why.Target (target_whys.Damaged at byte)) (sym ls.1)) ∙ ap (λ (r : Reply). lines_by user target (Some r) files skips) (sym stops)
stops_lines user target (errors.TargetRotten named found) said files skips answers stops ls =
    ls.2 ∙ ap (λ (w : Refusal). lines.Refused w ∷ []) (some_same ls.0 (why.Target (target_whys.Rotten named found)) (sym ls.1)) ∙ ap (λ (r : Reply). lines_by user target (Some r) files skips) (sym stops)
stops_lines user target (errors.TargetFull room used need limit) said files skips answers stops ls =
    ls.2 ∙ ap (λ (w : Refusal). lines.Refused w ∷ []) (some_same ls.0 (why.Target (target_whys.Full room used need limit)) (sym ls.1)) ∙ ap (λ (r : Reply). lines_by user target (Some r) files skips) (sym stops)
stops_lines user target (errors.TargetLacking place) said files skips answers stops ls =
    ls.2 ∙ ap (λ (w : Refusal). lines.Refused w ∷ []) (some_same ls.0 (why.Target (target_whys.Lacking place)) (sym ls.1)) ∙ ap (λ (r : Reply). lines_by user target (Some r) files skips) (sym stops)
stops_lines user target errors.TargetNoMemory said files skips answers stops ls =
    ls.2 ∙ ap (λ (w : Refusal). lines.Refused w ∷ []) (some_same ls.0 (why.Target target_whys.NoMemory) (sym ls.1)) ∙ ap (λ (r : Reply). lines_by user target (Some r) files skips) (sym stops)
stops_lines user target (errors.FromRestore e) said files skips answers stops ls = absurd stops
stops_lines user target errors.TargetLost said files skips answers stops ls = absurd stops
stops_lines user target (errors.TargetStrange kind) said files skips answers stops ls = absurd stops
stops_lines user target errors.NoMemory said files skips answers stops ls = absurd stops

lines_once : (user : UserId) (target : ℕ) (r : Result Rebuilt RebuildErr) (last : Progressed) (answers : List Line) → Says r last → AreRebuildLines user target r answers
    → answers ≡ lines_by user target last.stop last.files last.skips
lines_once user target (Ok rebuilt) last answers says ls = ls ∙ ap (λ (p : Progressed). lines_by user target p.stop p.files p.skips) (sym says)
lines_once user target (Err e) last answers says ls =
    stops_lines user target e says.0 last.files last.skips answers says.2 ls ∙ ap (λ (o : Option Reply). lines_by user target o last.files last.skips) (sym says.1)

module _ (s : Setting) (user : UserId) (target : ℕ) (below : target < s.shape.n) (told : (c : ℕ) → c < s.shape.n → s.told c ≡ true) (first : ℕ) (from : List ℕ) (within : All (λ cloud. cloud < s.shape.n) (first ∷ from))
    (apart : ¬ Contains (first ∷ from) target) (old : ℕ → Peer) (rested : Rested old) where
  pub rebuild_once : (a1 a2 : List Line) (m1 m2 : List Moment) (n1 n2 : ℕ → Peer) → Still s.shape.n old n1 → Still s.shape.n old n2
      → RebuildStep s user target (first ∷ from) old a1 m1 n1 → RebuildStep s user target (first ∷ from) old a2 m2 n2 → (a1 ≡ a2) × (m1 ≡ m2) × (n1 ≡ n2) × Rested n1
  rebuild_once a1 a2 m1 m2 n1 n2 s1 s2 x y =
      let w1 = whole s user target below told (first ∷ from) within old rested a1 m1 n1 s1 x in
      let w2 = whole s user target below told (first ∷ from) within old rested a2 m2 n2 s2 y in
      let f1 = of_all s user target below told (first ∷ from) within old rested a1 m1 n1 s1 x in
      let f2 = of_all s user target below told (first ∷ from) within old rested a2 m2 n2 s2 y in
      let here1 = rest_same s user target below told (first ∷ from) within old rested a1 m1 n1 s1 x in
      let here2 = rest_same s user target below told (first ∷ from) within old rested a2 m2 n2 s2 y in
      let lists = findings_by s.shape user (λ c. (n1 c).list) (λ c. (n2 c).list) first from
      (λ c has. let ne = (λ (e : c ≡ target). apart (subst (Contains (first ∷ from)) e has)) in ap (λ (p : Peer). p.list) (here1 c ne ∙ sym (here2 c ne))) in
      let same = all_once s target (told target below) (findings s.shape (λ c. (n1 c).list) (first ∷ from) user) nothing_yet (old target) x.turns y.turns w1.last w2.last (n1 target) (n2 target)
      (rested target) (s1 target below) (s2 target below) f1 (subst (λ (l : List Finding). Them s target (told target below) l nothing_yet (old target) y.turns w2.last (n2 target)) (sym lists) f2) in (
        lines_once user target x.result w1.last a1 (it_says s user target below told (first ∷ from) within old rested a1 m1 n1 s1 x) x.lines_are
            ∙ ap (λ (p : Progressed). lines_by user target p.stop p.files p.skips) same.1
            ∙ sym (lines_once user target y.result w2.last a2 (it_says s user target below told (first ∷ from) within old rested a2 m2 n2 s2 y) y.lines_are),
        x.moments_are ∙ (λ i. rebuild_moments old target (same.0 i) (same.2 i)) ∙ sym y.moments_are,
        (λ i c. at c here1 here2 same.2 i),
        (λ c. rest c here1 same.3),
      )
    where
      at : (c : ℕ) → ((d : ℕ) → d ≢ target → n1 d ≡ old d) → ((d : ℕ) → d ≢ target → n2 d ≡ old d) → n1 target ≡ n2 target → n1 c ≡ n2 c
      at c here1 here2 same = elim (cases_eq c target) [
        | inl e ↦ subst (λ (d : ℕ). n1 d ≡ n2 d) (sym e) same
        | inr ne ↦ here1 c ne ∙ sym (here2 c ne)
      ]

      rest : (c : ℕ) → ((d : ℕ) → d ≢ target → n1 d ≡ old d) → (n1 target).pending ≡ None → (n1 c).pending ≡ None
      rest c here none = elim (cases_eq c target) [
        | inl e ↦ subst (λ (d : ℕ). (n1 d).pending ≡ None) (sym e) none
        | inr ne ↦ ap (λ (p : Peer). p.pending) (here c ne) ∙ rested c
      ]
