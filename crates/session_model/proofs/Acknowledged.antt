-- What was acknowledged is kept, and given.
use Rattle.std.proofs.Common.{◌≡◌, ℕ, zero, suc, ◌+◌, ◌-◌, ◌<◌, Bool, true, false, List, [], ◌∷◌, ◌++◌, map, length, reverse, Some, None, refl, sym, ap, ◌∙◌, subst, inl, inr, ◌⊎◌, arith, append-nil, append_assoc}
use mathlib.Core.List.{reverse-cons, reverse-reverse}
use Rattle.std.specs.Prelude.{IsTrue, slice_get, bytes_eq, Result, Ok, Err}
use Rattle.std.specs.List.{Contains}
use Rattle.std.proofs.lemmas.List.Elements.{Contains-append_cases, Contains-append_left, Contains-append_right}
use Rattle.std.proofs.lemmas.Slice.Eq.{bytes_eq-Decides}
use Rattle.session.specs.CdBase.shape.Shape.{Shape}
use Rattle.session.specs.CdEdges.Causes.{Rose}
use Rattle.session.specs.CdEdges.Disk.{Cloud}
use Rattle.subset_restore.specs.CaontRs.Package.{share}
use Rattle.rebuild.specs.FileRecipe.FileRecipe.{secrets}
use Rattle.rebuild.specs.ReedSolomon.Dispersal.{AreChoice}
use Rattle.subset_restore.specs.UserDedup.command.Command.{Command}
use Rattle.subset_restore.specs.UserDedup.Cloud.{fingerprint}
use Rattle.subset_restore.specs.UserDedup.Exec.{Peer, MaySettleAs, KeepsPeer, Settles}
use Rattle.subset_restore.proofs.UserDedup.Owned.{contains_cases, contains_nothing, contains_here, contains_later}
use Rattle.rebuild.specs.UploadJob.Upload.{FileVersion}
use Rattle.subset_restore.specs.RestoreJob.error.RestoreErr.{RestoreErr}
use Rattle.subset_restore.specs.RestoreJob.error.RestoreErr.TheVariants as restore_errors
use Rattle.subset_restore.specs.RestoreJob.Asking.{is_loss, is_lost}
use Rattle.subset_restore.specs.RestoreJob.Restored.{Unrestored, recipe_in}
use Rattle.subset_restore.specs.RestoreJob.Restored
use Rattle.subset_restore.specs.RestoreJob.Reading.{Ends}
use Rattle.subset_restore.specs.Subsets.{subsets, IsSubset}
use Rattle.subset_restore.specs.Ends.{Sought, outcome_of}
use Rattle.subset_restore.specs.Going.{sought}
use Rattle.subset_restore.proofs.Elements.{contains_middle, of_all}
use Rattle.subset_restore.proofs.Choices.{subset_is_one}
use Rattle.subset_restore.proofs.Files.{lacking_refuses}
use Rattle.subset_restore.proofs.Standing.{ends_among}
use Rattle.rebuild.specs.KeptFiles.Kept.{Keeps, key_of}
use Rattle.rebuild.proofs.KeptFiles.Giving.{kept_is_given}
use Rattle.rebuild.specs.declared.error.SkipWhy.TheVariants as whys
use Rattle.rebuild.specs.declared.error.RebuildErr.{RebuildErr}
use Rattle.rebuild.specs.declared.skips.Rebuilt.{Rebuilt}
use Rattle.rebuild.specs.Rebuilding.{RunsTo}
use Rattle.rebuild.specs.Kept.{Refills as Came}
use Rattle.rebuild.proofs.Bringing.{skip_for}
use Rattle.session.specs.declared.event.Event.{Event}
use Rattle.session.specs.declared.event.Event.TheVariants as events
use Rattle.session.specs.Transcript.line.SkipWord.TheVariants as words
use Rattle.session.specs.Transcript.line.Line.{Line}
use Rattle.session.specs.Transcript.line.Line.TheVariants as lines
use Rattle.session.specs.Transcript.refusal.Refusal.{Refusal}
use Rattle.session.specs.Transcript.refusal.Refusal.TheVariants as refusals
use Rattle.session_model.specs.Vault.{Setting, Vault, served_at, opening}
use Rattle.session_model.specs.Steps.{Moment, cloud_no, IsGetLine, NoneFrom, ComesBy, GetStep, skip_line, AreRebuildLines, AllTold, RebuildStep, VStep}
use Rattle.session_model.specs.Run.{Answered, Turns, script_of, moments_of}
use Rattle.session_model.specs.Kept.{upload_of, uploads, SaysCommitted, EndsKept as Ended, SaysRebuilt, IsVersionKept, IsDispersed}
use Rattle.session_model.specs.Headline.{Session, IsRun, script_in, moments_in, moments_begun, event_of, Clashes, GivesVersion, GivesAcknowledged, Lacks, GivesFromSome, GivesFromMore, DisksKeep, StillKept}
use Rattle.session.specs.Spelling.{AreSources}
use Rattle.session_model.proofs.Ranged.{IsRanged, are_ranged, chosen_of, is_chosen, are_choice, line_fits, get_sources, chosen_below}
use Rattle.session_model.proofs.Growing.{TagsApart, keeps_but, grows_last, stays_in, settles_in, grows_step}
use Rattle.session_model.proofs.Jobs.{brings_turns}
use Rattle.session_model.proofs.Seen.{Seen, seen_turns}
use Rattle.session_model.proofs.Lines.{Sees, commit_step}
use Rattle.session_model.proofs.Names.{tags_apart}
use Rattle.session_model.proofs.Refilled.{refilled}

-- ---- lists

map_has : {A B : Type 0} (f : A → B) (xs : List A) (x : A) → Contains xs x → Contains (map f xs) (f x)
map_has f [] x has = absurd (contains_nothing x has)
map_has f (y ∷ xs) x has = elim (contains_cases y xs x has) [
  | inl same ↦ subst (λ z. Contains (f y ∷ map f xs) (f z)) same (contains_here (f y) (map f xs))
  | inr later ↦ contains_later (f y) (map f xs) (f x) (map_has f xs x later)
]

got_has : {A : Type 0} (xs : List A) (i : ℕ) (x : A) → slice_get xs i ≡ Some x → Contains xs x
got_has [] i x e = absurd (let f : None ≡ Some x = e in cc)
got_has (y ∷ xs) zero x e = subst (Contains (y ∷ xs)) (let f : Some y ≡ Some x = e in cc) (contains_here y xs)
got_has (y ∷ xs) (suc i) x e = contains_later y xs x (got_has xs i x e)

moments_has : (xs : List Answered) (a : Answered) (ys : List Answered) (m : Moment) → Contains a.moments m → Contains (moments_of (xs ++ a ∷ ys)) m
moments_has [] a ys m has = Contains-append_left a.moments (moments_of ys) m has
moments_has (x ∷ xs) a ys m has = Contains-append_right x.moments (moments_of (xs ++ a ∷ ys)) m (moments_has xs a ys m has)

moments_behind : (xs : List Answered) (a : Answered) (ys : List Answered) (m : Moment) → Contains (moments_of ys) m → Contains (moments_of (xs ++ a ∷ ys)) m
moments_behind [] a ys m has = Contains-append_right a.moments (moments_of ys) m has
moments_behind (x ∷ xs) a ys m has = Contains-append_right x.moments (moments_of (xs ++ a ∷ ys)) m (moments_behind xs a ys m has)

pub uploads_front : (xs ys : List Answered) (more : List Event) (v : FileVersion) → Contains (uploads (script_of xs)) v → Contains (uploads (script_of (xs ++ ys) ++ more)) v
uploads_front [] ys more v has = absurd (contains_nothing v has)
uploads_front (x ∷ xs) ys more v has = elim (Contains-append_cases (upload_of x.event) (uploads (script_of xs)) v has) [
  | inl here ↦ Contains-append_left (upload_of x.event) (uploads (script_of (xs ++ ys) ++ more)) v here
  | inr later ↦ Contains-append_right (upload_of x.event) (uploads (script_of (xs ++ ys) ++ more)) v (uploads_front xs ys more v later)
]

-- ---- a line among the lines

pub record Splits (s : Setting) (old : Vault) (xs : List Answered) (a : Answered) (ys : List Answered) (new : Vault) : Type 0 where
  pub mid : Vault
  pub front : Turns s old xs mid
  pub before : a.before ≡ mid
  pub step : VStep s mid a.event a.answers a.moments a.after
  pub behind : Turns s a.after ys new

pub splits : (s : Setting) (old : Vault) (xs : List Answered) (a : Answered) (ys : List Answered) (new : Vault) → Turns s old (xs ++ a ∷ ys) new → Splits s old xs a ys new
splits s old [] a ys new t = record { mid = old; front = refl; before = t.0; step = t.1; behind = t.2 }
splits s old (x ∷ xs) a ys new t =
    let r = splits s x.after xs a ys new t.2 in
    record { mid = r.mid; front = (t.0, t.1, r.front); before = r.before; step = r.step; behind = r.behind }

-- ---- a line among the events

events_has : (xs : List Answered) (a : Answered) (ys : List Answered) → Contains (script_of (xs ++ a ∷ ys)) a.event
events_has [] a ys = contains_here a.event (script_of ys)
events_has (x ∷ xs) a ys = contains_later x.event (script_of (xs ++ a ∷ ys)) a.event (events_has xs a ys)

pub named_some : (shape : Shape) (named : List ℕ) → AreChoice shape named → (cloud : ℕ) × Contains named cloud
named_some shape [] choice = absurd (let n : 0 ≡ shape.k = choice.count in let m = shape.several in omega arith)
named_some shape (cloud ∷ named) choice = (cloud, contains_here cloud named)

-- what a script's line is among the lines of a session
among : (run : Session) (xs ys : List Answered) (a : Answered) → run.history ≡ xs ++ a ∷ ys
    → Contains (script_in run) a.event
among run xs ys a e = Contains-append_left (script_of run.history) (event_of run.begun) a.event
    (subst (λ (l : List Answered). Contains (script_of l) a.event) (sym e) (events_has xs a ys))

-- ---- the run

module _ (clouds : ℕ → Cloud) (run : Session) (is : IsRun clouds run) (apart_all : ¬ Clashes run) (ranged : (v : FileVersion) → Contains (uploads (script_in run)) v → IsRanged v) where
  abbrev Known : ℕ → List ℕ → Type 0
  Known c string = IsDispersed run.setting.shape (script_in run) (moments_in run) run.last c string

  apart : (c : ℕ) → c < run.setting.shape.n → (v : FileVersion) → Contains (uploads (script_in run)) v → (string secret : List ℕ) → Known c string → Contains (secrets v.file) secret → fingerprint string ≡ fingerprint (share run.setting.shape c secret)
      → string ≡ share run.setting.shape c secret
  apart c below v uploaded string secret known among same = by_test (bytes_eq string (share run.setting.shape c secret)) refl
    where
      by_test : (b : Bool) → bytes_eq string (share run.setting.shape c secret) ≡ b → string ≡ share run.setting.shape c secret
      by_test true e = (bytes_eq-Decides string (share run.setting.shape c secret)).0 e
      by_test false e = absurd (apart_all (inl (record {
        cloud = c;
        below = below;
        one = string;
        other = share run.setting.shape c secret;
        first = known;
        second = inl (v, uploaded, map_has (share run.setting.shape c) (secrets v.file) secret among);
        different = λ q. (let f : true ≡ false = sym ((bytes_eq-Decides string (share run.setting.shape c secret)).1 q) ∙ e in cc);
        same = same;
      })))

  tags : (v : FileVersion) → Contains (uploads (script_in run)) v → (event : Event) → Contains (script_in run) event → TagsApart run.setting.shape v event
  tags v uploaded event has = tags_apart run.setting.shape (script_in run) is.lines (λ clash. apart_all (inr clash)) v uploaded (ranged v uploaded).path event has

  sees : (c : ℕ) (xs : List Answered) (a : Answered) (ys : List Answered) → run.history ≡ xs ++ a ∷ ys → Turns run.setting a.after ys run.between → Sees (Known c) c a.moments a.after.peers
  sees c xs a ys e behind = record {
    here = λ m among string has. inr (inl (m, in_run m (moments_has xs a ys m among), has));
    behind = λ string has. known string (seen_turns run.setting c string ys a.after run.between run.begun run.last behind is.begun has);
  }
    where
      in_run : (m : Moment) → Contains (moments_of (xs ++ a ∷ ys)) m → Contains (moments_in run) m
      in_run m has = Contains-append_left (moments_of run.history) (moments_begun run.begun) m (subst (λ (l : List Answered). Contains (moments_of l) m) (sym e) has)

      known : (string : List ℕ) → Seen c (moments_of ys ++ moments_begun run.begun) run.last string → Known c string
      known string (inl x) = elim (Contains-append_cases (moments_of ys) (moments_begun run.begun) x.0 x.1) [
        | inl here ↦ inr (inl (x.0, in_run x.0 (moments_behind xs a ys x.0 here), x.2))
        | inr begun ↦ inr (inl (x.0, Contains-append_right (moments_of run.history) (moments_begun run.begun) x.0 begun, x.2))
      ]
      known string (inr x) = inr (inr x)

  abbrev KeepsThere : ℕ → FileVersion → Peer → Type 0
  KeepsThere c v p = (list : List Command) → MaySettleAs p list → Keeps run.setting.shape c list v.user v.path v.number v.file

  -- a cloud that was read
  read_keeps : (cloud : ℕ) (v : FileVersion) (p q : Peer) → KeepsPeer p q ⊎ Settles p q → KeepsThere cloud v p → Keeps run.setting.shape cloud q.list v.user v.path v.number v.file
  read_keeps cloud v p q (inl stays) keeps = keeps q.list (stays_in p q stays q.list (inl refl))
  read_keeps cloud v p q (inr settles) keeps = keeps q.list (settles_in p q settles q.list (inl refl))

  kept_told : (rev : List Answered) (c : ℕ) (v : FileVersion) → IsVersionKept run.setting rev c v → IsTrue (run.setting.told c)
  kept_told [] c v k = absurd k
  kept_told (a ∷ earlier) c v k = k.0

  longer : (a : Answered) (earlier later : List Answered) → run.history ≡ reverse (a ∷ earlier) ++ later → run.history ≡ reverse earlier ++ a ∷ later
  longer a earlier later e = e ∙ ap (λ (l : List Answered). l ++ later) (reverse-cons a earlier) ∙ append_assoc (reverse earlier) (a ∷ []) later

  -- by what the newest line says
  uploaded_by : (a : Answered) (earlier later : List Answered) (c : ℕ) (v : FileVersion) → run.history ≡ reverse earlier ++ a ∷ later
      → SaysCommitted (script_of (reverse earlier)) c v a.answers
      ⊎ (SaysRebuilt run.setting.shape (λ source. IsVersionKept run.setting earlier source v) c v a
      ⊎ (IsVersionKept run.setting earlier c v × ¬ Ended c v a.event))
      → ((source : ℕ) → IsVersionKept run.setting earlier source v → Contains (uploads (script_in run)) v)
      → Contains (uploads (script_in run)) v
  uploaded_by a earlier later c v e (inl x) more = subst (λ (l : List Answered). Contains (uploads (script_of l ++ event_of run.begun)) v) (sym e)
      (uploads_front (reverse earlier) (a ∷ later) (event_of run.begun) v (got_has (uploads (script_of (reverse earlier))) x.1.0 v x.1.2))
  uploaded_by a earlier later c v e (inr (inl x)) more =
      let fits = line_fits run.setting.shape 0 (script_in run) is.lines (events.Rebuild v.user (cloud_no c) x.from)
      (subst (Contains (script_in run)) x.event_is (among run (reverse earlier) later a e)) in
      let some = named_some run.setting.shape x.from (are_choice run.setting.shape x.from fits.1.1.0) in
      more some.0 (x.kept some.0 some.1)
  uploaded_by a earlier later c v e (inr (inr x)) more = more c x.0

  kept_uploaded : (rev later : List Answered) (c : ℕ) (v : FileVersion) → run.history ≡ reverse rev ++ later → IsVersionKept run.setting rev c v → Contains (uploads (script_in run)) v
  kept_uploaded [] later c v e k = absurd k
  kept_uploaded (a ∷ earlier) later c v e k = uploaded_by a earlier later c v (longer a earlier later e) k.1
      (λ source kept. kept_uploaded earlier (a ∷ later) source v (longer a earlier later e) kept)

  kept_by : (a : Answered) (earlier later : List Answered) (c : ℕ) (below : c < run.setting.shape.n) (v : FileVersion) (told : IsTrue (run.setting.told c)) (uploaded : Contains (uploads (script_in run)) v) → run.history ≡ reverse earlier ++ a ∷ later
      → (mid : Vault) → Turns run.setting (opening clouds) (reverse earlier) mid → VStep run.setting mid a.event a.answers a.moments a.after → Turns run.setting a.after later run.between
      → SaysCommitted (script_of (reverse earlier)) c v a.answers
      ⊎ (SaysRebuilt run.setting.shape (λ source. IsVersionKept run.setting earlier source v) c v a
      ⊎ (IsVersionKept run.setting earlier c v × ¬ Ended c v a.event))
      → ((source : ℕ) → source < run.setting.shape.n → IsVersionKept run.setting earlier source v → KeepsThere source v (mid.peers source)) → KeepsThere c v (a.after.peers c)
  kept_by a earlier later c below v told uploaded e mid front step behind (inl x) more =
      let r = ranged v uploaded in
      let place : x.0 - 1 ≡ x.1.0 = (let q : x.0 ≡ x.1.0 + 1 = x.1.1 in omega arith) in
      commit_step run.setting c told v (record { path = r.path; few = r.few }) (Known c) (apart c below v uploaded) (uploads (script_of (reverse earlier))) x.0
      (ap (slice_get (uploads (script_of (reverse earlier)))) place ∙ x.1.2) mid a.event a.answers a.moments a.after step
      (brings_turns run.setting (reverse earlier) (opening clouds) mid [] front (record { are = tt; those = refl })) x.2 (sees c (reverse earlier) a later e behind)
  kept_by a earlier later c below v told uploaded e mid front step behind (inr (inl x)) more =
      let r = ranged v uploaded in
      let fits = line_fits run.setting.shape 0 (script_in run) is.lines (events.Rebuild v.user (cloud_no c) x.from)
      (subst (Contains (script_in run)) x.event_is (among run (reverse earlier) later a e)) in
      let choice = are_choice run.setting.shape x.from fits.1.1.0 in
      let rebuilt = subst (λ (event : Event). VStep run.setting mid event a.answers a.moments a.after) x.event_is step in
      by_result x choice r rebuilt.0 (more_kept x choice) rebuilt.0.result rebuilt.0.lines_are (rebuilt.0.told (all_told x))
    where
      all_told : (x : SaysRebuilt run.setting.shape (λ source. IsVersionKept run.setting earlier source v) c v a) → AllTold run.setting (c ∷ x.from)
      all_told x cloud has = elim (contains_cases c x.from cloud has) [
        | inl same ↦ subst (λ (n : ℕ). IsTrue (run.setting.told n)) same told
        | inr source ↦ kept_told earlier cloud v (x.kept cloud source)
      ]

      -- each list of a cloud that was read is one that it might have settled as
      more_kept : (x : SaysRebuilt run.setting.shape (λ source. IsVersionKept run.setting earlier source v) c v a) → AreChoice run.setting.shape x.from → (source : ℕ) → Contains x.from source → KeepsThere source v (mid.peers source)
      more_kept x choice source has = more source (chosen_below run.setting.shape x.from choice source has) (x.kept source has)

      by_result : (x : SaysRebuilt run.setting.shape (λ source. IsVersionKept run.setting earlier source v) c v a) → AreChoice run.setting.shape x.from → IsRanged v
          → (r : RebuildStep run.setting v.user c x.from mid.peers a.answers a.moments a.after.peers) → ((source : ℕ) → Contains x.from source → KeepsThere source v (mid.peers source))
          → (result : Result Rebuilt RebuildErr) → AreRebuildLines v.user c result a.answers
          → RunsTo run.setting.shape v.user c (served_at run.setting c) x.from result r.turns mid.peers (a.after.peers c) a.after.peers × Came run.setting.shape c x.from v.user a.after.peers result
          → KeepsThere c v (a.after.peers c)
      by_result x choice ranged_v r before (Err error) are came =
          absurd (let f : lines.Refused are.0 ∷ [] ≡ lines.Rebuilt v.user (cloud_no c) x.files x.skipped ∷ x.skips = sym are.2 ∙ x.answers_are in cc)
      by_result x choice ranged_v r before (Ok rebuilt) are came =
          let skips : map skip_line rebuilt.skipped ≡ x.skips =
          (let f : lines.Rebuilt v.user (cloud_no c) rebuilt.files (length rebuilt.skipped) ∷ map skip_line rebuilt.skipped ≡ lines.Rebuilt v.user (cloud_no c) x.files x.skipped ∷ x.skips = sym are ∙ x.answers_are in cc) in
          refilled run.setting c told v (record { path = ranged_v.path; few = ranged_v.few }) (Known c) (apart c below v uploaded) x.from r.turns rebuilt mid.peers a.after.peers choice ranged_v.letters ranged_v.bytes came.0
          (λ source has. read_keeps source v (mid.peers source) (a.after.peers source)
          (r.leaves.read source (λ same. x_apart x source has same)).0 (before source has))
          (λ skipped. x.brought words.TargetExists (subst (λ (l : List Line). Contains l (lines.Skipped (key_of run.setting.shape v.path v.number).0 v.number words.TargetExists)) skips
          (map_has skip_line rebuilt.skipped (skip_for (key_of run.setting.shape v.path v.number) whys.TargetExists) skipped)))
          (sees c (reverse earlier) a later e behind).behind
        where
          x_apart : (x : SaysRebuilt run.setting.shape (λ source. IsVersionKept run.setting earlier source v) c v a) → (source : ℕ) → Contains x.from source → source ≡ c → ⊥
          x_apart x source has same =
              let fits = line_fits run.setting.shape 0 (script_in run) is.lines (events.Rebuild v.user (cloud_no c) x.from)
              (subst (Contains (script_in run)) x.event_is (among run (reverse earlier) later a e)) in
              fits.1.1.1 (subst (Contains x.from) same has)
  kept_by a earlier later c below v told uploaded e mid front step behind (inr (inr x)) more =
      keeps_but run.setting.shape c v (mid.peers c) (a.after.peers c) (more c below x.0)
      (grows_step run.setting c told v mid a.event a.answers a.moments a.after step (tags v uploaded a.event (among run (reverse earlier) later a e)) x.1)

  -- what a told cloud acknowledged, each list that it may settle as keeps
  kept_keeps : (rev later : List Answered) (c : ℕ) → c < run.setting.shape.n → (v : FileVersion) → run.history ≡ reverse rev ++ later → (mid : Vault) → Turns run.setting (opening clouds) (reverse rev) mid → Turns run.setting mid later run.between
      → IsVersionKept run.setting rev c v → KeepsThere c v (mid.peers c)
  kept_keeps [] later c below v e mid front behind k = absurd k
  kept_keeps (a ∷ earlier) later c below v e mid front behind k =
      let x = splits run.setting (opening clouds) (reverse earlier) a [] mid (subst (λ (l : List Answered). Turns run.setting (opening clouds) l mid) (reverse-cons a earlier) front) in
      let there : mid ≡ a.after = x.behind in
      let behind_a = subst (λ (w : Vault). Turns run.setting w later run.between) there behind in
      let uploaded = kept_uploaded (a ∷ earlier) later c v e k in
      subst (λ (w : Vault). KeepsThere c v (w.peers c)) (sym there)
      (kept_by a earlier later c below v k.0 uploaded (longer a earlier later e) x.mid x.front x.step behind_a k.1
      (λ source lt kept. kept_keeps earlier (a ∷ later) source lt v (longer a earlier later e) x.mid x.front (x.before, x.step, behind_a) kept))

  -- ---- a get

  refused_given : (named : List ℕ) (v : FileVersion) (a : Answered) (before after : ℕ → Peer) (e : RestoreErr) (file : List ℕ) (line : Line) → IsGetLine (Err e) file line → is_loss e ≡ false
      → Ends (Ok v.file) named (Err e) [] [] before after → ((cloud : ℕ) → Rose (before cloud).faults (after cloud).faults → Rose (a.before.peers cloud).faults (a.after.peers cloud).faults) → GivesVersion named v a (line ∷ [])
  refused_given named v a before after (restore_errors.CloudFault c) file line is_line found ends rose =
      let same : lines.Refused _ ≡ line = sym is_line.2 in
      fault_line is_line.0 (let f : Some (refusals.Fault c) ≡ Some is_line.0 = is_line.1 in cc) same
    where
      fault_line : (why : Refusal) → refusals.Fault c ≡ why → lines.Refused why ≡ line → GivesVersion named v a (line ∷ [])
      fault_line why e f = subst (λ (l : Line). GivesVersion named v a (l ∷ [])) (ap (λ (w : Refusal). lines.Refused w) e ∙ f) (ends.0, rose c.0 ends.1)
  refused_given named v a before after (restore_errors.Missing c) file line is_line found ends rose = absurd (let f : Ok v.file ≡ Err (Restored.Missing c.0) = ends in cc)
  refused_given named v a before after (restore_errors.RecipesDiffer x y place) file line is_line found ends rose = absurd (let f : Ok v.file ≡ Err (Restored.RecipesDiffer x.0 y.0 place) = ends in cc)
  refused_given named v a before after (restore_errors.ShareLength c secret got wanted) file line is_line found ends rose = absurd (let f : Ok v.file ≡ Err (Restored.ShareLength c.0 secret got wanted) = ends in cc)
  refused_given named v a before after (restore_errors.BadSecret secret x y) file line is_line found ends rose = absurd (let f : Ok v.file ≡ Err _ = ends in cc)
  refused_given named v a before after (restore_errors.BadPad secret at byte) file line is_line found ends rose = absurd (let f : Ok v.file ≡ Err _ = ends in cc)
  refused_given named v a before after (restore_errors.Lost c) file line is_line found ends rose = absurd (let f : true ≡ false = found in cc)
  refused_given named v a before after restore_errors.NoMemory file line is_line found ends rose = absurd (let f : None ≡ Some is_line.0 = is_line.1 in cc)
  refused_given named v a before after (restore_errors.CloudDamaged c at byte) file line is_line found ends rose = absurd ends
  refused_given named v a before after (restore_errors.CloudRotten c x y) file line is_line found ends rose = absurd ends
  refused_given named v a before after (restore_errors.CloudNoMemory c) file line is_line found ends rose = absurd ends
  refused_given named v a before after (restore_errors.Strange c kind) file line is_line found ends rose = absurd ends
  refused_given named v a before after (restore_errors.BadShare c secret x y) file line is_line found ends rose = absurd ends

  -- of the clouds of a get each choice of k that acknowledged the version gives it by their lists
  chosen_give : (earlier later : List Answered) (a : Answered) (named : List ℕ) (v : FileVersion) → run.history ≡ earlier ++ a ∷ later → a.event ≡ events.Get v.user v.path v.number named
      → AreSources run.setting.shape named → (subset : List ℕ) → IsSubset run.setting.shape.k named subset → ((cloud : ℕ) → Contains subset cloud → IsVersionKept run.setting (reverse earlier) cloud v)
      → outcome_of (sought run.setting.shape v.user v.path v.number named) a.after.peers subset ≡ Ok v.file
  chosen_give earlier later a named v e get are subset chosen kept =
      let t = splits run.setting (opening clouds) earlier a later run.between (subst (λ (l : List Answered). Turns run.setting (opening clouds) l run.between) e is.answered) in
      let g = subst (λ (ev : Event). VStep run.setting t.mid ev a.answers a.moments a.after) get t.step in
      let choice = are_choice run.setting.shape subset (chosen_of run.setting.shape named subset are chosen) in
      let some = named_some run.setting.shape subset choice in
      let back = reverse-reverse earlier in
      let here = e ∙ ap (λ (l : List Answered). l ++ a ∷ later) (sym back) in
      let r = ranged v (kept_uploaded (reverse earlier) (a ∷ later) some.0 v here (kept some.0 some.1)) in
      let keeps : (cloud : ℕ) → Contains subset cloud → KeepsThere cloud v (t.mid.peers cloud) = λ cloud has.
      kept_keeps (reverse earlier) (a ∷ later) cloud (chosen_below run.setting.shape subset choice cloud has) v here t.mid
      (subst (λ (l : List Answered). Turns run.setting (opening clouds) l t.mid) (sym back) t.front) (t.before, t.step, t.behind) (kept cloud has) in
      let after_keeps : (cloud : ℕ) → Contains subset cloud → Keeps run.setting.shape cloud (a.after.peers cloud).list v.user v.path v.number v.file = λ cloud has.
      read_keeps cloud v (t.mid.peers cloud) (a.after.peers cloud) (g.1.read.read cloud).0 (keeps cloud has) in
      kept_is_given run.setting.shape (λ cloud. (a.after.peers cloud).list) v.user v.path v.number v.file subset r.path r.bytes r.few choice after_keeps

  -- the get among the lines
  pub record GetAt (a : Answered) (named : List ℕ) (v : FileVersion) : Type 0 where
    pub mid : Vault
    pub before : a.before ≡ mid
    pub line : Line
    pub step : GetStep run.setting v.user v.path v.number named mid.peers line a.after.peers
    pub answers_are : a.answers ≡ line ∷ []

  get_at : (earlier later : List Answered) (a : Answered) (named : List ℕ) (v : FileVersion) → run.history ≡ earlier ++ a ∷ later → a.event ≡ events.Get v.user v.path v.number named → GetAt a named v
  get_at earlier later a named v e get =
      let t = splits run.setting (opening clouds) earlier a later run.between (subst (λ (l : List Answered). Turns run.setting (opening clouds) l run.between) e is.answered) in
      let g = subst (λ (ev : Event). VStep run.setting t.mid ev a.answers a.moments a.after) get t.step in
      record { mid = t.mid; before = t.before; line = g.0; step = g.1; answers_are = g.2 }

  -- whatever choice gave it
  came_right : (v : FileVersion) (f : Sought) (peers : ℕ → Peer) (subset file : List ℕ) → outcome_of f peers subset ≡ Ok v.file → outcome_of f peers subset ≡ Ok file → file ≡ v.file
  came_right v f peers subset file kept gives = let q : Ok file ≡ Ok v.file = sym gives ∙ kept in cc

  has_middle : (f : Sought) (front : List (List ℕ)) (subset : List ℕ) (rest : List (List ℕ)) → subsets f.shape.k f.clouds ≡ front ++ subset ∷ rest → Contains (subsets f.shape.k f.clouds) subset
  has_middle f front subset rest split = subst (λ (l : List (List ℕ)). Contains l subset) (sym split) (contains_middle front rest subset)

  got_line : (named : List ℕ) (v : FileVersion) (a : Answered) (file : List ℕ) (line : Line) → line ≡ lines.Got file → file ≡ v.file → GivesVersion named v a (line ∷ [])
  got_line named v a file line is same = subst (λ (l : Line). GivesVersion named v a (l ∷ [])) (sym is) same

  pub acknowledged_given : (earlier later : List Answered) (a : Answered) (named : List ℕ) (v : FileVersion) → run.history ≡ earlier ++ a ∷ later → a.event ≡ events.Get v.user v.path v.number named
      → AreSources run.setting.shape named → ((cloud : ℕ) → Contains named cloud → IsVersionKept run.setting (reverse earlier) cloud v) → GivesVersion named v a a.answers
  acknowledged_given earlier later a named v e get are kept =
      let g = get_at earlier later a named v e get in
      subst (λ (l : List Line). GivesVersion named v a l) (sym g.answers_are)
      (by_result g g.step.result g.step.line_is g.step.found (g.step.told (λ cloud has. kept_told (reverse earlier) cloud v (kept cloud has))).comes)
    where
      by_result : (g : GetAt a named v) (result : Result (Unit {0}) RestoreErr) → IsGetLine result g.step.file g.line → is_lost result ≡ false
          → ComesBy (sought run.setting.shape v.user v.path v.number named) result g.step.file g.mid.peers a.after.peers → GivesVersion named v a (g.line ∷ [])
      by_result g (Ok u) is_line found comes =
          let is = is_chosen run.setting.shape named comes.subset are (has_middle (sought run.setting.shape v.user v.path v.number named) comes.front comes.subset comes.rest comes.split) in
          got_line named v a g.step.file g.line is_line
          (came_right v (sought run.setting.shape v.user v.path v.number named) a.after.peers comes.subset g.step.file
          (chosen_give earlier later a named v e get are comes.subset is (λ cloud has. kept cloud (of_all (Contains named) comes.subset cloud is.among has))) comes.gives)
      by_result g (Err r) is_line found comes =
          let is = is_chosen run.setting.shape named comes.first are (has_middle (sought run.setting.shape v.user v.path v.number named) [] comes.first comes.rest comes.first_is) in
          let gives = chosen_give earlier later a named v e get are comes.first is (λ cloud has. kept cloud (of_all (Contains named) comes.first cloud is.among has)) in
          refused_given named v a g.mid.peers a.after.peers r g.step.file g.line is_line found
          (ends_among (outcome_of (sought run.setting.shape v.user v.path v.number named) a.after.peers comes.first) (Ok v.file) comes.first named r [] g.mid.peers a.after.peers (sym gives)
          (λ cloud has. of_all (Contains named) comes.first cloud is.among has) comes.ends)
          (λ cloud rose. subst (λ (w : Vault). Rose (w.peers cloud).faults (a.after.peers cloud).faults) (sym g.before) rose)

  -- ---- a get of which some clouds have none of it

  -- a choice with a cloud that has none gives none
  lacking_chosen : (earlier : List Answered) (a : Answered) (named : List ℕ) (v : FileVersion) (g : GetAt a named v) (subset : List ℕ) (cloud : ℕ) → Contains subset cloud → Lacks run.setting cloud (a.before.peers cloud) v
      → (why : Unrestored) × (outcome_of (sought run.setting.shape v.user v.path v.number named) a.after.peers subset ≡ Err why)
  lacking_chosen earlier a named v g subset cloud has lacks =
      let p = subst (λ (w : Vault). (list : List Command) → MaySettleAs (w.peers cloud) list → recipe_in run.setting.shape list v.user (key_of run.setting.shape v.path v.number) ≡ None) g.before lacks.none in
      lacking_refuses run.setting.shape (λ c. (a.after.peers c).list) v.user (key_of run.setting.shape v.path v.number) subset cloud has
      (p (a.after.peers cloud).list (may_settle (g.mid.peers cloud) (a.after.peers cloud) (g.step.read.read cloud).0))
    where
      may_settle : (p q : Peer) → KeepsPeer p q ⊎ Settles p q → MaySettleAs p q.list
      may_settle p q (inl stays) = stays_in p q stays q.list (inl refl)
      may_settle p q (inr settles) = settles_in p q settles q.list (inl refl)

  -- so from whatever choice it came, its clouds acknowledged it
  all_kept : (earlier : List Answered) (a : Answered) (named : List ℕ) (v : FileVersion) (g : GetAt a named v) (subset file : List ℕ)
      → ((cloud : ℕ) → Contains subset cloud → IsVersionKept run.setting (reverse earlier) cloud v ⊎ Lacks run.setting cloud (a.before.peers cloud) v)
      → outcome_of (sought run.setting.shape v.user v.path v.number named) a.after.peers subset ≡ Ok file → (cloud : ℕ) → Contains subset cloud → IsVersionKept run.setting (reverse earlier) cloud v
  all_kept earlier a named v g subset file each gives cloud has = elim (each cloud has) [
    | inl kept ↦ kept
    | inr lacks ↦ (let x = lacking_chosen earlier a named v g subset cloud has lacks in let q : Ok file ≡ Err x.0 = sym gives ∙ x.1 in absurd (let r = q in cc))
  ]

  some_told : (earlier : List Answered) (a : Answered) (cloud : ℕ) (v : FileVersion) → IsVersionKept run.setting (reverse earlier) cloud v ⊎ Lacks run.setting cloud (a.before.peers cloud) v → IsTrue (run.setting.told cloud)
  some_told earlier a cloud v (inl kept) = kept_told (reverse earlier) cloud v kept
  some_told earlier a cloud v (inr lacks) = lacks.told

  abbrev GivesLine : List Answered → Answered → List ℕ → FileVersion → Line → Type 0
  GivesLine earlier a named v line = GivesFromSome run.setting.shape (λ cloud. IsVersionKept run.setting (reverse earlier) cloud v) named v a (line ∷ [])

  pub more_given : (earlier later : List Answered) (a : Answered) (named : List ℕ) (v : FileVersion) → run.history ≡ earlier ++ a ∷ later → a.event ≡ events.Get v.user v.path v.number named
      → AreSources run.setting.shape named → ((cloud : ℕ) → Contains named cloud → IsVersionKept run.setting (reverse earlier) cloud v ⊎ Lacks run.setting cloud (a.before.peers cloud) v)
      → GivesFromSome run.setting.shape (λ cloud. IsVersionKept run.setting (reverse earlier) cloud v) named v a a.answers
  more_given earlier later a named v e get are each =
      let g = get_at earlier later a named v e get in
      subst (λ (l : List Line). GivesFromSome run.setting.shape (λ cloud. IsVersionKept run.setting (reverse earlier) cloud v) named v a l) (sym g.answers_are)
      (by_result g g.step.result g.step.line_is (g.step.told (λ cloud has. some_told earlier a cloud v (each cloud has))).comes)
    where
      by_result : (g : GetAt a named v) (result : Result (Unit {0}) RestoreErr) → IsGetLine result g.step.file g.line
          → ComesBy (sought run.setting.shape v.user v.path v.number named) result g.step.file g.mid.peers a.after.peers → GivesLine earlier a named v g.line
      by_result g (Ok u) is_line comes =
          let is = is_chosen run.setting.shape named comes.subset are (has_middle (sought run.setting.shape v.user v.path v.number named) comes.front comes.subset comes.rest comes.split) in
          let kept = all_kept earlier a named v g comes.subset g.step.file (λ cloud has. each cloud (of_all (Contains named) comes.subset cloud is.among has)) comes.gives in
          subst (GivesLine earlier a named v) (sym is_line)
          (came_right v (sought run.setting.shape v.user v.path v.number named) a.after.peers comes.subset g.step.file (chosen_give earlier later a named v e get are comes.subset is kept) comes.gives)
      by_result g (Err r) is_line comes = subst (GivesLine earlier a named v) (sym is_line.2) (λ chosen is kept. failed chosen is kept (none_from chosen is))
        where
          none_from : (chosen : List ℕ) → IsSubset run.setting.shape.k named chosen → NoneFrom (sought run.setting.shape v.user v.path v.number named) g.mid.peers a.after.peers chosen
          none_from chosen is =
              of_all (NoneFrom (sought run.setting.shape v.user v.path v.number named) g.mid.peers a.after.peers) (subsets run.setting.shape.k named) chosen comes.none
              (subset_is_one run.setting.shape.k named chosen are.rising is)

          failed : (chosen : List ℕ) → IsSubset run.setting.shape.k named chosen → ((cloud : ℕ) → Contains chosen cloud → IsVersionKept run.setting (reverse earlier) cloud v)
              → NoneFrom (sought run.setting.shape v.user v.path v.number named) g.mid.peers a.after.peers chosen
              → (cloud : ℕ) × Contains chosen cloud × Rose (a.before.peers cloud).faults (a.after.peers cloud).faults
          failed chosen is kept (inl none) = absurd (let q : Ok v.file ≡ Err none.0 = sym (chosen_give earlier later a named v e get are chosen is kept) ∙ none.1 in cc)
          failed chosen is kept (inr rose) = (rose.0, rose.1, subst (λ (w : Vault). Rose (w.peers rose.0).faults (a.after.peers rose.0).faults) (sym g.before) rose.2)

-- ---- the promises

-- a get of a session names clouds of it
sources_in : (run : Session) (clouds : ℕ → Cloud) → IsRun clouds run → (earlier later : List Answered) (a : Answered) (named : List ℕ) (v : FileVersion) → run.history ≡ earlier ++ a ∷ later
    → a.event ≡ events.Get v.user v.path v.number named → AreSources run.setting.shape named
sources_in run clouds is earlier later a named v e get =
    get_sources run.setting.shape 0 (script_in run) is.lines v.user v.path v.number named (subst (Contains (script_in run)) get (among run earlier later a e))

pub acknowledged : (clouds : ℕ → Cloud) (run : Session) → IsRun clouds run → GivesAcknowledged run
acknowledged clouds run is earlier later a named v e get kept apart =
    acknowledged_given clouds run is apart (are_ranged run.setting.shape 0 (script_in run) is.lines) earlier later a named v e get (sources_in run clouds is earlier later a named v e get) kept

pub given_from_more : (clouds : ℕ → Cloud) (run : Session) → IsRun clouds run → GivesFromMore run
given_from_more clouds run is earlier later a named v e get each apart =
    more_given clouds run is apart (are_ranged run.setting.shape 0 (script_in run) is.lines) earlier later a named v e get (sources_in run clouds is earlier later a named v e get) each

-- a cloud that keeps what it acknowledged is told, and the version was uploaded
pub still_known : (clouds : ℕ → Cloud) (run : Session) → IsRun clouds run → ¬ Clashes run → (cloud : ℕ) (v : FileVersion) → StillKept run cloud v → IsTrue (run.setting.told cloud) × IsRanged v
still_known clouds run is apart cloud v still =
    let ranged = are_ranged run.setting.shape 0 (script_in run) is.lines in
    let e : run.history ≡ reverse (reverse run.history) ++ [] = sym (append-nil (reverse (reverse run.history)) ∙ reverse-reverse run.history) in
    (kept_told clouds run is apart ranged (reverse run.history) cloud v still.kept, ranged v (kept_uploaded clouds run is apart ranged (reverse run.history) [] cloud v e still.kept))

pub disks_keep : (clouds new : ℕ → Cloud) (run : Session) → IsRun clouds run → DisksKeep run new
disks_keep clouds new run is cloud v image list below still apart left settles stands =
    let ranged = are_ranged run.setting.shape 0 (script_in run) is.lines in
    let kept = still.kept in
    let back = reverse-reverse run.history in
    let e : run.history ≡ reverse (reverse run.history) ++ [] = sym (append-nil (reverse (reverse run.history)) ∙ back) in
    let keeps = kept_keeps clouds run is apart ranged (reverse run.history) [] cloud below v e run.between
    (subst (λ (l : List Answered). Turns run.setting (opening clouds) l run.between) (sym back) is.answered) refl kept in
    let told = kept_told clouds run is apart ranged (reverse run.history) cloud v kept in
    let uploaded = kept_uploaded clouds run is apart ranged (reverse run.history) [] cloud v e kept in
    keeps_but run.setting.shape cloud v (run.between.peers cloud) (run.last cloud) keeps
    (grows_last run.setting cloud told v run.between run.begun run.last is.begun
    (λ event has. tags clouds run is apart ranged v uploaded event (Contains-append_right (script_of run.history) (event_of run.begun) event has)) still.lasts) list settles
