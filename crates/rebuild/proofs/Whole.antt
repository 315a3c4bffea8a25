-- What becomes of all keys of the first cloud, as a rebuild.
use Rattle.std.proofs.Common.{◌≡◌, ◌⊎◌, ℕ, List, [], ◌∷◌, ◌++◌, map, Option, Some, None, Result, Ok, Err, refl, sym, ap, ◌∙◌, subst, inl, inr, append_assoc, append-nil}
use Rattle.std.specs.Prelude.{MatchOption}
use Rattle.std.specs.List.{Contains, flat_map}
use Rattle.std.proofs.lemmas.List.Concat.{flat_map-cons}
use Rattle.std.proofs.lemmas.List.Elements.{Contains-append_cases, Contains-append_left}
use Rattle.lane_steps.specs.CdBase.ids.Tag.{Tag}
use Rattle.lane_steps.specs.CdBase.ids.UserId.{UserId}
use Rattle.lane_steps.specs.CdBase.ids.Version.{Version}
use Rattle.lane_steps.specs.CdBase.shape.Shape.{Shape}
use Rattle.lane_steps.specs.Messages.request.Request.{Request}
use Rattle.lane_steps.specs.Messages.reply.Reply.{Reply}
use Rattle.lane_steps.specs.UserDedup.command.Command.{Command}
use Rattle.lane_steps.specs.UserDedup.Dedup.{Outcome}
use Rattle.lane_steps.specs.UserDedup.Exec.{Peer, CountsOn}
use Rattle.lane_steps.proofs.UserDedup.Owned.{contains_cases, contains_here, contains_later, contains_nothing}
use Rattle.lane_steps.specs.UploadJob.Upload.{FileVersion}
use Rattle.lane_steps.specs.Runs.{LaneTurn}
use Rattle.kept_files.specs.RestoreJob.Asking.{AreRead, Reads}
use Rattle.kept_files.specs.RestoreJob.Restored
use Rattle.kept_files.specs.RestoreJob.Restored.{Unrestored, given_by, missing, restored_file}
use Rattle.kept_files.specs.RestoreJob.error.RestoreErr.{RestoreErr}
use Rattle.kept_files.specs.RestoreJob.error.RestoreErr.TheVariants as refusals
use Rattle.rebuild.specs.declared.error.SkipWhy.{SkipWhy}
use Rattle.rebuild.specs.declared.error.SkipWhy.TheVariants as whys
use Rattle.rebuild.specs.declared.error.RebuildErr.{RebuildErr}
use Rattle.rebuild.specs.declared.error.RebuildErr.TheVariants as errors
use Rattle.rebuild.specs.declared.skips.Rebuilt.{Rebuilt}
use Rattle.rebuild.specs.Found.{Finding, cloud_no, finding_under, findings, first_of, keys_in, name_judged, name_opened, recipes_differ, unless_skipped, version_named, version_under}
use Rattle.rebuild.specs.Rebuilding.{Progressed, BringsAll, BringsOne, IsRebuildCut, LeavesBut, ReadStopped, RunsTo, asked_for, asked_under, nothing_yet}
use Rattle.rebuild.specs.Over.{HandsOn}
use Rattle.rebuild.specs.Steps.{IsVersionFound, ReadEnds}
use Rattle.rebuild.specs.Several.{AllFound, KeysCut, KeysTold, keys_of, progress_of, whole}
use Rattle.rebuild.proofs.Cut.{cut_by, under_in}

pub map_on : {A B : Type 0} (g : A → B) (xs ys : List A) → map g (xs ++ ys) ≡ map g xs ++ map g ys
map_on g [] ys = refl
map_on {A} {B} g (x ∷ xs) ys = ap (λ (l : List B). g x ∷ l) (map_on g xs ys)

none_left : {A : Type 0} (xs ys : List A) → xs ++ ys ≡ [] → xs ≡ []
none_left [] ys e = refl
none_left {A} (x ∷ xs) ys e = absurd (let f : x ∷ (xs ++ ys) ≡ [] = e in cc)

-- this is so, or the keys were not read to their end
abbrev pub ReadBy : Result (Unit {0}) RebuildErr → Type 0 → Type 0
ReadBy (Err (errors.FromRestore e)) R = Unit {0}
ReadBy (Err errors.NoMemory) R = Unit {0}
ReadBy result R = R

module _ (shape : Shape) (user : UserId) (target : ℕ) (serve : List Command → Request → Outcome) (from : List ℕ) where
  -- ---- what was found

  missing_found : (key : Tag × Version) (c : ℕ) (lists : ℕ → List Command) → missing shape lists user key from ≡ Some (Restored.Missing c) → version_under shape lists from user key ≡ Err (whys.Missing (cloud_no c))
  unfolding version_under
  missing_found key c lists e =
      let all = map (given_by shape lists user key) from in
      ap (λ (o : Option Unrestored). unless_skipped o (unless_skipped (recipes_differ all) (version_named user key (name_judged shape key (name_opened shape all)) (restored_file shape lists user key from)))) e

  found_under : (f : Finding) (a b : ℕ → Peer) → IsVersionFound shape user from f.key f.found a b → f.found ≡ version_under shape (λ cloud. (b cloud).list) from user f.key
  found_under f a b (inl x) = x.1 ∙ sym (missing_found f.key x.0 (λ cloud. (b cloud).list) x.2)
  found_under f a b (inr x) = sym x.0

  all_under : (found : List Finding) (a b : ℕ → Peer) → AllFound shape user from found a b → found ≡ map (finding_under shape (λ cloud. (b cloud).list) from user) (keys_of found)
  all_under [] a b all = refl
  all_under (f ∷ found) a b all =
      let here = found_under f a b (all f (contains_here f found)) in
      let more = all_under found a b (λ g has. all g (contains_later f found g has)) in
      λ i. record { key = f.key; found = here i } ∷ more i

  findings_are : (found : List Finding) (rest : List (Tag × Version)) (a b : ℕ → Peer) → AllFound shape user from found a b → keys_in shape (b (first_of from)).list user ≡ keys_of found ++ rest
      → findings shape (λ cloud. (b cloud).list) from user ≡ found ++ map (finding_under shape (λ cloud. (b cloud).list) from user) rest
  findings_are found rest a b all split =
      let under = finding_under shape (λ cloud. (b cloud).list) from user in
      ap (map under) split ∙ map_on under (keys_of found) rest ∙ ap (λ (l : List Finding). l ++ map under rest) (sym (all_under found a b all))

  -- ---- which clouds were read

  read_under : (f : Finding) (a b : ℕ → Peer) → IsVersionFound shape user from f.key f.found a b → (cloud : ℕ) → Contains (asked_under from f.found) cloud → Reads (a cloud) (b cloud)
  read_under f a b (inl x) cloud has = x.3 cloud (subst (λ (o : Result FileVersion SkipWhy). Contains (asked_under from o) cloud) x.1 has)
  read_under f a b (inr x) cloud has = x.1 cloud (under_in from f.found cloud has)

  abbrev under : Finding → List ℕ
  under f = asked_under from f.found

  read_found : (found : List Finding) (a b : ℕ → Peer) → AllFound shape user from found a b → AreRead (flat_map under found) a b
  read_found [] a b all cloud has = absurd (contains_nothing cloud has)
  read_found (f ∷ found) a b all cloud has =
      elim (Contains-append_cases (under f) (flat_map under found) cloud (subst (λ (l : List ℕ). Contains l cloud) (flat_map-cons under f found) has)) [
        | inl here ↦ read_under f a b (all f (contains_here f found)) cloud here
        | inr later ↦ read_found found a b (λ g in_rest. all g (contains_later f found g in_rest)) cloud later
      ]

  read_all : (found : List Finding) (a b : ℕ → Peer) → AllFound shape user from found a b → Reads (a (first_of from)) (b (first_of from)) → AreRead (asked_for from found) a b
  read_all found a b all first cloud has =
      elim (contains_cases (first_of from) (flat_map under found) cloud has) [
        | inl same ↦ subst (λ (x : ℕ). Reads (a x) (b x)) same first
        | inr later ↦ read_found found a b all cloud later
      ]

  -- ---- a target with turns had a version brought, whose clouds were all read

  abbrev AllSettled : (ℕ → Peer) → Type 0
  AllSettled b = (cloud : ℕ) → Contains from cloud → (b cloud).pending ≡ None

  abbrev NoVersion : List Finding → Type 0
  NoVersion found = (f : Finding) → Contains found f → (why : SkipWhy) × (f.found ≡ Err why)

  settled_or : (found : List Finding) (a b : ℕ → Peer) → AllFound shape user from found a b → AllSettled b ⊎ NoVersion found
  settled_or [] a b all = inr (λ f has. absurd (contains_nothing f has))
  settled_or (f ∷ found) a b all = by_first (all f (contains_here f found)) (settled_or found a b (λ g has. all g (contains_later f found g has)))
    where
      by_first : IsVersionFound shape user from f.key f.found a b → AllSettled b ⊎ NoVersion found → AllSettled b ⊎ NoVersion (f ∷ found)
      by_first (inr x) rest = inl (λ cloud has. (x.1 cloud has).0.pending)
      by_first (inl x) (inl set) = inl set
      by_first (inl x) (inr none) =
          inr (λ g has. elim (contains_cases f found g has) [
            | inl same ↦ subst (λ (y : Finding). (why : SkipWhy) × (y.found ≡ Err why)) same (whys.Missing (cloud_no x.0), x.1)
            | inr later ↦ none g later
          ])

  no_turns : (found : List Finding) (r last : Progressed) (old new : Peer) (turns : List (LaneTurn Peer)) → NoVersion found → BringsAll shape target serve found r old turns last new → turns ≡ []
  no_turns [] r last old new turns none x = x.1
  no_turns (f ∷ found) r last old new turns none x =
      let why = none f (contains_here f found) in
      let one : BringsOne shape target serve f.key (Err why.0) r old x.2 x.0 x.1 = subst (λ (o : Result FileVersion SkipWhy). BringsOne shape target serve f.key o r old x.2 x.0 x.1) why.1 x.4 in
      x.5 ∙ ap (λ (l : List (LaneTurn Peer)). l ++ x.3) one.1 ∙ by_stop x.0.stop x.6 (λ m. no_turns found x.0 last x.1 new x.3 (λ g has. none g (contains_later f found g has)) m)
    where
      by_stop : (o : Option Reply) → MatchOption o (BringsAll shape target serve found x.0 x.1 x.3 last new) (λ said. (x.3 ≡ []) × (last ≡ x.0) × (new ≡ x.1))
          → (BringsAll shape target serve found x.0 x.1 x.3 last new → x.3 ≡ []) → x.3 ≡ []
      by_stop None m rest = rest m
      by_stop (Some said) m rest = m.0

  settled_by : (keys : List (Tag × Version)) (r : Progressed) (turns : List (LaneTurn Peer)) (a : ℕ → Peer) (at : Peer) (b : ℕ → Peer) → (x : KeysCut shape user target serve from keys r turns a at b)
      → (x.turns_before ++ x.turns_behind ≡ []) ⊎ AllSettled b
  settled_by keys r turns a at b x =
      elim (settled_or (x.found ++ x.ahead) a b x.each) [
        | inl set ↦ inr set
        | inr none ↦
            let g = x.goes [] in
            let before : x.turns_before ≡ [] = no_turns x.found r x.last (a target) x.mid x.turns_before (λ f has. none f (Contains-append_left x.found x.ahead f has)) x.brings in
            let behind : x.turns_behind ≡ [] =
            none_left x.turns_behind g.more
            (no_turns g.front x.last g.last x.mid g.end (x.turns_behind ++ g.more)
            (λ f has. none f (contains_behind x.found x.ahead f (subst (λ (l : List Finding). Contains l f) (sym (sym (append-nil x.ahead) ∙ g.split)) (Contains-append_left g.front g.left f has)))) g.brings) in
            inl (ap (λ (l : List (LaneTurn Peer)). l ++ x.turns_behind) before ∙ behind)
      ]
    where
      contains_behind : (xs ys : List Finding) (f : Finding) → Contains ys f → Contains (xs ++ ys) f
      contains_behind [] ys f has = has
      contains_behind (y ∷ xs) ys f has = contains_later y (xs ++ ys) f (contains_behind xs ys f has)

  -- ---- all keys

  stopped_read : (e : RestoreErr) (a b : ℕ → Peer) → (Contains from target → ⊥) → LeavesBut from target a b → HandsOn {A = Unit {0}} from (Err (errors.FromRestore e)) → ReadEnds from e a b → ReadStopped from e a b
  stopped_read (refusals.Missing x) a b apart leaves hands y = absurd y
  stopped_read (refusals.Lost x) a b apart leaves hands y = y
  stopped_read (refusals.CloudFault x) a b apart leaves hands y = (y.0, (y.1, leaves.read x.0 (λ same. apart (subst (λ (z : ℕ). Contains from z) same y.0))))
  stopped_read (refusals.CloudDamaged x place byte) a b apart leaves hands y = absurd y
  stopped_read (refusals.CloudRotten x named hash) a b apart leaves hands y = absurd y
  stopped_read (refusals.CloudNoMemory x) a b apart leaves hands y = absurd y
  stopped_read (refusals.Strange x kind) a b apart leaves hands y = absurd y
  stopped_read (refusals.RecipesDiffer one other place) a b apart leaves hands y = absurd y
  stopped_read (refusals.ShareLength x secret size wanted) a b apart leaves hands y = absurd y
  stopped_read (refusals.BadShare x secret named hash) a b apart leaves hands y = absurd y
  stopped_read (refusals.BadSecret secret named hash) a b apart leaves hands y = absurd y
  stopped_read (refusals.BadPad secret place byte) a b apart leaves hands y = absurd y
  stopped_read refusals.NoMemory a b apart leaves hands y = absurd hands.0

  cut_runs : (keys : List (Tag × Version)) (turns : List (LaneTurn Peer)) (a : ℕ → Peer) (at : Peer) (b : ℕ → Peer) → Contains from (first_of from) → (Contains from target → ⊥) → LeavesBut from target a b → CountsOn (a target) at
      → keys_in shape (b (first_of from)).list user ≡ keys → KeysCut shape user target serve from keys nothing_yet turns a at b → IsRebuildCut shape user target serve from turns a at b
  cut_runs keys turns a at b first apart leaves counts is x =
      let rest : List Finding = map (finding_under shape (λ cloud. (b cloud).list) from user) x.front.rest in
      subst (λ (l : List (LaneTurn Peer)). IsRebuildCut shape user target serve from l a at b) (sym x.split)
      (cut_by shape user target serve from a b x.found (x.ahead ++ rest) x.last x.mid at x.turns_before x.turns_behind first apart
      (findings_are (x.found ++ x.ahead) x.front.rest a b x.each (is ∙ x.front.split) ∙ append_assoc x.found x.ahead rest)
      x.brings x.none (x.goes rest) leaves counts (settled_by keys nothing_yet turns a at b x))

  pub told_runs : (rebuilt : Rebuilt) (result : Result (Unit {0}) RebuildErr) (keys : List (Tag × Version)) (turns : List (LaneTurn Peer)) (a : ℕ → Peer) (at : Peer) (b : ℕ → Peer)
      → Contains from (first_of from) → (Contains from target → ⊥) → LeavesBut from target a b → CountsOn (a target) at → ReadBy result (Reads (a (first_of from)) (b (first_of from))) → keys_in shape (b (first_of from)).list user ≡ keys → HandsOn from result
      → KeysTold shape user target serve from keys nothing_yet (progress_of rebuilt) result turns a at b → RunsTo shape user target serve from (whole rebuilt result) turns a at b
  told_runs rebuilt (Ok u) keys turns a at b first apart leaves counts read is hands y =
      let all = findings_are y.0.found [] a b y.0.each (is ∙ sym y.1 ∙ sym (append-nil (keys_of y.0.found))) in
      record {
        found = y.0.found;
        front = record { rest = []; split = all };
        last = progress_of rebuilt;
        brings = y.0.brings;
        ends = (sym (all ∙ append-nil y.0.found), refl, read_all y.0.found a b y.0.each read);
      }
  told_runs rebuilt (Err (errors.FromRestore e)) keys turns a at b first apart leaves counts read is hands y =
      record {
        found = y.1.found;
        front = record { rest = _; split = findings_are y.1.found y.1.front.rest a b y.1.each (is ∙ y.1.front.split) };
        last = y.0;
        brings = y.1.brings;
        ends = (y.2, stopped_read e a b apart leaves hands y.3);
      }
  told_runs rebuilt (Err errors.TargetLost) keys turns a at b first apart leaves counts read is hands y =
      cut_runs keys turns a at b first apart leaves counts is y
  told_runs rebuilt (Err errors.TargetFault) keys turns a at b first apart leaves counts read is hands y =
      record {
        found = y.2.found;
        front = record { rest = _; split = findings_are y.2.found y.2.front.rest a b y.2.each (is ∙ y.2.front.split) };
        last = y.0;
        brings = y.2.brings;
        ends = (y.1, y.3, y.4, read_all y.2.found a b y.2.each read);
      }
  told_runs rebuilt (Err (errors.TargetDamaged place byte)) keys turns a at b first apart leaves counts read is hands y =
      record {
        found = y.2.found;
        front = record { rest = _; split = findings_are y.2.found y.2.front.rest a b y.2.each (is ∙ y.2.front.split) };
        last = y.0;
        brings = y.2.brings;
        ends = (y.1, y.3, y.4, read_all y.2.found a b y.2.each read);
      }
  told_runs rebuilt (Err (errors.TargetRotten named hash)) keys turns a at b first apart leaves counts read is hands y =
      record {
        found = y.2.found;
        front = record { rest = _; split = findings_are y.2.found y.2.front.rest a b y.2.each (is ∙ y.2.front.split) };
        last = y.0;
        brings = y.2.brings;
        ends = (y.1, y.3, y.4, read_all y.2.found a b y.2.each read);
      }
  told_runs rebuilt (Err (errors.TargetFull room used need limit)) keys turns a at b first apart leaves counts read is hands y =
      record {
        found = y.2.found;
        front = record { rest = _; split = findings_are y.2.found y.2.front.rest a b y.2.each (is ∙ y.2.front.split) };
        last = y.0;
        brings = y.2.brings;
        ends = (y.1, y.3, y.4, read_all y.2.found a b y.2.each read);
      }
  told_runs rebuilt (Err (errors.TargetLacking place)) keys turns a at b first apart leaves counts read is hands y =
      record {
        found = y.2.found;
        front = record { rest = _; split = findings_are y.2.found y.2.front.rest a b y.2.each (is ∙ y.2.front.split) };
        last = y.0;
        brings = y.2.brings;
        ends = (y.1, y.3, y.4, read_all y.2.found a b y.2.each read);
      }
  told_runs rebuilt (Err errors.TargetNoMemory) keys turns a at b first apart leaves counts read is hands y =
      record {
        found = y.2.found;
        front = record { rest = _; split = findings_are y.2.found y.2.front.rest a b y.2.each (is ∙ y.2.front.split) };
        last = y.0;
        brings = y.2.brings;
        ends = (y.1, y.3, y.4, read_all y.2.found a b y.2.each read);
      }
  told_runs rebuilt (Err (errors.TargetStrange kind)) keys turns a at b first apart leaves counts read is hands y =
      absurd y.4
  told_runs rebuilt (Err errors.NoMemory) keys turns a at b first apart leaves counts read is hands y =
      cut_runs keys turns a at b first apart leaves counts is y
