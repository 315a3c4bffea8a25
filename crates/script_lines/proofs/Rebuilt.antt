-- What the line of a rebuild does to a vault.
use Rattle.std.proofs.Common.{◌≡◌, ℕ, ◌<◌, ◌≤◌, Bool, true, false, List, [], ◌∷◌, ◌++◌, map, length, Option, None, refl, sym, ap, ◌∙◌, subst, inl, inr, ◌⊎◌, arith}
use Rattle.std.specs.Prelude.{◌≢◌, IsTrue, Result, Ok, Err, nat_lt}
use Rattle.std.specs.List.{Contains}
use Rattle.std.proofs.lemmas.Bool.{cases_eq, lt-ltb, ltb-true}
use Rattle.recipe.specs.CdBase.ids.CloudNo.{CloudNo}
use Rattle.recipe.specs.CdBase.ids.UserId.{UserId}
use Rattle.recipe.specs.CdBase.shape.Shape.{Shape}
use Rattle.session_model.specs.CdEdges.Disk.{Cloud, Image, IsImage}
use Rattle.session_model.proofs.CdEdges.Moments.{at_end}
use Rattle.session_model.specs.UserDedup.command.Command.{Command}
use Rattle.session_model.specs.UserDedup.Dedup.{FullRoom}
use Rattle.session_model.specs.UserDedup.Exec.{Peer, MaySettleAs, served}
use Rattle.session_model.specs.UserDedup.Link.{LinkTelling, Talk, serves}
use Rattle.session_model.proofs.UserDedup.Owned.{contains_cases, contains_here, contains_later, contains_nothing}
use Rattle.session_model.specs.CloudAreas.Peers.{StandsForSome, ImagesSince, MayBecome}
use Rattle.session_model.specs.UploadJob.Lanes.{LaneView}
use Rattle.session_jobs.specs.LaneSteps.Runs.{LaneTurn}
use Rattle.session_model.specs.LocalLink.fate.Fate.{Fate}
use Rattle.session_model.specs.LocalLink.fate.Fate.TheVariants as fates
use Rattle.session_model.specs.LocalLink.fate.Fate.TheVariants.{Deliver}
use Rattle.session_model.specs.LocalLink.link.LocalLink.{LocalLink}
use Rattle.session_model.specs.LocalLink.Tells.{is_delivered, full_at, telling, StandsAt}
use Rattle.session_model.specs.RestoreJob.Asking.{TellsAll}
use Rattle.session_model.specs.RestoreJob.error.RestoreErr.TheVariants as restore_errors
use Rattle.session_model.specs.Rebuild.error.RebuildErr.{RebuildErr}
use Rattle.session_model.specs.Rebuild.error.RebuildErr.TheVariants as errors
use Rattle.session_model.specs.Rebuild.skips.Rebuilt.{Rebuilt}
use Rattle.session_model.specs.Rebuild.Rebuilding.{LeavesBut, RunsTo, IsRebuildCut}
use Rattle.session_model.specs.Rebuild.Over.{HasAskedToRebuild, CausesRebuildEnd, HandsOn, HasRebuildCause, LeadsWithTarget, TargetAlong, ThenLost, is_lost, AsksTargetOrReads}
use Rattle.session_model.specs.Rebuild.Turns.{EndsLane, OfReply, OwnLanes, SaidLast}
use Rattle.session_model.specs.Rebuild.Kept.{Refills}
use Rattle.session_model.specs.Session.Spelling.{AreClouds}
use Rattle.session_model.specs.Session.event.Event.TheVariants as events
use Rattle.session_model.specs.Transcript.refusal.Refusal.TheVariants as refusals
use Rattle.session_model.specs.Transcript.refusal.TargetWhy.TheVariants as target_whys
use Rattle.session_model.specs.Transcript.line.Line.{Line}
use Rattle.session_model.specs.Transcript.line.Line.TheVariants as lines
use Rattle.session_model.specs.Vault.{Setting, JobState, Vault, served_at, with_peer, ExecutesAll}
use Rattle.session_model.specs.Steps.{Moment, quiet, cloud_no, told_so, skip_line, AreRebuildLines, turn_moment, target_moments, rebuild_moments, AllTold}
use Rattle.session_model.specs.Run.{IsListIn}
use Rattle.session_model.specs.Headline.{IsPartOf}
use Rattle.session_model.proofs.With.{with_here, with_other}
use Rattle.script_lines.specs.At.{LinkAt, header_in}
use Rattle.script_lines.specs.Does.{Images, IsLeftByCut, Goes, IsLineCut}
use Rattle.script_lines.proofs.Going.{now_by, images_weaker, listed, cut_behind, header_is, full_is, asks_rooms}
use Rattle.script_lines.proofs.Turned.{TargetAt, asks_images, along_all, along_since}
use Rattle.session_model.specs.JournalStart.start.Header.{Header}

-- ---- results

-- an ask that wasn't lost leaves nothing behind the target's turns
then_heard : {L A : Type 0} (t : LinkTelling L) (target : ℕ) (old : L) (p : Peer) (result : Result A RebuildErr) (new : L) (q : Peer) → is_lost result ≡ false → ThenLost {L = L} {A = A} t target old p result new q → (new ≡ old) × (q ≡ p)
then_heard t target old p (Ok x) new q found then = then
then_heard t target old p (Err (errors.FromRestore e)) new q found then = then
then_heard t target old p (Err errors.TargetLost) new q found then = absurd (let f : true ≡ false = found in cc)
then_heard t target old p (Err errors.TargetFault) new q found then = then
then_heard t target old p (Err (errors.TargetDamaged at byte)) new q found then = then
then_heard t target old p (Err (errors.TargetRotten named hash)) new q found then = then
then_heard t target old p (Err (errors.TargetFull room used need limit)) new q found then = then
then_heard t target old p (Err (errors.TargetLacking place)) new q found then = then
then_heard t target old p (Err errors.TargetNoMemory) new q found then = then
then_heard t target old p (Err (errors.TargetStrange kind)) new q found then = then
then_heard t target old p (Err errors.NoMemory) new q found then = then

-- the lines of a result, or want of memory
abbrev HasLines : UserId → ℕ → Result Rebuilt RebuildErr → Type 0
HasLines user target result = (result ≡ Err errors.NoMemory) ⊎ ((answers : List Line) × AreRebuildLines user target result answers)

has_lines : (user : UserId) (target : ℕ) (from : List ℕ) (result : Result Rebuilt RebuildErr) → HandsOn from result → HasLines user target result
has_lines user target from (Ok rebuilt) named = inr (lines.Rebuilt user (cloud_no target) rebuilt.files (length rebuilt.skipped) ∷ map skip_line rebuilt.skipped, refl)
has_lines user target from (Err (errors.FromRestore (restore_errors.Missing c))) named = inr (lines.Refused (refusals.Missing c) ∷ [], (refusals.Missing c, refl, refl))
has_lines user target from (Err (errors.FromRestore (restore_errors.Lost c))) named = inr (lines.Refused (refusals.Lost c) ∷ [], (refusals.Lost c, refl, refl))
has_lines user target from (Err (errors.FromRestore (restore_errors.CloudFault c))) named = inr (lines.Refused (refusals.Fault c) ∷ [], (refusals.Fault c, refl, refl))
has_lines user target from (Err (errors.FromRestore (restore_errors.CloudDamaged c at byte))) named = inr (lines.Refused (refusals.Damaged c at byte) ∷ [], (refusals.Damaged c at byte, refl, refl))
has_lines user target from (Err (errors.FromRestore (restore_errors.CloudRotten c x y))) named = inr (lines.Refused (refusals.Rotten c x y) ∷ [], (refusals.Rotten c x y, refl, refl))
has_lines user target from (Err (errors.FromRestore (restore_errors.CloudNoMemory c))) named = inr (lines.Refused (refusals.NoMemory c) ∷ [], (refusals.NoMemory c, refl, refl))
has_lines user target from (Err (errors.FromRestore (restore_errors.Strange c kind))) named = inr (lines.Refused (refusals.Strange c kind) ∷ [], (refusals.Strange c kind, refl, refl))
has_lines user target from (Err (errors.FromRestore (restore_errors.RecipesDiffer a b place))) named = inr (lines.Refused (refusals.RecipesDiffer a b place) ∷ [], (refusals.RecipesDiffer a b place, refl, refl))
has_lines user target from (Err (errors.FromRestore (restore_errors.ShareLength c secret x y))) named = inr (lines.Refused (refusals.ShareLength c secret x y) ∷ [], (refusals.ShareLength c secret x y, refl, refl))
has_lines user target from (Err (errors.FromRestore (restore_errors.BadShare c secret x y))) named = inr (lines.Refused (refusals.BadShare c secret x y) ∷ [], (refusals.BadShare c secret x y, refl, refl))
has_lines user target from (Err (errors.FromRestore (restore_errors.BadSecret secret x y))) named = inr (lines.Refused (refusals.BadSecret secret x y) ∷ [], (refusals.BadSecret secret x y, refl, refl))
has_lines user target from (Err (errors.FromRestore (restore_errors.BadPad secret at byte))) named = inr (lines.Refused (refusals.BadPad secret at byte) ∷ [], (refusals.BadPad secret at byte, refl, refl))
has_lines user target from (Err (errors.FromRestore restore_errors.NoMemory)) named = absurd named.0
has_lines user target from (Err errors.TargetLost) named = inr (lines.Refused (refusals.Target target_whys.Lost) ∷ [], (refusals.Target target_whys.Lost, refl, refl))
has_lines user target from (Err errors.TargetFault) named = inr (lines.Refused (refusals.Target target_whys.Fault) ∷ [], (refusals.Target target_whys.Fault, refl, refl))
has_lines user target from (Err (errors.TargetDamaged at byte)) named = inr (lines.Refused (refusals.Target (target_whys.Damaged at byte)) ∷ [], (refusals.Target (target_whys.Damaged at byte), refl, refl))
has_lines user target from (Err (errors.TargetRotten x y)) named = inr (lines.Refused (refusals.Target (target_whys.Rotten x y)) ∷ [], (refusals.Target (target_whys.Rotten x y), refl, refl))
has_lines user target from (Err (errors.TargetFull room used need limit)) named = inr (lines.Refused (refusals.Target (target_whys.Full room used need limit)) ∷ [], (refusals.Target (target_whys.Full room used need limit), refl, refl))
has_lines user target from (Err (errors.TargetLacking place)) named = inr (lines.Refused (refusals.Target (target_whys.Lacking place)) ∷ [], (refusals.Target (target_whys.Lacking place), refl, refl))
has_lines user target from (Err errors.TargetNoMemory) named = inr (lines.Refused (refusals.Target target_whys.NoMemory) ∷ [], (refusals.Target target_whys.NoMemory, refl, refl))
has_lines user target from (Err (errors.TargetStrange kind)) named = inr (lines.Refused (refusals.Target (target_whys.Strange kind)) ∷ [], (refusals.Target (target_whys.Strange kind), refl, refl))
has_lines user target from (Err errors.NoMemory) named = inl refl

-- ---- moments

module _ (old : ℕ → Peer) (target : ℕ) where
  turns_among : (turns : List (LaneTurn Peer)) (end : Peer) (t : LaneTurn Peer) → Contains turns t → Contains (target_moments old target turns end) (turn_moment old target t)
  turns_among [] end t has = absurd (contains_nothing t has)
  turns_among (u ∷ us) end t has = elim (contains_cases u us t has) [
    | inl same ↦ subst (λ (x : LaneTurn Peer). Contains (turn_moment old target u ∷ target_moments old target us end) (turn_moment old target x)) same (contains_here (turn_moment old target u) (target_moments old target us end))
    | inr later ↦ contains_later (turn_moment old target u) (target_moments old target us end) (turn_moment old target t) (turns_among us end t later)
  ]

  turns_mapped : (turns : List (LaneTurn Peer)) (t : LaneTurn Peer) → Contains turns t → Contains (map (turn_moment old target) turns) (turn_moment old target t)
  turns_mapped [] t has = absurd (contains_nothing t has)
  turns_mapped (u ∷ us) t has = elim (contains_cases u us t has) [
    | inl same ↦ subst (λ (x : LaneTurn Peer). Contains (turn_moment old target u ∷ map (turn_moment old target) us) (turn_moment old target x)) same (contains_here (turn_moment old target u) (map (turn_moment old target) us))
    | inr later ↦ contains_later (turn_moment old target u) (map (turn_moment old target) us) (turn_moment old target t) (turns_mapped us t later)
  ]

  -- what the target may leave behind at one of its turns
  turn_listed : (s : Setting) (moments : List Moment) (last : ℕ → Peer) (t : LaneTurn Peer) → Contains moments (turn_moment old target t) → (list : List Command)
      → MaySettleAs t.before list ⊎ MayBecome (served_at s target) t.before t.request list → IsListIn s target moments last list
  turn_listed s moments last t has list (inl settles) = inr (turn_moment old target t, has, inl (subst (λ (p : Peer). MaySettleAs p list) (sym (with_here old target t.before)) settles))
  turn_listed s moments last t has list (inr becomes) =
      inr (turn_moment old target t, has, inr (refl, subst (λ (p : Peer). MayBecome (served_at s target) p t.request list) (sym (with_here old target t.before)) becomes))

-- ---- the line

module _ {V : Type 0} (clouds : V → ℕ → Cloud) (talk : LocalLink V → ℕ → Talk → Type 0) (old new : LocalLink V) (user : UserId) (target : CloudNo) (from : List ℕ) (result : Result Rebuilt RebuildErr) where
  -- what becomes of the clouds, of which some are told
  abbrev pub Brings : Shape → Type 0
  Brings shape = LeadsWithTarget (telling clouds) talk target.0 from old new result
      (HasRebuildCause (telling clouds) old shape user target.0 result)
      (λ turns before at after.
      RunsTo shape user target.0 (serves (telling clouds) old target.0) from result turns before at after
      × Refills shape target.0 from user after result)

  -- what a rebuild ensures
  pub record Came : Type 0 where
    pub rebuilt : Brings old.servers.shape
    pub asked : HasAskedToRebuild (telling clouds) target.0 from old new (is_lost result)
    pub named : HandsOn from result

  pub came_by : (shape : Shape) → shape ≡ old.servers.shape → Brings shape → HasAskedToRebuild (telling clouds) target.0 from old new (is_lost result) → HandsOn from result → Came
  came_by shape same brings asked named = record { rebuilt = subst Brings same brings; asked = asked; named = named }

  within_at : (shape : Shape) → AreClouds shape from → (c : ℕ) → Contains from c → c < shape.n
  within_at shape are c has = subst (λ (x : ℕ). x < shape.n) has.2 (are.within has.0 c has.1)

  still_delivers : (fate : Fate) → IsTrue (is_delivered fate) → fate ≡ Deliver
  still_delivers fates.Deliver is = refl
  still_delivers fates.LoseRequest is = absurd (let e : false ≡ true = is in cc)
  still_delivers fates.LoseReply is = absurd (let e : false ≡ true = is in cc)

  module _ (s : Setting) (v : Vault) (is : LinkAt clouds s old v.peers) (below : target.0 < old.servers.shape.n) (are : AreClouds old.servers.shape from) (apart : Contains from target.0 → ⊥) (came : Came) where
    kept : (is_lost result ≡ false) × IsTrue (is_delivered new.fate)
    kept = came.asked.lossless (ap is_delivered is.fate)

    -- a cloud of the store, by the link
    lt_old : (c : ℕ) → c < s.shape.n → c < old.servers.shape.n
    lt_old c lt = subst (λ (sh : Shape). c < sh.n) (sym is.shape) lt

    these_have : (c : ℕ) → Contains (target.0 ∷ from) c → IsTrue (nat_lt c old.servers.shape.n)
    these_have c has = elim (contains_cases target.0 from c has) [
      | inl same ↦ subst (λ (n : ℕ). IsTrue (nat_lt n old.servers.shape.n)) same (lt-ltb target.0 old.servers.shape.n below)
      | inr later ↦ lt-ltb c old.servers.shape.n (within_at old.servers.shape are c later)
    ]

    -- the clouds went on so
    pub record Went : Type 0 where
      pub after : ℕ → Peer
      pub turns : List (LaneTurn Peer)
      pub stands : (c : ℕ) → c < s.shape.n → StandsAt clouds new c (after c)
      pub leaves : LeavesBut from target.0 v.peers after
      pub along : TargetAlong (telling clouds) talk target.0 from old (v.peers target.0) turns new (after target.0)
      pub caused : CausesRebuildEnd (telling clouds) old target.0 result v.peers after
      pub said : SaidLast result turns
      pub ended : OfReply result (EndsLane s.shape user target.0 turns)
      pub own : OwnLanes s.shape user target.0 turns
      pub told : AllTold s (target.0 ∷ from) → RunsTo s.shape user target.0 (served_at s target.0) from result turns v.peers (after target.0) after × Refills s.shape target.0 from user after result

    told_of : (after : ℕ → Peer) (turns : List (LaneTurn Peer)) (at : Peer) → after target.0 ≡ at
        → (TellsAll (telling clouds) old (target.0 ∷ from) → RunsTo old.servers.shape user target.0 (serves (telling clouds) old target.0) from result turns v.peers at after × Refills old.servers.shape target.0 from user after result)
        → AllTold s (target.0 ∷ from) → RunsTo s.shape user target.0 (served_at s target.0) from result turns v.peers (after target.0) after × Refills s.shape target.0 from user after result
    told_of after turns at same by all =
        let x = by (λ c has. is.told c ∙ all c has) in
        subst (λ (f : List Command → Command → Option FullRoom). RunsTo s.shape user target.0 (served s.shape target.0 f) from result turns v.peers (after target.0) after × Refills s.shape target.0 from user after result)
        (full_is old.servers s target.0 is.shape (is.rooms target.0 (subst (λ (sh : Shape). target.0 < sh.n) is.shape below)))
        (subst (λ (sh : Shape). RunsTo sh user target.0 (served sh target.0 (full_at old.servers target.0)) from result turns v.peers (after target.0) after × Refills sh target.0 from user after result) is.shape
        (subst (λ (p : Peer). RunsTo old.servers.shape user target.0 (serves (telling clouds) old target.0) from result turns v.peers p after) (sym same) x.0, x.1))

    went : Went
    went =
        let x = came.rebuilt (λ c. nat_lt c old.servers.shape.n) these_have v.peers (λ c lt. is.stands c (subst (λ (sh : Shape). c < sh.n) is.shape (ltb-true c old.servers.shape.n lt))) in
        let then = then_heard (telling clouds) target.0 x.2 x.3 result new (x.0 target.0) kept.0 x.7 in
        record {
          after = x.0;
          turns = x.1;
          stands = λ c lt. x.4 c (lt-ltb c old.servers.shape.n (lt_old c lt));
          leaves = x.5;
          along = subst (λ (l : LocalLink V). TargetAlong (telling clouds) talk target.0 from old (v.peers target.0) x.1 l (x.0 target.0)) (sym then.0)
              (subst (λ (p : Peer). TargetAlong (telling clouds) talk target.0 from old (v.peers target.0) x.1 x.2 p) (sym then.1) x.6);
          caused = x.8.caused;
          said = x.8.said;
          ended = subst (λ (sh : Shape). OfReply result (EndsLane sh user target.0 x.1)) is.shape x.8.ended;
          own = subst (λ (sh : Shape). OwnLanes sh user target.0 x.1) is.shape x.8.own;
          told = told_of x.0 x.1 x.3 then.1 x.9;
        }

    target_at : TargetAt clouds talk s target.0 from apart old
    target_at = record { shape = is.shape; told = is.told target.0; rooms = is.rooms target.0 (subst (λ (sh : Shape). target.0 < sh.n) is.shape below) }

    executes : (w : Went) → ExecutesAll s target.0 (v.peers target.0) w.turns (w.after target.0)
    executes w = along_all clouds talk s target.0 from apart old new (v.peers target.0) w.turns (w.after target.0) w.along target_at

    -- each image since the line began, of a cloud that is only read
    read_since : (c : ℕ) → c ≢ target.0 → c < s.shape.n → IsTrue (s.told c) → ImagesSince (clouds old.shelf.now c) (clouds new.shelf.now c) (header_in s c) (MaySettleAs (v.peers c))
    read_since c ne lt told =
        subst (λ (h : Header). ImagesSince (clouds old.shelf.now c) (clouds new.shelf.now c) h (MaySettleAs (v.peers c))) (header_is old.servers s c is.shape (is.rooms c lt))
        (asks_images clouds target.0 from came.asked.asks old new c (v.peers c) ne came.asked.passed (lt_old c lt) (is.told c ∙ told) (is.stands c lt))

    -- and of the target
    target_since : (w : Went) (moments : List Moment) (last : ℕ → Peer) → last target.0 ≡ w.after target.0 → ((t : LaneTurn Peer) → Contains w.turns t → Contains moments (turn_moment v.peers target.0 t))
        → target.0 < s.shape.n → IsTrue (s.told target.0) → ImagesSince (clouds old.shelf.now target.0) (clouds new.shelf.now target.0) (header_in s target.0) (IsListIn s target.0 moments last)
    target_since w moments last end among lt told =
        along_since clouds talk s target.0 from apart told lt (IsListIn s target.0 moments last) old new (v.peers target.0) w.turns (w.after target.0) w.along target_at (is.stands target.0 lt)
        (λ list settles. inl (subst (λ (p : Peer). MaySettleAs p list) (sym end) settles))
        (λ t has list some. turn_listed v.peers target.0 s moments last t (among t has) list some)

    images_by : (w : Went) (moments : List Moment) (last : ℕ → Peer) → last target.0 ≡ w.after target.0
        → ((t : LaneTurn Peer) → Contains w.turns t → Contains (quiet v.peers ++ moments) (turn_moment v.peers target.0 t)) → Images clouds s old new (quiet v.peers ++ moments) last
    images_by w moments last end among c lt told = elim (cases_eq c target.0) [
      | inl same ↦ subst (λ (n : ℕ). ImagesSince (clouds old.shelf.now n) (clouds new.shelf.now n) (header_in s n) (IsListIn s n (quiet v.peers ++ moments) last)) (sym same)
          (target_since w (quiet v.peers ++ moments) last end among (subst (λ (n : ℕ). n < s.shape.n) same lt) (subst (λ (n : ℕ). IsTrue (s.told n)) same told))
      | inr ne ↦ images_weaker clouds s old new c (MaySettleAs (v.peers c)) (IsListIn s c (quiet v.peers ++ moments) last)
          (λ list settles. listed clouds s c (record { peers = v.peers; event = None }) moments last list settles) (read_since c ne lt told)
    ]

    -- ---- carried out

    known_told : (before after : ℕ → Peer) → CausesRebuildEnd (telling clouds) old target.0 result before after → CausesRebuildEnd (told_so s.shape) s.told target.0 result before after
    known_told before after causes = by_result result causes
      where
        by_result : (r : Result Rebuilt RebuildErr) → CausesRebuildEnd (telling clouds) old target.0 r before after → CausesRebuildEnd (told_so s.shape) s.told target.0 r before after
        by_result (Ok rebuilt) x = tt
        by_result (Err (errors.FromRestore (restore_errors.Missing c))) x = tt
        by_result (Err (errors.FromRestore (restore_errors.Lost c))) x = tt
        by_result (Err (errors.FromRestore (restore_errors.CloudFault c))) x = x
        by_result (Err (errors.FromRestore (restore_errors.CloudDamaged c at byte))) x = sym (is.told c.0) ∙ x
        by_result (Err (errors.FromRestore (restore_errors.CloudRotten c one other))) x = sym (is.told c.0) ∙ x
        by_result (Err (errors.FromRestore (restore_errors.CloudNoMemory c))) x = sym (is.told c.0) ∙ x
        by_result (Err (errors.FromRestore (restore_errors.Strange c kind))) x = sym (is.told c.0) ∙ x
        by_result (Err (errors.FromRestore (restore_errors.RecipesDiffer a b place))) x = tt
        by_result (Err (errors.FromRestore (restore_errors.ShareLength c secret found wanted))) x = tt
        by_result (Err (errors.FromRestore (restore_errors.BadShare c secret one other))) x = sym (is.told c.0) ∙ x
        by_result (Err (errors.FromRestore (restore_errors.BadSecret secret one other))) x = tt
        by_result (Err (errors.FromRestore (restore_errors.BadPad secret at byte))) x = tt
        by_result (Err (errors.FromRestore restore_errors.NoMemory)) x = tt
        by_result (Err errors.TargetLost) x = tt
        by_result (Err errors.TargetFault) x = x
        by_result (Err (errors.TargetDamaged at byte)) x = sym (is.told target.0) ∙ x
        by_result (Err (errors.TargetRotten named found)) x = sym (is.told target.0) ∙ x
        by_result (Err (errors.TargetFull room used need limit)) x = tt
        by_result (Err (errors.TargetLacking place)) x = sym (is.told target.0) ∙ x
        by_result (Err errors.TargetNoMemory) x = absurd x
        by_result (Err (errors.TargetStrange kind)) x = absurd x
        by_result (Err errors.NoMemory) x = tt

    pub rebuild_goes : (jobs : List (List LaneView)) (answers : List Line) → map (λ (j : JobState). j.lanes) v.jobs ≡ jobs → AreRebuildLines user target.0 result answers
        → Goes clouds s (events.Rebuild user target from) old new jobs v answers
    rebuild_goes jobs answers jobs_are said =
        let w = went in
        record {
          moments = rebuild_moments v.peers target.0 w.turns (w.after target.0);
          after = record { peers = w.after; jobs = v.jobs };
          is_at = record {
            link_at = record {
              shape = came.asked.shape ∙ is.shape;
              told = λ c. ap (λ (f : ℕ → Bool). f c) came.asked.told ∙ is.told c;
              rooms = λ c lt. asks_rooms clouds (AsksTargetOrReads target.0 from) came.asked.asks old new came.asked.passed c ∙ is.rooms c lt;
              fate = still_delivers new.fate kept.1;
              stands = w.stands;
            };
            jobs_are = jobs_are;
          };
          step = (
            record {
              result = result;
              turns = w.turns;
              lines_are = said;
              moments_are = refl;
              found = kept.0;
              executes = executes w;
              leaves = w.leaves;
              named = came.named;
              caused = known_told v.peers w.after w.caused;
              said = w.said;
              ended = w.ended;
              own = w.own;
              told = w.told;
            },
            refl,
          );
          images = images_by w (target_moments v.peers target.0 w.turns (w.after target.0)) w.after refl
              (λ t has. contains_later (record { peers = v.peers; event = None }) (target_moments v.peers target.0 w.turns (w.after target.0)) (turn_moment v.peers target.0 t) (turns_among v.peers target.0 w.turns (w.after target.0) t has));
        }

    -- ---- cut

    abbrev pub IsPart : Type 0
    IsPart = (turns : List (LaneTurn Peer)) (at : Peer) → AreClouds s.shape from → (Contains from target.0 → ⊥) → ExecutesAll s target.0 (v.peers target.0) turns at → OwnLanes s.shape user target.0 turns
        → (AllTold s (target.0 ∷ from) → (after : ℕ → Peer) × IsRebuildCut s.shape user target.0 (served_at s target.0) from turns v.peers at after)
        → IsPartOf s v (record { event = events.Rebuild user target from; moments = quiet v.peers ++ map (turn_moment v.peers target.0) turns }) (with_peer v.peers target.0 at)

    -- each cloud, where the target is as it is left and the others as before
    left_by : (w : Went) → IsLeftByCut clouds s new (with_peer v.peers target.0 (w.after target.0))
    left_by w = record {
      faults = λ c lt. elim (cases_eq c target.0) [
        | inl same ↦ subst (λ (n : ℕ). n ≤ (clouds new.shelf.now c).faults) (sym (here c same)) (same_le (w.after c).faults (clouds new.shelf.now c).faults (w.stands c lt).faults)
        | inr ne ↦ subst (λ (p : Peer). p.faults ≤ (clouds new.shelf.now c).faults) (sym (with_other v.peers target.0 (w.after target.0) c ne))
            (subst (λ (n : ℕ). (v.peers c).faults ≤ n) (w.stands c lt).faults (w.leaves.read c ne).1.faults)
      ];
      armings = λ c lt. elim (cases_eq c target.0) [
        | inl same ↦ ap (λ (p : Peer). p.armings) (there c same) ∙ (w.stands c lt).armings
        | inr ne ↦ ap (λ (p : Peer). p.armings) (with_other v.peers target.0 (w.after target.0) c ne) ∙ (sym (w.leaves.read c ne).1.armings ∙ (w.stands c lt).armings)
      ];
      images = λ c lt told. elim (cases_eq c target.0) [
        | inl same ↦ subst (λ (p : Peer). (image : Image) → IsImage (clouds new.shelf.now c).now image → StandsForSome (header_in s c) (MaySettleAs p) image) (sym (there c same)) (now_by clouds s new w.after (link_by w) c lt told)
        | inr ne ↦ subst (λ (p : Peer). (image : Image) → IsImage (clouds new.shelf.now c).now image → StandsForSome (header_in s c) (MaySettleAs p) image) (sym (with_other v.peers target.0 (w.after target.0) c ne))
            (at_end (clouds old.shelf.now c) (clouds new.shelf.now c) (StandsForSome (header_in s c) (MaySettleAs (v.peers c))) (read_since c ne lt told))
      ];
    }
      where
        there : (c : ℕ) → c ≡ target.0 → with_peer v.peers target.0 (w.after target.0) c ≡ w.after c
        there c same = subst (λ (n : ℕ). with_peer v.peers target.0 (w.after target.0) n ≡ w.after n) (sym same) (with_here v.peers target.0 (w.after target.0))

        here : (c : ℕ) → c ≡ target.0 → (with_peer v.peers target.0 (w.after target.0) c).faults ≡ (w.after c).faults
        here c same = ap (λ (p : Peer). p.faults) (there c same)

        same_le : (a b : ℕ) → a ≡ b → a ≤ b
        same_le a b same = omega (arith, same)

        link_by : (w : Went) → LinkAt clouds s new w.after
        link_by w = record {
          shape = came.asked.shape ∙ is.shape;
          told = λ c. ap (λ (f : ℕ → Bool). f c) came.asked.told ∙ is.told c;
          rooms = λ c lt. asks_rooms clouds (AsksTargetOrReads target.0 from) came.asked.asks old new came.asked.passed c ∙ is.rooms c lt;
          fate = still_delivers new.fate kept.1;
          stands = w.stands;
        }

    -- memory ran out in between
    cut_between : result ≡ Err errors.NoMemory → IsPart → IsLineCut clouds s (events.Rebuild user target from) old new v
    cut_between memory part =
        let w = went in
        record {
          moments = quiet v.peers ++ map (turn_moment v.peers target.0) w.turns;
          last = with_peer v.peers target.0 (w.after target.0);
          part = part w.turns (w.after target.0) (subst (λ (sh : Shape). AreClouds sh from) is.shape are) apart (executes w) w.own (λ all. (w.after, is_cut w all));
          left = left_by w;
          images = images_by w (map (turn_moment v.peers target.0) w.turns) (with_peer v.peers target.0 (w.after target.0)) (with_here v.peers target.0 (w.after target.0))
              (λ t has. contains_later (record { peers = v.peers; event = None }) (map (turn_moment v.peers target.0) w.turns) (turn_moment v.peers target.0 t) (turns_mapped v.peers target.0 w.turns t has));
        }
      where
        is_cut : (w : Went) → AllTold s (target.0 ∷ from) → IsRebuildCut s.shape user target.0 (served_at s target.0) from w.turns v.peers (w.after target.0) w.after
        is_cut w all = subst (λ (r : Result Rebuilt RebuildErr). RunsTo s.shape user target.0 (served_at s target.0) from r w.turns v.peers (w.after target.0) w.after) memory (w.told all).0

    pub rebuild_cut : (jobs : List (List LaneView)) → map (λ (j : JobState). j.lanes) v.jobs ≡ jobs → IsPart → IsLineCut clouds s (events.Rebuild user target from) old new v
    rebuild_cut jobs jobs_are part = elim (has_lines user target.0 from result came.named) [
      | inl memory ↦ cut_between memory part
      | inr x ↦ cut_behind clouds s (events.Rebuild user target from) old new jobs v x.0 (rebuild_goes jobs x.0 jobs_are x.1)
    ]
