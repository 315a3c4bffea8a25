-- A rebuild that was cut between two requests of its target is a part of one that goes on.
use Rattle.std.proofs.Common.{◌≡◌, ℕ, ◌+◌, ◌≤◌, Bool, true, false, List, [], ◌∷◌, ◌++◌, length, map, Some, None, Result, Ok, Err, refl, sym, ap, ◌∙◌, subst, inl, inr, ◌⊎◌, arith}
use Rattle.std.specs.Prelude.{◌≢◌, IfErr, IsTrue}
use Rattle.std.specs.List.{Contains}
use Rattle.std.proofs.lemmas.Bool.{cases_eq}
use Rattle.session.specs.CdBase.ids.CloudNo.{CloudNo}
use Rattle.session.specs.CdBase.ids.UserId.{UserId}
use Rattle.session.specs.CdEdges.Causes.{Rose}
use Rattle.rebuild.specs.Messages.request.Request.{Request}
use Rattle.rebuild.specs.Messages.reply.Reply.{Reply}
use Rattle.rebuild.specs.Messages.reply.Reply.TheVariants as replies
use Rattle.subset_restore.specs.UserDedup.command.Command.{Command}
use Rattle.subset_restore.specs.UserDedup.Exec.{Peer, KeepsPeer, Settles, CountsOn}
use Rattle.subset_restore.proofs.UserDedup.Owned.{contains_cases, contains_here, contains_later, contains_nothing}
use Rattle.subset_restore.specs.UserDedup.Spending.{full_for}
use Rattle.rebuild.specs.UploadJob.Upload.{FileVersion, work_of}
use Rattle.rebuild.specs.UploadJob.Lane.{beginning, lane_request}
use Rattle.rebuild.specs.LaneSteps.Runs.{LaneTurn}
use Rattle.subset_restore.specs.RestoreJob.Asking.{MayRead}
use Rattle.subset_restore.specs.RestoreJob.error.RestoreErr.TheVariants as restore_errors
use Rattle.rebuild.specs.declared.error.RebuildErr.{RebuildErr}
use Rattle.rebuild.specs.declared.error.RebuildErr.TheVariants as errors
use Rattle.rebuild.specs.declared.skips.Rebuilt.{Rebuilt}
use Rattle.rebuild.specs.Found.{findings}
use Rattle.rebuild.specs.Rebuilding.{BringsAll, IsFrontOfList, IsNoLack, LeavesBut, Rebuilds, RunsTo, IsRebuildCut, ComesBefore, nothing_yet}
use Rattle.rebuild.specs.Turns.{EndsLane, OfReply, OwnLanes, SaidLast}
use Rattle.rebuild.specs.Over.{HandsOn}
use Rattle.rebuild.specs.Over as rebuilding
use Rattle.rebuild.specs.Kept.{Refills}
use Rattle.rebuild.proofs.Bringing.{refills}
use Rattle.rebuild.proofs.Cutting.{first_request}
use Rattle.rebuild.proofs.Telling.{ends_behind, ends_one, lanes_on, lanes_one, last_on}
use Rattle.session.specs.Spelling.{AreClouds}
use Rattle.session.specs.declared.event.Event.TheVariants as events
use Rattle.session.specs.Transcript.refusal.Refusal.TheVariants as refusals
use Rattle.session.specs.Transcript.refusal.TargetWhy.TheVariants as target_whys
use Rattle.session.specs.Transcript.line.Line.{Line}
use Rattle.session.specs.Transcript.line.Line.TheVariants as lines
use Rattle.session_model.specs.Vault.{Setting, Vault, served_at, with_peer, ExecutesAll}
use Rattle.session_model.specs.Steps.{Moment, quiet, told_so, skip_line, AreRebuildLines, turn_moment, target_moments, rebuild_moments, AllTold, RebuildStep}
use Rattle.session_model.specs.Headline.{ComesTo, IsPartOf}
use Rattle.session_model.proofs.With.{with_here, with_other, all_join, all_counts, brought}
use Rattle.session_model.proofs.Parts.{fault_of, exec_fault}
use Rattle.session_model.proofs.Ranged.{are_choice}
use Rattle.session_model.proofs.Refilled.{stop_rose}
use Rattle.session_model.proofs.Filled.{SaidSo, brings_own, found_of_user, not_damaged, not_rotten, not_short, stop_ends, stop_said}

-- whether all of some clouds are told
told_or : (told : ℕ → Bool) (clouds : List ℕ) → ((cloud : ℕ) → Contains clouds cloud → IsTrue (told cloud)) ⊎ (((cloud : ℕ) → Contains clouds cloud → IsTrue (told cloud)) → ⊥)
told_or told [] = inl (λ cloud has. absurd (contains_nothing cloud has))
told_or told (c ∷ clouds) = by_first (told c) refl (told_or told clouds)
  where
    by_first : (b : Bool) → told c ≡ b → ((cloud : ℕ) → Contains clouds cloud → IsTrue (told cloud)) ⊎ (((cloud : ℕ) → Contains clouds cloud → IsTrue (told cloud)) → ⊥)
        → ((cloud : ℕ) → Contains (c ∷ clouds) cloud → IsTrue (told cloud)) ⊎ (((cloud : ℕ) → Contains (c ∷ clouds) cloud → IsTrue (told cloud)) → ⊥)
    by_first false e rest = inr (λ all. let f : true ≡ false = sym (all c (contains_here c clouds)) ∙ e in cc)
    by_first true e (inr not) = inr (λ all. not (λ cloud has. all cloud (contains_later c clouds cloud has)))
    by_first true e (inl all) = inl (λ cloud has. elim (contains_cases c clouds cloud has) [
      | inl same ↦ subst (λ (n : ℕ). IsTrue (told n)) same e
      | inr later ↦ all cloud later
    ])

-- some requests of the target, and then more
moments_join : (old : ℕ → Peer) (target : ℕ) (turns more : List (LaneTurn Peer)) (end : Peer) → target_moments old target (turns ++ more) end ≡ map (turn_moment old target) turns ++ target_moments old target more end
moments_join old target [] more end = refl
moments_join old target (t ∷ turns) more end = ap (λ (l : List Moment). turn_moment old target t ∷ l) (moments_join old target turns more end)

comes_to : (old : ℕ → Peer) (target : ℕ) (more : List (LaneTurn Peer)) (end at : Peer) (after : ℕ → Peer) → ComesBefore more end at → ComesTo (target_moments old target more end) after (with_peer old target at)
comes_to old target [] end at after comes = ap (with_peer old target) (sym comes)
comes_to old target (t ∷ more) end at after comes = ap (with_peer old target) (sym comes)

stays_counts : (p : Peer) → CountsOn p p
stays_counts p = record { faults = omega arith; armings = refl }

stays_may : (p q : Peer) → q ≡ p → MayRead p q
stays_may p q same = subst (MayRead p) (sym same) (inl (record { list = refl; pending = refl }), stays_counts p)

-- a cloud that may have been read, and fails then
may_fail : (p q : Peer) → MayRead p q → MayRead p (fault_of q)
unfolding fault_of
may_fail p q may = (by_way may.0, record { faults = up p.faults q.faults may.1.faults; armings = may.1.armings })
  where
    by_way : KeepsPeer p q ⊎ Settles p q → KeepsPeer p (fault_of q) ⊎ Settles p (fault_of q)
    by_way (inl stays) = inl (record { list = stays.list; pending = stays.pending })
    by_way (inr set) = inr (record { list = set.list; pending = set.pending })

    up : (a b : ℕ) → a ≤ b → a ≤ b + 1
    up a b le = omega (arith, le)

rose_fault : (p q : Peer) → CountsOn p q → Rose p.faults (fault_of q).faults
unfolding fault_of
rose_fault p q counts = let le = counts.faults in let r : Rose p.faults (q.faults + 1) = omega (arith, le) in r

counts_fault : (p q : Peer) → CountsOn p q → CountsOn p (fault_of q)
unfolding fault_of
counts_fault p q c = record { faults = (let le = c.faults in omega (arith, le)); armings = c.armings }

list_fault : (p : Peer) → (fault_of p).list ≡ p.list
unfolding fault_of
list_fault p = refl

module _ (s : Setting) (old : Vault) (user : UserId) (target : CloudNo) (from : List ℕ) (are : AreClouds s.shape from) (apart : ¬ Contains from target.0) where
  -- such a step, whose target's last requests are these
  part_by : (turns more : List (LaneTurn Peer)) (at : Peer) (answers : List Line) (new : ℕ → Peer) → RebuildStep s user target.0 from old.peers answers (rebuild_moments old.peers target.0 (turns ++ more) (new target.0)) new
      → ComesBefore more (new target.0) at
      → IsPartOf s old (record { event = events.Rebuild user target from; moments = quiet old.peers ++ map (turn_moment old.peers target.0) turns }) (with_peer old.peers target.0 at)
  part_by turns more at answers new step comes = (
    answers,
    target_moments old.peers target.0 more (new target.0),
    record { peers = new; jobs = old.jobs },
    (
      subst (λ (l : List Moment). RebuildStep s user target.0 from old.peers answers (record { peers = old.peers; event = None } ∷ l) new) (moments_join old.peers target.0 turns more (new target.0)) step,
      refl,
    ),
    comes_to old.peers target.0 more (new target.0) at new comes,
  )

  -- where not all are told: the target fails at its next request
  part_untold : (turns : List (LaneTurn Peer)) (at : Peer) → ExecutesAll s target.0 (old.peers target.0) turns at → OwnLanes s.shape user target.0 turns → (AllTold s (target.0 ∷ from) → ⊥)
      → IsPartOf s old (record { event = events.Rebuild user target from; moments = quiet old.peers ++ map (turn_moment old.peers target.0) turns }) (with_peer old.peers target.0 at)
  part_untold turns at executes own none =
      part_by turns (next ∷ []) at (lines.Refused (refusals.Target target_whys.Fault) ∷ []) new (record {
        result = Err errors.TargetFault;
        turns = turns ++ next ∷ [];
        lines_are = (refusals.Target target_whys.Fault, refl, refl);
        moments_are = refl;
        found = refl;
        executes = all_join s target.0 (old.peers target.0) turns at (next ∷ []) (new target.0) executes (refl, (fault_of at, exec_fault s target.0 at asks.0, here));
        leaves = record {
          read = λ c ne. stays_may (old.peers c) (new c) (with_other old.peers target.0 (fault_of at) c ne);
          others = λ c ne out. with_other old.peers target.0 (fault_of at) c ne;
          counts = subst (CountsOn (old.peers target.0)) (sym here) (counts_fault (old.peers target.0) at counts);
        };
        named = tt;
        caused = subst (λ (p : Peer). Rose (old.peers target.0).faults p.faults) (sym here) (rose_fault (old.peers target.0) at counts);
        said = last_on turns (next ∷ []) replies.Fault refl;
        ended = ends_behind s.shape user target.0 turns (next ∷ []) (ends_one s.shape user target.0 another (next ∷ []) refl (refl, asks.1, tt) (inl refl));
        own = lanes_on s.shape user target.0 turns (next ∷ []) own (lanes_one s.shape user target.0 another (next ∷ []) refl (refl, asks.1, tt));
        told = λ told. absurd (none told);
      }) refl
    where
      -- one more version, whose lane begins with a request
      another : FileVersion
      another = record { user = user; path = []; number = record { 0 = 0 }; file = [] }

      asks : (request : Request) × (lane_request (work_of s.shape another target.0) (beginning (work_of s.shape another target.0)) ≡ Some request)
      asks = first_request (work_of s.shape another target.0)

      next : LaneTurn Peer
      next = record { before = at; request = asks.0; reply = replies.Fault }

      new : ℕ → Peer
      new = with_peer old.peers target.0 (fault_of at)

      here : new target.0 ≡ fault_of at
      here = with_here old.peers target.0 (fault_of at)

      counts : CountsOn (old.peers target.0) at
      counts = all_counts s target.0 (old.peers target.0) turns at executes

  -- ---- where all are told

  module _ (told : AllTold s (target.0 ∷ from)) (turns more : List (LaneTurn Peer)) (at : Peer) where
    abbrev Part : Type 0
    Part = IsPartOf s old (record { event = events.Rebuild user target from; moments = quiet old.peers ++ map (turn_moment old.peers target.0) turns }) (with_peer old.peers target.0 at)

    abbrev Ends : Result Rebuilt RebuildErr → (ℕ → Peer) → Type 0
    Ends would later = Rebuilds s.shape user target.0 (served_at s target.0) from (turns ++ more) would old.peers later

    -- one that ends so
    part_so : (would : Result Rebuilt RebuildErr) (later : ℕ → Peer) (answers : List Line) → AreRebuildLines user target.0 would answers → rebuilding.is_lost would ≡ false → HandsOn from would
        → rebuilding.CausesRebuildEnd (told_so s.shape) s.told target.0 would old.peers later → SaidLast would (turns ++ more) → OfReply would (EndsLane s.shape user target.0 (turns ++ more)) → Ends would later
        → RunsTo s.shape user target.0 (served_at s target.0) from would (turns ++ more) old.peers (later target.0) later → Refills s.shape target.0 from user later would
        → LeavesBut from target.0 old.peers later → ComesBefore more (later target.0) at → Part
    part_so would later answers lines_are found named caused said ended ends runs refilled leaves comes = part_by turns more at answers later (record {
      result = would;
      turns = turns ++ more;
      lines_are = lines_are;
      moments_are = refl;
      found = found;
      executes = brought s target.0 (told target.0 (contains_here target.0 from)) ends.found nothing_yet (old.peers target.0) (turns ++ more) ends.last (later target.0) ends.brings;
      leaves = leaves;
      named = named;
      caused = caused;
      said = said;
      ended = ended;
      own = brings_own s.shape user target.0 (served_at s target.0) ends.found nothing_yet ends.last (old.peers target.0) (later target.0) (turns ++ more)
          (found_of_user s.shape (λ cloud. (later cloud).list) from user ends.found ends.front) ends.brings;
      told = λ all. (runs, refilled);
    }) comes

    -- the reply that stopped it
    said_of : (would : Result Rebuilt RebuildErr) (later : ℕ → Peer) (x : Ends would later) (reply : Reply) → x.last.stop ≡ Some reply → SaidSo (turns ++ more) reply
    said_of would later x reply stop = stop_said s.shape target.0 (full_for s.shape s.rooms) x.found nothing_yet x.last (old.peers target.0) (later target.0) (turns ++ more) reply refl x.brings stop

    -- and its lane
    ended_of : (would : Result Rebuilt RebuildErr) (later : ℕ → Peer) (x : Ends would later) (reply : Reply) → x.last.stop ≡ Some reply → EndsLane s.shape user target.0 (turns ++ more)
    ended_of would later x reply stop =
        stop_ends s.shape user target.0 (served_at s target.0) x.found nothing_yet x.last (old.peers target.0) (later target.0) (turns ++ more) reply
        (found_of_user s.shape (λ cloud. (later cloud).list) from user x.found x.front) refl x.brings stop

    not_target : (c : CloudNo) → Contains from c.0 → target.0 ≢ c.0
    not_target c has same = apart (subst (Contains from) (sym same) has)

    -- an ask of a cloud that is read and that is lost: its device fails instead
    part_lost : (c : CloudNo) (later : ℕ → Peer) → Ends (Err (errors.FromRestore (restore_errors.Lost c))) later → LeavesBut from target.0 old.peers later → ComesBefore more (later target.0) at → Part
    part_lost c later ends leaves comes =
        let has : Contains from c.0 = ends.ends.1 in
        let failed : MayRead (old.peers c.0) (fault_of (later c.0)) = may_fail (old.peers c.0) (later c.0) (leaves.read c.0 (λ same. not_target c has (sym same))) in
        let rose : Rose (old.peers c.0).faults (now c.0).faults =
        subst (λ (p : Peer). Rose (old.peers c.0).faults p.faults) (sym here) (rose_fault (old.peers c.0) (later c.0) (leaves.read c.0 (λ same. not_target c has (sym same))).1) in
        let stays : now target.0 ≡ later target.0 = with_other later c.0 (fault_of (later c.0)) target.0 (not_target c has) in
        let faulted : Ends (Err (errors.FromRestore (restore_errors.CloudFault c))) now = record {
          found = ends.found;
          front = subst (λ (lists : ℕ → List Command). IsFrontOfList ends.found (findings s.shape lists from user)) (sym lists_same) ends.front;
          last = ends.last;
          brings = subst (λ (p : Peer). BringsAll s.shape target.0 (served_at s target.0) ends.found nothing_yet (old.peers target.0) (turns ++ more) ends.last p) (sym stays) ends.brings;
          ends = (ends.ends.0, (has, (rose, subst (MayRead (old.peers c.0)) (sym here) failed)));
        } in
        part_so (Err (errors.FromRestore (restore_errors.CloudFault c))) now (lines.Refused (refusals.Fault c) ∷ []) (refusals.Fault c, refl, refl) refl (tt, has) rose tt tt faulted faulted tt (record {
          read = λ x ne. may x (cases_eq x c.0) ne;
          others = λ x ne out. with_other later c.0 (fault_of (later c.0)) x (λ same. out (subst (Contains from) (sym same) has)) ∙ leaves.others x ne out;
          counts = subst (CountsOn (old.peers target.0)) (sym stays) leaves.counts;
        }) (subst (λ (p : Peer). ComesBefore more p at) (sym stays) comes)
      where
        now : ℕ → Peer
        now = with_peer later c.0 (fault_of (later c.0))

        here : now c.0 ≡ fault_of (later c.0)
        here = with_here later c.0 (fault_of (later c.0))

        same_list : (x : ℕ) → (x ≡ c.0) ⊎ (x ≢ c.0) → (now x).list ≡ (later x).list
        same_list x (inl same) = ap (λ (p : Peer). p.list) (ap now same ∙ here) ∙ list_fault (later c.0) ∙ ap (λ (n : ℕ). (later n).list) (sym same)
        same_list x (inr ne) = ap (λ (p : Peer). p.list) (with_other later c.0 (fault_of (later c.0)) x ne)

        lists_same : ◌≡◌ {A = ℕ → List Command} (λ x. (now x).list) (λ x. (later x).list)
        lists_same = λ i x. same_list x (cases_eq x c.0) i

        may : (x : ℕ) → (x ≡ c.0) ⊎ (x ≢ c.0) → x ≢ target.0 → MayRead (old.peers x) (now x)
        may x (inl same) ne = subst (λ (n : ℕ). MayRead (old.peers n) (now n)) (sym same) (subst (MayRead (old.peers c.0)) (sym here)
            (may_fail (old.peers c.0) (later c.0) (leaves.read c.0 (λ at_target. ne (same ∙ at_target)))))
        may x (inr other) ne = subst (MayRead (old.peers x)) (sym (with_other later c.0 (fault_of (later c.0)) x other)) (leaves.read x ne)

    part_told : (would : Result Rebuilt RebuildErr) (later : ℕ → Peer) → Ends would later → IfErr would IsNoLack → LeavesBut from target.0 old.peers later → ComesBefore more (later target.0) at → Part
    part_told (Ok rebuilt) later ends whole leaves comes =
        part_so (Ok rebuilt) later (lines.Rebuilt user target rebuilt.files (length rebuilt.skipped) ∷ map skip_line rebuilt.skipped) refl refl tt tt tt tt ends ends
        (refills s.shape user target.0 (full_for s.shape s.rooms) from (turns ++ more) rebuilt old.peers later (are_choice s.shape from are) ends) leaves comes
    part_told (Err (errors.FromRestore (restore_errors.CloudFault c))) later ends whole leaves comes =
        part_so (Err (errors.FromRestore (restore_errors.CloudFault c))) later (lines.Refused (refusals.Fault c) ∷ []) (refusals.Fault c, refl, refl) refl (tt, ends.ends.1.0) ends.ends.1.1.0 tt tt ends ends tt leaves comes
    part_told (Err (errors.FromRestore (restore_errors.Lost c))) later ends whole leaves comes = part_lost c later ends leaves comes
    part_told (Err (errors.FromRestore (restore_errors.Missing c))) later ends whole leaves comes = absurd ends.ends.1
    part_told (Err (errors.FromRestore (restore_errors.CloudDamaged c x byte))) later ends whole leaves comes = absurd ends.ends.1
    part_told (Err (errors.FromRestore (restore_errors.CloudRotten c x y))) later ends whole leaves comes = absurd ends.ends.1
    part_told (Err (errors.FromRestore (restore_errors.CloudNoMemory c))) later ends whole leaves comes = absurd ends.ends.1
    part_told (Err (errors.FromRestore (restore_errors.Strange c kind))) later ends whole leaves comes = absurd ends.ends.1
    part_told (Err (errors.FromRestore (restore_errors.RecipesDiffer a b place))) later ends whole leaves comes = absurd ends.ends.1
    part_told (Err (errors.FromRestore (restore_errors.ShareLength c secret x y))) later ends whole leaves comes = absurd ends.ends.1
    part_told (Err (errors.FromRestore (restore_errors.BadShare c secret x y))) later ends whole leaves comes = absurd ends.ends.1
    part_told (Err (errors.FromRestore (restore_errors.BadSecret secret x y))) later ends whole leaves comes = absurd ends.ends.1
    part_told (Err (errors.FromRestore (restore_errors.BadPad secret x byte))) later ends whole leaves comes = absurd ends.ends.1
    part_told (Err (errors.FromRestore restore_errors.NoMemory)) later ends whole leaves comes = absurd ends.ends.1
    part_told (Err errors.TargetFault) later ends whole leaves comes =
        part_so (Err errors.TargetFault) later (lines.Refused (refusals.Target target_whys.Fault) ∷ []) (refusals.Target target_whys.Fault, refl, refl) refl tt
        (stop_rose s target.0 (told target.0 (contains_here target.0 from)) ends.found nothing_yet (old.peers target.0) (turns ++ more) ends.last (later target.0) ends.brings refl
        (ends.ends.1 ∙ ap (λ x. Some x) ends.ends.2)) (said_of (Err errors.TargetFault) later ends replies.Fault (ends.ends.1 ∙ ap (λ x. Some x) ends.ends.2)).last
        (ended_of (Err errors.TargetFault) later ends replies.Fault (ends.ends.1 ∙ ap (λ x. Some x) ends.ends.2)) ends ends tt leaves comes
    part_told (Err (errors.TargetDamaged x byte)) later ends whole leaves comes =
        absurd (not_damaged (turns ++ more) x byte (said_of (Err (errors.TargetDamaged x byte)) later ends (replies.Damaged x byte) (ends.ends.1 ∙ ap (λ y. Some y) ends.ends.2)))
    part_told (Err (errors.TargetRotten x y)) later ends whole leaves comes =
        absurd (not_rotten (turns ++ more) x y (said_of (Err (errors.TargetRotten x y)) later ends (replies.Rotten x y) (ends.ends.1 ∙ ap (λ z. Some z) ends.ends.2)))
    part_told (Err (errors.TargetFull room used need limit)) later ends whole leaves comes =
        part_so (Err (errors.TargetFull room used need limit)) later (lines.Refused (refusals.Target (target_whys.Full room used need limit)) ∷ []) (refusals.Target (target_whys.Full room used need limit), refl, refl) refl tt tt
        (said_of (Err (errors.TargetFull room used need limit)) later ends (replies.Full room used need limit) (ends.ends.1 ∙ ap (λ x. Some x) ends.ends.2)).last
        (ended_of (Err (errors.TargetFull room used need limit)) later ends (replies.Full room used need limit) (ends.ends.1 ∙ ap (λ x. Some x) ends.ends.2)) ends ends tt leaves comes
    part_told (Err (errors.TargetLacking place)) later ends whole leaves comes = absurd whole
    part_told (Err errors.TargetNoMemory) later ends whole leaves comes =
        absurd (not_short (turns ++ more) (said_of (Err errors.TargetNoMemory) later ends replies.NoMemory (ends.ends.1 ∙ ap (λ x. Some x) ends.ends.2)))
    part_told (Err errors.TargetLost) later ends whole leaves comes = absurd ends.ends.2
    part_told (Err (errors.TargetStrange kind)) later ends whole leaves comes = absurd ends.ends.2
    part_told (Err errors.NoMemory) later ends whole leaves comes = absurd ends.ends.2

  pub part_of_rebuild : (turns : List (LaneTurn Peer)) (at : Peer) → ExecutesAll s target.0 (old.peers target.0) turns at → OwnLanes s.shape user target.0 turns
      → (AllTold s (target.0 ∷ from) → (after : ℕ → Peer) × IsRebuildCut s.shape user target.0 (served_at s target.0) from turns old.peers at after)
      → IsPartOf s old (record { event = events.Rebuild user target from; moments = quiet old.peers ++ map (turn_moment old.peers target.0) turns }) (with_peer old.peers target.0 at)
  part_of_rebuild turns at executes own cut = elim (told_or s.told (target.0 ∷ from)) [
    | inl told ↦ (let x = (cut told).1 in part_told told turns x.more at x.would x.later x.goes_on x.whole x.leaves x.comes)
    | inr none ↦ part_untold turns at executes own none
  ]
