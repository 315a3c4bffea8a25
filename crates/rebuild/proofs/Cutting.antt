-- How a rebuild that was cut would go on.
use Rattle.std.proofs.Common.{◌≡◌, ℕ, ◌+◌, true, false, List, [], ◌∷◌, ◌++◌, Option, Some, None, Result, Ok, Err, refl, sym, ap, ◌∙◌, subst, inl, inr, arith, append_assoc, append-nil}
use Rattle.std.specs.Prelude.{MatchOption}
use Rattle.lane_steps.specs.CdBase.ids.Tag.{Tag}
use Rattle.lane_steps.specs.CdBase.ids.Version.{Version}
use Rattle.lane_steps.specs.CdBase.shape.Shape.{Shape}
use Rattle.lane_steps.specs.Messages.request.Request.{Request}
use Rattle.lane_steps.specs.Messages.request.Request.TheVariants as requests
use Rattle.lane_steps.specs.Messages.reply.Reply.{Reply}
use Rattle.lane_steps.specs.Messages.reply.Reply.TheVariants as replies
use Rattle.lane_steps.specs.UserDedup.command.Command.{Command}
use Rattle.lane_steps.specs.UserDedup.Dedup.{Outcome}
use Rattle.lane_steps.specs.UserDedup.Exec.{Peer, Exec, CountsOn}
use Rattle.lane_steps.specs.UploadJob.Upload.{FileVersion, Work, work_of}
use Rattle.lane_steps.specs.UploadJob.Lane.{LaneState, Asking, Sending, Committing, Done, Refused, onward, beginning, lane_request, lane_after}
use Rattle.lane_steps.specs.Runs.{LaneTurn, Progress, request_of, progress_after, LaneRun, LaneAlong}
use Rattle.lane_steps.proofs.Runs.{along_more, run_of}
use Rattle.rebuild.specs.declared.error.SkipWhy.{SkipWhy}
use Rattle.rebuild.specs.Found.{Finding}
use Rattle.rebuild.specs.declared.error.RebuildErr.TheVariants as errors
use Rattle.rebuild.specs.Filling.{IsFilledFurther}
use Rattle.rebuild.specs.Rebuilding.{Progressed, with_skip, last_said, lane_ended, lane_of, BringsOne, BringsAll}

-- ---- a device that fails

-- a cloud whose device failed once more, and that stays else
abbrev pub failed : Peer → Peer
failed p = record { list = p.list; pending = p.pending; faults = p.faults + 1; armings = p.armings }

pub it_fails : (shape : Shape) (serve : List Command → Request → Outcome) (p : Peer) (request : Request) → Exec shape true serve p request replies.Fault (failed p)
it_fails shape serve p request = record {
  counts = record { faults = omega arith; armings = refl };
  does = inr (record {
    reply_is = refl;
    rose = omega arith;
    left = inl (record { list = refl; pending = refl });
  });
}

abbrev pub fault_turn : Peer → Request → LaneTurn Peer
fault_turn p request = record { before = p; request = request; reply = replies.Fault }

-- a lane that has a request is stopped by it
pub fault_stops : (w : Work) (state : LaneState) (request : Request) (key : Tag × Version) (r : Progressed) → lane_request w state ≡ Some request
    → (lane_ended key (lane_after w state replies.Fault) replies.Fault r).stop ≡ Some replies.Fault
fault_stops w (Asking batch rest) request key r e = refl
fault_stops w (Sending batch flags rest) request key r e = refl
fault_stops w Committing request key r e = refl
fault_stops w Done request key r e = absurd cc
fault_stops w Refused request key r e = absurd cc

abbrev nothing : {A : Type 0} → List A
nothing = []

last_more : (turns : List (LaneTurn Peer)) (turn : LaneTurn Peer) → last_said (turns ++ turn ∷ []) ≡ Some turn.reply
last_more [] turn = refl
last_more (t ∷ []) turn = refl
last_more (t ∷ u ∷ turns) turn = last_more (u ∷ turns) turn

-- a lane begins with a request
pub first_request : (w : Work) → (request : Request) × (lane_request w (beginning w) ≡ Some request)
first_request w = go w.batches
  where
    go : (batches : List (List (List ℕ))) → (request : Request) × (lane_request w (onward batches) ≡ Some request)
    go [] = (requests.Commit w.user w.tag w.version w.recipe, refl)
    go (batch ∷ rest) = (_, refl)

module _ (shape : Shape) (target : ℕ) (serve : List Command → Request → Outcome) where
  pub same_counts : (p : Peer) → CountsOn p p
  same_counts p = record { faults = omega arith; armings = refl }

  -- one finding more in front
  pub with_first : (f : Finding) (fs : List Finding) (r next : Progressed) (start mid at : Peer) (first rest : List (LaneTurn Peer))
      → BringsOne shape target serve f.key f.found r start first next mid → next.stop ≡ None → IsFilledFurther shape target serve fs next mid rest at → IsFilledFurther shape target serve (f ∷ fs) r start (first ++ rest) at
  with_first f fs r next start mid at first rest one goes x = record {
    front = f ∷ x.front;
    left = x.left;
    split = ap (λ (l : List Finding). f ∷ l) x.split;
    more = x.more;
    last = x.last;
    end = x.end;
    brings = (
      next,
      mid,
      first,
      rest ++ x.more,
      one,
      append_assoc first rest x.more,
      subst (λ (o : Option Reply). MatchOption o (BringsAll shape target serve x.front next mid (rest ++ x.more) x.last x.end) (λ said. (rest ++ x.more ≡ []) × (x.last ≡ next) × (x.end ≡ mid))) (sym goes) x.brings,
    );
    comes = x.comes;
    counts = x.counts;
    ends = x.ends;
  }

  -- the lane is stopped where the device fails at its next request
  pub with_fault : (f : Finding) (fs : List Finding) (r : Progressed) (v : FileVersion) (p : Progress) (start at : Peer) (turns : List (LaneTurn Peer)) (request : Request)
      → f.found ≡ Ok v → LaneAlong (Exec shape true serve) (lane_of shape target v) start turns p at → p.stopped ≡ false → request_of p.lane ≡ Some request
      → IsFilledFurther shape target serve (f ∷ fs) r start turns at
  with_fault f fs r v p start at turns request is along on asks =
      let next : Progressed = lane_ended f.key (lane_after p.lane.work p.lane.state replies.Fault) replies.Fault r in
      let stop : next.stop ≡ Some replies.Fault = fault_stops p.lane.work p.lane.state request f.key r asks in
      let turn : LaneTurn Peer = fault_turn at request in
      let run : LaneRun (Exec shape true serve) (lane_of shape target v) start (turns ++ turn ∷ []) (progress_after p replies.Fault) (failed at) =
      run_of (Exec shape true serve) (lane_of shape target v) (progress_after p replies.Fault) start (failed at) (turns ++ turn ∷ [])
      (along_more (Exec shape true serve) (lane_of shape target v) p start at (failed at) turns turn along on refl asks (it_fails shape serve at request)) (inl refl) in
      let one : BringsOne shape target serve f.key f.found r start (turns ++ turn ∷ []) next (failed at) =
      subst (λ (o : Result FileVersion SkipWhy). BringsOne shape target serve f.key o r start (turns ++ turn ∷ []) next (failed at)) (sym is)
      (progress_after p replies.Fault, replies.Fault, run, last_more turns turn, refl) in
      record {
        front = f ∷ [];
        left = fs;
        split = refl;
        more = turn ∷ [];
        last = next;
        end = failed at;
        brings = (
          next,
          failed at,
          turns ++ turn ∷ [],
          [],
          one,
          sym (append-nil (turns ++ turn ∷ [])),
          subst (λ (o : Option Reply). MatchOption o (BringsAll shape target serve [] next (failed at) [] next (failed at)) (λ said. (nothing {A = LaneTurn Peer} ≡ []) × (next ≡ next) × (failed at ≡ failed at))) (sym stop) (refl, refl, refl),
        );
        comes = refl;
        counts = (it_fails shape serve at request).counts;
        ends = inr (replies.Fault, errors.TargetFault, stop, refl, tt);
      }

  pub goes_on : (fs : List Finding) (r : Progressed) (at : Peer) → r.stop ≡ None → IsFilledFurther shape target serve fs r at [] at
  goes_on [] r at none = record {
    front = [];
    left = [];
    split = refl;
    more = [];
    last = r;
    end = at;
    brings = (refl, refl, refl);
    comes = refl;
    counts = same_counts at;
    ends = inl (refl, none);
  }
  goes_on (f ∷ fs) r at none = by_found f.found refl (goes_on fs)
    where
      by_found : (found : Result FileVersion SkipWhy) → f.found ≡ found → ((next : Progressed) (p : Peer) → next.stop ≡ None → IsFilledFurther shape target serve fs next p [] p) → IsFilledFurther shape target serve (f ∷ fs) r at [] at
      by_found (Err why) e later =
          with_first f fs r (with_skip f.key why r) at at at [] []
          (subst (λ (o : Result FileVersion SkipWhy). BringsOne shape target serve f.key o r at [] (with_skip f.key why r) at) (sym e) (refl, refl, refl)) refl
          (later (with_skip f.key why r) at refl)
      by_found (Ok v) e later =
          let asks = first_request (work_of shape v target) in
          with_fault f fs r v (lane_of shape target v) at at [] asks.0 e (refl, refl) refl asks.1

  -- ---- one list of findings behind another

  pub brings_then : (fs gs : List Finding) (r mid_r last : Progressed) (old mid end : Peer) (us vs : List (LaneTurn Peer))
      → BringsAll shape target serve fs r old us mid_r mid → mid_r.stop ≡ None → BringsAll shape target serve gs mid_r mid vs last end → BringsAll shape target serve (fs ++ gs) r old (us ++ vs) last end
  brings_then [] gs r mid_r last old mid end us vs one none two =
      let mid_is : mid ≡ old = one.2 in
      let r_is : mid_r ≡ r = one.0 in
      subst (λ (l : List (LaneTurn Peer)). BringsAll shape target serve gs r old (l ++ vs) last end) (sym one.1)
      (subst (λ (p : Peer). BringsAll shape target serve gs r p vs last end) mid_is
      (subst (λ (q : Progressed). BringsAll shape target serve gs q mid vs last end) r_is two))
  brings_then (f ∷ fs) gs r mid_r last old mid end us vs one none two =
      let next : Progressed = one.0 in
      let at : Peer = one.1 in
      let first : List (LaneTurn Peer) = one.2 in
      let rest : List (LaneTurn Peer) = one.3 in (
        next,
        at,
        first,
        rest ++ vs,
        one.4,
        ap (λ (l : List (LaneTurn Peer)). l ++ vs) one.5 ∙ append_assoc first rest vs,
        by_stop next.stop refl one.6 (λ m. brings_then fs gs next mid_r last at mid end rest vs m none two),
      )
    where
      by_stop : (o : Option Reply) → one.0.stop ≡ o
          → MatchOption o (BringsAll shape target serve fs one.0 one.1 one.3 mid_r mid) (λ said. (one.3 ≡ []) × (mid_r ≡ one.0) × (mid ≡ one.1))
          → (BringsAll shape target serve fs one.0 one.1 one.3 mid_r mid → BringsAll shape target serve (fs ++ gs) one.0 one.1 (one.3 ++ vs) last end)
          → MatchOption o (BringsAll shape target serve (fs ++ gs) one.0 one.1 (one.3 ++ vs) last end) (λ said. (one.3 ++ vs ≡ []) × (last ≡ one.0) × (end ≡ one.1))
      by_stop None e m later = later m
      by_stop (Some said) e m later = absurd (let k : Some said ≡ None = sym (ap (λ (p : Progressed). p.stop) m.1 ∙ e) ∙ none in cc)
