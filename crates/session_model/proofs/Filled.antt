-- Whose versions a rebuild of told clouds brings, and what the target said last where that stopped it.
use Rattle.std.proofs.Common.{◌≡◌, ◌⊎◌, ℕ, true, List, [], ◌∷◌, ◌++◌, map, Option, Some, None, Result, Ok, Err, refl, sym, ap, ◌∙◌, subst, inl, inr, append-nil}
use Rattle.std.specs.Prelude.{MatchOption}
use Rattle.std.specs.List.{Contains}
use Rattle.std.proofs.lemmas.List.Elements.{Contains-append_left}
use Rattle.std.proofs.lemmas.Option.{same_Some}
use Rattle.session.specs.CdBase.ids.Fp.{Fp}
use Rattle.session.specs.CdBase.ids.Tag.{Tag}
use Rattle.session.specs.CdBase.ids.UserId.{UserId}
use Rattle.session.specs.CdBase.ids.Version.{Version}
use Rattle.session.specs.CdBase.shape.Shape.{Shape}
use Rattle.rebuild.specs.Messages.request.Request.{Request}
use Rattle.rebuild.specs.Messages.reply.Reply.{Reply}
use Rattle.rebuild.specs.Messages.reply.Reply.TheVariants as replies
use Rattle.subset_restore.specs.UserDedup.command.Command.{Command}
use Rattle.subset_restore.specs.UserDedup.Dedup.{FullRoom, Outcome}
use Rattle.subset_restore.specs.UserDedup.Exec.{Peer, Exec, served}
use Rattle.subset_restore.proofs.UserDedup.Owned.{contains_here, contains_later}
use Rattle.rebuild.specs.UploadJob.Upload.{FileVersion}
use Rattle.rebuild.specs.UploadJob.Lane.{LaneState, Asking, Sending, Committing, Done, Refused}
use Rattle.rebuild.specs.LaneSteps.Runs.{LaneTurn, Progress, LaneRun, progress_after}
use Rattle.subset_restore.specs.RestoreJob.Restored.{Unrestored, given_by, missing, restored_file}
use Rattle.rebuild.specs.declared.error.SkipWhy.{SkipWhy}
use Rattle.rebuild.specs.Found.{Finding, findings, first_of, keys_in, name_judged, name_opened, recipes_differ, unless_skipped, version_named, version_under}
use Rattle.rebuild.specs.Rebuilding.{Progressed, lane_of, last_said, BringsOne, BringsAll, IsFrontOfList}
use Rattle.rebuild.specs.Turns.{EndsLane, LaneEnded, LaneGoes, OwnLanes}
use Rattle.rebuild.proofs.Bringing.{found_is}
use Rattle.rebuild.proofs.Telling.{ends_behind, ends_one, lanes_none, lanes_on, lanes_one, last_on}
use Rattle.rebuild.proofs.Turning.{Answered, expected, never_damaged, never_rotten}
use Rattle.session_model.proofs.Refilled.{stopped_by}

-- ---- whose versions are found

unless_ok : (o : Option Unrestored) (found : Result FileVersion SkipWhy) (v : FileVersion) → unless_skipped o found ≡ Ok v → found ≡ Ok v
unless_ok None found v e = e
unless_ok (Some why) found v e = absurd cc

abbrev user_of : UserId → Result FileVersion SkipWhy → UserId
user_of user (Ok v) = v.user
user_of user (Err why) = user

named_user : (user : UserId) (key : Tag × Version) (path : Result (List ℕ) SkipWhy) (file : Result (List ℕ) Unrestored) (v : FileVersion) → version_named user key path file ≡ Ok v → v.user ≡ user
named_user user key (Ok path) (Ok file) v e = sym (ap (user_of user) e)
named_user user key (Ok path) (Err why) v e = absurd cc
named_user user key (Err why) file v e = absurd cc

under_user : (shape : Shape) (lists : ℕ → List Command) (from : List ℕ) (user : UserId) (key : Tag × Version) (v : FileVersion) → version_under shape lists from user key ≡ Ok v → v.user ≡ user
unfolding version_under
under_user shape lists from user key v e =
    let all = map (given_by shape lists user key) from in
    let inner : Result FileVersion SkipWhy = version_named user key (name_judged shape key (name_opened shape all)) (restored_file shape lists user key from) in
    named_user user key (name_judged shape key (name_opened shape all)) (restored_file shape lists user key from) v
    (unless_ok (recipes_differ all) inner v (unless_ok (missing shape lists user key from) (unless_skipped (recipes_differ all) inner) v e))

-- each that is found for a user is one of that user
abbrev pub AreOf : UserId → List Finding → Type 0
AreOf user found = (f : Finding) → Contains found f → (v : FileVersion) → f.found ≡ Ok v → v.user ≡ user

pub found_of_user : (shape : Shape) (lists : ℕ → List Command) (from : List ℕ) (user : UserId) (found : List Finding) → IsFrontOfList found (findings shape lists from user) → AreOf user found
found_of_user shape lists from user found front f has v is =
    under_user shape lists from user f.key v
    (sym (found_is shape lists from user (keys_in shape (lists (first_of from)) user) f (subst (λ (l : List Finding). Contains l f) (sym front.split) (Contains-append_left found front.rest f has))) ∙ is)

-- ---- the lanes

run_goes : (Goes : Peer → Request → Reply → Peer → Type 0) (p last : Progress) (old new : Peer) (turns : List (LaneTurn Peer)) → LaneRun Goes p old turns last new → LaneGoes p turns
run_goes Goes p last old new [] run = tt
run_goes Goes p last old new (t ∷ turns) run = (run.0, run.2, run_goes Goes (progress_after p t.reply) last run.3.0 new turns run.3.2)

run_ends : (Goes : Peer → Request → Reply → Peer → Type 0) (p last : Progress) (old new : Peer) (turns : List (LaneTurn Peer)) → LaneRun Goes p old turns last new → LaneEnded p turns
run_ends Goes p last old new [] run = run.0
run_ends Goes p last old new (t ∷ turns) run = run_ends Goes (progress_after p t.reply) last run.3.0 new turns run.3.2

module _ (shape : Shape) (user : UserId) (target : ℕ) (serve : List Command → Request → Outcome) where
  one_own : (key : Tag × Version) (found : Result FileVersion SkipWhy) (r next : Progressed) (old mid : Peer) (turns : List (LaneTurn Peer)) → ((v : FileVersion) → found ≡ Ok v → v.user ≡ user)
      → BringsOne shape target serve key found r old turns next mid → OwnLanes shape user target turns
  one_own key (Err why) r next old mid turns own b = subst (OwnLanes shape user target) (sym b.1) (lanes_none shape user target)
  one_own key (Ok v) r next old mid turns own b = lanes_one shape user target v turns (own v refl) (run_goes (Exec shape true serve) (lane_of shape target v) b.0 old mid turns b.2)

  rest_own : (fs : List Finding) (next last : Progressed) (mid new : Peer) (rest : List (LaneTurn Peer)) (o : Option Reply) → (BringsAll shape target serve fs next mid rest last new → OwnLanes shape user target rest)
      → MatchOption o (BringsAll shape target serve fs next mid rest last new) (λ said. (rest ≡ []) × (last ≡ next) × (new ≡ mid)) → OwnLanes shape user target rest
  rest_own fs next last mid new rest None again m = again m
  rest_own fs next last mid new rest (Some said) again m = subst (OwnLanes shape user target) (sym m.0) (lanes_none shape user target)

  pub brings_own : (fs : List Finding) (r last : Progressed) (old new : Peer) (turns : List (LaneTurn Peer)) → AreOf user fs → BringsAll shape target serve fs r old turns last new → OwnLanes shape user target turns
  brings_own [] r last old new turns own b = subst (OwnLanes shape user target) (sym b.1) (lanes_none shape user target)
  brings_own (f ∷ fs) r last old new turns own b =
      subst (OwnLanes shape user target) (sym b.5)
      (lanes_on shape user target b.2 b.3 (one_own f.key f.found r b.0 old b.1 b.2 (own f (contains_here f fs)) b.4)
      (rest_own fs b.0 last b.1 new b.3 b.0.stop (brings_own fs b.0 last b.1 new b.3 (λ g has. own g (contains_later f fs g has))) b.6))

-- ---- the lane that stopped it

module _ (shape : Shape) (user : UserId) (target : ℕ) (serve : List Command → Request → Outcome) where
  one_ends : (key : Tag × Version) (found : Result FileVersion SkipWhy) (r next : Progressed) (old mid : Peer) (turns : List (LaneTurn Peer)) (said : Reply) → ((v : FileVersion) → found ≡ Ok v → v.user ≡ user)
      → BringsOne shape target serve key found r old turns next mid → next.stop ≡ Some said → EndsLane shape user target turns
  one_ends key (Err why) r next old mid turns said own b stop = absurd (let f : None ≡ Some said = sym (ap (λ (p : Progressed). p.stop) b.0) ∙ stop in cc)
  one_ends key (Ok v) r next old mid turns said own b stop =
      ends_one shape user target v turns (own v refl) (run_goes (Exec shape true serve) (lane_of shape target v) b.0 old mid turns b.2)
      (run_ends (Exec shape true serve) (lane_of shape target v) b.0 old mid turns b.2)

  -- a rebuild that this reply stopped ended so with a lane
  pub stop_ends : (fs : List Finding) (r last : Progressed) (old new : Peer) (turns : List (LaneTurn Peer)) (said : Reply) → AreOf user fs → r.stop ≡ None → BringsAll shape target serve fs r old turns last new → last.stop ≡ Some said
      → EndsLane shape user target turns
  stop_ends [] r last old new turns said own none b stop = absurd (let f : None ≡ Some said = sym none ∙ (sym (ap (λ (p : Progressed). p.stop) b.0) ∙ stop) in cc)
  stop_ends (f ∷ fs) r last old new turns said own none b stop =
      subst (EndsLane shape user target) (sym b.5)
      (by_next b.0.stop refl b.6 (λ e m. stop_ends fs b.0 last b.1 new b.3 said (λ g has. own g (contains_later f fs g has)) e m stop))
    where
      by_next : (o : Option Reply) → b.0.stop ≡ o → MatchOption o (BringsAll shape target serve fs b.0 b.1 b.3 last new) (λ s. (b.3 ≡ []) × (last ≡ b.0) × (new ≡ b.1))
          → (b.0.stop ≡ None → BringsAll shape target serve fs b.0 b.1 b.3 last new → EndsLane shape user target b.3) → EndsLane shape user target (b.2 ++ b.3)
      by_next None e m again = ends_behind shape user target b.2 b.3 (again e m)
      by_next (Some s) e m again =
          subst (λ (l : List (LaneTurn Peer)). EndsLane shape user target (b.2 ++ l)) (sym m.0)
          (subst (EndsLane shape user target) (sym (append-nil b.2)) (one_ends f.key f.found r b.0 old b.1 b.2 said (own f (contains_here f fs)) b.4 (ap (λ (p : Progressed). p.stop) (sym m.1) ∙ stop)))

-- ---- the reply that stopped it

-- the last reply of some turns, which a told target gives to a lane
pub record SaidSo (turns : List (LaneTurn Peer)) (said : Reply) : Type 0 where
  pub last : last_said turns ≡ Some said
  pub state : LaneState
  pub given : Answered state said ⊎ (said ≡ replies.Fault)

module _ (shape : Shape) (target : ℕ) (full : List Command → Command → Option FullRoom) where
  run_given : (p last : Progress) (old new : Peer) (turns : List (LaneTurn Peer)) (said : Reply) → LaneRun (Exec shape true (served shape target full)) p old turns last new → last_said turns ≡ Some said
      → (state : LaneState) × (Answered state said ⊎ (said ≡ replies.Fault))
  run_given p last old new [] said run e = absurd cc
  run_given p last old new (t ∷ []) said run e =
      let same : t.reply ≡ said = same_Some t.reply said e in
      (p.lane.state, subst (λ (x : Reply). Answered p.lane.state x ⊎ (x ≡ replies.Fault)) same (expected shape target full p.lane.work p.lane.state t.request t.reply old run.3.0 run.2 run.3.1))
  run_given p last old new (t ∷ u ∷ turns) said run e = run_given (progress_after p t.reply) last run.3.0 new (u ∷ turns) said run.3.2 e

  one_stop : (key : Tag × Version) (found : Result FileVersion SkipWhy) (r next : Progressed) (old mid : Peer) (turns : List (LaneTurn Peer)) (said : Reply) → BringsOne shape target (served shape target full) key found r old turns next mid
      → next.stop ≡ Some said → SaidSo turns said
  one_stop key (Err why) r next old mid turns said b stop = absurd (let f : None ≡ Some said = sym (ap (λ (p : Progressed). p.stop) b.0) ∙ stop in cc)
  one_stop key (Ok v) r next old mid turns said b stop =
      let is : b.1 ≡ said = stopped_by key b.0.lane.state b.1 said r (sym (ap (λ (p : Progressed). p.stop) b.4) ∙ stop) in
      let last = b.3 ∙ ap (λ (x : Reply). Some x) is in
      let given = run_given (lane_of shape target v) b.0 old mid turns said b.2 last in
      record { last = last; state = given.0; given = given.1 }

  said_behind : (us vs : List (LaneTurn Peer)) (said : Reply) → SaidSo vs said → SaidSo (us ++ vs) said
  said_behind us vs said x = record { last = last_on us vs said x.last; state = x.state; given = x.given }

  -- a rebuild that this reply stopped
  pub stop_said : (fs : List Finding) (r last : Progressed) (old new : Peer) (turns : List (LaneTurn Peer)) (said : Reply) → r.stop ≡ None → BringsAll shape target (served shape target full) fs r old turns last new → last.stop ≡ Some said
      → SaidSo turns said
  stop_said [] r last old new turns said none b stop = absurd (let f : None ≡ Some said = sym none ∙ (sym (ap (λ (p : Progressed). p.stop) b.0) ∙ stop) in cc)
  stop_said (f ∷ fs) r last old new turns said none b stop =
      subst (λ (l : List (LaneTurn Peer)). SaidSo l said) (sym b.5) (by_next b.0.stop refl b.6 (λ e m. stop_said fs b.0 last b.1 new b.3 said e m stop))
    where
      by_next : (o : Option Reply) → b.0.stop ≡ o → MatchOption o (BringsAll shape target (served shape target full) fs b.0 b.1 b.3 last new) (λ s. (b.3 ≡ []) × (last ≡ b.0) × (new ≡ b.1))
          → (b.0.stop ≡ None → BringsAll shape target (served shape target full) fs b.0 b.1 b.3 last new → SaidSo b.3 said) → SaidSo (b.2 ++ b.3) said
      by_next None e m again = said_behind b.2 b.3 said (again e m)
      by_next (Some s) e m again =
          subst (λ (l : List (LaneTurn Peer)). SaidSo (b.2 ++ l) said) (sym m.0)
          (subst (λ (l : List (LaneTurn Peer)). SaidSo l said) (sym (append-nil b.2)) (one_stop f.key f.found r b.0 old b.1 b.2 said b.4 (ap (λ (p : Progressed). p.stop) (sym m.1) ∙ stop)))

-- it is no reply that no told target gives
pub not_damaged : (turns : List (LaneTurn Peer)) (place byte : ℕ) → SaidSo turns (replies.Damaged place byte) → ⊥
not_damaged turns place byte x = elim x.given [
  | inl answered ↦ never_damaged place byte x.state answered
  | inr fault ↦ (let f : replies.Damaged place byte ≡ replies.Fault = fault in cc)
]

pub not_rotten : (turns : List (LaneTurn Peer)) (named hash : Fp) → SaidSo turns (replies.Rotten named hash) → ⊥
not_rotten turns named hash x = elim x.given [
  | inl answered ↦ never_rotten named hash x.state answered
  | inr fault ↦ (let f : replies.Rotten named hash ≡ replies.Fault = fault in cc)
]

pub not_short : (turns : List (LaneTurn Peer)) → SaidSo turns replies.NoMemory → ⊥
not_short turns x = elim x.given [
  | inl answered ↦ never_short x.state answered
  | inr fault ↦ (let f : replies.NoMemory ≡ replies.Fault = fault in cc)
]
  where
    never_short : (at : LaneState) → Answered at replies.NoMemory → ⊥
    never_short (Asking batch rest) a = a
    never_short (Sending batch marks rest) a = a
    never_short Committing a = a
    never_short Done a = a
    never_short Refused a = a
