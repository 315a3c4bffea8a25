-- Clouds of which one stands as some peer, and what that one executes, request by request.
use Rattle.std.proofs.Common.{◌≡◌, ℕ, ◌≤◌, Bool, true, cond, List, [], ◌∷◌, ◌++◌, Option, Some, None, Result, Ok, Err, refl, sym, ap, ◌∙◌, subst, inl, inr, arith, eq-eqb}
use Rattle.std.specs.Prelude.{◌≢◌, MatchOption}
use Rattle.std.specs.List.{Contains}
use Rattle.std.proofs.lemmas.Bool.{ne_eqb}
use Rattle.session.specs.CdBase.ids.Tag.{Tag}
use Rattle.session.specs.CdBase.ids.Version.{Version}
use Rattle.rebuild.specs.Messages.request.Request.{Request}
use Rattle.rebuild.specs.Messages.reply.Reply.{Reply}
use Rattle.subset_restore.specs.UserDedup.Exec.{Peer, Exec, CountsOn}
use Rattle.subset_restore.proofs.UserDedup.Owned.{contains_cases, contains_nothing}
use Rattle.rebuild.specs.UploadJob.Upload.{FileVersion}
use Rattle.rebuild.specs.LaneSteps.Runs.{LaneTurn, Progress, LaneRun, progress_after}
use Rattle.rebuild.specs.declared.error.SkipWhy.{SkipWhy}
use Rattle.rebuild.specs.Found.{Finding}
use Rattle.rebuild.specs.Rebuilding.{Progressed, lane_of, BringsOne, BringsAll}
use Rattle.session_model.specs.Vault.{Setting, HasVaultExecuted, served_at, with_peer, ExecutesAll}
use Rattle.session_model.specs.Steps.{Moment, turn_moment, target_moments}

pub with_here : (peers : ℕ → Peer) (cloud : ℕ) (p : Peer) → with_peer peers cloud p cloud ≡ p
with_here peers cloud p = ap (λ (b : Bool). cond b p (peers cloud)) (eq-eqb cloud cloud refl)

pub with_other : (peers : ℕ → Peer) (cloud : ℕ) (p : Peer) (x : ℕ) → x ≢ cloud → with_peer peers cloud p x ≡ peers x
with_other peers cloud p x ne = ap (λ (b : Bool). cond b p (peers x)) (ne_eqb x cloud ne)

module _ (s : Setting) (cloud : ℕ) where
  -- the cloud executes a request, whatever the others are
  pub executes_with : (peers : ℕ → Peer) (p : Peer) (request : Request) (reply : Reply) (q : Peer) → Exec s.shape (s.told cloud) (served_at s cloud) p request reply q
      → HasVaultExecuted s cloud (with_peer peers cloud p) request reply (with_peer peers cloud q)
  executes_with peers p request reply q exec = record {
    does = subst (λ (a : Peer). Exec s.shape (s.told cloud) (served_at s cloud) a request reply (with_peer peers cloud q cloud)) (sym (with_here peers cloud p))
        (subst (Exec s.shape (s.told cloud) (served_at s cloud) p request reply) (sym (with_here peers cloud q)) exec);
    others = λ other ne. with_other peers cloud q other ne ∙ sym (with_other peers cloud p other ne);
  }

  -- some requests, and then more
  pub all_join : (p : Peer) (turns : List (LaneTurn Peer)) (q : Peer) (more : List (LaneTurn Peer)) (r : Peer) → ExecutesAll s cloud p turns q → ExecutesAll s cloud q more r → ExecutesAll s cloud p (turns ++ more) r
  all_join p [] q more r x y = subst (λ (a : Peer). ExecutesAll s cloud a more r) x y
  all_join p (t ∷ turns) q more r x y = (x.0, (x.1.0, x.1.1, all_join x.1.0 turns q more r x.1.2 y))

  pub all_counts : (p : Peer) (turns : List (LaneTurn Peer)) (q : Peer) → ExecutesAll s cloud p turns q → CountsOn p q
  all_counts p [] q x = subst (CountsOn p) (sym x) (record { faults = omega arith; armings = refl })
  all_counts p (t ∷ turns) q x =
      let one = x.1.1.counts in
      let two = all_counts x.1.0 turns q x.1.2 in
      record { faults = up p.faults x.1.0.faults q.faults one.faults two.faults; armings = two.armings ∙ one.armings }
    where
      up : (a b c : ℕ) → a ≤ b → b ≤ c → a ≤ c
      up a b c one two = omega (arith, one, two)

  -- ---- a told cloud to which versions are brought

  module _ (told : s.told cloud ≡ true) where
    pub exec_so : (p : Peer) (request : Request) (reply : Reply) (q : Peer) → Exec s.shape true (served_at s cloud) p request reply q → Exec s.shape (s.told cloud) (served_at s cloud) p request reply q
    exec_so p request reply q exec = subst (λ (b : Bool). Exec s.shape b (served_at s cloud) p request reply q) (sym told) exec

    pub run_all : (p : Progress) (old : Peer) (turns : List (LaneTurn Peer)) (last : Progress) (new : Peer) → LaneRun (Exec s.shape true (served_at s cloud)) p old turns last new → ExecutesAll s cloud old turns new
    run_all p old [] last new run = run.2
    run_all p old (t ∷ turns) last new run =
        (run.1, (run.3.0, exec_so old t.request t.reply run.3.0 run.3.1, run_all (progress_after p t.reply) run.3.0 turns last new run.3.2))

    pub one_all : (key : Tag × Version) (found : Result FileVersion SkipWhy) (r : Progressed) (old : Peer) (turns : List (LaneTurn Peer)) (after : Progressed) (new : Peer)
        → BringsOne s.shape cloud (served_at s cloud) key found r old turns after new → ExecutesAll s cloud old turns new
    one_all key (Err why) r old turns after new x = subst (λ (l : List (LaneTurn Peer)). ExecutesAll s cloud old l new) (sym x.1) x.2
    one_all key (Ok v) r old turns after new x = run_all (lane_of s.shape cloud v) old turns x.0 new x.2

    rest_all : (fs : List Finding) (next : Progressed) (mid : Peer) (rest : List (LaneTurn Peer)) (after : Progressed) (new : Peer) (o : Option Reply)
        → (BringsAll s.shape cloud (served_at s cloud) fs next mid rest after new → ExecutesAll s cloud mid rest new)
        → MatchOption o (BringsAll s.shape cloud (served_at s cloud) fs next mid rest after new) (λ said. (rest ≡ []) × (after ≡ next) × (new ≡ mid)) → ExecutesAll s cloud mid rest new
    rest_all fs next mid rest after new None again x = again x
    rest_all fs next mid rest after new (Some said) again x = subst (λ (l : List (LaneTurn Peer)). ExecutesAll s cloud mid l new) (sym x.0) x.2

    -- what was found under some keys
    pub brought : (fs : List Finding) (r : Progressed) (old : Peer) (turns : List (LaneTurn Peer)) (after : Progressed) (new : Peer) → BringsAll s.shape cloud (served_at s cloud) fs r old turns after new
        → ExecutesAll s cloud old turns new
    brought [] r old turns after new x = subst (λ (l : List (LaneTurn Peer)). ExecutesAll s cloud old l new) (sym x.1) x.2
    brought (f ∷ fs) r old turns after new x =
        subst (λ (l : List (LaneTurn Peer)). ExecutesAll s cloud old l new) (sym x.5)
        (all_join old x.2 x.1 x.3 new (one_all f.key f.found r old x.2 x.0 x.1 x.4) (rest_all fs x.0 x.1 x.3 after new x.0.stop (brought fs x.0 x.1 x.3 after new) x.6))

-- a cloud that isn't the target of a rebuild, at each moment of it
pub same_other : (c : ℕ) (old : ℕ → Peer) (target : ℕ) (turns : List (LaneTurn Peer)) (end : Peer) → ¬ (c ≡ target) → (m : Moment) → Contains (target_moments old target turns end) m → m.peers c ≡ old c
same_other c old target [] end ne m has = elim (contains_cases (record { peers = with_peer old target end; event = None }) [] m has) [
  | inl same ↦ ap (λ (n : Moment). n.peers c) (sym same) ∙ with_other old target end c ne
  | inr none ↦ absurd (contains_nothing m none)
]
same_other c old target (t ∷ turns) end ne m has = elim (contains_cases (turn_moment old target t) (target_moments old target turns end) m has) [
  | inl same ↦ ap (λ (n : Moment). n.peers c) (sym same) ∙ with_other old target t.before c ne
  | inr later ↦ same_other c old target turns end ne m later
]
