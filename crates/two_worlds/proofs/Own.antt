-- What the clouds of a session are to one user, and the requests that they execute.
use Rattle.std.proofs.Common.{◌≡◌, ◌≢◌, ℕ, ◌<◌, ◌≤◌, true, List, [], ◌∷◌, map, Some, None, refl, sym, ap, ◌∙◌, subst, inl, inr, arith}
use Rattle.std.specs.Prelude.{IfSome}
use Rattle.std.specs.List.{Contains}
use Rattle.std.proofs.lemmas.Bool.{cases_eq, cases_lt}
use Rattle.recipe.specs.CdBase.ids.UserId.{UserId}
use Rattle.session_model.specs.CdEdges.Causes.{Rose}
use Rattle.session_model.specs.CdEdges.Disk.{Cloud}
use Rattle.session_model.specs.Messages.request.Request.{Request}
use Rattle.session_model.specs.Messages.request.Request.TheVariants as requests
use Rattle.session_model.specs.Messages.reply.Reply.{Reply}
use Rattle.session_model.specs.UserDedup.command.Command.{Command}
use Rattle.session_model.specs.UserDedup.Cloud.{fingerprint, strings_in}
use Rattle.session_model.specs.UserDedup.Requests.{asker}
use Rattle.session_model.specs.UserDedup.Exec.{Peer}
use Rattle.session_model.proofs.UserDedup.Owned.{contains_here, contains_later, contains_nothing}
use Rattle.session_model.specs.UploadJob.news.LaneNews.{LaneNews}
use Rattle.session_model.specs.UploadJob.Upload.{Work}
use Rattle.session_model.specs.UploadJob.Lane.{LaneState, Asking, Sending, Committing, Done, Refused, lane_request, unflagged}
use Rattle.session_model.specs.UploadJob.Lanes.{LaneView}
use Rattle.session_model.specs.LaneSteps.Runs.{LaneTurn, Progress, LaneRun, Tell, progress_after, moved}
use Rattle.session_model.specs.Vault.{Setting, Vault, HasVaultExecuted, served_at}
use Rattle.session_model.specs.Steps.{Moment, executed, moment_of}
use Rattle.two_worlds.specs.Worlds.{sent_strings}
use Rattle.two_worlds.proofs.Alone.{Apart, Among}
use Rattle.two_worlds.proofs.Peers.{Plain, plain, exec_told, own_peer, IsCalmPeer, calm_exec, other_exec, own_exec, as_exec}
use Rattle.two_worlds.proofs.Numbers.{own_jobs}

-- ---- the user's own

abbrev pub own_peers : UserId → (ℕ → Cloud) → (ℕ → Peer) → ℕ → Peer
own_peers u k peers c = own_peer u (k c) (peers c)

abbrev pub own_vault : UserId → (ℕ → Cloud) → Vault → Vault
own_vault u k v = record { peers = own_peers u k v.peers; jobs = own_jobs u v.jobs }

abbrev pub own_moment : UserId → (ℕ → Cloud) → Moment → Moment
own_moment u k m = record { peers = own_peers u k m.peers; event = m.event }

abbrev pub own_turn : UserId → (ℕ → Cloud) → LaneTurn (ℕ → Peer) → LaneTurn (ℕ → Peer)
own_turn u k t = record { before = own_peers u k t.before; request = t.request; reply = t.reply }

-- ---- counts that don't rise

abbrev pub Up : (ℕ → Peer) → (ℕ → Peer) → Type 0
Up old new = (c : ℕ) → (old c).faults ≤ (new c).faults

abbrev pub Still : ℕ → (ℕ → Peer) → (ℕ → Peer) → Type 0
Still n old new = (c : ℕ) → c < n → Rose (old c).faults (new c).faults → ⊥

rose_first : (a b c : ℕ) → b ≤ c → Rose a b → Rose a c
rose_first a b c up rose = omega (arith, up, rose)

rose_last : (a b c : ℕ) → a ≤ b → Rose b c → Rose a c
rose_last a b c up rose = omega (arith, up, rose)

pub still_first : (n : ℕ) (old mid new : ℕ → Peer) → Up mid new → Still n old new → Still n old mid
still_first n old mid new up still c below rose = still c below (rose_first (old c).faults (mid c).faults (new c).faults (up c) rose)

pub still_last : (n : ℕ) (old mid new : ℕ → Peer) → Up old mid → Still n old new → Still n mid new
still_last n old mid new up still c below rose = still c below (rose_last (old c).faults (mid c).faults (new c).faults (up c) rose)

up_all : (a b c : ℕ) → a ≤ b → b ≤ c → a ≤ c
up_all a b c one two = omega (arith, one, two)

pub up_join : (old mid new : ℕ → Peer) → Up old mid → Up mid new → Up old new
up_join old mid new one two c = up_all (old c).faults (mid c).faults (new c).faults (one c) (two c)

pub up_same : (old new : ℕ → Peer) → new ≡ old → Up old new
up_same old new e c = subst (λ (q : ℕ → Peer). (old c).faults ≤ (q c).faults) (sym e) (let same : (old c).faults ≤ (old c).faults = omega arith in same)

module _ (s : Setting) where
  pub executes_up : (cloud : ℕ) (old new : ℕ → Peer) (request : Request) (reply : Reply) → HasVaultExecuted s cloud old request reply new → Up old new
  executes_up cloud old new request reply x c = elim (cases_eq c cloud) [
    | inl same ↦ subst (λ (d : ℕ). (old d).faults ≤ (new d).faults) (sym same) x.does.counts.faults
    | inr ne ↦ subst (λ (q : Peer). (old c).faults ≤ q.faults) (sym (x.others c ne)) (let same : (old c).faults ≤ (old c).faults = omega arith in same)
  ]

  pub run_up : (cloud : ℕ) (p : Progress) (old : ℕ → Peer) (turns : List (LaneTurn (ℕ → Peer))) (last : Progress) (new : ℕ → Peer) → LaneRun (HasVaultExecuted s cloud) p old turns last new → Up old new
  run_up cloud p old [] last new run = up_same old new run.2
  run_up cloud p old (t ∷ turns) last new run =
      up_join old run.3.0 new (executes_up cloud old run.3.0 t.request t.reply run.3.1) (run_up cloud (progress_after p t.reply) run.3.0 turns last new run.3.2)

-- ---- what the session is known to disperse

-- the strings at a moment are among these
pub record KnownAt (In : ℕ → List ℕ → Type 0) (m : Moment) : Type 0 where
  pub lists : (c : ℕ) (x : List ℕ) → Contains (strings_in (m.peers c).list) x → In c x
  pub sent : IfSome m.event (λ e. (x : List ℕ) → Contains (sent_strings e.request) x → In e.cloud x)

abbrev pub Known : (ℕ → List ℕ → Type 0) → List Moment → Type 0
Known In moments = (m : Moment) → Contains moments m → KnownAt In m

pub known_first : (In : ℕ → List ℕ → Type 0) (m : Moment) (ms : List Moment) → Known In (m ∷ ms) → KnownAt In m
known_first In m ms known = known m (contains_here m ms)

pub known_rest : (In : ℕ → List ℕ → Type 0) (m : Moment) (ms : List Moment) → Known In (m ∷ ms) → Known In ms
known_rest In m ms known x has = known x (contains_later m ms x has)

-- ---- lanes

-- what a lane asks is its user's
pub lane_asker : (w : Work) (state : LaneState) (request : Request) → lane_request w state ≡ Some request → asker request ≡ w.user
lane_asker w (Asking batch rest) request e =
    ap asker (let f : Some request ≡ Some (requests.Query w.user (map fingerprint batch)) = sym e in let g : request ≡ requests.Query w.user (map fingerprint batch) = cc in g)
lane_asker w (Sending batch flags rest) request e =
    ap asker (let f : Some request ≡ Some (requests.Put w.user (unflagged batch flags)) = sym e in let g : request ≡ requests.Put w.user (unflagged batch flags) = cc in g)
lane_asker w Committing request e =
    ap asker (let f : Some request ≡ Some (requests.Commit w.user w.tag w.version w.recipe) = sym e in let g : request ≡ requests.Commit w.user w.tag w.version w.recipe = cc in g)
lane_asker w Done request e = absurd (let no : None ≡ Some request = e in cc)
lane_asker w Refused request e = absurd (let no : None ≡ Some request = e in cc)

module _ (s : Setting) (u : UserId) (k : ℕ → Cloud) (In : ℕ → List ℕ → Type 0) where
  -- the clouds are told, and no two strings of one share a SHA-256
  pub record Premises : Type 0 where
    pub told : (c : ℕ) → c < s.shape.n → s.told c ≡ true
    pub apart : (c : ℕ) → c < s.shape.n → Apart (In c)

  -- nothing is pending anywhere, the user's entries name what the user owns, and nothing stands beyond the clouds
  pub record CalmPeers (peers : ℕ → Peer) : Type 0 where
    pub each : (c : ℕ) → IsCalmPeer s.shape u (peers c)
    pub beyond : (c : ℕ) → s.shape.n ≤ c → (peers c).list ≡ []

  pub apart_lists : Premises → (m : Moment) → CalmPeers m.peers → KnownAt In m → (c : ℕ) → Apart (Contains (strings_in (m.peers c).list))
  apart_lists prem m calm known c one other a b = elim (cases_lt c s.shape.n) [
    | inl below ↦ prem.apart c below one other (known.lists c one a) (known.lists c other b)
    | inr over ↦ absurd (contains_nothing one (subst (λ (l : List Command). Contains (strings_in l) one) (calm.beyond c over) a))
  ]

  module _ (prem : Premises) (cloud : ℕ) (below : cloud < s.shape.n) where
    plain_executes : (old new : ℕ → Peer) (request : Request) (reply : Reply) → CalmPeers old → (Rose (old cloud).faults (new cloud).faults → ⊥) → HasVaultExecuted s cloud old request reply new
        → Plain (served_at s cloud) (old cloud) request reply (new cloud)
    plain_executes old new request reply calm still x =
        plain s.shape (served_at s cloud) (old cloud) request reply (new cloud) (calm.each cloud).pending still
        (exec_told s.shape (s.told cloud) (served_at s cloud) (old cloud) request reply (new cloud) (prem.told cloud below) x.does)

    pub calm_executes : (old new : ℕ → Peer) (request : Request) (reply : Reply) → CalmPeers old → Still s.shape.n old new → HasVaultExecuted s cloud old request reply new → CalmPeers new
    calm_executes old new request reply calm still x = record {
      each = λ c. elim (cases_eq c cloud) [
        | inl same ↦ subst (λ (d : ℕ). IsCalmPeer s.shape u (new d)) (sym same)
            (calm_exec s u (k cloud) cloud (old cloud) request reply (new cloud) (plain_executes old new request reply calm (still cloud below) x) (calm.each cloud))
        | inr ne ↦ subst (IsCalmPeer s.shape u) (sym (x.others c ne)) (calm.each c)
      ];
      beyond = λ c over. ap (λ (q : Peer). q.list) (x.others c (λ same. let e : c ≡ cloud = same in omega (arith, e, over, below))) ∙ calm.beyond c over;
    }

    pub other_executes : (old new : ℕ → Peer) (request : Request) (reply : Reply) → CalmPeers old → Still s.shape.n old new → HasVaultExecuted s cloud old request reply new → (asker request).0 ≢ u.0
        → own_peers u k new ≡ own_peers u k old
    other_executes old new request reply calm still x other = λ i c. at c i
      where
        at : (c : ℕ) → own_peer u (k c) (new c) ≡ own_peer u (k c) (old c)
        at c = elim (cases_eq c cloud) [
          | inl same ↦ subst (λ (d : ℕ). own_peer u (k d) (new d) ≡ own_peer u (k d) (old d)) (sym same)
              (other_exec s u (k cloud) cloud (old cloud) request reply (new cloud) (plain_executes old new request reply calm (still cloud below) x) other)
          | inr ne ↦ ap (own_peer u (k c)) (x.others c ne)
        ]

    pub own_executes : (old new : ℕ → Peer) (request : Request) (reply : Reply) → CalmPeers old → Still s.shape.n old new → HasVaultExecuted s cloud old request reply new → asker request ≡ u
        → KnownAt In (executed old cloud request reply) → HasVaultExecuted s cloud (own_peers u k old) request reply (own_peers u k new)
    own_executes old new request reply calm still x same known = record {
      does = as_exec s u (k cloud) cloud (own_peer u (k cloud) (old cloud)) request reply (own_peer u (k cloud) (new cloud)) (prem.told cloud below)
          (own_exec s u (k cloud) cloud (old cloud) request reply (new cloud) (plain_executes old new request reply calm (still cloud below) x) same apart) refl;
      others = λ c ne. ap (own_peer u (k c)) (x.others c ne);
    }
      where
        among : (x : List ℕ) → Among (old cloud).list request x → In cloud x
        among x (inl has) = known.lists cloud x has
        among x (inr has) = known.sent x has

        apart : Apart (Among (old cloud).list request)
        apart one other a b = prem.apart cloud below one other (among one a) (among other b)

    pub calm_run : (p : Progress) (old : ℕ → Peer) (turns : List (LaneTurn (ℕ → Peer))) (last : Progress) (new : ℕ → Peer) → LaneRun (HasVaultExecuted s cloud) p old turns last new
        → CalmPeers old → Still s.shape.n old new → CalmPeers new
    calm_run p old [] last new run calm still = subst CalmPeers (sym run.2) calm
    calm_run p old (t ∷ turns) last new run calm still =
        let rest = run_up s cloud (progress_after p t.reply) run.3.0 turns last new run.3.2 in
        let one = executes_up s cloud old run.3.0 t.request t.reply run.3.1 in
        calm_run (progress_after p t.reply) run.3.0 turns last new run.3.2
        (calm_executes old run.3.0 t.request t.reply calm (still_first s.shape.n old run.3.0 new rest still) run.3.1)
        (still_last s.shape.n old run.3.0 new one still)

    pub other_run : (p : Progress) (old : ℕ → Peer) (turns : List (LaneTurn (ℕ → Peer))) (last : Progress) (new : ℕ → Peer) → LaneRun (HasVaultExecuted s cloud) p old turns last new
        → CalmPeers old → Still s.shape.n old new → p.lane.work.user.0 ≢ u.0 → own_peers u k new ≡ own_peers u k old
    other_run p old [] last new run calm still other = ap (own_peers u k) run.2
    other_run p old (t ∷ turns) last new run calm still other =
        let rest = run_up s cloud (progress_after p t.reply) run.3.0 turns last new run.3.2 in
        let one = executes_up s cloud old run.3.0 t.request t.reply run.3.1 in
        let first = still_first s.shape.n old run.3.0 new rest still in
        other_run (progress_after p t.reply) run.3.0 turns last new run.3.2
        (calm_executes old run.3.0 t.request t.reply calm first run.3.1)
        (still_last s.shape.n old run.3.0 new one still) other
        ∙ other_executes old run.3.0 t.request t.reply calm first run.3.1
        (λ same. other (sym (ap (λ (w : UserId). w.0) (lane_asker p.lane.work p.lane.state t.request run.2)) ∙ same))

    pub own_run : (p : Progress) (old : ℕ → Peer) (turns : List (LaneTurn (ℕ → Peer))) (last : Progress) (new : ℕ → Peer) → LaneRun (HasVaultExecuted s cloud) p old turns last new
        → CalmPeers old → Still s.shape.n old new → p.lane.work.user ≡ u → Known In (map (moment_of cloud) turns)
        → LaneRun (HasVaultExecuted s cloud) p (own_peers u k old) (map (own_turn u k) turns) last (own_peers u k new)
    own_run p old [] last new run calm still same known = (run.0, run.1, ap (own_peers u k) run.2)
    own_run p old (t ∷ turns) last new run calm still same known =
        let rest = run_up s cloud (progress_after p t.reply) run.3.0 turns last new run.3.2 in
        let one = executes_up s cloud old run.3.0 t.request t.reply run.3.1 in
        let first = still_first s.shape.n old run.3.0 new rest still in
        let here = known_first In (moment_of cloud t) (map (moment_of cloud) turns) known in (
          run.0,
          ap (own_peers u k) run.1,
          run.2,
          (
            own_peers u k run.3.0,
            own_executes old run.3.0 t.request t.reply calm first run.3.1 (lane_asker p.lane.work p.lane.state t.request run.2 ∙ same)
                (subst (λ (peers : ℕ → Peer). KnownAt In (executed peers cloud t.request t.reply)) run.1 here),
            own_run (progress_after p t.reply) run.3.0 turns last new run.3.2
                (calm_executes old run.3.0 t.request t.reply calm first run.3.1)
                (still_last s.shape.n old run.3.0 new one still) same (known_rest In (moment_of cloud t) (map (moment_of cloud) turns) known),
          ),
        )

module _ (u : UserId) (k : ℕ → Cloud) where
  -- what turns tell
  pub own_tell : (lane : LaneView) (turns : List (LaneTurn (ℕ → Peer))) (news : List LaneNews) → Tell lane turns news → Tell lane (map (own_turn u k) turns) news
  own_tell lane [] news x = x
  own_tell lane (t ∷ turns) news x = (x.0, x.1, x.2, own_tell (moved lane t.reply) turns x.1 x.3, x.4)

  pub own_moments : (cloud : ℕ) (turns : List (LaneTurn (ℕ → Peer))) → map (own_moment u k) (map (moment_of cloud) turns) ≡ map (moment_of cloud) (map (own_turn u k) turns)
  own_moments cloud [] = refl
  own_moments cloud (t ∷ turns) = ap (λ (l : List Moment). moment_of cloud (own_turn u k t) ∷ l) (own_moments cloud turns)
