-- A session over told clouds whose counts don't rise: there is one answer to each line.
use Rattle.std.proofs.Common.{◌≡◌, ℕ, ◌-◌, ◌<◌, true, false, List, [], ◌∷◌, ◌++◌, length, map, Option, Some, None, Result, Ok, Err, refl, sym, ap, ◌∙◌, subst, inl, inr, ◌⊎◌, arith}
use Rattle.std.specs.Prelude.{All, IsTrue, slice_get}
use Rattle.std.specs.List.{Contains}
use Rattle.std.proofs.lemmas.Bool.{cases_eq, cases_lt}
use Rattle.std.proofs.lemmas.List.Elements.{All-contains}
use Rattle.recipe.specs.CdBase.ids.Tag.{Tag}
use Rattle.recipe.specs.CdBase.ids.UserId.{UserId}
use Rattle.recipe.specs.CdBase.ids.Version.{Version}
use Rattle.session_model.specs.CdEdges.Causes.{Rose}
use Rattle.session_model.specs.MessageFields.Keys.{key_limit}
use Rattle.session_model.specs.Messages.request.Request.{Request}
use Rattle.session_model.specs.Messages.reply.Reply.{Reply}
use Rattle.session_model.specs.Messages.reply.Reply.TheVariants as replies
use Rattle.session_model.specs.UserDedup.Exec.{Peer}
use Rattle.session_model.proofs.UserDedup.Owned.{contains_here, contains_later}
use Rattle.session_model.specs.UploadJob.news.LaneNews.{LaneNews}
use Rattle.session_model.specs.UploadJob.Lane.{news_of}
use Rattle.session_model.specs.UploadJob.Lanes.{LaneView, with_state}
use Rattle.session_model.specs.LaneSteps.Runs.{LaneTurn, Progress, LaneRun, Tell, starting, lane_at, moved, request_of, progress_after}
use Rattle.session_model.specs.RestoreJob.error.RestoreErr.{RestoreErr}
use Rattle.session_model.specs.RestoreJob.error.RestoreErr.TheVariants as errors
use Rattle.session_model.specs.RestoreJob.Asking.{AreOnlyAsked, is_lost}
use Rattle.session_model.specs.RestoreJob.Reading.{Ends}
use Rattle.session_model.specs.RestoreJob.Restored
use Rattle.session_model.specs.RestoreJob.Restored.{Unrestored}
use Rattle.session_model.specs.CaontRs.opening.RecoverErr.TheVariants as opening
use Rattle.session_model.specs.SubsetRestore.Ends.{any_outcome}
use Rattle.session_model.specs.SubsetRestore.Going.{sought}
use Rattle.session_model.specs.Transcript.refusal.Refusal.{Refusal}
use Rattle.session_model.specs.Transcript.refusal.Refusal.TheVariants as refusals
use Rattle.session_model.specs.Transcript.line.Line.{Line}
use Rattle.session_model.specs.Transcript.line.Line.TheVariants as lines
use Rattle.session_model.specs.Vault.{Setting, Vault, HasVaultExecuted, lanes_of, with_lanes, served_at, with_peer}
use Rattle.session_model.specs.Steps.{Moment, executed, moment_of, cloud_no, step_line, stored_line, LaneStep, DropStep, FinishLanes, IsGetLine, GetStep, EndsListing, behind_page, ListRun}
use Rattle.session_model.proofs.With.{with_here, with_other}
use Rattle.two_worlds.proofs.Peers.{Plain, plain, peer_after, exec_told, read_same}
use Rattle.two_worlds.proofs.Own.{Up, Still, still_first, still_last, up_join, up_same, executes_up, run_up}

-- nothing is pending anywhere
abbrev pub Rested : (ℕ → Peer) → Type 0
Rested peers = (c : ℕ) → (peers c).pending ≡ None

pub some_same : {A : Type 0} (a b : A) → Some a ≡ Some b → a ≡ b
some_same a b e = let f : Some a ≡ Some b = e in cc

-- ---- runs whose step is a function

module _ {S : Type 0} (next : S → Request → S) (said : S → Request → Reply) where
  -- the step is that of these functions
  abbrev pub Does : S → Request → Reply → S → Type 0
  Does old request reply new = (reply ≡ said old request) × (new ≡ next old request)

  goes_on : (p : Progress) (request : Request) → p.stopped ≡ false → request_of p.lane ≡ Some request → IsTrue p.stopped ⊎ (request_of p.lane ≡ None) → ⊥
  goes_on p request off asks (inl on) = let no : false ≡ true = sym off ∙ on in cc
  goes_on p request off asks (inr none) = let no : None ≡ Some request = sym none ∙ asks in cc

  pub run_once : (p : Progress) (old : S) (t1 t2 : List (LaneTurn S)) (l1 l2 : Progress) (n1 n2 : S) → LaneRun Does p old t1 l1 n1 → LaneRun Does p old t2 l2 n2 → (t1 ≡ t2) × (l1 ≡ l2) × (n1 ≡ n2)
  run_once p old [] [] l1 l2 n1 n2 x y = (refl, x.1 ∙ sym y.1, x.2 ∙ sym y.2)
  run_once p old [] (t ∷ t2) l1 l2 n1 n2 x y = absurd (goes_on p t.request y.0 y.2 x.0)
  run_once p old (t ∷ t1) [] l1 l2 n1 n2 x y = absurd (goes_on p t.request x.0 x.2 y.0)
  run_once p old (t ∷ t1) (v ∷ t2) l1 l2 n1 n2 x y =
      let request = some_same t.request v.request (sym x.2 ∙ y.2) in
      let before = x.1 ∙ sym y.1 in
      let reply : t.reply ≡ v.reply = x.3.1.0 ∙ ap (said old) request ∙ sym y.3.1.0 in
      let mid : x.3.0 ≡ y.3.0 = x.3.1.1 ∙ ap (next old) request ∙ sym y.3.1.1 in
      let rest = run_once (progress_after p t.reply) x.3.0 t1 t2 l1 l2 n1 n2 x.3.2
      (subst (λ (q : S). LaneRun Does (progress_after p t.reply) q t2 l2 n2) (sym mid) (subst (λ (r : Reply). LaneRun Does (progress_after p r) y.3.0 t2 l2 n2) (sym reply) y.3.2)) in
      ((λ i. record { before = before i; request = request i; reply = reply i } ∷ rest.0 i), rest.1, rest.2)

pub tell_once : {S : Type 0} (lane : LaneView) (turns : List (LaneTurn S)) (one two : List LaneNews) → Tell lane turns one → Tell lane turns two → one ≡ two
tell_once lane [] one two x y = x ∙ sym y
tell_once lane (t ∷ turns) one two x y =
    let head = some_same x.0 y.0 (sym x.2 ∙ y.2) in
    let rest = tell_once (moved lane t.reply) turns x.1 y.1 x.3 y.3 in
    x.4 ∙ (λ i. head i ∷ rest i) ∙ sym y.4

-- ---- one request

module _ (s : Setting) (told : (c : ℕ) → c < s.shape.n → s.told c ≡ true) where
  module _ (cloud : ℕ) (below : cloud < s.shape.n) where
    abbrev next_at : (ℕ → Peer) → Request → ℕ → Peer
    next_at old request = with_peer old cloud (peer_after (served_at s cloud) (old cloud) request)

    abbrev said_at : (ℕ → Peer) → Request → Reply
    said_at old request = (served_at s cloud (old cloud).list request).reply

    plainly : (old new : ℕ → Peer) (request : Request) (reply : Reply) → Rested old → (Rose (old cloud).faults (new cloud).faults → ⊥) → HasVaultExecuted s cloud old request reply new
        → Plain (served_at s cloud) (old cloud) request reply (new cloud)
    plainly old new request reply rested still x =
        plain s.shape (served_at s cloud) (old cloud) request reply (new cloud) (rested cloud) still
        (exec_told s.shape (s.told cloud) (served_at s cloud) (old cloud) request reply (new cloud) (told cloud below) x.does)

    pub executes_so : (old new : ℕ → Peer) (request : Request) (reply : Reply) → Rested old → Still s.shape.n old new → HasVaultExecuted s cloud old request reply new → Does next_at said_at old request reply new
    executes_so old new request reply rested still x =
        let p = plainly old new request reply rested (still cloud below) x in (p.reply_is, (λ i c. at c i))
      where
        at : (c : ℕ) → new c ≡ next_at old request c
        at c = elim (cases_eq c cloud) [
          | inl same ↦ subst (λ (d : ℕ). new d ≡ next_at old request d) (sym same)
              ((plainly old new request reply rested (still cloud below) x).after ∙ sym (with_here old cloud (peer_after (served_at s cloud) (old cloud) request)))
          | inr ne ↦ x.others c ne ∙ sym (with_other old cloud (peer_after (served_at s cloud) (old cloud) request) c ne)
        ]

    pub rested_executes : (old new : ℕ → Peer) (request : Request) (reply : Reply) → Rested old → Still s.shape.n old new → HasVaultExecuted s cloud old request reply new → Rested new
    rested_executes old new request reply rested still x c = elim (cases_eq c cloud) [
      | inl same ↦ subst (λ (d : ℕ). (new d).pending ≡ None) (sym same) (ap (λ (q : Peer). q.pending) (plainly old new request reply rested (still cloud below) x).after)
      | inr ne ↦ ap (λ (q : Peer). q.pending) (x.others c ne) ∙ rested c
    ]

    pub executes_once : (old one two : ℕ → Peer) (request : Request) (r1 r2 : Reply) → Rested old → Still s.shape.n old one → Still s.shape.n old two
        → HasVaultExecuted s cloud old request r1 one → HasVaultExecuted s cloud old request r2 two → (r1 ≡ r2) × (one ≡ two)
    executes_once old one two request r1 r2 rested still1 still2 x y =
        let p = executes_so old one request r1 rested still1 x in
        let q = executes_so old two request r2 rested still2 y in
        (p.0 ∙ sym q.0, p.1 ∙ sym q.1)

    run_so : (p : Progress) (old : ℕ → Peer) (turns : List (LaneTurn (ℕ → Peer))) (last : Progress) (new : ℕ → Peer) → Rested old → Still s.shape.n old new
        → LaneRun (HasVaultExecuted s cloud) p old turns last new → LaneRun (Does next_at said_at) p old turns last new
    run_so p old [] last new rested still run = run
    run_so p old (t ∷ turns) last new rested still run =
        let one = executes_up s cloud old run.3.0 t.request t.reply run.3.1 in
        let rest = run_up s cloud (progress_after p t.reply) run.3.0 turns last new run.3.2 in
        let first = still_first s.shape.n old run.3.0 new rest still in (
          run.0,
          run.1,
          run.2,
          (
            run.3.0,
            executes_so old run.3.0 t.request t.reply rested first run.3.1,
            run_so (progress_after p t.reply) run.3.0 turns last new (rested_executes old run.3.0 t.request t.reply rested first run.3.1) (still_last s.shape.n old run.3.0 new one still) run.3.2,
          ),
        )

    rested_run : (p : Progress) (old : ℕ → Peer) (turns : List (LaneTurn (ℕ → Peer))) (last : Progress) (new : ℕ → Peer) → Rested old → Still s.shape.n old new
        → LaneRun (HasVaultExecuted s cloud) p old turns last new → Rested new
    rested_run p old [] last new rested still run = subst Rested (sym run.2) rested
    rested_run p old (t ∷ turns) last new rested still run =
        let one = executes_up s cloud old run.3.0 t.request t.reply run.3.1 in
        let rest = run_up s cloud (progress_after p t.reply) run.3.0 turns last new run.3.2 in
        rested_run (progress_after p t.reply) run.3.0 turns last new
        (rested_executes old run.3.0 t.request t.reply rested (still_first s.shape.n old run.3.0 new rest still) run.3.1)
        (still_last s.shape.n old run.3.0 new one still) run.3.2

  -- what two steps of one line have in common
  pub record Once (a1 a2 : List Line) (m1 m2 : List Moment) (n1 n2 : Vault) : Type 0 where
    pub answers : a1 ≡ a2
    pub moments : m1 ≡ m2
    pub new : n1 ≡ n2
    pub rested : Rested n1.peers

  vaults : (v w : Vault) → v.peers ≡ w.peers → v.jobs ≡ w.jobs → v ≡ w
  vaults v w p j = λ i. record { peers = p i; jobs = j i }

  -- ---- steps of lanes

  module _ (job cloud : ℕ) (below : cloud < s.shape.n) (old : Vault) (a1 a2 : List Line) (m1 m2 : List Moment) (n1 n2 : Vault)
      (rested : Rested old.peers) (still1 : Still s.shape.n old.peers n1.peers) (still2 : Still s.shape.n old.peers n2.peers) where
    pub lane_once : (request : Option Request) → LaneStep s job cloud request old a1 m1 n1 → LaneStep s job cloud request old a2 m2 n2 → Once a1 a2 m1 m2 n1 n2
    lane_once None x y = record { answers = x.0 ∙ sym y.0; moments = x.1 ∙ sym y.1; new = x.2 ∙ sym y.2; rested = subst (λ (v : Vault). Rested v.peers) (sym x.2) rested }
    lane_once (Some request) x y =
        let views = lanes_of old.jobs job in
        let same = executes_once cloud below old.peers n1.peers n2.peers request x.0 y.0 rested still1 still2 x.3 y.3 in
        let heard = some_same x.1 y.1 (sym x.5 ∙ ap (news_of (lane_at views cloud).state) same.0 ∙ y.5) in
        let after = x.6 ∙ ap (λ (r : Reply). with_state views cloud (moved (lane_at views cloud) r).state) same.0 ∙ sym y.6 in
        record {
          answers = x.8 ∙ (λ i. step_line job cloud (heard i) ∷ stored_line job views (after i)) ∙ sym y.8;
          moments = x.4 ∙ ap (λ (r : Reply). executed old.peers cloud request r ∷ []) same.0 ∙ sym y.4;
          new = vaults n1 n2 same.1 (x.7 ∙ ap (with_lanes old.jobs job) after ∙ sym y.7);
          rested = rested_executes cloud below old.peers n1.peers request x.0 rested still1 x.3;
        }

    pub drop_once : (request : Option Request) → DropStep s job cloud request old a1 m1 n1 → DropStep s job cloud request old a2 m2 n2 → Once a1 a2 m1 m2 n1 n2
    drop_once None x y = record { answers = x.0 ∙ sym y.0; moments = x.1 ∙ sym y.1; new = x.2 ∙ sym y.2; rested = subst (λ (v : Vault). Rested v.peers) (sym x.2) rested }
    drop_once (Some request) x y =
        let same = executes_once cloud below old.peers n1.peers n2.peers request x.0 y.0 rested still1 still2 x.1 y.1 in
        record {
          answers = x.4 ∙ sym y.4;
          moments = x.2 ∙ ap (λ (r : Reply). executed old.peers cloud request r ∷ []) same.0 ∙ sym y.2;
          new = vaults n1 n2 same.1 (x.3 ∙ sym y.3);
          rested = rested_executes cloud below old.peers n1.peers request x.0 rested still1 x.1;
        }

  finish_up : (job : ℕ) (clouds : List ℕ) (old : Vault) (answers : List Line) (moments : List Moment) (new : Vault) → FinishLanes s job clouds old answers moments new → Up old.peers new.peers
  finish_up job [] old answers moments new f = up_same old.peers new.peers (ap (λ (v : Vault). v.peers) f.2)
  finish_up job (cloud ∷ clouds) old answers moments new f =
      up_join old.peers f.3.peers new.peers (run_up s cloud _ old.peers f.0 f.1 f.3.peers f.7) (finish_up job clouds f.3 f.5 f.6 new f.13)

  pub finish_once : (job : ℕ) (clouds : List ℕ) → ((c : ℕ) → Contains clouds c → c < s.shape.n) → (old : Vault) (a1 a2 : List Line) (m1 m2 : List Moment) (n1 n2 : Vault)
      → Rested old.peers → Still s.shape.n old.peers n1.peers → Still s.shape.n old.peers n2.peers
      → FinishLanes s job clouds old a1 m1 n1 → FinishLanes s job clouds old a2 m2 n2 → Once a1 a2 m1 m2 n1 n2
  finish_once job [] below old a1 a2 m1 m2 n1 n2 rested still1 still2 x y =
      record { answers = x.0 ∙ sym y.0; moments = x.1 ∙ sym y.1; new = x.2 ∙ sym y.2; rested = subst (λ (v : Vault). Rested v.peers) (sym x.2) rested }
  finish_once job (cloud ∷ clouds) below old a1 a2 m1 m2 n1 n2 rested still1 still2 x y =
      let views = lanes_of old.jobs job in
      let here = below cloud (contains_here cloud clouds) in
      let start = starting (lane_at views cloud) in
      let rest1 = finish_up job clouds x.3 x.5 x.6 n1 x.13 in
      let rest2 = finish_up job clouds y.3 y.5 y.6 n2 y.13 in
      let first1 = still_first s.shape.n old.peers x.3.peers n1.peers rest1 still1 in
      let first2 = still_first s.shape.n old.peers y.3.peers n2.peers rest2 still2 in
      let same = run_once (next_at cloud here) (said_at cloud here) start old.peers x.0 y.0 x.1 y.1 x.3.peers y.3.peers
      (run_so cloud here start old.peers x.0 x.1 x.3.peers rested first1 x.7) (run_so cloud here start old.peers y.0 y.1 y.3.peers rested first2 y.7) in
      let told_same = tell_once (lane_at views cloud) x.0 x.2 y.2 x.8 (subst (λ (t : List (LaneTurn (ℕ → Peer))). Tell (lane_at views cloud) t y.2) (sym same.0) y.8) in
      let after = x.9 ∙ ap (λ (p : Progress). with_state views cloud p.lane.state) same.1 ∙ sym y.9 in
      let mid = vaults x.3 y.3 same.2 (x.10 ∙ ap (with_lanes old.jobs job) after ∙ sym y.10) in
      let one = run_up s cloud start old.peers x.0 x.1 x.3.peers x.7 in
      let two = run_up s cloud start old.peers y.0 y.1 y.3.peers y.7 in
      let rest = finish_once job clouds (λ c has. below c (contains_later cloud clouds c has)) x.3 x.5 y.5 x.6 y.6 n1 n2
      (rested_run cloud here start old.peers x.0 x.1 x.3.peers rested first1 x.7)
      (still_last s.shape.n old.peers x.3.peers n1.peers one still1)
      (subst (λ (v : Vault). Still s.shape.n v.peers n2.peers) (sym mid) (still_last s.shape.n old.peers y.3.peers n2.peers two still2))
      x.13 (subst (λ (v : Vault). FinishLanes s job clouds v y.5 y.6 n2) (sym mid) y.13) in
      record {
        answers = x.11 ∙ (λ i. map (step_line job cloud) (told_same i) ++ stored_line job views (after i) ++ rest.answers i) ∙ sym y.11;
        moments = x.12 ∙ (λ i. map (moment_of cloud) (same.0 i) ++ rest.moments i) ∙ sym y.12;
        new = rest.new;
        rested = rest.rested;
      }

  -- ---- a list

  ends_once : (cloud : ℕ) (reply : Reply) (l1 l2 : Result (List (Tag × Version)) Refusal) → EndsListing cloud reply l1 → EndsListing cloud reply l2 → l1 ≡ l2
  ends_once cloud (replies.Entries page) l1 l2 x y = x.1 ∙ sym y.1
  ends_once cloud replies.Fault l1 l2 x y = x.2 ∙ ap (λ (w : Refusal). Err w) (some_same x.0 y.0 (sym x.1 ∙ y.1)) ∙ sym y.2
  ends_once cloud (replies.Damaged at byte) l1 l2 x y = x.2 ∙ ap (λ (w : Refusal). Err w) (some_same x.0 y.0 (sym x.1 ∙ y.1)) ∙ sym y.2
  ends_once cloud (replies.Rotten named found) l1 l2 x y = x.2 ∙ ap (λ (w : Refusal). Err w) (some_same x.0 y.0 (sym x.1 ∙ y.1)) ∙ sym y.2
  ends_once cloud replies.NoMemory l1 l2 x y = x.2 ∙ ap (λ (w : Refusal). Err w) (some_same x.0 y.0 (sym x.1 ∙ y.1)) ∙ sym y.2
  ends_once cloud (replies.Hello n k c format) l1 l2 x y = absurd (let no : None ≡ Some x.0 = x.1 in cc)
  ends_once cloud (replies.Known flags) l1 l2 x y = absurd (let no : None ≡ Some x.0 = x.1 in cc)
  ends_once cloud (replies.Stored new) l1 l2 x y = absurd (let no : None ≡ Some x.0 = x.1 in cc)
  ends_once cloud replies.Committed l1 l2 x y = absurd (let no : None ≡ Some x.0 = x.1 in cc)
  ends_once cloud replies.Exists l1 l2 x y = absurd (let no : None ≡ Some x.0 = x.1 in cc)
  ends_once cloud (replies.Lacking place) l1 l2 x y = absurd (let no : None ≡ Some x.0 = x.1 in cc)
  ends_once cloud (replies.Recipe bytes) l1 l2 x y = absurd (let no : None ≡ Some x.0 = x.1 in cc)
  ends_once cloud replies.Missing l1 l2 x y = absurd (let no : None ≡ Some x.0 = x.1 in cc)
  ends_once cloud (replies.Shares shares) l1 l2 x y = absurd (let no : None ≡ Some x.0 = x.1 in cc)
  ends_once cloud (replies.NotYours place) l1 l2 x y = absurd (let no : None ≡ Some x.0 = x.1 in cc)
  ends_once cloud (replies.Full room used need limit) l1 l2 x y = absurd (let no : None ≡ Some x.0 = x.1 in cc)
  ends_once cloud (replies.Malformed at) l1 l2 x y = absurd (let no : None ≡ Some x.0 = x.1 in cc)
  ends_once cloud replies.Deleted l1 l2 x y = absurd (let no : None ≡ Some x.0 = x.1 in cc)

  -- a full page doesn't end a list
  full_page : (cloud : ℕ) (page : List (Tag × Version)) (l : Result (List (Tag × Version)) Refusal) → EndsListing cloud (replies.Entries page) l → length page ≡ key_limit → ⊥
  full_page cloud page l x full = let less = x.0 in omega (arith, less, full)

  module _ (user : UserId) (cloud : ℕ) (below : cloud < s.shape.n) where
    list_up : (above : Option (Tag × Version)) (old : ℕ → Peer) (turns : List (LaneTurn (ℕ → Peer))) (listed : Result (List (Tag × Version)) Refusal) (new : ℕ → Peer)
        → ListRun s user cloud above old turns listed new → Up old new
    list_up above old [] listed new run = absurd run
    list_up above old (t ∷ turns) listed new run =
        let one = executes_up s cloud old run.2.0 t.request t.reply run.2.1 in
        elim run.2.2 [
          | inl x ↦ up_join old run.2.0 new one (up_same run.2.0 new x.2)
          | inr x ↦ up_join old run.2.0 new one (list_up (slice_get x.0 (length x.0 - 1)) run.2.0 turns x.1 new x.5)
        ]

    abbrev Behind : Reply → List (LaneTurn (ℕ → Peer)) → (ℕ → Peer) → Result (List (Tag × Version)) Refusal → (ℕ → Peer) → Type 0
    Behind reply turns mid listed new =
        (EndsListing cloud reply listed × (turns ≡ []) × (new ≡ mid))
        ⊎ ((page : List (Tag × Version)) × (rest : Result (List (Tag × Version)) Refusal)
        × (reply ≡ replies.Entries page) × (length page ≡ key_limit) × (listed ≡ behind_page page rest)
        × ListRun s user cloud (slice_get page (length page - 1)) mid turns rest new)

    behind_up : (reply : Reply) (turns : List (LaneTurn (ℕ → Peer))) (mid : ℕ → Peer) (listed : Result (List (Tag × Version)) Refusal) (new : ℕ → Peer) → Behind reply turns mid listed new → Up mid new
    behind_up reply turns mid listed new (inl x) = up_same mid new x.2
    behind_up reply turns mid listed new (inr x) = list_up (slice_get x.0 (length x.0 - 1)) mid turns x.1 new x.5

    pub list_once : (above : Option (Tag × Version)) (old : ℕ → Peer) (t1 t2 : List (LaneTurn (ℕ → Peer))) (l1 l2 : Result (List (Tag × Version)) Refusal) (n1 n2 : ℕ → Peer)
        → Rested old → Still s.shape.n old n1 → Still s.shape.n old n2 → ListRun s user cloud above old t1 l1 n1 → ListRun s user cloud above old t2 l2 n2
        → (t1 ≡ t2) × (l1 ≡ l2) × (n1 ≡ n2) × Rested n1
    list_once above old [] t2 l1 l2 n1 n2 rested still1 still2 x y = absurd x
    list_once above old (t ∷ t1) [] l1 l2 n1 n2 rested still1 still2 x y = absurd y
    list_once above old (t ∷ t1) (v ∷ t2) l1 l2 n1 n2 rested still1 still2 x y =
        let request = x.1 ∙ sym y.1 in
        let up1 = behind_up t.reply t1 x.2.0 l1 n1 x.2.2 in
        let up2 = behind_up v.reply t2 y.2.0 l2 n2 y.2.2 in
        let first1 = still_first s.shape.n old x.2.0 n1 up1 still1 in
        let first2 = still_first s.shape.n old y.2.0 n2 up2 still2 in
        let same = executes_once cloud below old x.2.0 y.2.0 t.request t.reply v.reply rested first1 first2 x.2.1
        (subst (λ (r : Request). HasVaultExecuted s cloud old r v.reply y.2.0) (sym request) y.2.1) in
        let one = executes_up s cloud old x.2.0 t.request t.reply x.2.1 in
        let two = executes_up s cloud old y.2.0 v.request v.reply y.2.1 in
        let there = rested_executes cloud below old x.2.0 t.request t.reply rested first1 x.2.1 in
        let before = x.0 ∙ sym y.0 in
        let rest = by_ends there
        (still_last s.shape.n old x.2.0 n1 one still1)
        (subst (λ (m : ℕ → Peer). Still s.shape.n m n2) (sym same.1) (still_last s.shape.n old y.2.0 n2 two still2)) x.2.2
        (subst (λ (m : ℕ → Peer). Behind t.reply t2 m l2 n2) (sym same.1) (subst (λ (r : Reply). Behind r t2 y.2.0 l2 n2) (sym same.0) y.2.2))
        (λ above k1 k2. list_once above x.2.0 t1 t2 k1 k2 n1 n2) in
        ((λ i. record { before = before i; request = request i; reply = same.0 i } ∷ rest.0 i), rest.1, rest.2, rest.3)
      where
        by_ends : Rested x.2.0 → Still s.shape.n x.2.0 n1 → Still s.shape.n x.2.0 n2 → Behind t.reply t1 x.2.0 l1 n1 → Behind t.reply t2 x.2.0 l2 n2
            → ((above : Option (Tag × Version)) (k1 k2 : Result (List (Tag × Version)) Refusal) → Rested x.2.0 → Still s.shape.n x.2.0 n1 → Still s.shape.n x.2.0 n2
            → ListRun s user cloud above x.2.0 t1 k1 n1 → ListRun s user cloud above x.2.0 t2 k2 n2 → (t1 ≡ t2) × (k1 ≡ k2) × (n1 ≡ n2) × Rested n1)
            → (t1 ≡ t2) × (l1 ≡ l2) × (n1 ≡ n2) × Rested n1
        by_ends there s1 s2 (inl a) (inl b) again = (a.1 ∙ sym b.1, ends_once cloud t.reply l1 l2 a.0 b.0, a.2 ∙ sym b.2, subst Rested (sym a.2) there)
        by_ends there s1 s2 (inl a) (inr b) again = absurd (full_page cloud b.0 l1 (subst (λ (r : Reply). EndsListing cloud r l1) b.2 a.0) b.3)
        by_ends there s1 s2 (inr a) (inl b) again = absurd (full_page cloud a.0 l2 (subst (λ (r : Reply). EndsListing cloud r l2) a.2 b.0) a.3)
        by_ends there s1 s2 (inr a) (inr b) again =
            let f : replies.Entries a.0 ≡ replies.Entries b.0 = sym a.2 ∙ b.2 in
            let page : a.0 ≡ b.0 = cc in
            let rest = again (slice_get a.0 (length a.0 - 1)) a.1 b.1 there s1 s2 a.5
            (subst (λ (p : List (Tag × Version)). ListRun s user cloud (slice_get p (length p - 1)) x.2.0 t2 b.1 n2) (sym page) b.5) in
            (rest.0, a.4 ∙ (λ i. behind_page (page i) (rest.1 i)) ∙ sym b.4, rest.2, rest.3)

  -- ---- a get

  -- the line of an outcome
  abbrev line_of : Result (List ℕ) Unrestored → Line
  line_of (Ok file) = lines.Got file
  line_of (Err (Restored.Missing cloud)) = lines.Refused (refusals.Missing (cloud_no cloud))
  line_of (Err (Restored.RecipesDiffer a b place)) = lines.Refused (refusals.RecipesDiffer (cloud_no a) (cloud_no b) place)
  line_of (Err (Restored.ShareLength cloud secret found wanted)) = lines.Refused (refusals.ShareLength (cloud_no cloud) secret found wanted)
  line_of (Err (Restored.NotOpened secret (opening.BadSecret named found))) = lines.Refused (refusals.BadSecret secret named found)
  line_of (Err (Restored.NotOpened secret (opening.BadPad at byte))) = lines.Refused (refusals.BadPad secret at byte)
  line_of (Err (Restored.NotOpened secret opening.NoMemory)) = lines.Refused (refusals.BadPad secret 0 0)

  get_line : (o : Result (List ℕ) Unrestored) (clouds : List ℕ) (r : Result (Unit {0}) RestoreErr) (file : List ℕ) (line : Line) (peers : ℕ → Peer)
      → IsGetLine r file line → is_lost r ≡ false → ((c : ℕ) → Rose (peers c).faults (peers c).faults → c < s.shape.n → ⊥) → ((c : ℕ) → Contains clouds c → c < s.shape.n)
      → Ends o clouds r [] file peers peers → line ≡ line_of o
  get_line o clouds (Ok x) file line peers is found still within e = is ∙ ap (λ (f : List ℕ). lines.Got f) e.1 ∙ ap line_of (sym e.2)
  get_line o clouds (Err (errors.Missing cloud)) file line peers is found still within e =
      is.2 ∙ ap (λ (w : Refusal). lines.Refused w) (some_same is.0 (refusals.Missing cloud) (sym is.1)) ∙ ap line_of (sym e)
  get_line o clouds (Err (errors.RecipesDiffer a b place)) file line peers is found still within e =
      is.2 ∙ ap (λ (w : Refusal). lines.Refused w) (some_same is.0 (refusals.RecipesDiffer a b place) (sym is.1)) ∙ ap line_of (sym e)
  get_line o clouds (Err (errors.ShareLength cloud secret a b)) file line peers is found still within e =
      is.2 ∙ ap (λ (w : Refusal). lines.Refused w) (some_same is.0 (refusals.ShareLength cloud secret a b) (sym is.1)) ∙ ap line_of (sym e)
  get_line o clouds (Err (errors.BadSecret secret a b)) file line peers is found still within e =
      is.2 ∙ ap (λ (w : Refusal). lines.Refused w) (some_same is.0 (refusals.BadSecret secret a b) (sym is.1)) ∙ ap line_of (sym e)
  get_line o clouds (Err (errors.BadPad secret at byte)) file line peers is found still within e =
      is.2 ∙ ap (λ (w : Refusal). lines.Refused w) (some_same is.0 (refusals.BadPad secret at byte) (sym is.1)) ∙ ap line_of (sym e)
  get_line o clouds (Err (errors.Lost cloud)) file line peers is found still within e = absurd (let no : true ≡ false = found in cc)
  get_line o clouds (Err (errors.CloudFault cloud)) file line peers is found still within e = absurd (still cloud.0 e.1 (within cloud.0 e.0))
  get_line o clouds (Err (errors.CloudDamaged cloud at byte)) file line peers is found still within e = absurd e
  get_line o clouds (Err (errors.CloudRotten cloud a b)) file line peers is found still within e = absurd e
  get_line o clouds (Err (errors.CloudNoMemory cloud)) file line peers is found still within e = absurd e
  get_line o clouds (Err (errors.Strange cloud kind)) file line peers is found still within e = absurd e
  get_line o clouds (Err (errors.BadShare cloud secret a b)) file line peers is found still within e = absurd e
  get_line o clouds (Err errors.NoMemory) file line peers is found still within e = absurd (let no : None ≡ Some is.0 = is.1 in cc)

  read_still : (clouds : List ℕ) → All (λ cloud. cloud < s.shape.n) clouds → (old new : ℕ → Peer) → Rested old → Still s.shape.n old new → AreOnlyAsked clouds old new → new ≡ old
  read_still clouds within old new rested still read = λ i c. at c i
    where
      at : (c : ℕ) → new c ≡ old c
      at c = elim (cases_lt c s.shape.n) [
        | inl below ↦ read_same (old c) (new c) (rested c) (still c below) (read.read c)
        | inr over ↦ read.others c (λ has. let below = All-contains (λ cloud. cloud < s.shape.n) clouds c within has in omega (arith, below, over))
      ]

  module _ (user : UserId) (path : List ℕ) (version : Version) (clouds : List ℕ) (within : All (λ cloud. cloud < s.shape.n) clouds) where
    inside : (c : ℕ) → Contains clouds c → c < s.shape.n
    inside c has = All-contains (λ cloud. cloud < s.shape.n) clouds c within has

    told_all : (c : ℕ) → Contains clouds c → IsTrue (s.told c)
    told_all c has = told c (inside c has)

    get_so : (old new : ℕ → Peer) (line : Line) → Rested old → Still s.shape.n old new → GetStep s user path version clouds old line new → line ≡ line_of (any_outcome (sought s.shape user path version clouds) old)
    get_so old new line rested still x =
        let same = read_still clouds within old new rested still x.read in
        let y = subst (λ (q : ℕ → Peer). GetStep s user path version clouds old line q) same x in
        let none = (λ (c : ℕ) (rose : Rose (old c).faults (old c).faults) (below : c < s.shape.n). still c below (subst (λ (q : ℕ → Peer). Rose (old c).faults (q c).faults) (sym same) rose)) in
        get_line (any_outcome (sought s.shape user path version clouds) old) clouds y.result y.file line old y.line_is y.found none inside
        ((y.told told_all).exact (λ c has rose. none c rose (inside c has)))

    pub get_once : (old n1 n2 : ℕ → Peer) (l1 l2 : Line) → Rested old → Still s.shape.n old n1 → Still s.shape.n old n2
        → GetStep s user path version clouds old l1 n1 → GetStep s user path version clouds old l2 n2 → (l1 ≡ l2) × (n1 ≡ n2) × Rested n1
    get_once old n1 n2 l1 l2 rested still1 still2 x y =
        let one = read_still clouds within old n1 rested still1 x.read in
        let two = read_still clouds within old n2 rested still2 y.read in
        (get_so old n1 l1 rested still1 x ∙ sym (get_so old n2 l2 rested still2 y), one ∙ sym two, subst Rested (sym one) rested)
