-- The keys of one page, and then those of the next.
use Rattle.std.proofs.Common.{◌≡◌, ◌≢◌, ℕ, Bool, List, [], ◌∷◌, ◌++◌, None, Result, Ok, Err, sym, ap, ◌∙◌, subst, inl, inr, append_assoc}
use Rattle.std.specs.Prelude.{IsTrue}
use Rattle.std.specs.List.{Contains}
use Rattle.std.proofs.lemmas.List.Elements.{Contains-append_cases}
use Rattle.lane_steps.specs.CdBase.ids.Tag.{Tag}
use Rattle.lane_steps.specs.CdBase.ids.UserId.{UserId}
use Rattle.lane_steps.specs.CdBase.ids.Version.{Version}
use Rattle.lane_steps.specs.CdBase.shape.Shape.{Shape}
use Rattle.lane_steps.specs.Messages.request.Request.{Request}
use Rattle.lane_steps.specs.Messages.reply.Reply.{Reply}
use Rattle.lane_steps.specs.UserDedup.command.Command.{Command}
use Rattle.lane_steps.specs.UserDedup.Dedup.{Outcome}
use Rattle.lane_steps.specs.UserDedup.Exec.{Peer, CountsOn}
use Rattle.lane_steps.specs.UserDedup.Link.{LinkTelling, Talk, Does}
use Rattle.lane_steps.specs.Runs.{LaneTurn}
use Rattle.lane_steps.proofs.UserDedup.Owned.{contains_cases, contains_later, contains_nothing}
use Rattle.kept_files.specs.RestoreJob.Asking.{AreOnlyAsked}
use Rattle.kept_files.specs.RestoreJob.Asking.{Leads as ReadLeads}
use Rattle.kept_files.proofs.RestoreJob.Leading.{may_on, counts_on, may_stay}
use Rattle.rebuild.specs.declared.error.RebuildErr.{RebuildErr}
use Rattle.rebuild.specs.declared.error.RebuildErr.TheVariants as errors
use Rattle.rebuild.specs.Found.{Finding}
use Rattle.rebuild.specs.Rebuilding.{Progressed, LeavesBut}
use Rattle.rebuild.specs.Over.{LeadsWithTarget, Reading, TargetAlong}
use Rattle.rebuild.proofs.Joining.{Along, Between, ByTurns, along_read}
use Rattle.rebuild.specs.Several.{AllFound, KeysBrought, KeysCut, KeysTold, keys_of}
use Rattle.rebuild.proofs.Cutting.{brings_then}
use Rattle.rebuild.proofs.Going.{ends_before, faults_grow}
use Rattle.rebuild.proofs.Staying.{found_before, found_later}
use Rattle.rebuild.proofs.Whole.{map_on}

-- the target's count along its turns
pub along_counts : {L : Type 0} (t : LinkTelling L) (talk : L → ℕ → Talk → Type 0) (target : ℕ) (from : List ℕ) (old : L) (p : Peer) (turns : List (LaneTurn Peer)) (new : L) (last : Peer)
    → TargetAlong t talk target from old p turns new last → CountsOn p last
along_counts t talk target from old p [] new last x = subst (λ (q : Peer). CountsOn p q) (sym x.2) (may_stay p).1
along_counts t talk target from old p (u ∷ us) new last x =
    counts_on p x.6.0 last (does_counts t target x.0 p x.6.0 u.request u.reply x.6.2) (along_counts t talk target from x.1 x.6.0 us new last x.6.3)
  where
    does_counts : {L : Type 0} (t : LinkTelling L) (target : ℕ) (link : L) (p q : Peer) (request : Request) (reply : Reply) → Does t target link p request reply q → CountsOn p q
    does_counts t target link p q request reply d = d.counts

module _ (shape : Shape) (user : UserId) (target : ℕ) (serve : List Command → Request → Outcome) (from : List ℕ) (apart : Contains from target → ⊥) where
  not_target : (x : ℕ) → Contains from x → x ≢ target
  not_target x has same = apart (subst (λ (y : ℕ). Contains from y) same has)

  found_both : (one two : List Finding) (a b c : ℕ → Peer) → LeavesBut from target a b → LeavesBut from target b c → AllFound shape user from one a b → AllFound shape user from two b c
      → AllFound shape user from (one ++ two) a c
  found_both one two a b c first second x y f has =
      elim (Contains-append_cases one two f has) [
        | inl early ↦ found_later shape user from f.key f.found a b c (λ cloud in_from. second.read cloud (not_target cloud in_from)) (x f early)
        | inr late ↦ found_before shape user from f.key f.found a b c (λ cloud in_from. first.read cloud (not_target cloud in_from)) (y f late)
      ]

  keys_both : (one two : List Finding) (front rest left : List (Tag × Version)) → keys_of one ≡ front → rest ≡ keys_of two ++ left → front ++ rest ≡ keys_of (one ++ two) ++ left
  keys_both one two front rest left e split =
      ap (λ (l : List (Tag × Version)). l ++ rest) (sym e) ∙ ap (λ (l : List (Tag × Version)). keys_of one ++ l) split ∙ sym (append_assoc (keys_of one) (keys_of two) left)
      ∙ ap (λ (l : List (Tag × Version)). l ++ left) (sym (map_on (λ (f : Finding). f.key) one two))

  brought_then : (front rest : List (Tag × Version)) (r mid last : Progressed) (us vs : List (LaneTurn Peer)) (a b c : ℕ → Peer) → mid.stop ≡ None → LeavesBut from target a b → LeavesBut from target b c
      → (x : KeysBrought shape user target serve from front r mid us a b) → keys_of x.found ≡ front → KeysBrought shape user target serve from rest mid last vs b c → KeysBrought shape user target serve from (front ++ rest) r last (us ++ vs) a c
  brought_then front rest r mid last us vs a b c none one two x all y = record {
    found = x.found ++ y.found;
    front = record { rest = y.front.rest; split = keys_both x.found y.found front rest y.front.rest all y.front.split };
    each = found_both x.found y.found a b c one two x.each y.each;
    brings = brings_then shape target serve x.found y.found r mid last (a target) (b target) (c target) us vs x.brings none y.brings;
  }

  cut_then : (front rest : List (Tag × Version)) (r mid : Progressed) (us vs : List (LaneTurn Peer)) (a b : ℕ → Peer) (at : Peer) (c : ℕ → Peer) → mid.stop ≡ None → LeavesBut from target a b → LeavesBut from target b c
      → (x : KeysBrought shape user target serve from front r mid us a b) → keys_of x.found ≡ front → KeysCut shape user target serve from rest mid vs b at c → KeysCut shape user target serve from (front ++ rest) r (us ++ vs) a at c
  cut_then front rest r mid us vs a b at c none one two x all y = record {
    found = x.found ++ y.found;
    ahead = y.ahead;
    front = record {
      rest = y.front.rest;
      split = keys_both x.found (y.found ++ y.ahead) front rest y.front.rest all y.front.split
          ∙ ap (λ (l : List Finding). keys_of l ++ y.front.rest) (sym (append_assoc x.found y.found y.ahead));
    };
    each = subst (λ (l : List Finding). AllFound shape user from l a c) (sym (append_assoc x.found y.found y.ahead)) (found_both x.found (y.found ++ y.ahead) a b c one two x.each y.each);
    last = y.last;
    mid = y.mid;
    turns_before = us ++ y.turns_before;
    turns_behind = y.turns_behind;
    split = ap (λ (l : List (LaneTurn Peer)). us ++ l) y.split ∙ sym (append_assoc us y.turns_before y.turns_behind);
    brings = brings_then shape target serve x.found y.found r mid y.last (a target) (b target) y.mid us y.turns_before x.brings none y.brings;
    none = y.none;
    goes = y.goes;
  }

  pub pages_step : (front rest : List (Tag × Version)) (r mid next : Progressed) (result : Result (Unit {0}) RebuildErr) (us vs : List (LaneTurn Peer)) (a b : ℕ → Peer) (at : Peer) (c : ℕ → Peer) → mid.stop ≡ None
      → LeavesBut from target a b → LeavesBut from target b c → KeysTold shape user target serve from front r mid (Ok (tt {0})) us a (b target) b → KeysTold shape user target serve from rest mid next result vs b at c
      → KeysTold shape user target serve from (front ++ rest) r next result (us ++ vs) a at c
  unfolding brought_then
  pages_step front rest r mid next (Ok u) us vs a b at c none one two x y = (
    brought_then front rest r mid next us vs a b c none one two x.0 x.1 y.0,
    map_on (λ (f : Finding). f.key) x.0.found y.0.found ∙ (λ i. x.1 i ++ y.1 i),
  )
  pages_step front rest r mid next (Err (errors.FromRestore why)) us vs a b at c none one two x y = (y.0, brought_then front rest r mid y.0 us vs a b c none one two x.0 x.1 y.1, y.2, ends_before from why a b c (faults_grow from target a b one) y.3)
  pages_step front rest r mid next (Err errors.TargetLost) us vs a b at c none one two x y = cut_then front rest r mid us vs a b at c none one two x.0 x.1 y
  pages_step front rest r mid next (Err errors.TargetFault) us vs a b at c none one two x y = (y.0, y.1, brought_then front rest r mid y.0 us vs a b c none one two x.0 x.1 y.2, y.3, y.4)
  pages_step front rest r mid next (Err (errors.TargetDamaged place byte)) us vs a b at c none one two x y = (y.0, y.1, brought_then front rest r mid y.0 us vs a b c none one two x.0 x.1 y.2, y.3, y.4)
  pages_step front rest r mid next (Err (errors.TargetRotten named hash)) us vs a b at c none one two x y = (y.0, y.1, brought_then front rest r mid y.0 us vs a b c none one two x.0 x.1 y.2, y.3, y.4)
  pages_step front rest r mid next (Err (errors.TargetFull room used need limit)) us vs a b at c none one two x y = (y.0, y.1, brought_then front rest r mid y.0 us vs a b c none one two x.0 x.1 y.2, y.3, y.4)
  pages_step front rest r mid next (Err (errors.TargetLacking place)) us vs a b at c none one two x y = (y.0, y.1, brought_then front rest r mid y.0 us vs a b c none one two x.0 x.1 y.2, y.3, y.4)
  pages_step front rest r mid next (Err errors.TargetNoMemory) us vs a b at c none one two x y = (y.0, y.1, brought_then front rest r mid y.0 us vs a b c none one two x.0 x.1 y.2, y.3, y.4)
  pages_step front rest r mid next (Err (errors.TargetStrange kind)) us vs a b at c none one two x y = (y.0, y.1, brought_then front rest r mid y.0 us vs a b c none one two x.0 x.1 y.2, y.3, y.4)
  pages_step front rest r mid next (Err errors.NoMemory) us vs a b at c none one two x y = cut_then front rest r mid us vs a b at c none one two x.0 x.1 y

-- ---- a page is read, and then the rebuild goes on

pub only_cloud : (cloud : ℕ) (from : List ℕ) (c : ℕ) → Contains from cloud → Contains (cloud ∷ []) c → Contains from c
only_cloud cloud from c here has =
    elim (contains_cases cloud [] c has) [
      | inl same ↦ subst (λ (x : ℕ). Contains from x) same here
      | inr none ↦ absurd (contains_nothing c none)
    ]

pub page_then : {L B : Type 0} (t : LinkTelling L) (talk : L → ℕ → Talk → Type 0) (target : ℕ) (from : List ℕ) (cloud : ℕ) (old mid new : L) (r : Result B RebuildErr) (A : Between) (D C : Along) (R : Between) (S T : ByTurns)
    → (Contains from target → ⊥) → Contains from cloud → Reading t from old mid → t.told mid ≡ t.told old → ReadLeads t (cloud ∷ []) old mid A R → LeadsWithTarget t talk target from mid new r D S
    → ((turns : List (LaneTurn Peer)) (a b c : ℕ → Peer) → AreOnlyAsked (cloud ∷ []) a b → LeavesBut from target b c → A a b → D turns b c → C turns a c)
    → ((turns : List (LaneTurn Peer)) (a b : ℕ → Peer) (at : Peer) (c : ℕ → Peer) → AreOnlyAsked (cloud ∷ []) a b → LeavesBut from target b c → R a b → S turns b at c → T turns a at c)
    → LeadsWithTarget t talk target from old new r C T
page_then {L} t talk target from cloud old mid new r A D C R S T apart here read same first second always both these all before peers =
    let x = first these (λ c has. all c (contains_later target from c (only_cloud cloud from c here has))) before peers in
    let y = second these all x.0 x.1 in
    let still : x.0 target ≡ before target = x.2.others target (λ has. apart (only_cloud cloud from target here has)) in (
      y.0,
      y.1,
      y.2,
      y.3,
      y.4,
      record {
        read = λ c ne. may_on (before c) (x.0 c) (y.0 c) (x.2.read c) (y.5.read c ne);
        others = λ c ne out. y.5.others c ne out ∙ x.2.others c (λ has. out (only_cloud cloud from c here has));
        counts = subst (λ (p : Peer). CountsOn p (y.0 target)) still y.5.counts;
      },
      along_read t talk target from old mid (before target) y.1 y.2 y.3 read (subst (λ (p : Peer). TargetAlong t talk target from mid p y.1 y.2 y.3) still y.6),
      y.7,
      always y.1 before x.0 y.0 x.2 y.5 x.3 y.8,
      λ told. both y.1 before x.0 y.3 y.0 x.2 y.5 (x.4 (λ c has. told c (contains_later target from c (only_cloud cloud from c here has))))
          (y.9 (λ c has. subst (λ (f : ℕ → Bool). IsTrue (f c)) (sym same) (told c has))),
    )
