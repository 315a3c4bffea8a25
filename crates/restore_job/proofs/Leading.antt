-- One reading after another.
use Rattle.std.proofs.Common.{◌≡◌, ◌⊎◌, ℕ, ◌≤◌, Bool, true, false, ◌&&◌, cond, List, [], ◌∷◌, ◌++◌, Option, None, refl, sym, ap, ◌∙◌, subst, arith, inl, inr, eq-eqb}
use Rattle.std.specs.Prelude.{IsTrue, IsSomeAnd, ◌==◌}
use Rattle.std.specs.List.{Contains}
use Rattle.std.proofs.lemmas.Bool.{cases_eq, ne_eqb}
use Rattle.user_dedup.specs.CdEdges.Causes.{Rose}
use Rattle.user_dedup.specs.declared.command.Command.{Command}
use Rattle.user_dedup.specs.Exec.{Peer, MaySettleAs, Settles, KeepsPeer, CountsOn}
use Rattle.user_dedup.specs.Link.{LinkTelling, LeavesOthers, Exchange, Passes, IsReading, ReadsOneOf}
use Rattle.user_dedup.proofs.Owned.{contains_here, contains_cases, contains_nothing}
use Rattle.restore_job.specs.Asking.{PeersOf, TellsAll, Reads, MayRead, ReadFails, AreOnlyAsked, Leads, HasAskedClouds, among}

-- ---- one cloud

pub rose_on : (a b c : ℕ) → a ≤ b → Rose b c → Rose a c
rose_on a b c le rose = omega (arith, rose)

pub rose_off : (a b c : ℕ) → Rose a b → b ≤ c → Rose a c
rose_off a b c rose le = omega (arith, rose)

pub counts_on : (a b c : Peer) → CountsOn a b → CountsOn b c → CountsOn a c
counts_on a b c one two = record { faults = let x = one.faults in let y = two.faults in omega arith; armings = two.armings ∙ one.armings }

pub settle_along : (a b : Peer) (list : List Command) → KeepsPeer a b → MaySettleAs b list → MaySettleAs a list
settle_along a b list stays (inl same) = inl (same ∙ stays.list)
settle_along a b list stays (inr some) =
    inr (subst (λ (l : List Command). IsSomeAnd a.pending (λ command. list ≡ l ++ command ∷ [])) stays.list
    (subst (λ (o : Option Command). IsSomeAnd o (λ command. list ≡ b.list ++ command ∷ [])) stays.pending some))

-- where nothing is pending a cloud settles as it stands
pub no_pending : (p : Peer) (list : List Command) → p.pending ≡ None → MaySettleAs p list → list ≡ p.list
no_pending p list none (inl same) = same
no_pending p list none (inr some) = absurd (subst (λ (o : Option Command). IsSomeAnd o (λ command. list ≡ p.list ++ command ∷ [])) none some)

either : (a b c : Peer) → KeepsPeer a b ⊎ Settles a b → KeepsPeer b c ⊎ Settles b c → KeepsPeer a c ⊎ Settles a c
either a b c (inl s) (inl t) = inl (record { list = t.list ∙ s.list; pending = t.pending ∙ s.pending })
either a b c (inl s) (inr t) = inr (record { list = settle_along a b c.list s t.list; pending = t.pending })
either a b c (inr s) (inl t) = inr (record { list = subst (MaySettleAs a) (sym t.list) s.list; pending = t.pending ∙ s.pending })
either a b c (inr s) (inr t) = inr (record { list = subst (MaySettleAs a) (sym (no_pending b c.list s.pending t.list)) s.list; pending = t.pending })

pub may_on : (a b c : Peer) → MayRead a b → MayRead b c → MayRead a c
may_on a b c one two = (either a b c one.0 two.0, counts_on a b c one.1 two.1)

pub may_stay : (p : Peer) → MayRead p p
may_stay p = (inl (record { list = refl; pending = refl }), record { faults = omega arith; armings = refl })

pub read_may : (a b : Peer) → Reads a b → MayRead a b
read_may a b r = (inr r.0, r.1)

-- a settled cloud that may have been read is as it was, but for its count
pub record SameList (a b : Peer) : Type 0 where
  pub list : b.list ≡ a.list
  pub pending : b.pending ≡ None

pub settled_same : (a b : Peer) → a.pending ≡ None → MayRead a b → SameList a b
settled_same a b none may = go may.0
  where
    go : KeepsPeer a b ⊎ Settles a b → SameList a b
    go (inl s) = record { list = s.list; pending = s.pending ∙ none }
    go (inr s) = record { list = no_pending a b.list none s.list; pending = s.pending }

-- read, and then maybe read again
pub reads_on : (a b c : Peer) → Reads a b → MayRead b c → Reads a c
reads_on a b c one two =
    let same = settled_same b c one.0.pending two in
    (record { list = subst (MaySettleAs a) (sym same.list) one.0.list; pending = same.pending }, counts_on a b c one.1 two.1)

pub fails_on : (a b c : Peer) → MayRead a b → ReadFails b c → ReadFails a c
fails_on a b c one two = (rose_on a.faults b.faults c.faults one.1.faults two.0, may_on a b c one two.1)

-- ---- all clouds

pub none_read : (clouds : List ℕ) (peers : ℕ → Peer) → AreOnlyAsked clouds peers peers
none_read clouds peers = record { read = λ x. may_stay (peers x); others = λ x no. refl }

pub only_on : (xs ys zs : List ℕ) (a b c : ℕ → Peer) → AreOnlyAsked xs a b → AreOnlyAsked ys b c → ((x : ℕ) → Contains xs x → Contains zs x)
    → ((x : ℕ) → Contains ys x → Contains zs x) → AreOnlyAsked zs a c
only_on xs ys zs a b c one two xs_in ys_in = record {
  read = λ x. may_on (a x) (b x) (c x) (one.read x) (two.read x);
  others = λ x no. two.others x (λ y. no (ys_in x y)) ∙ one.others x (λ y. no (xs_in x y));
}

abbrev pub Relation : Type 1
Relation = (ℕ → Peer) → (ℕ → Peer) → Type 0

pub leads_on : {L : Type 0} (t : LinkTelling L) (xs ys zs : List ℕ) (old mid new : L) (A B C R S T : (ℕ → Peer) → (ℕ → Peer) → Type 0)
    → Leads t xs old mid A R → t.told mid ≡ t.told old → Leads t ys mid new B S
    → ((x : ℕ) → Contains xs x → Contains zs x) → ((x : ℕ) → Contains ys x → Contains zs x)
    → ((a b c : ℕ → Peer) → AreOnlyAsked xs a b → AreOnlyAsked ys b c → A a b → B b c → C a c)
    → ((a b c : ℕ → Peer) → AreOnlyAsked xs a b → AreOnlyAsked ys b c → R a b → S b c → T a c)
    → Leads t zs old new C T
leads_on {L} t xs ys zs old mid new A B C R S T first same second xs_in ys_in always both these all before peers =
    let x = first these (λ c has. all c (xs_in c has)) before peers in
    let y = second these (λ c has. all c (ys_in c has)) x.0 x.1 in (
      y.0,
      y.1,
      only_on xs ys zs before x.0 y.0 x.2 y.2 xs_in ys_in,
      always before x.0 y.0 x.2 y.2 x.3 y.3,
      λ told. both before x.0 y.0 x.2 y.2 (x.4 (λ c has. told c (xs_in c has)))
          (y.4 (λ c has. subst (λ (f : ℕ → Bool). IsTrue (f c)) (sym same) (told c (ys_in c has)))),
    )

pub leads_to : {L : Type 0} (t : LinkTelling L) (xs zs : List ℕ) (old new : L) (A C R T : (ℕ → Peer) → (ℕ → Peer) → Type 0)
    → Leads t xs old new A R → ((x : ℕ) → Contains xs x → Contains zs x) → ((a b : ℕ → Peer) → AreOnlyAsked xs a b → A a b → (TellsAll t old xs → R a b) → C a b)
    → ((a b : ℕ → Peer) → AreOnlyAsked xs a b → R a b → T a b) → Leads t zs old new C T
leads_to t xs zs old new A C R T first xs_in always then these all before peers =
    let x = first these (λ c has. all c (xs_in c has)) before peers in (
      x.0,
      x.1,
      record { read = x.2.read; others = λ c no. x.2.others c (λ has. no (xs_in c has)) },
      always before x.0 x.2 x.3 x.4,
      λ told. then before x.0 x.2 (x.4 (λ c has. told c (xs_in c has))),
    )

pub leads_none : {L : Type 0} (t : LinkTelling L) (zs : List ℕ) (link : L) (C T : (ℕ → Peer) → (ℕ → Peer) → Type 0) → ((a : ℕ → Peer) → C a a) → ((a : ℕ → Peer) → T a a) → Leads t zs link link C T
leads_none t zs link C T always same these all before peers = (before, peers, none_read zs before, always before, λ told. same before)

-- ---- one ask

-- from each state that the cloud stood for it went on to one that it stands for
abbrev pub Moves : {L : Type 0} → LinkTelling L → ℕ → L → L → (Peer → Peer → Type 0) → (Peer → Peer → Type 0) → Type 0
Moves t cloud old new B P = (p : Peer) → t.stands old cloud p → (q : Peer) × t.stands new cloud q × MayRead p q × B p q × (IsTrue (t.told old cloud) → P p q)

abbrev pub put : (ℕ → Peer) → ℕ → Peer → ℕ → Peer
put peers cloud q x = cond (x == cloud) q (peers x)

pub put_here : (peers : ℕ → Peer) (cloud : ℕ) (q : Peer) → put peers cloud q cloud ≡ q
put_here peers cloud q = ap (λ (b : Bool). cond b q (peers cloud)) (eq-eqb cloud cloud refl)

pub put_other : (peers : ℕ → Peer) (cloud : ℕ) (q : Peer) (x : ℕ) → (x ≡ cloud → ⊥) → put peers cloud q x ≡ peers x
put_other peers cloud q x ne = ap (λ (b : Bool). cond b q (peers x)) (ne_eqb x cloud ne)

pub one_step : {L : Type 0} (t : LinkTelling L) (cloud : ℕ) (old new : L) (B P : Peer → Peer → Type 0) → IsTrue (t.reaches old cloud)
    → LeavesOthers t cloud old new → Moves t cloud old new B P → Leads t (cloud ∷ []) old new (λ a b. B (a cloud) (b cloud)) (λ a b. P (a cloud) (b cloud))
one_step {L} t cloud old new B P reached others moves these all before peers =
    let m = moves (before cloud) (peers cloud (all cloud (contains_here cloud []))) in
    let after : ℕ → Peer = put before cloud m.0 in
    let stands : PeersOf t new these after = λ x one. by_place m.0 m.1 x one (cases_eq x cloud) in
    let read : (x : ℕ) → MayRead (before x) (after x) = λ x. may_place m.0 m.2 x (cases_eq x cloud) in (
      after,
      stands,
      record { read = read; others = λ x no. put_other before cloud m.0 x (λ e. no (subst (λ (y : ℕ). Contains (cloud ∷ []) y) (sym e) (contains_here cloud []))) },
      subst (λ (q : Peer). B (before cloud) q) (sym (put_here before cloud m.0)) m.3,
      λ told. subst (λ (q : Peer). P (before cloud) q) (sym (put_here before cloud m.0)) (m.4 (told cloud (contains_here cloud []))),
    )
  where
    by_place : (q : Peer) → t.stands new cloud q → (x : ℕ) → IsTrue (these x) → (x ≡ cloud) ⊎ (x ≡ cloud → ⊥) → t.stands new x (put before cloud q x)
    by_place q stands x reach (inl e) = subst (λ (y : ℕ). t.stands new y (put before cloud q y)) (sym e) (subst (t.stands new cloud) (sym (put_here before cloud q)) stands)
    by_place q stands x reach (inr ne) = subst (t.stands new x) (sym (put_other before cloud q x ne)) (others.stands x (before x) ne (peers x reach))

    may_place : (q : Peer) → MayRead (before cloud) q → (x : ℕ) → (x ≡ cloud) ⊎ (x ≡ cloud → ⊥) → MayRead (before x) (put before cloud q x)
    may_place q may x (inl e) = subst (λ (y : ℕ). MayRead (before y) (put before cloud q y)) (sym e) (subst (MayRead (before cloud)) (sym (put_here before cloud q)) may)
    may_place q may x (inr ne) = subst (MayRead (before x)) (sym (put_other before cloud q x ne)) (may_stay (before x))

-- ---- of some clouds alone

pub and_both : (a b : Bool) → IsTrue (a && b) → IsTrue a × IsTrue b
and_both true b h = (refl, h)
and_both false b h = absurd (let f : false ≡ true = h in cc)

pub told_among : {L : Type 0} (t : LinkTelling L) (these : ℕ → Bool) (old new : L) → t.told new ≡ t.told old → (among these t).told new ≡ (among these t).told old
told_among t these old new same = λ i cloud. these cloud && same i cloud

others_among : {L : Type 0} (t : LinkTelling L) (these : ℕ → Bool) (cloud : ℕ) (old new : L) → LeavesOthers t cloud old new → LeavesOthers (among these t) cloud old new
others_among t these cloud old new others = record {
  stands = λ other p ne stands one. others.stands other p ne (stands one);
  reaches = others.reaches;
  shape = others.shape;
  told = told_among t these old new others.told;
  full = others.full;
}

-- one of these goes on as it does, and another in any way
moves_among : {L : Type 0} (t : LinkTelling L) (these : ℕ → Bool) (cloud : ℕ) (old new : L) (B P : Peer → Peer → Type 0)
    → Moves t cloud old new B P → ((p : Peer) → (q : Peer) × MayRead p q × B p q) → Moves (among these t) cloud old new B P
moves_among t these cloud old new B P moves another p stands = go (these cloud) refl
  where
    go : (b : Bool) → these cloud ≡ b → (q : Peer) × (IsTrue (these cloud) → t.stands new cloud q) × MayRead p q × B p q × (IsTrue (these cloud && t.told old cloud) → P p q)
    go true is =
        let m = moves p (stands is) in
        (m.0, (λ one. m.1), m.2, m.3, λ told. m.4 (and_both (these cloud) (t.told old cloud) told).1)
    go false is =
        let m = another p in
        let never : IsTrue (these cloud) → ⊥ = λ one. (let f : false ≡ true = sym is ∙ one in cc) in
        (m.0, (λ one. absurd (never one)), m.1, m.2, λ told. absurd (never (and_both (these cloud) (t.told old cloud) told).0))

pub step_among : {L : Type 0} (t : LinkTelling L) (these : ℕ → Bool) (cloud : ℕ) (old new : L) (B P : Peer → Peer → Type 0) → IsTrue (t.reaches old cloud)
    → LeavesOthers t cloud old new → Moves t cloud old new B P → ((p : Peer) → (q : Peer) × MayRead p q × B p q)
    → Leads (among these t) (cloud ∷ []) old new (λ a b. B (a cloud) (b cloud)) (λ a b. P (a cloud) (b cloud))
step_among t these cloud old new B P reached others moves another =
    one_step (among these t) cloud old new B P reached (others_among t these cloud old new others) (moves_among t these cloud old new B P moves another)

-- of all clouds
pub leads_whole : {L : Type 0} (t : LinkTelling L) (clouds : List ℕ) (old new : L) (A R : (ℕ → Peer) → (ℕ → Peer) → Type 0) → Leads (among (λ c. true) t) clouds old new A R → Leads t clouds old new A R
leads_whole t clouds old new A R first these all before peers =
    let x = first these all before (λ c one yes. peers c one) in
    (x.0, (λ c one. x.1 c one refl), x.2, x.3, λ told. x.4 (λ c has. told c has))

-- ---- what the link tells beside its clouds

-- so many asks, and then so many more
pub passes_on : {L : Type 0} (t : LinkTelling L) (clouds : List ℕ) (old mid new : L) (es fs : List Exchange) → Passes t (ReadsOneOf clouds) old es mid → Passes t (ReadsOneOf clouds) mid fs new → Passes t (ReadsOneOf clouds) old (es ++ fs) new
passes_on t clouds old mid new [] fs one two = subst (λ x. Passes t (ReadsOneOf clouds) x fs new) one two
passes_on t clouds old mid new (e ∷ es) fs one two = (one.0, (one.1.0, one.1.1, passes_on t clouds one.1.0 mid new es fs one.1.2 two))

passes_in : {L : Type 0} (t : LinkTelling L) (few clouds : List ℕ) (old new : L) (es : List Exchange) → ((x : ℕ) → Contains few x → Contains clouds x) → Passes t (ReadsOneOf few) old es new → Passes t (ReadsOneOf clouds) old es new
passes_in t few clouds old new [] all one = one
passes_in t few clouds old new (e ∷ es) all one = ((all e.cloud one.0.0, one.0.1), (one.1.0, one.1.1, passes_in t few clouds one.1.0 new es all one.1.2))

pub asked_none : {L : Type 0} (t : LinkTelling L) (clouds : List ℕ) (link : L) → HasAskedClouds t clouds link link false
asked_none t clouds link = record {
  asks = [];
  passed = refl;
  others = λ cloud p out stands. stands;
  reaches = refl;
  shape = refl;
  told = refl;
  full = refl;
  later = omega arith;
  lost = λ e. absurd (let f : false ≡ true = e in cc);
  lossless = λ h. (refl, h);
}

pub asked_on : {L : Type 0} (t : LinkTelling L) (clouds : List ℕ) (old mid new : L) (loss : Bool) → HasAskedClouds t clouds old mid false → HasAskedClouds t clouds mid new loss → HasAskedClouds t clouds old new loss
asked_on t clouds old mid new loss one two = record {
  asks = one.asks ++ two.asks;
  passed = passes_on t clouds old mid new one.asks two.asks one.passed two.passed;
  others = λ cloud p out stands. two.others cloud p out (one.others cloud p out stands);
  reaches = two.reaches ∙ one.reaches;
  shape = two.shape ∙ one.shape;
  told = two.told ∙ one.told;
  full = two.full ∙ one.full;
  later = let x = one.later in let y = two.later in omega arith;
  lost = λ e. rose_on (t.losses old) (t.losses mid) (t.losses new) one.later (two.lost e);
  lossless = λ h. two.lossless (one.lossless h).1;
}

-- asks of some of the clouds
pub asked_in : {L : Type 0} (t : LinkTelling L) (few clouds : List ℕ) (old new : L) (loss : Bool) → ((x : ℕ) → Contains few x → Contains clouds x) → HasAskedClouds t few old new loss → HasAskedClouds t clouds old new loss
asked_in t few clouds old new loss all one = record {
  asks = one.asks;
  passed = passes_in t few clouds old new one.asks all one.passed;
  others = λ cloud p out stands. one.others cloud p (λ has. out (all cloud has)) stands;
  reaches = one.reaches;
  shape = one.shape;
  told = one.told;
  full = one.full;
  later = one.later;
  lost = one.lost;
  lossless = one.lossless;
}

pub asked_at : {L : Type 0} (t : LinkTelling L) (cloud : ℕ) (clouds : List ℕ) (old new : L) (loss : Bool) → Contains clouds cloud → HasAskedClouds t (cloud ∷ []) old new loss → HasAskedClouds t clouds old new loss
asked_at t cloud clouds old new loss here one =
    asked_in t (cloud ∷ []) clouds old new loss (λ x has. elim (contains_cases cloud [] x has) [
      | inl same ↦ subst (Contains clouds) same here
      | inr none ↦ absurd (contains_nothing x none)
    ]) one

-- where an ask wasn't lost, it counts as one that wasn't
pub asked_as : {L : Type 0} (t : LinkTelling L) (clouds : List ℕ) (old new : L) (a b : Bool) → a ≡ b → HasAskedClouds t clouds old new a → HasAskedClouds t clouds old new b
asked_as t clouds old new a b e asked = subst (λ (x : Bool). HasAskedClouds t clouds old new x) e asked

-- one ask that adds nothing
pub asked_once : {L : Type 0} (t : LinkTelling L) (old new : L) (e : Exchange) (loss : Bool)
    → IsReading e.content → t.passes old e new → LeavesOthers t e.cloud old new → t.losses old ≤ t.losses new
    → (loss ≡ true → Rose (t.losses old) (t.losses new)) → (IsTrue (t.lossless old) → (loss ≡ false) × IsTrue (t.lossless new)) → HasAskedClouds t (e.cloud ∷ []) old new loss
asked_once t old new e loss reading passes others later lost lossless = record {
  asks = e ∷ [];
  passed = ((contains_here e.cloud [], reading), (new, passes, refl));
  others = λ cloud p out stands. others.stands cloud p (λ same. out (subst (λ (x : ℕ). Contains (e.cloud ∷ []) x) (sym same) (contains_here e.cloud []))) stands;
  reaches = others.reaches;
  shape = others.shape;
  told = others.told;
  full = others.full;
  later = later;
  lost = lost;
  lossless = lossless;
}
