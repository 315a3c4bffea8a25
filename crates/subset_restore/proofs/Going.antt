-- A call under way, one choice after another.
use Rattle.std.proofs.Common.{◌≡◌, ◌≢◌, ℕ, ◌≤◌, ◌⊎◌, Bool, true, false, List, [], ◌∷◌, ◌++◌, map, Some, None, Result, Ok, Err, refl, sym, ap, ◌∙◌, subst, inl, inr, length, arith, append_assoc, append-nil, length-append}
use Rattle.std.specs.Prelude.{IsTrue}
use Rattle.std.specs.List.{Contains}
use Rattle.transcript.specs.CdBase.ids.UserId.{UserId}
use Rattle.transcript.specs.CdBase.ids.Version.{Version}
use Rattle.transcript.specs.CdBase.shape.Shape.{Shape}
use Rattle.transcript.specs.CdEdges.Causes.{Rose}
use Rattle.restore_job.specs.UserDedup.Exec.{Peer}
use Rattle.restore_job.specs.UserDedup.Link.{LinkTelling, Talk}
use Rattle.restore_job.proofs.UserDedup.Owned.{contains_here, contains_later, contains_nothing}
use Rattle.restore_job.specs.Asking.{HasAskedClouds, LeadsAny, AreOnlyAsked, AreRead, Readable, TellsAll, among, is_loss, is_lost}
use Rattle.restore_job.specs.Brought.{Brought}
use Rattle.restore_job.specs.Exchanges.{LostSaid, RestorePassed, RestoreSaid, Unlost}
use Rattle.restore_job.specs.Reading.{Ends, ReadsUpTo, Restores}
use Rattle.restore_job.specs.Refusals.{Caused, CausesAmong, ShownAmong, Names}
use Rattle.restore_job.specs.Restored.{Unrestored}
use Rattle.restore_job.specs.declared.error.RestoreErr.{RestoreErr}
use Rattle.restore_job.specs.declared.error.RestoreErr.TheVariants as errors
use Rattle.restore_job.proofs.Leading.{rose_on, rose_off, leads_on, leads_to, leads_none, leads_whole, told_among, asked_on, asked_in, asked_none}
use Rattle.restore_job.proofs.Causing.{caused_on, names_to}
use Rattle.restore_job.proofs.Wrong.{shown_caused}
use Rattle.subset_restore.specs.Subsets.{subsets}
use Rattle.subset_restore.specs.Tries.{Try, GoneThrough, NoneYet, Passed, Refused, HoldsRefuser, HasRefused, WasTried, refuser}
use Rattle.subset_restore.specs.Restored.{first_bytes, first_given, restored_any}
use Rattle.subset_restore.specs.Ends.{Sought, outcome_of, any_outcome, GivesNone, IsNone, NoneFailed, OneRestore, AllRefused, AllCaused, AllShown, CameTold, CameAlone, HasFileCome, NoneTold, NothingAlone, NoneCame, OnlyLeads, NoneBy}
use Rattle.subset_restore.specs.Tracking.{Tracks, HoldsMarked, first_of}
use Rattle.subset_restore.specs.Going.{sought, TryTold, EachTold, EachShown, EachAlone, TriesStand, AllStand, HasTriedInOrder, SoFar, GoesOn, Seeks}
use Rattle.subset_restore.specs.declared.refusals.Refusals.{Refusals}
use Rattle.subset_restore.specs.declared.trying.Went.{Went}
use Rattle.subset_restore.specs.declared.trying.Went.TheVariants as went
use Rattle.subset_restore.proofs.Elements.{contains_front, contains_last, contains_end, all_of, of_all}
use Rattle.subset_restore.proofs.Choices.{subset_among, only_choice, sole}
use Rattle.subset_restore.proofs.Files.{gives}
use Rattle.subset_restore.proofs.Standing.{told_later, told_first, may_reads, caused_later, tried_none, held_none, held_alone, ends_among}

-- ---- the first that gives bytes

first_bytes_at : (f : List ℕ → Result (List ℕ) Unrestored) (refusal : Result (List ℕ) Unrestored) (front : List (List ℕ)) (subset : List ℕ) (rest : List (List ℕ)) (file : List ℕ)
    → ((x : List ℕ) → Contains front x → (why : Unrestored) × (f x ≡ Err why)) → f subset ≡ gives file → first_bytes refusal (map f (front ++ subset ∷ rest)) ≡ gives file
first_bytes_at f refusal [] subset rest file none is = ap (λ (o : Result (List ℕ) Unrestored). first_bytes refusal (o ∷ map f rest)) is
first_bytes_at f refusal (x ∷ front) subset rest file none is =
    ap (λ (o : Result (List ℕ) Unrestored). first_bytes refusal (o ∷ map f (front ++ subset ∷ rest))) (none x (contains_here x front)).1
    ∙ first_bytes_at f refusal front subset rest file (λ y has. none y (contains_later x front y has)) is

first_at : (f : List ℕ → Result (List ℕ) Unrestored) (front : List (List ℕ)) (subset : List ℕ) (rest : List (List ℕ)) (file : List ℕ)
    → ((x : List ℕ) → Contains front x → (why : Unrestored) × (f x ≡ Err why)) → f subset ≡ gives file → first_given (map f (front ++ subset ∷ rest)) ≡ gives file
first_at f [] subset rest file none is = first_bytes_at f (f subset) [] subset rest file none is
first_at f (x ∷ front) subset rest file none is = first_bytes_at f (f x) (x ∷ front) subset rest file none is

first_bytes_none : (f : List ℕ → Result (List ℕ) Unrestored) (refusal : Result (List ℕ) Unrestored) (all : List (List ℕ)) → ((x : List ℕ) → Contains all x → (why : Unrestored) × (f x ≡ Err why)) → first_bytes refusal (map f all) ≡ refusal
first_bytes_none f refusal [] none = refl
first_bytes_none f refusal (x ∷ all) none =
    ap (λ (o : Result (List ℕ) Unrestored). first_bytes refusal (o ∷ map f all)) (none x (contains_here x all)).1
    ∙ first_bytes_none f refusal all (λ y has. none y (contains_later x all y has))

pub any_at : (s : Sought) (peers : ℕ → Peer) (front : List (List ℕ)) (subset : List ℕ) (rest : List (List ℕ)) (file : List ℕ) → subsets s.shape.k s.clouds ≡ front ++ subset ∷ rest
    → ((x : List ℕ) → Contains front x → GivesNone s peers x) → outcome_of s peers subset ≡ gives file → any_outcome s peers ≡ gives file
unfolding restored_any
any_at s peers front subset rest file split none is =
    ap (λ (l : List (List ℕ)). first_given (map (outcome_of s peers) l)) split ∙ first_at (outcome_of s peers) front subset rest file none is

pub any_none : (s : Sought) (peers : ℕ → Peer) (first : List ℕ) (rest : List (List ℕ)) → subsets s.shape.k s.clouds ≡ first ∷ rest
    → ((x : List ℕ) → Contains (subsets s.shape.k s.clouds) x → GivesNone s peers x) → any_outcome s peers ≡ outcome_of s peers first
unfolding restored_any
any_none s peers first rest split none =
    ap (λ (l : List (List ℕ)). first_given (map (outcome_of s peers) l)) split
    ∙ first_bytes_none (outcome_of s peers) (outcome_of s peers first) (first ∷ rest) (subst (λ (l : List (List ℕ)). (x : List ℕ) → Contains l x → GivesNone s peers x) split none)

-- ---- tries

refused_more : (tries : List Try) (y : Try) (cloud : ℕ) → HasRefused tries cloud → HasRefused (tries ++ y ∷ []) cloud
refused_more tries y cloud r = (r.0, contains_front tries (y ∷ []) r.0 r.1, r.2)

each_more : (tries : List Try) (y : Try) (subset : List ℕ) → WasTried tries subset ⊎ HoldsRefuser tries subset → WasTried (tries ++ y ∷ []) subset ⊎ HoldsRefuser (tries ++ y ∷ []) subset
each_more tries y subset (inl was) = inl (was.0, contains_front tries (y ∷ []) was.0 was.1, was.2)
each_more tries y subset (inr holds) = inr (holds.0, holds.1, refused_more tries y holds.0 holds.2)

of_more : (P : Try → Type 0) (tries : List Try) (y : Try) → ((x : Try) → Contains tries x → P x) → P y → (x : Try) → Contains (tries ++ y ∷ []) x → P x
of_more P tries y all one x has = elim (contains_last tries y x has) [ inl l ↦ all x l | inr e ↦ subst P e one ]

no_refuser : (subset : List ℕ) → HoldsRefuser [] subset → ⊥
no_refuser subset holds = contains_nothing holds.2.0 holds.2.1

begun_passed : (done : List (List ℕ)) (tries : List Try) (subset : List ℕ) → HasTriedInOrder done tries → HoldsRefuser tries subset → HasTriedInOrder (done ++ subset ∷ []) tries
begun_passed [] [] subset begun holds = absurd (no_refuser subset holds)
begun_passed [] (x ∷ tries) subset begun holds = absurd begun
begun_passed (one ∷ done) [] subset begun holds = absurd begun
begun_passed (one ∷ done) (x ∷ tries) subset begun holds = begun

begun_refused : (done : List (List ℕ)) (tries : List Try) (y : Try) → HasTriedInOrder done tries → HasTriedInOrder (done ++ y.subset ∷ []) (tries ++ y ∷ [])
begun_refused [] [] y begun = refl
begun_refused [] (x ∷ tries) y begun = absurd begun
begun_refused (one ∷ done) [] y begun = absurd begun
begun_refused (one ∷ done) (x ∷ tries) y begun = begun

all_refused_more : {L : Type 0} (t : LinkTelling L) (talk : L → ℕ → Talk → Type 0) (s : Sought) (bytes : List ℕ) (start mid now : L) (tries : List Try) (y : Try)
    → AllRefused t talk s bytes start tries mid → OneRestore t talk s y.subset bytes bytes mid (Err y.refusal) now → AllRefused t talk s bytes start (tries ++ y ∷ []) now
all_refused_more {L} t talk s bytes start mid now [] y all one = (now, subst (λ (l : L). OneRestore t talk s y.subset bytes bytes l (Err y.refusal) now) all one, refl)
all_refused_more t talk s bytes start mid now (x ∷ tries) y all one = (all.0, all.1, all_refused_more t talk s bytes all.0 mid now tries y all.2 one)

no_tries : (x : Try) → [] ≡ x ∷ [] → ⊥
no_tries x e = cc

no_end : (tries : List Try) (y : Try) → tries ++ y ∷ [] ≡ [] → ⊥
no_end [] y e = cc
no_end (z ∷ tries) y e = cc

-- which clouds the one try read
read_once : (tries : List Try) (y : Try) (a b c : ℕ → Peer) → (tries ≡ [] → b ≡ a) → ReadsUpTo y.subset (Err y.refusal) b c → (x : Try) → tries ++ y ∷ [] ≡ x ∷ [] → ReadsUpTo x.subset (Err x.refusal) a c
read_once [] y a b c none reads x e =
    let same : y ≡ x = cc in
    subst (λ (z : Try). ReadsUpTo z.subset (Err z.refusal) a c) same (subst (λ (p : ℕ → Peer). ReadsUpTo y.subset (Err y.refusal) p c) (none refl) reads)
read_once (z ∷ tries) y a b c none reads x e = absurd (no_end tries y (let f : z ∷ (tries ++ y ∷ []) ≡ x ∷ [] = e in cc))

-- there are no more tries than choices
tries_few : (done : List (List ℕ)) (tries : List Try) → GoneThrough done tries → length tries ≤ length done
tries_few done tries NoneYet = omega arith
tries_few all tries (Passed done tried subset gone holds) = omega (arith, tries_few done tries gone, length-append done (subset ∷ []))
tries_few all more (Refused done tries subset e gone free plain) =
    omega (arith, tries_few done tries gone, length-append done (subset ∷ []), length-append tries (record { subset = subset; refusal = e } ∷ []))

-- ---- what was asked

no_loss : {L : Type 0} (t : LinkTelling L) (clouds : List ℕ) (old new : L) (loss : Bool) → HasAskedClouds t clouds old new loss → HasAskedClouds t clouds old new false
no_loss t clouds old new loss a = record {
  asks = a.asks;
  passed = a.passed;
  others = a.others;
  reaches = a.reaches;
  shape = a.shape;
  told = a.told;
  full = a.full;
  later = a.later;
  lost = λ e. absurd (let f : false ≡ true = e in cc);
  lossless = λ h. (refl, (a.lossless h).1);
}

-- ---- so far

module _ {L : Type 0} (t : LinkTelling L) (talk : L → ℕ → Talk → Type 0) (s : Sought) (start : L) (bytes : List ℕ) where
  pub so_far_none : SoFar t talk s start start bytes [] []
  so_far_none = record {
    gone = NoneYet;
    begun = tt;
    each = λ x has. absurd (contains_nothing x has);
    plain = λ x has. absurd (contains_nothing x has);
    named = λ x has. absurd (contains_nothing x has);
    asked = asked_none t s.clouds start;
    lost = λ x has. absurd (contains_nothing x has);
    lossless = λ h x has. absurd (contains_nothing x has);
    refused = refl;
    leads = λ these. leads_none (among these t) s.clouds start (TriesStand t start s [] bytes these) (AllStand s [] bytes) (λ a. record { shown = λ x has. absurd (contains_nothing x has); alone = λ x has. absurd (contains_nothing x has) })
        (λ a. record { each = λ x has. absurd (contains_nothing x has); none = λ e. refl; one = λ x e. absurd (no_tries x e) });
  }

  each_behind : (done : List (List ℕ)) (tries : List Try) (subset : List ℕ) → ((x : List ℕ) → Contains done x → WasTried tries x ⊎ HoldsRefuser tries x) → WasTried tries subset ⊎ HoldsRefuser tries subset
      → (x : List ℕ) → Contains (done ++ subset ∷ []) x → WasTried tries x ⊎ HoldsRefuser tries x
  each_behind done tries subset each one x has =
      elim (contains_last done subset x has) [ inl l ↦ each x l | inr e ↦ subst (λ (y : List ℕ). WasTried tries y ⊎ HoldsRefuser tries y) e one ]

  pub so_far_passed : (now : L) (done : List (List ℕ)) (tries : List Try) (subset : List ℕ) → SoFar t talk s start now bytes done tries → HoldsRefuser tries subset
      → SoFar t talk s start now bytes (done ++ subset ∷ []) tries
  so_far_passed now done tries subset f holds = record {
    gone = Passed done tries subset f.gone holds;
    begun = begun_passed done tries subset f.begun holds;
    each = each_behind done tries subset f.each (inr holds);
    plain = f.plain;
    named = f.named;
    asked = f.asked;
    lost = f.lost;
    lossless = f.lossless;
    refused = f.refused;
    leads = f.leads;
  }

  -- a restore from a choice of these clouds, of which none had refused
  pub record OneStep (now new : L) (subset bytes' : List ℕ) (result : Result (Unit {0}) RestoreErr) : Type 0 where
    pub among : (x : ℕ) → Contains subset x → Contains s.clouds x
    pub asked : HasAskedClouds t subset now new (is_lost result)
    pub restored : LeadsAny t subset now new (CausesAmong t now s.shape s.user (s.tag, s.version) result) (Restores s.shape s.user (s.tag, s.version) subset result bytes bytes')
    pub said : Unlost result (RestoreSaid talk now new s.shape s.user s.tag s.version subset bytes bytes' result)
    pub passed : Unlost result (RestorePassed t talk now new s.shape s.user s.tag s.version subset bytes bytes' result)
    pub beside : LostSaid talk now new result
    pub readable : Readable t now new result

  free_later : (tries : List Try) (subset : List ℕ) → (HoldsRefuser tries subset → ⊥) → (x : Try) → Contains tries x → (cloud : ℕ) → refuser x.refusal ≡ Some cloud → Contains subset cloud → ⊥
  free_later tries subset free x has cloud refused holds = free (cloud, holds, (x, has, refused))

  -- what a restore says, of told clouds too
  record StepSays (now new : L) (subset bytes' : List ℕ) (result : Result (Unit {0}) RestoreErr) (these : ℕ → Bool) (b c : ℕ → Peer) : Type 0 where
    pub causes : CausesAmong t now s.shape s.user (s.tag, s.version) result these b c
    pub told : TellsAll (among these t) now subset → Restores s.shape s.user (s.tag, s.version) subset result bytes bytes' b c

  step_says : (now new : L) (subset bytes' : List ℕ) (result : Result (Unit {0}) RestoreErr) → OneStep now new subset bytes' result
      → LeadsAny t subset now new (StepSays now new subset bytes' result) (Restores s.shape s.user (s.tag, s.version) subset result bytes bytes')
  step_says now new subset bytes' result step these =
      leads_to (among these t) subset subset now new _ (StepSays now new subset bytes' result these) _ _ (step.restored these) (λ x has. has)
      (λ b c one causes told. record { causes = causes; told = told }) (λ b c one r. r)

  told_now : (these : ℕ → Bool) (now : L) (subset : List ℕ) → t.told now ≡ t.told start → TellsAll (among these t) start subset → TellsAll (among these t) now subset
  told_now these now subset same tells x has = subst (λ (f : ℕ → Bool). IsTrue (f x)) (sym (told_among t these start now same)) (tells x has)

  -- what stood of the tries stands behind one more
  shown_later : (these : ℕ → Bool) (tries : List Try) (subset : List ℕ) (a b c : ℕ → Peer) → (HoldsRefuser tries subset → ⊥) → AreOnlyAsked subset b c → EachShown t start s tries these a b → EachShown t start s tries these a c
  shown_later these tries subset a b c free only shown x has named =
      caused_later t start s subset x.refusal a b c (shown x has named) only (free_later tries subset free x has)

  alone_later : (these : ℕ → Bool) (tries : List Try) (subset : List ℕ) (a b c : ℕ → Peer) → AreOnlyAsked subset b c → EachAlone t start s tries bytes these a b → EachAlone t start s tries bytes these a c
  alone_later these tries subset a b c only alone x has tells = told_later s x.subset x.refusal bytes a b c (alone x has tells) only.read

  pub so_far_refused : (now new : L) (done : List (List ℕ)) (tries : List Try) (subset : List ℕ) (e : RestoreErr) → SoFar t talk s start now bytes done tries → (HoldsRefuser tries subset → ⊥)
      → e ≢ errors.NoMemory → Names (Contains subset) e → OneStep now new subset bytes (Err e)
      → SoFar t talk s start new bytes (done ++ subset ∷ []) (tries ++ record { subset = subset; refusal = e } ∷ [])
  so_far_refused now new done tries subset e f free plain names step =
      let y : Try = record { subset = subset; refusal = e } in
      let later : t.losses now ≤ t.losses new = step.asked.later in
      record {
        gone = Refused done tries subset e f.gone free plain;
        begun = begun_refused done tries y f.begun;
        each = each_behind done (tries ++ y ∷ []) subset (λ x has. each_more tries y x (f.each x has)) (inl (y, contains_end tries y, refl));
        plain = of_more (λ x. x.refusal ≢ errors.NoMemory) tries y f.plain plain;
        named = of_more (λ x. Names (Contains s.clouds) x.refusal) tries y f.named (names_to (Contains subset) (Contains s.clouds) e step.among names);
        asked = no_loss t s.clouds start new (is_loss e) (asked_on t s.clouds start now new (is_loss e) f.asked (asked_in t subset s.clouds now new (is_loss e) step.among step.asked));
        lost = of_more (λ x. is_loss x.refusal ≡ true → Rose (t.losses start) (t.losses new)) tries y
            (λ x has is. rose_off (t.losses start) (t.losses now) (t.losses new) (f.lost x has is) later)
            (λ is. rose_on (t.losses start) (t.losses now) (t.losses new) f.asked.later (step.asked.lost is));
        lossless = λ h. of_more (λ x. is_loss x.refusal ≡ false) tries y (f.lossless h) (step.asked.lossless (f.asked.lossless h).1).0;
        refused = all_refused_more t talk s bytes start now new tries y f.refused (record { asked = step.asked; named = names; said = step.said; passed = step.passed; beside = step.beside; readable = step.readable });
        leads = λ these. leads_on (among these t) s.clouds subset s.clouds start now new _ _ (TriesStand t start s (tries ++ y ∷ []) bytes these) _ _ (AllStand s (tries ++ y ∷ []) bytes)
            (f.leads these) (told_among t these start now f.asked.told) (step_says now new subset bytes (Err e) step these)
            (λ x has. has) step.among
            (λ a b c one two r q. record {
              shown = of_more (λ x. ShownAmong t start s.shape s.user (s.tag, s.version) these x.refusal a c) tries y (shown_later these tries subset a b c free two r.shown)
                  (λ named. caused_on t start now s.shape s.user (s.tag, s.version) e a b c f.asked.told one.read (q.causes named));
              alone = of_more (λ x. TellsAll (among these t) start x.subset → TryTold s x.subset x.refusal bytes a c) tries y (alone_later these tries subset a b c two r.alone)
                  (λ tells. told_first s subset e bytes a b c one.read (q.told (told_now these now subset f.asked.told tells)));
            })
            (λ a b c one two r q. record {
              each = of_more (λ x. TryTold s x.subset x.refusal bytes a c) tries y
                  (λ x has. told_later s x.subset x.refusal bytes a b c (r.each x has) two.read)
                  (told_first s subset e bytes a b c one.read q);
              none = λ is. absurd (no_end tries y is);
              one = λ x is. read_once tries y a b c r.none q.read x is;
            });
      }

  -- ---- from which choices nothing comes

  none_from : (tries : List Try) (a c : ℕ → Peer) → ((x : Try) → Contains tries x → x.refusal ≢ errors.NoMemory) → EachTold s tries bytes a c
      → (subset : List ℕ) → WasTried tries subset ⊎ HoldsRefuser tries subset → IsNone s tries a c subset
  none_from tries a c plain told subset (inl was) = subst (IsNone s tries a c) was.2 (tried_none s tries was.0 was.0.refusal bytes a c was.1 refl (plain was.0 was.1) (told was.0 was.1))
  none_from tries a c plain told subset (inr holds) =
      let x = holds.2.0 in
      held_none s tries x x.refusal bytes a c subset holds.0 holds.2.1 refl (told x holds.2.1) holds.2.2 holds.1

  -- the same of told clouds alone
  none_alone : (these : ℕ → Bool) (tries : List Try) (a c : ℕ → Peer) → ((x : Try) → Contains tries x → x.refusal ≢ errors.NoMemory) → EachShown t start s tries these a c → EachAlone t start s tries bytes these a c
      → (subset : List ℕ) → WasTried tries subset ⊎ HoldsRefuser tries subset → TellsAll (among these t) start subset → IsNone s tries a c subset
  none_alone these tries a c plain shown alone subset (inl was) tells =
      subst (IsNone s tries a c) was.2 (tried_none s tries was.0 was.0.refusal bytes a c was.1 refl (plain was.0 was.1)
      (alone was.0 was.1 (subst (TellsAll (among these t) start) (sym was.2) tells)))
  none_alone these tries a c plain shown alone subset (inr holds) tells =
      let x = holds.2.0 in
      held_alone t start s tries these x x.refusal a c subset holds.0 holds.2.1 refl (shown x holds.2.1) tells holds.2.2 holds.1

  -- where all are told, none of the named clouds is another
  all_caused : (tries : List Try) (a c : ℕ → Peer) → ((x : Try) → Contains tries x → Names (Contains s.clouds) x.refusal) → AllShown t start s tries (λ x. true) a c → AllCaused t start s tries a c
  all_caused tries a c named shown =
      all_of (λ x. Caused t start s.shape s.user (s.tag, s.version) x.refusal a c) tries
      (λ x has. shown_caused t start s.shape s.user (s.tag, s.version) x.refusal a c
      (of_all (λ x. ShownAmong t start s.shape s.user (s.tag, s.version) (λ y. true) x.refusal a c) tries x shown has
      (names_to (Contains s.clouds) (λ y. IsTrue true) x.refusal (λ y in_it. refl) (named x has))))

  lost_is : (e : RestoreErr) (cloud : ℕ) → e ≡ errors.Lost (record { 0 = cloud }) → is_loss e ≡ true
  lost_is e cloud same = ap is_loss same

  -- where none failed their lists give nothing
  gives_none : (new : L) (tries : List Try) (a c : ℕ → Peer) (subset : List ℕ) → ((x : Try) → Contains tries x → is_loss x.refusal ≡ true → Rose (t.losses start) (t.losses new))
      → ((x : ℕ) → Contains subset x → Contains s.clouds x) → NoneFailed s (t.losses start) (t.losses new) a c → IsNone s tries a c subset → GivesNone s c subset
  gives_none new tries a c subset lost among none (inl gives) = gives
  gives_none new tries a c subset lost among none (inr (cloud, holds, inl rose)) = absurd (none.counts cloud (among cloud holds) rose)
  gives_none new tries a c subset lost among none (inr (cloud, holds, inr (x, has, is))) = absurd (none.unlost (lost x has (lost_is x.refusal cloud is)))

  -- ---- the file comes

  came_told : (now new : L) (done : List (List ℕ)) (tries : List Try) (subset : List ℕ) (rest : List (List ℕ)) (bytes' : List ℕ) (a b c : ℕ → Peer)
      → SoFar t talk s start now bytes done tries → t.losses now ≤ t.losses new → subsets s.shape.k s.clouds ≡ done ++ subset ∷ rest
      → AreOnlyAsked s.clouds a b → AreOnlyAsked subset b c → AllStand s tries bytes a b → Restores s.shape s.user (s.tag, s.version) subset (Ok tt) bytes bytes' b c
      → CameTold s tries done subset (t.losses start) (t.losses new) bytes bytes' a c
  came_told now new done tries subset rest bytes' a b c f later split one two told r =
      let told' : EachTold s tries bytes a c = λ x has. told_later s x.subset x.refusal bytes a b c (told.each x has) two.read in
      let read : AreRead subset a c = λ x has. may_reads (a x) (b x) (c x) (one.read x) (r.read x has) in
      let none : (x : List ℕ) → Contains done x → IsNone s tries a c x = λ x has. none_from tries a c f.plain told' x (f.each x has) in
      let within : (x : List ℕ) → Contains done x → (y : ℕ) → Contains x y → Contains s.clouds y =
      λ x has. subset_among s.shape.k s.clouds x (subst (λ (l : List (List ℕ)). Contains l x) (sym split) (contains_front done (subset ∷ rest) x has)) in
      record {
        ends = r.ends;
        read = read;
        front_none = all_of (IsNone s tries a c) done none;
        exact = λ free. (
          r.ends.0,
          r.ends.1,
          any_at s c done subset rest r.ends.0 split
              (λ x has. gives_none new tries a c x (λ y is loss. rose_off (t.losses start) (t.losses now) (t.losses new) (f.lost y is loss) later) (within x has) free (none x has)) r.ends.2,
        );
        just = λ few. subst (λ (l : List ℕ). Restores s.shape s.user (s.tag, s.version) l (Ok tt) bytes bytes' a c)
            (sole done subset rest s.clouds (sym split ∙ only_choice s.shape.k s.clouds few)) (record { ends = r.ends; read = read });
      }

  came_any : (now new : L) (done : List (List ℕ)) (tries : List Try) (subset : List ℕ) (rest : List (List ℕ)) (bytes' : List ℕ) → SoFar t talk s start now bytes done tries
      → (HoldsRefuser tries subset → ⊥) → OneStep now new subset bytes' (Ok tt) → subsets s.shape.k s.clouds ≡ done ++ subset ∷ rest
      → LeadsAny t s.clouds start new (CameAlone t start s tries done subset bytes bytes') (CameTold s tries done subset (t.losses start) (t.losses new) bytes bytes')
  came_any now new done tries subset rest bytes' f free step split these =
      leads_on (among these t) s.clouds subset s.clouds start now new _ _ (CameAlone t start s tries done subset bytes bytes' these) _ _ (CameTold s tries done subset (t.losses start) (t.losses new) bytes bytes')
      (f.leads these) (told_among t these start now f.asked.told) (step_says now new subset bytes' (Ok tt) step these)
      (λ x has. has) step.among
      (λ a b c one two r q.
      let shown = shown_later these tries subset a b c free two r.shown in
      let alone = alone_later these tries subset a b c two r.alone in
      record {
        shown = all_of (λ x. ShownAmong t start s.shape s.user (s.tag, s.version) these x.refusal a c) tries shown;
        came = λ tells. (let k = q.told (told_now these now subset f.asked.told tells) in
            record { ends = k.ends; read = λ x has. may_reads (a x) (b x) (c x) (one.read x) (k.read x has) });
        none = all_of (λ chosen. TellsAll (among these t) start chosen → IsNone s tries a c chosen) done
            (λ chosen has. none_alone these tries a c f.plain shown alone chosen (f.each chosen has));
      })
      (λ a b c one two r q. came_told now new done tries subset rest bytes' a b c f step.asked.later split one two r q)

  pub came : (now new : L) (done : List (List ℕ)) (tries : List Try) (subset : List ℕ) (rest : List (List ℕ)) (bytes' : List ℕ) → SoFar t talk s start now bytes done tries
      → (HoldsRefuser tries subset → ⊥) → OneStep now new subset bytes' (Ok tt) → Brought s.shape subset bytes bytes' → subsets s.shape.k s.clouds ≡ done ++ subset ∷ rest
      → HasFileCome t talk s start new bytes bytes'
  came now new done tries subset rest bytes' f free step brought split = record {
    tries = tries;
    front = done;
    subset = subset;
    rest = rest;
    split = split;
    gone = f.gone;
    free = free;
    brought = brought;
    mid = now;
    refused = f.refused;
    restored = record { asked = step.asked; named = tt; said = step.said; passed = step.passed; beside = step.beside; readable = step.readable };
    leads = leads_to t s.clouds s.clouds start new (CameAlone t start s tries done subset bytes bytes' (λ x. true)) (AllCaused t start s tries) _ _
        (leads_whole t s.clouds start new (CameAlone t start s tries done subset bytes bytes' (λ x. true)) _ (came_any now new done tries subset rest bytes' f free step split (λ x. true)))
        (λ x has. has) (λ a c only r known. all_caused tries a c f.named r.shown) (λ a c only r. r);
    alone = λ these. leads_to (among these t) s.clouds s.clouds start new _ _ _ _ (came_any now new done tries subset rest bytes' f free step split these)
        (λ x has. has) (λ a c only r known. r) (λ a c only r. tt);
  }

  pub asked_behind : (now new : L) (done : List (List ℕ)) (tries : List Try) (subset bytes' : List ℕ) (result : Result (Unit {0}) RestoreErr) → SoFar t talk s start now bytes done tries
      → OneStep now new subset bytes' result → HasAskedClouds t s.clouds start new false
  asked_behind now new done tries subset bytes' result f step =
      no_loss t s.clouds start new (is_lost result) (asked_on t s.clouds start now new (is_lost result) f.asked (asked_in t subset s.clouds now new (is_lost result) step.among step.asked))

  -- ---- memory runs out

  pub lacked : (now : L) (done : List (List ℕ)) (tries : List Try) → SoFar t talk s start now bytes done tries → OnlyLeads t s.clouds start now
  lacked now done tries f =
      leads_to t s.clouds s.clouds start now (TriesStand t start s tries bytes (λ x. true)) _ _ _
      (leads_whole t s.clouds start now (TriesStand t start s tries bytes (λ x. true)) (AllStand s tries bytes) (f.leads (λ x. true))) (λ x has. has) (λ a b one r known. tt) (λ a b one r. tt)

  pub lacked_behind : (now new : L) (done : List (List ℕ)) (tries : List Try) (subset bytes' : List ℕ) (result : Result (Unit {0}) RestoreErr) → SoFar t talk s start now bytes done tries
      → OneStep now new subset bytes' result → OnlyLeads t s.clouds start new
  lacked_behind now new done tries subset bytes' result f step =
      leads_on t s.clouds subset s.clouds start now new (TriesStand t start s tries bytes (λ x. true)) (StepSays now new subset bytes' result (λ x. true)) _ _ _ _
      (leads_whole t s.clouds start now (TriesStand t start s tries bytes (λ x. true)) (AllStand s tries bytes) (f.leads (λ x. true))) f.asked.told
      (leads_whole t subset now new (StepSays now new subset bytes' result (λ x. true)) (Restores s.shape s.user (s.tag, s.version) subset result bytes bytes') (step_says now new subset bytes' result step (λ x. true)))
      (λ x has. has) step.among (λ a b c one two r q. tt) (λ a b c one two r q. tt)

  -- ---- no file comes

  no_more : (more : List Try) → length more ≤ 0 → more ≡ []
  no_more [] few = refl
  no_more (x ∷ more) few = absurd (omega arith)

  record FirstTry (tries : List Try) (e : RestoreErr) (first : List ℕ) : Type 0 where
    pub more : List Try
    pub is : tries ≡ record { subset = first; refusal = e } ∷ more

  error_some : (a b : RestoreErr) → Some a ≡ Some b → a ≡ b
  error_some a b same = cc

  no_error : (b : RestoreErr) → None ≡ Some b → ⊥
  no_error b same = cc

  first_try : (tries : List Try) (done : List (List ℕ)) (e : RestoreErr) (first : List ℕ) (rest : List (List ℕ)) → first_of tries ≡ Some e → done ≡ first ∷ rest → HasTriedInOrder done tries → FirstTry tries e first
  first_try [] done e first rest is split begun = absurd (no_error e is)
  first_try (x ∷ tries) done e first rest is split begun =
      let same : x.subset ≡ first = subst (λ (l : List (List ℕ)). HasTriedInOrder l (x ∷ tries)) split begun in
      record { more = tries; is = λ i. record { subset = same i; refusal = error_some x.refusal e is i } ∷ tries }

  -- from just k clouds
  just_first : (tries : List Try) (e : RestoreErr) (first : List ℕ) (rest : List (List ℕ)) (a b : ℕ → Peer) → GoneThrough (subsets s.shape.k s.clouds) tries → subsets s.shape.k s.clouds ≡ first ∷ rest
      → FirstTry tries e first → Ends (outcome_of s b first) first (Err e) bytes bytes a b → ((x : Try) → tries ≡ x ∷ [] → ReadsUpTo x.subset (Err x.refusal) a b) → subsets s.shape.k s.clouds ≡ s.clouds ∷ []
      → Restores s.shape s.user (s.tag, s.version) s.clouds (Err e) bytes bytes a b
  just_first tries e first rest a b gone split one ends reads all =
      let first_is : first ≡ s.clouds = sole [] first rest s.clouds (sym split ∙ all) in
      let few : length tries ≤ 1 = tries_few (s.clouds ∷ []) tries (subst (λ (l : List (List ℕ)). GoneThrough l tries) all gone) in
      let y : Try = record { subset = first; refusal = e } in
      subst (λ (l : List ℕ). Restores s.shape s.user (s.tag, s.version) l (Err e) bytes bytes a b) first_is
      (record { ends = ends; read = reads y (one.is ∙ ap (λ (l : List Try). y ∷ l) (no_more one.more (omega (arith, few, ap length one.is)))) })

  none_told : (now : L) (tries : List Try) (e : RestoreErr) (first : List ℕ) (rest : List (List ℕ)) (a b : ℕ → Peer) → SoFar t talk s start now bytes (subsets s.shape.k s.clouds) tries
      → subsets s.shape.k s.clouds ≡ first ∷ rest → FirstTry tries e first → AllStand s tries bytes a b → NoneTold s tries first (t.losses start) (t.losses now) e bytes a b
  none_told now tries e first rest a b f split one told =
      let y : Try = record { subset = first; refusal = e } in
      let has : Contains tries y = subst (λ (l : List Try). Contains l y) (sym one.is) (contains_here y one.more) in
      let none : (x : List ℕ) → Contains (subsets s.shape.k s.clouds) x → IsNone s tries a b x = λ x has. none_from tries a b f.plain told.each x (f.each x has) in
      let here : Contains (subsets s.shape.k s.clouds) first = subst (λ (l : List (List ℕ)). Contains l first) (sym split) (contains_here first rest) in
      record {
        ends = (told.each y has).ends;
        none = all_of (IsNone s tries a b) (subsets s.shape.k s.clouds) none;
        exact = λ free. ends_among (outcome_of s b first) (any_outcome s b) first s.clouds e bytes a b
            (any_none s b first rest split (λ x within. gives_none now tries a b x f.lost (subset_among s.shape.k s.clouds x within) free (none x within)))
            (subset_among s.shape.k s.clouds first here) (told.each y has).ends;
        just = λ few. just_first tries e first rest a b f.gone split one (told.each y has).ends told.one (only_choice s.shape.k s.clouds few);
      }

  none_any : (now : L) (tries : List Try) (e : RestoreErr) (first : List ℕ) (rest : List (List ℕ)) → SoFar t talk s start now bytes (subsets s.shape.k s.clouds) tries
      → subsets s.shape.k s.clouds ≡ first ∷ rest → FirstTry tries e first
      → LeadsAny t s.clouds start now (NothingAlone t start s tries first e bytes) (NoneTold s tries first (t.losses start) (t.losses now) e bytes)
  none_any now tries e first rest f split one these =
      let y : Try = record { subset = first; refusal = e } in
      let has_first : Contains tries y = subst (λ (l : List Try). Contains l y) (sym one.is) (contains_here y one.more) in
      leads_to (among these t) s.clouds s.clouds start now _ (NothingAlone t start s tries first e bytes these) _ (NoneTold s tries first (t.losses start) (t.losses now) e bytes) (f.leads these) (λ x has. has)
      (λ a b only r known. record {
        shown = all_of (λ x. ShownAmong t start s.shape s.user (s.tag, s.version) these x.refusal a b) tries r.shown;
        ends = λ tells. (r.alone y has_first tells).ends;
        none = all_of (λ chosen. TellsAll (among these t) start chosen → IsNone s tries a b chosen) (subsets s.shape.k s.clouds)
            (λ chosen has. none_alone these tries a b f.plain r.shown r.alone chosen (f.each chosen has));
      })
      (λ a b only r. none_told now tries e first rest a b f split one r)

  none_came : (now : L) (tries : List Try) (e : RestoreErr) (first : List ℕ) (rest : List (List ℕ)) → SoFar t talk s start now bytes (subsets s.shape.k s.clouds) tries
      → subsets s.shape.k s.clouds ≡ first ∷ rest → FirstTry tries e first → NoneCame t talk s start now bytes e
  none_came now tries e first rest f split one = record {
    tries = tries;
    first = first;
    more = one.more;
    tries_are = one.is;
    rest = rest;
    first_is = split;
    gone = f.gone;
    each = all_of (λ subset. WasTried tries subset ⊎ HoldsRefuser tries subset) (subsets s.shape.k s.clouds) f.each;
    refused = f.refused;
    leads = leads_to t s.clouds s.clouds start now (NothingAlone t start s tries first e bytes (λ x. true)) (AllCaused t start s tries) _ _
        (leads_whole t s.clouds start now (NothingAlone t start s tries first e bytes (λ x. true)) _ (none_any now tries e first rest f split one (λ x. true)))
        (λ x has. has) (λ a b only r known. all_caused tries a b f.named r.shown) (λ a b only r. r);
    alone = λ these. leads_to (among these t) s.clouds s.clouds start now _ _ _ _ (none_any now tries e first rest f split one these)
        (λ x has. has) (λ a b only r known. r) (λ a b only r. tt);
  }

  none_by : (now : L) (e : RestoreErr) → e ≢ errors.NoMemory → NoneCame t talk s start now bytes e → NoneBy t talk s start now bytes e
  none_by now (errors.Missing n) plain none = none
  none_by now (errors.Lost n) plain none = none
  none_by now (errors.CloudFault n) plain none = none
  none_by now (errors.CloudDamaged n at byte) plain none = none
  none_by now (errors.CloudRotten n named found) plain none = none
  none_by now (errors.CloudNoMemory n) plain none = none
  none_by now (errors.Strange n kind) plain none = none
  none_by now (errors.RecipesDiffer x y place) plain none = none
  none_by now (errors.ShareLength n secret found wanted) plain none = none
  none_by now (errors.BadShare n secret named found) plain none = none
  none_by now (errors.BadSecret secret named found) plain none = none
  none_by now (errors.BadPad secret at byte) plain none = none
  none_by now errors.NoMemory plain none = absurd (plain refl)

  asked_as_first : (now : L) (tries : List Try) (y : Try) → Contains tries y → (done : List (List ℕ)) → SoFar t talk s start now bytes done tries → HasAskedClouds t s.clouds start now (is_loss y.refusal)
  asked_as_first now tries y has done f = record {
    asks = f.asked.asks;
    passed = f.asked.passed;
    others = f.asked.others;
    reaches = f.asked.reaches;
    shape = f.asked.shape;
    told = f.asked.told;
    full = f.asked.full;
    later = f.asked.later;
    lost = f.lost y has;
    lossless = λ h. (f.lossless h y has, (f.asked.lossless h).1);
  }

  -- all that is said of it
  pub record EndsSo (now : L) (e : RestoreErr) : Type 0 where
    pub none : NoneBy t talk s start now bytes e
    pub asked : HasAskedClouds t s.clouds start now (is_loss e)
    pub named : Names (Contains s.clouds) e

  pub ends_so : (now : L) (tries : List Try) (e : RestoreErr) (first : List ℕ) (rest : List (List ℕ)) → SoFar t talk s start now bytes (subsets s.shape.k s.clouds) tries
      → subsets s.shape.k s.clouds ≡ first ∷ rest → first_of tries ≡ Some e → EndsSo now e
  ends_so now tries e first rest f split is =
      let one = first_try tries (subsets s.shape.k s.clouds) e first rest is split f.begun in
      let y : Try = record { subset = first; refusal = e } in
      let has : Contains tries y = subst (λ (l : List Try). Contains l y) (sym one.is) (contains_here y one.more) in
      record {
        none = none_by now e (f.plain y has) (none_came now tries e first rest f split one);
        asked = asked_as_first now tries y has (subsets s.shape.k s.clouds) f;
        named = f.named y has;
      }

  -- where all were gone through there is a first refusal
  pub none_untried : (now : L) (tries : List Try) (first : List ℕ) (rest : List (List ℕ)) → SoFar t talk s start now bytes (subsets s.shape.k s.clouds) tries
      → subsets s.shape.k s.clouds ≡ first ∷ rest → first_of tries ≡ None → ⊥
  none_untried now tries first rest f split is = go tries f.begun is
    where
      go : (tries : List Try) → HasTriedInOrder (subsets s.shape.k s.clouds) tries → first_of tries ≡ None → ⊥
      go [] begun is = subst (λ (l : List (List ℕ)). HasTriedInOrder l []) split begun
      go (x ∷ tries) begun is = no_error x.refusal (sym is)

-- ---- one part after another

module _ {L : Type 0} (t : LinkTelling L) (talk : L → ℕ → Talk → Type 0) (shape : Shape) (user : UserId) (path : List ℕ) (version : Version) where
  -- the same choices, among more clouds
  pub goes_as : (old new : L) (bytes bytes' among among' : List ℕ) (todo todo' : List (List ℕ)) (r r' : Refusals) (result : Went) → ((x : ℕ) → Contains among x → Contains among' x) → todo ≡ todo'
      → Seeks t talk shape user path version old new bytes bytes' among todo r r' result → Seeks t talk shape user path version old new bytes bytes' among' todo' r r' result
  goes_as old new bytes bytes' among among' todo todo' r r' result more same goes =
      subst (λ (l : List (List ℕ)). Seeks t talk shape user path version old new bytes bytes' among' l r r' result) same
      (λ clouds start done tries all f tracks. goes clouds start done tries (λ x has. all x (more x has)) f tracks)

  -- no choices
  pub goes_nowhere : (old : L) (bytes among : List ℕ) (r : Refusals) → Seeks t talk shape user path version old old bytes bytes among [] r r went.Refused
  goes_nowhere old bytes among r clouds start done tries all f tracks =
      (tries, subst (λ (l : List (List ℕ)). SoFar t talk (sought shape user path version clouds) start old bytes l tries) (sym (append-nil done)) f, tracks, refl)

  on_behind : (start now : L) (s : Sought) (bytes new : List ℕ) (done todo more : List (List ℕ)) (r : Refusals) (result : Went) → GoesOn t talk s start now bytes new (done ++ todo) more r result
      → GoesOn t talk s start now bytes new done (todo ++ more) r result
  on_behind start now s bytes new done todo more r went.Restored g =
      (λ rest e. g.0 rest (e ∙ ap (λ (l : List (List ℕ)). l ++ rest) (sym (append_assoc done todo more))), g.1)
  on_behind start now s bytes new done todo more r went.NoMemory g = g
  on_behind start now s bytes new done todo more r went.Refused g =
      (g.0, subst (λ (l : List (List ℕ)). SoFar t talk s start now bytes l g.0) (append_assoc done todo more) g.1, g.2, g.3)

  -- some choices, and then more
  pub goes_twice : (old mid new : L) (bytes between bytes' among : List ℕ) (todo more : List (List ℕ)) (r r' r'' : Refusals) (result : Went)
      → Seeks t talk shape user path version old mid bytes between among todo r r' went.Refused → Seeks t talk shape user path version mid new between bytes' among more r' r'' result
      → Seeks t talk shape user path version old new bytes bytes' among (todo ++ more) r r'' result
  goes_twice old mid new bytes between bytes' among todo more r r' r'' result one two clouds start done tries all f tracks =
      let x = one clouds start done tries all f tracks in
      let s = sought shape user path version clouds in
      let next = subst (λ (l : List ℕ). Seeks t talk shape user path version mid new l bytes' among more r' r'' result) x.3 two in
      on_behind start new s bytes bytes' done todo more r'' result (next clouds start (done ++ todo) x.0 all x.1 x.2)

  -- the file came, or memory ran out, in front of more choices
  pub goes_found : (old new : L) (bytes bytes' among : List ℕ) (todo more : List (List ℕ)) (r r' r'' : Refusals) → Seeks t talk shape user path version old new bytes bytes' among todo r r' went.Restored
      → Seeks t talk shape user path version old new bytes bytes' among (todo ++ more) r r'' went.Restored
  goes_found old new bytes bytes' among todo more r r' r'' goes clouds start done tries all f tracks =
      let g = goes clouds start done tries all f tracks in
      (λ rest e. g.0 (more ++ rest) (e ∙ ap (λ (l : List (List ℕ)). l ++ rest) (sym (append_assoc done todo more)) ∙ append_assoc (done ++ todo) more rest), g.1)

  pub goes_lacked : (old new : L) (bytes bytes' among : List ℕ) (todo more : List (List ℕ)) (r r' r'' : Refusals) → Seeks t talk shape user path version old new bytes bytes' among todo r r' went.NoMemory
      → Seeks t talk shape user path version old new bytes bytes' among (todo ++ more) r r'' went.NoMemory
  goes_lacked old new bytes bytes' among todo more r r' r'' goes clouds start done tries all f tracks = goes clouds start done tries all f tracks

  -- memory ran out before an ask
  pub goes_unasked : (old : L) (bytes among : List ℕ) (todo : List (List ℕ)) (r r' : Refusals) → Seeks t talk shape user path version old old bytes bytes among todo r r' went.NoMemory
  goes_unasked old bytes among todo r r' clouds start done tries all f tracks =
      (lacked t talk (sought shape user path version clouds) start bytes old done tries f, f.asked)

  held : (tries : List Try) (r : Refusals) (subset : List ℕ) → Tracks tries r → HoldsMarked r.marks subset → HoldsRefuser tries subset
  held tries r subset tracks holds = (holds.0, holds.1, tracks.only holds.0 holds.2)

  not_held : (tries : List Try) (r : Refusals) (subset : List ℕ) → Tracks tries r → (HoldsMarked r.marks subset → ⊥) → HoldsRefuser tries subset → ⊥
  not_held tries r subset tracks free holds = free (holds.0, holds.1, tracks.each holds.0 holds.2)

  pub goes_passed : (old : L) (bytes subset : List ℕ) (r : Refusals) → HoldsMarked r.marks subset → Seeks t talk shape user path version old old bytes bytes subset (subset ∷ []) r r went.Refused
  goes_passed old bytes subset r holds clouds start done tries all f tracks =
      (tries, so_far_passed t talk (sought shape user path version clouds) start bytes old done tries subset f (held tries r subset tracks holds), tracks, refl)

  -- what one restore says, whatever is sought beside it
  pub record Restored (old new : L) (bytes bytes' subset : List ℕ) (result : Result (Unit {0}) RestoreErr) : Type 0 where
    pub asked : HasAskedClouds t subset old new (is_lost result)
    pub restored : (clouds : List ℕ) → let s = sought shape user path version clouds in
        LeadsAny t subset old new (CausesAmong t old s.shape s.user (s.tag, s.version) result) (Restores s.shape s.user (s.tag, s.version) subset result bytes bytes')
    pub said : (clouds : List ℕ) → let s = sought shape user path version clouds in
        Unlost result (RestoreSaid talk old new s.shape s.user s.tag s.version subset bytes bytes' result)
    pub passed : (clouds : List ℕ) → let s = sought shape user path version clouds in
        Unlost result (RestorePassed t talk old new s.shape s.user s.tag s.version subset bytes bytes' result)
    pub beside : LostSaid talk old new result
    pub readable : Readable t old new result

  step_of : (old new : L) (start : L) (bytes bytes' subset : List ℕ) (result : Result (Unit {0}) RestoreErr) (clouds : List ℕ) → ((x : ℕ) → Contains subset x → Contains clouds x)
      → Restored old new bytes bytes' subset result → OneStep t talk (sought shape user path version clouds) start bytes old new subset bytes' result
  step_of old new start bytes bytes' subset result clouds all r = record { among = all; asked = r.asked; restored = r.restored clouds; said = r.said clouds; passed = r.passed clouds; beside = r.beside; readable = r.readable }

  pub goes_refused : (old new : L) (bytes bytes' subset : List ℕ) (r r' : Refusals) (e : RestoreErr) → (HoldsMarked r.marks subset → ⊥) → e ≢ errors.NoMemory → bytes' ≡ bytes → Names (Contains subset) e
      → Restored old new bytes bytes' subset (Err e) → ((tries : List Try) (x : List ℕ) → Tracks tries r → Tracks (tries ++ record { subset = x; refusal = e } ∷ []) r')
      → Seeks t talk shape user path version old new bytes bytes' subset (subset ∷ []) r r' went.Refused
  goes_refused old new bytes bytes' subset r r' e free plain kept names one notes clouds start done tries all f tracks =
      let s = sought shape user path version clouds in
      let same : Restored old new bytes bytes subset (Err e) = subst (λ (l : List ℕ). Restored old new bytes l subset (Err e)) kept one in (
        tries ++ record { subset = subset; refusal = e } ∷ [],
        so_far_refused t talk s start bytes old new done tries subset e f (not_held tries r subset tracks free) plain names (step_of old new start bytes bytes subset (Err e) clouds all same),
        notes tries subset tracks,
        kept,
      )

  pub goes_came : (old new : L) (bytes bytes' subset : List ℕ) (r r' : Refusals) → (HoldsMarked r.marks subset → ⊥) → Brought shape subset bytes bytes'
      → Restored old new bytes bytes' subset (Ok tt) → Seeks t talk shape user path version old new bytes bytes' subset (subset ∷ []) r r' went.Restored
  goes_came old new bytes bytes' subset r r' free brought one clouds start done tries all f tracks =
      let s = sought shape user path version clouds in
      let step = step_of old new start bytes bytes' subset (Ok tt) clouds all one in (
        λ rest split. came t talk s start bytes old new done tries subset rest bytes' f (not_held tries r subset tracks free) step brought (split ∙ append_assoc done (subset ∷ []) rest),
        asked_behind t talk s start bytes old new done tries subset bytes' (Ok tt) f step,
      )

  pub goes_short : (old new : L) (bytes bytes' subset : List ℕ) (r r' : Refusals) (e : RestoreErr) → Restored old new bytes bytes' subset (Err e)
      → Seeks t talk shape user path version old new bytes bytes' subset (subset ∷ []) r r' went.NoMemory
  goes_short old new bytes bytes' subset r r' e one clouds start done tries all f tracks =
      let s = sought shape user path version clouds in
      let step = step_of old new start bytes bytes' subset (Err e) clouds all one in
      (lacked_behind t talk s start bytes old new done tries subset bytes' (Err e) f step, asked_behind t talk s start bytes old new done tries subset bytes' (Err e) f step)
