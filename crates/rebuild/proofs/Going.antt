-- Some entries, one after another.
use Rattle.std.proofs.Common.{◌≡◌, ◌≢◌, ℕ, ◌≤◌, Bool, false, List, [], ◌∷◌, ◌++◌, Option, Some, None, Result, Ok, Err, refl, sym, ap, ◌∙◌, subst, inl, inr, append_assoc, append-nil}
use Rattle.std.specs.Prelude.{IsTrue, MatchOption}
use Rattle.std.specs.List.{Contains}
use Rattle.std.proofs.lemmas.Bool.{cases_eq}
use Rattle.lane_steps.specs.CdBase.ids.Tag.{Tag}
use Rattle.lane_steps.specs.CdBase.ids.UserId.{UserId}
use Rattle.lane_steps.specs.CdBase.ids.Version.{Version}
use Rattle.lane_steps.specs.CdBase.shape.Shape.{Shape}
use Rattle.lane_steps.specs.Messages.request.Request.{Request}
use Rattle.lane_steps.specs.Messages.reply.Reply.{Reply}
use Rattle.lane_steps.specs.UserDedup.command.Command.{Command}
use Rattle.lane_steps.specs.UserDedup.Dedup.{Outcome}
use Rattle.lane_steps.specs.UserDedup.Exec.{Peer}
use Rattle.lane_steps.specs.UserDedup.Link.{LinkTelling, Talk, serves}
use Rattle.lane_steps.proofs.UserDedup.Owned.{contains_cases, contains_here, contains_nothing}
use Rattle.lane_steps.specs.UploadJob.Upload.{FileVersion}
use Rattle.lane_steps.specs.Runs.{LaneTurn}
use Rattle.kept_files.specs.RestoreJob.error.RestoreErr.{RestoreErr}
use Rattle.kept_files.specs.RestoreJob.error.RestoreErr.TheVariants as refusals
use Rattle.kept_files.proofs.RestoreJob.Leading.{counts_on, may_on, may_stay, rose_on}
use Rattle.rebuild.specs.declared.error.SkipWhy.{SkipWhy}
use Rattle.rebuild.specs.declared.error.RebuildErr.{RebuildErr}
use Rattle.rebuild.specs.declared.error.RebuildErr.TheVariants as errors
use Rattle.rebuild.specs.Found.{Finding}
use Rattle.rebuild.specs.Rebuilding.{Progressed, BringsAll, BringsOne, IsFrontOfList, LeavesBut, StopsAs}
use Rattle.rebuild.specs.Filling.{IsFilledFurther}
use Rattle.rebuild.specs.Over.{HasAskedToRebuild, CausesRebuildEnd, HandsOn, HasRebuildCause, LeadsWithTarget, ReadCaused, TargetAlong, ThenLost, is_lost}
use Rattle.rebuild.specs.Steps.{IsVersionFound, ReadEnds}
use Rattle.rebuild.specs.Entering.{EntryFound, EntryStops, EntryTold, noted}
use Rattle.rebuild.specs.Several.{AllFound, KeysBrought, KeysCut, KeysTold, keys_of}
use Rattle.rebuild.proofs.Cutting.{goes_on, with_first}
use Rattle.rebuild.proofs.Telling.{lanes_none, lanes_on, said_as, said_on, ends_behind, reply_of}
use Rattle.rebuild.proofs.Joining.{Along, ByTurns, along_read, leads_as, serves_same, then_err}
use Rattle.rebuild.proofs.Staying.{found_before, found_later}

-- ---- one way behind another

abbrev ok_of : {A : Type 0} → A → Result A RebuildErr
ok_of v = Ok v

along_on : {L : Type 0} (t : LinkTelling L) (talk : L → ℕ → Talk → Type 0) (target : ℕ) (from : List ℕ) (old : L) (p : Peer) (one : List (LaneTurn Peer)) (mid : L) (m : Peer) (two : List (LaneTurn Peer)) (new : L) (last : Peer)
    → TargetAlong t talk target from old p one mid m → TargetAlong t talk target from mid m two new last → TargetAlong t talk target from old p (one ++ two) new last
along_on t talk target from old p [] mid m two new last x y =
    along_read t talk target from old mid p two new last x.0 (subst (λ (q : Peer). TargetAlong t talk target from mid q two new last) x.2 y)
along_on t talk target from old p (u ∷ us) mid m two new last x y =
    (x.0, x.1, x.2, x.3, x.4, x.5, (x.6.0, x.6.1, x.6.2, along_on t talk target from x.1 x.6.0 us mid m two new last x.6.3 y))

pub leaves_on : (from : List ℕ) (target : ℕ) (a b c : ℕ → Peer) → LeavesBut from target a b → LeavesBut from target b c → LeavesBut from target a c
leaves_on from target a b c one two = record {
  read = λ x ne. may_on (a x) (b x) (c x) (one.read x ne) (two.read x ne);
  others = λ x ne out. two.others x ne out ∙ one.others x ne out;
  counts = counts_on (a target) (b target) (c target) one.counts two.counts;
}

pub leads_then : {L A B : Type 0} (t : LinkTelling L) (talk : L → ℕ → Talk → Type 0) (target : ℕ) (from : List ℕ) (old mid new : L) (v : A) (r : Result B RebuildErr) (C D E : Along) (R S T : ByTurns)
    → LeadsWithTarget t talk target from old mid (ok_of v) C R → t.told mid ≡ t.told old → LeadsWithTarget t talk target from mid new r D S
    → ((one two : List (LaneTurn Peer)) (a b c : ℕ → Peer) → LeavesBut from target a b → LeavesBut from target b c → C one a b → D two b c → E (one ++ two) a c)
    → ((one two : List (LaneTurn Peer)) (a b : ℕ → Peer) (at : Peer) (c : ℕ → Peer) → LeavesBut from target a b → LeavesBut from target b c → R one a (b target) b → S two b at c → T (one ++ two) a at c)
    → LeadsWithTarget t talk target from old new r E T
leads_then {L} t talk target from old mid new v r C D E R S T first same second always both these all before peers =
    let x = first these all before peers in
    let y = second these all x.0 x.4 in
    let way : TargetAlong t talk target from old (before target) x.1 mid (x.0 target) =
    subst (λ (l : L). TargetAlong t talk target from old (before target) x.1 l (x.0 target)) (sym x.7.0)
    (subst (λ (q : Peer). TargetAlong t talk target from old (before target) x.1 x.2 q) (sym x.7.1) x.6) in (
      y.0,
      x.1 ++ y.1,
      y.2,
      y.3,
      y.4,
      leaves_on from target before x.0 y.0 x.5 y.5,
      along_on t talk target from old (before target) x.1 mid (x.0 target) y.1 y.2 y.3 way y.6,
      y.7,
      always x.1 y.1 before x.0 y.0 x.5 y.5 x.8 y.8,
      λ told. both x.1 y.1 before x.0 y.3 y.0 x.5 y.5 (subst (λ (q : Peer). R x.1 before q x.0) (sym x.7.1) (x.9 told))
          (y.9 (λ c has. subst (λ (f : ℕ → Bool). IsTrue (f c)) (sym same) (told c has))),
    )

-- memory ran out behind it
pub leads_out : {L A B : Type 0} (t : LinkTelling L) (talk : L → ℕ → Talk → Type 0) (target : ℕ) (from : List ℕ) (old new : L) (v : A) (r : Result B RebuildErr) (C D : Along) (R S : ByTurns)
    → LeadsWithTarget t talk target from old new (ok_of v) C R → r ≡ Err errors.NoMemory → ((turns : List (LaneTurn Peer)) (a b : ℕ → Peer) → C turns a b → D turns a b)
    → ((turns : List (LaneTurn Peer)) (a b : ℕ → Peer) → R turns a (b target) b → S turns a (b target) b) → LeadsWithTarget t talk target from old new r D S
leads_out {L} {A} {B} t talk target from old new v r C D R S first is always told these all before peers =
    let x = first these all before peers in (
      x.0,
      x.1,
      x.2,
      x.3,
      x.4,
      x.5,
      x.6,
      subst (λ (s : Result B RebuildErr). ThenLost t target x.2 x.3 s new (x.0 target)) (sym is) x.7,
      always x.1 before x.0 x.8,
      λ h. subst (λ (q : Peer). S x.1 before q x.0) x.7.1 (told x.1 before x.0 (subst (λ (q : Peer). R x.1 before q x.0) (sym x.7.1) (x.9 h))),
    )

-- nothing was done
pub leads_still : {L A : Type 0} (t : LinkTelling L) (talk : L → ℕ → Talk → Type 0) (target : ℕ) (from : List ℕ) (link : L) (v : A) (C : Along) (S : ByTurns)
    → ((a : ℕ → Peer) → C [] a a) → ((a : ℕ → Peer) → S [] a (a target) a) → LeadsWithTarget t talk target from link link (ok_of v) C S
leads_still t talk target from link v C S always told these all before peers = (
  before,
  [],
  link,
  before target,
  peers,
  record { read = λ c ne. may_stay (before c); others = λ c ne out. refl; counts = (may_stay (before target)).1 },
  (([], refl), peers target (all target (contains_here target from)), refl),
  (refl, refl),
  always before,
  λ h. told before,
)

-- ---- results

pub causes_as : (A B : Type 0) {L : Type 0} (t : LinkTelling L) (link : L) (target : ℕ) (e : RebuildErr) (a b : ℕ → Peer) → CausesRebuildEnd {L = L} {A = A} t link target (Err e) a b → CausesRebuildEnd {L = L} {A = B} t link target (Err e) a b
causes_as A B t link target (errors.FromRestore e) a b x = x
causes_as A B t link target errors.TargetLost a b x = x
causes_as A B t link target errors.TargetFault a b x = x
causes_as A B t link target (errors.TargetDamaged place byte) a b x = x
causes_as A B t link target (errors.TargetRotten named hash) a b x = x
causes_as A B t link target (errors.TargetFull room used need limit) a b x = x
causes_as A B t link target (errors.TargetLacking place) a b x = x
causes_as A B t link target errors.TargetNoMemory a b x = x
causes_as A B t link target (errors.TargetStrange kind) a b x = x
causes_as A B t link target errors.NoMemory a b x = x

pub hands_as : (A B : Type 0) (from : List ℕ) (e : RebuildErr) → HandsOn {A = A} from (Err e) → HandsOn {A = B} from (Err e)
hands_as A B from (errors.FromRestore e) x = x
hands_as A B from errors.TargetLost x = x
hands_as A B from errors.TargetFault x = x
hands_as A B from (errors.TargetDamaged place byte) x = x
hands_as A B from (errors.TargetRotten named hash) x = x
hands_as A B from (errors.TargetFull room used need limit) x = x
hands_as A B from (errors.TargetLacking place) x = x
hands_as A B from errors.TargetNoMemory x = x
hands_as A B from (errors.TargetStrange kind) x = x
hands_as A B from errors.NoMemory x = x

pub lost_as : (A B : Type 0) (e : RebuildErr) → is_lost {A = A} (Err e) ≡ is_lost {A = B} (Err e)
lost_as A B (errors.FromRestore e) = refl
lost_as A B errors.TargetLost = refl
lost_as A B errors.TargetFault = refl
lost_as A B (errors.TargetDamaged place byte) = refl
lost_as A B (errors.TargetRotten named hash) = refl
lost_as A B (errors.TargetFull room used need limit) = refl
lost_as A B (errors.TargetLacking place) = refl
lost_as A B errors.TargetNoMemory = refl
lost_as A B (errors.TargetStrange kind) = refl
lost_as A B errors.NoMemory = refl

read_before : {L : Type 0} (t : LinkTelling L) (old mid : L) (e : RestoreErr) (a b c : ℕ → Peer) → t.told mid ≡ t.told old → ((x : ℕ) → (a x).faults ≤ (b x).faults) → ReadCaused t mid e b c → ReadCaused t old e a c
read_before t old mid (refusals.Missing x) a b c same grow y = y
read_before t old mid (refusals.Lost x) a b c same grow y = y
read_before t old mid (refusals.CloudFault x) a b c same grow y = rose_on (a x.0).faults (b x.0).faults (c x.0).faults (grow x.0) y
read_before t old mid (refusals.CloudDamaged x place byte) a b c same grow y = sym (ap (λ (f : ℕ → Bool). f x.0) same) ∙ y
read_before t old mid (refusals.CloudRotten x named hash) a b c same grow y = sym (ap (λ (f : ℕ → Bool). f x.0) same) ∙ y
read_before t old mid (refusals.CloudNoMemory x) a b c same grow y = sym (ap (λ (f : ℕ → Bool). f x.0) same) ∙ y
read_before t old mid (refusals.Strange x kind) a b c same grow y = sym (ap (λ (f : ℕ → Bool). f x.0) same) ∙ y
read_before t old mid (refusals.RecipesDiffer one other place) a b c same grow y = y
read_before t old mid (refusals.ShareLength x secret size wanted) a b c same grow y = y
read_before t old mid (refusals.BadShare x secret named hash) a b c same grow y = sym (ap (λ (f : ℕ → Bool). f x.0) same) ∙ y
read_before t old mid (refusals.BadSecret secret named hash) a b c same grow y = y
read_before t old mid (refusals.BadPad secret place byte) a b c same grow y = y
read_before t old mid refusals.NoMemory a b c same grow y = y

pub causes_before : {L A : Type 0} (t : LinkTelling L) (old mid : L) (target : ℕ) (r : Result A RebuildErr) (a b c : ℕ → Peer) → t.told mid ≡ t.told old → ((x : ℕ) → (a x).faults ≤ (b x).faults)
    → CausesRebuildEnd t mid target r b c → CausesRebuildEnd t old target r a c
causes_before t old mid target (Ok v) a b c same grow y = y
causes_before t old mid target (Err (errors.FromRestore e)) a b c same grow y = read_before t old mid e a b c same grow y
causes_before t old mid target (Err errors.TargetLost) a b c same grow y = y
causes_before t old mid target (Err errors.TargetFault) a b c same grow y = rose_on (a target).faults (b target).faults (c target).faults (grow target) y
causes_before t old mid target (Err (errors.TargetDamaged place byte)) a b c same grow y = sym (ap (λ (f : ℕ → Bool). f target) same) ∙ y
causes_before t old mid target (Err (errors.TargetRotten named hash)) a b c same grow y = sym (ap (λ (f : ℕ → Bool). f target) same) ∙ y
causes_before t old mid target (Err (errors.TargetFull room used need limit)) a b c same grow y = y
causes_before t old mid target (Err (errors.TargetLacking place)) a b c same grow y = sym (ap (λ (f : ℕ → Bool). f target) same) ∙ y
causes_before t old mid target (Err errors.TargetNoMemory) a b c same grow y = y
causes_before t old mid target (Err (errors.TargetStrange kind)) a b c same grow y = y
causes_before t old mid target (Err errors.NoMemory) a b c same grow y = y

-- what holds behind turns that came before
pub holds_on : {L A B : Type 0} (t : LinkTelling L) (old mid : L) (shape : Shape) (user : UserId) (target : ℕ) (v : A) (r : Result B RebuildErr) (one two : List (LaneTurn Peer)) (a b c : ℕ → Peer) → t.told mid ≡ t.told old
    → ((x : ℕ) → (a x).faults ≤ (b x).faults) → HasRebuildCause t old shape user target (ok_of v) one a b → HasRebuildCause t mid shape user target r two b c → HasRebuildCause t old shape user target r (one ++ two) a c
holds_on t old mid shape user target v r one two a b c same grow x y = record {
  caused = causes_before t old mid target r a b c same grow y.caused;
  said = said_on r one two y.said;
  ended = reply_of r _ _ (ends_behind shape user target one two) y.ended;
  own = lanes_on shape user target one two x.own y.own;
}

-- what holds behind clouds that were read
pub holds_before : {L A : Type 0} (t : LinkTelling L) (old mid : L) (shape : Shape) (user : UserId) (target : ℕ) (r : Result A RebuildErr) (turns : List (LaneTurn Peer)) (a b c : ℕ → Peer) → t.told mid ≡ t.told old
    → ((x : ℕ) → (a x).faults ≤ (b x).faults) → HasRebuildCause t mid shape user target r turns b c → HasRebuildCause t old shape user target r turns a c
holds_before t old mid shape user target r turns a b c same grow y = record {
  caused = causes_before t old mid target r a b c same grow y.caused;
  said = y.said;
  ended = y.ended;
  own = y.own;
}

-- of another result that failed so
pub holds_as : (A B : Type 0) {L : Type 0} (t : LinkTelling L) (link : L) (shape : Shape) (user : UserId) (target : ℕ) (e : RebuildErr) (turns : List (LaneTurn Peer)) (a b : ℕ → Peer) → HasRebuildCause {L = L} {A = A} t link shape user target (Err e) turns a b
    → HasRebuildCause {L = L} {A = B} t link shape user target (Err e) turns a b
holds_as A B t link shape user target e turns a b x = record { caused = causes_as A B t link target e a b x.caused; said = said_as A B e turns x.said; ended = x.ended; own = x.own }

pub faults_grow : (from : List ℕ) (target : ℕ) (a b : ℕ → Peer) → LeavesBut from target a b → (x : ℕ) → (a x).faults ≤ (b x).faults
faults_grow from target a b leaves x =
    elim (cases_eq x target) [
      | inl same ↦ subst (λ (y : ℕ). (a y).faults ≤ (b y).faults) (sym same) leaves.counts.faults
      | inr ne ↦ (leaves.read x ne).1.faults
    ]

pub ends_before : (from : List ℕ) (e : RestoreErr) (a b c : ℕ → Peer) → ((x : ℕ) → (a x).faults ≤ (b x).faults) → ReadEnds from e b c → ReadEnds from e a c
ends_before from (refusals.Missing x) a b c grow y = y
ends_before from (refusals.Lost x) a b c grow y = y
ends_before from (refusals.CloudFault x) a b c grow y = (y.0, rose_on (a x.0).faults (b x.0).faults (c x.0).faults (grow x.0) y.1)
ends_before from (refusals.CloudDamaged x place byte) a b c grow y = y
ends_before from (refusals.CloudRotten x named hash) a b c grow y = y
ends_before from (refusals.CloudNoMemory x) a b c grow y = y
ends_before from (refusals.Strange x kind) a b c grow y = y
ends_before from (refusals.RecipesDiffer one other place) a b c grow y = y
ends_before from (refusals.ShareLength x secret size wanted) a b c grow y = y
ends_before from (refusals.BadShare x secret named hash) a b c grow y = y
ends_before from (refusals.BadSecret secret named hash) a b c grow y = y
ends_before from (refusals.BadPad secret place byte) a b c grow y = y
ends_before from refusals.NoMemory a b c grow y = y

-- ---- one entry more in front

module _ (shape : Shape) (user : UserId) (target : ℕ) (serve : List Command → Request → Outcome) (from : List ℕ) (apart : Contains from target → ⊥) where
  abbrev finding : Tag × Version → Result FileVersion SkipWhy → Finding
  finding key found = record { key = key; found = found }

  pub noted_goes : (key : Tag × Version) (skip : Option SkipWhy) (r : Progressed) → (noted key skip r).stop ≡ None
  noted_goes key None r = refl
  noted_goes key (Some why) r = refl

  brings_one : (f : Finding) (found : List Finding) (r next last : Progressed) (start mid end : Peer) (one two : List (LaneTurn Peer)) → BringsOne shape target serve f.key f.found r start one next mid → next.stop ≡ None
      → BringsAll shape target serve found next mid two last end → BringsAll shape target serve (f ∷ found) r start (one ++ two) last end
  brings_one f found r next last start mid end one two brings none all = (
    next,
    mid,
    one,
    two,
    brings,
    refl,
    subst (λ (o : Option Reply). MatchOption o (BringsAll shape target serve found next mid two last end) (λ said. (two ≡ []) × (last ≡ next) × (end ≡ mid))) (sym none) all,
  )

  brings_last : (f : Finding) (r next : Progressed) (start end : Peer) (turns : List (LaneTurn Peer)) (said : Reply) → BringsOne shape target serve f.key f.found r start turns next end → next.stop ≡ Some said
      → BringsAll shape target serve (f ∷ []) r start turns next end
  brings_last f r next start end turns said brings stop = (
    next,
    end,
    turns,
    no_turns,
    brings,
    sym (append-nil turns),
    subst (λ (o : Option Reply). MatchOption o (BringsAll shape target serve [] next end no_turns next end) (λ s. (no_turns ≡ []) × (next ≡ next) × (end ≡ end))) (sym stop) (refl, refl, refl),
  )
    where
      no_turns : List (LaneTurn Peer)
      no_turns = []

  not_target : (x : ℕ) → Contains from x → x ≢ target
  not_target x has same = apart (subst (λ (y : ℕ). Contains from y) same has)

  found_more : (f : Finding) (found : List Finding) (a b c : ℕ → Peer) → LeavesBut from target a b → LeavesBut from target b c → IsVersionFound shape user from f.key f.found a b → AllFound shape user from found b c
      → AllFound shape user from (f ∷ found) a c
  found_more f found a b c one two here all g has =
      elim (contains_cases f found g has) [
        | inl same ↦ subst (λ (x : Finding). IsVersionFound shape user from x.key x.found a c) same (found_later shape user from f.key f.found a b c (λ x in_from. two.read x (not_target x in_from)) here)
        | inr later ↦ found_before shape user from g.key g.found a b c (λ x in_from. one.read x (not_target x in_from)) (all g later)
      ]

  found_alone : (f : Finding) (a b : ℕ → Peer) → IsVersionFound shape user from f.key f.found a b → AllFound shape user from (f ∷ []) a b
  found_alone f a b here g has =
      elim (contains_cases f [] g has) [
        | inl same ↦ subst (λ (x : Finding). IsVersionFound shape user from x.key x.found a b) same here
        | inr none ↦ absurd (contains_nothing g none)
      ]

  abbrev more_keys : Tag × Version → List (Tag × Version) → List (Tag × Version)
  more_keys key keys = key ∷ keys

  brought_step : (key : Tag × Version) (more : List (Tag × Version)) (skip : Option SkipWhy) (r last : Progressed) (one two : List (LaneTurn Peer)) (a b c : ℕ → Peer) → LeavesBut from target a b → LeavesBut from target b c
      → EntryFound shape user target serve from key (Ok skip) one a (b target) b → KeysBrought shape user target serve from more (noted key skip r) last two b c → KeysBrought shape user target serve from (key ∷ more) r last (one ++ two) a c
  brought_step key more skip r last one two a b c left leaves e x = record {
    found = finding key e.0 ∷ x.found;
    front = record { rest = x.front.rest; split = ap (more_keys key) x.front.split };
    each = found_more (finding key e.0) x.found a b c left leaves e.1 x.each;
    brings = brings_one (finding key e.0) x.found r (noted key skip r) last (a target) (b target) (c target) one two (e.2 r) (noted_goes key skip r) x.brings;
  }

  cut_step : (key : Tag × Version) (more : List (Tag × Version)) (skip : Option SkipWhy) (r : Progressed) (one two : List (LaneTurn Peer)) (a b : ℕ → Peer) (at : Peer) (c : ℕ → Peer) → LeavesBut from target a b → LeavesBut from target b c
      → EntryFound shape user target serve from key (Ok skip) one a (b target) b → KeysCut shape user target serve from more (noted key skip r) two b at c → KeysCut shape user target serve from (key ∷ more) r (one ++ two) a at c
  cut_step key more skip r one two a b at c left leaves e x = record {
    found = finding key e.0 ∷ x.found;
    ahead = x.ahead;
    front = record { rest = x.front.rest; split = ap (more_keys key) x.front.split };
    each = found_more (finding key e.0) (x.found ++ x.ahead) a b c left leaves e.1 x.each;
    last = x.last;
    mid = x.mid;
    turns_before = one ++ x.turns_before;
    turns_behind = x.turns_behind;
    split = ap (λ (l : List (LaneTurn Peer)). one ++ l) x.split ∙ sym (append_assoc one x.turns_before x.turns_behind);
    brings = brings_one (finding key e.0) x.found r (noted key skip r) x.last (a target) (b target) x.mid one x.turns_before (e.2 r) (noted_goes key skip r) x.brings;
    none = x.none;
    goes = x.goes;
  }

  pub keys_step : (key : Tag × Version) (more : List (Tag × Version)) (skip : Option SkipWhy) (r next : Progressed) (result : Result (Unit {0}) RebuildErr) (one two : List (LaneTurn Peer)) (a b : ℕ → Peer) (at : Peer) (c : ℕ → Peer)
      → LeavesBut from target a b → LeavesBut from target b c → EntryTold shape user target serve from key (Ok skip) one a (b target) b → KeysTold shape user target serve from more (noted key skip r) next result two b at c
      → KeysTold shape user target serve from (key ∷ more) r next result (one ++ two) a at c
  unfolding brought_step
  keys_step key more skip r next (Ok u) one two a b at c left leaves e x = (brought_step key more skip r next one two a b c left leaves e x.0, ap (more_keys key) x.1)
  keys_step key more skip r next (Err (errors.FromRestore why)) one two a b at c left leaves e x = (x.0, brought_step key more skip r x.0 one two a b c left leaves e x.1, x.2, ends_before from why a b c (faults_grow from target a b left) x.3)
  keys_step key more skip r next (Err errors.TargetLost) one two a b at c left leaves e x = cut_step key more skip r one two a b at c left leaves e x
  keys_step key more skip r next (Err errors.TargetFault) one two a b at c left leaves e x = (x.0, x.1, brought_step key more skip r x.0 one two a b c left leaves e x.2, x.3, x.4)
  keys_step key more skip r next (Err (errors.TargetDamaged place byte)) one two a b at c left leaves e x = (x.0, x.1, brought_step key more skip r x.0 one two a b c left leaves e x.2, x.3, x.4)
  keys_step key more skip r next (Err (errors.TargetRotten named hash)) one two a b at c left leaves e x = (x.0, x.1, brought_step key more skip r x.0 one two a b c left leaves e x.2, x.3, x.4)
  keys_step key more skip r next (Err (errors.TargetFull room used need limit)) one two a b at c left leaves e x = (x.0, x.1, brought_step key more skip r x.0 one two a b c left leaves e x.2, x.3, x.4)
  keys_step key more skip r next (Err (errors.TargetLacking place)) one two a b at c left leaves e x = (x.0, x.1, brought_step key more skip r x.0 one two a b c left leaves e x.2, x.3, x.4)
  keys_step key more skip r next (Err errors.TargetNoMemory) one two a b at c left leaves e x = (x.0, x.1, brought_step key more skip r x.0 one two a b c left leaves e x.2, x.3, x.4)
  keys_step key more skip r next (Err (errors.TargetStrange kind)) one two a b at c left leaves e x = (x.0, x.1, brought_step key more skip r x.0 one two a b c left leaves e x.2, x.3, x.4)
  keys_step key more skip r next (Err errors.NoMemory) one two a b at c left leaves e x = cut_step key more skip r one two a b at c left leaves e x

  -- ---- an entry stopped it

  pub not_begun : (keys : List (Tag × Version)) (r : Progressed) (turns : List (LaneTurn Peer)) (a b : ℕ → Peer) → turns ≡ [] → b target ≡ a target → KeysBrought shape user target serve from keys r r turns a b
  not_begun keys r turns a b none same = record {
    found = [];
    front = record { rest = keys; split = refl };
    each = λ f has. absurd (contains_nothing f has);
    brings = (refl, none, same);
  }

  cut_ahead : (keys : List (Tag × Version)) (r : Progressed) (turns : List (LaneTurn Peer)) (a : ℕ → Peer) (at : Peer) (b : ℕ → Peer) (ahead : List Finding) → r.stop ≡ None → IsFrontOfList (keys_of ahead) keys → AllFound shape user from ahead a b
      → ((fs : List Finding) → IsFilledFurther shape target serve (ahead ++ fs) r (a target) turns at) → KeysCut shape user target serve from keys r turns a at b
  cut_ahead keys r turns a at b ahead none front each goes = record {
    found = [];
    ahead = ahead;
    front = front;
    each = each;
    last = r;
    mid = a target;
    turns_before = [];
    turns_behind = turns;
    split = refl;
    brings = (refl, refl, refl);
    none = none;
    goes = goes;
  }

  pub cut_none : (keys : List (Tag × Version)) (r : Progressed) (turns : List (LaneTurn Peer)) (a : ℕ → Peer) (at : Peer) (b : ℕ → Peer) → r.stop ≡ None → turns ≡ [] → at ≡ a target → KeysCut shape user target serve from keys r turns a at b
  cut_none keys r turns a at b none empty same =
      cut_ahead keys r turns a at b [] none (record { rest = keys; split = refl }) (λ f has. absurd (contains_nothing f has))
      (λ fs. subst (λ (l : List (LaneTurn Peer)). IsFilledFurther shape target serve fs r (a target) l at) (sym empty)
      (subst (λ (p : Peer). IsFilledFurther shape target serve fs r (a target) [] p) (sym same) (goes_on shape target serve fs r (a target) none)))

  cut_found : (key : Tag × Version) (more : List (Tag × Version)) (r : Progressed) (turns : List (LaneTurn Peer)) (a : ℕ → Peer) (at : Peer) (b : ℕ → Peer) (found : Result FileVersion SkipWhy) → r.stop ≡ None
      → IsVersionFound shape user from key found a b → ((fs : List Finding) → IsFilledFurther shape target serve (finding key found ∷ fs) r (a target) turns at) → KeysCut shape user target serve from (key ∷ more) r turns a at b
  cut_found key more r turns a at b found none is goes = cut_ahead (key ∷ more) r turns a at b (finding key found ∷ []) none (record { rest = more; split = refl }) (found_alone (finding key found) a b is) goes

  -- memory ran out behind an entry
  pub cut_noted : (key : Tag × Version) (more : List (Tag × Version)) (skip : Option SkipWhy) (r : Progressed) (turns : List (LaneTurn Peer)) (a b : ℕ → Peer) → r.stop ≡ None → EntryTold shape user target serve from key (Ok skip) turns a (b target) b
      → KeysCut shape user target serve from (key ∷ more) r turns a (b target) b
  cut_noted key more skip r turns a b none e =
      cut_found key more r turns a (b target) b e.0 none e.1
      (λ fs. subst (λ (l : List (LaneTurn Peer)). IsFilledFurther shape target serve (finding key e.0 ∷ fs) r (a target) l (b target)) (append-nil turns)
      (with_first shape target serve (finding key e.0) fs r (noted key skip r) (a target) (b target) (b target) turns [] (e.2 r) (noted_goes key skip r)
      (goes_on shape target serve fs (noted key skip r) (b target) (noted_goes key skip r))))

  stopped_at : (key : Tag × Version) (more : List (Tag × Version)) (r : Progressed) (e : RebuildErr) (turns : List (LaneTurn Peer)) (a b : ℕ → Peer)
      → (found : Result FileVersion SkipWhy) × IsVersionFound shape user from key found a b × EntryStops shape target serve key found e (a target) turns (b target)
      → (last : Progressed) × (said : Reply) × KeysBrought shape user target serve from (key ∷ more) r last turns a b × (last.stop ≡ Some said) × StopsAs said e
  stopped_at key more r e turns a b x =
      let f : Finding = finding key x.0 in
      let stops = x.2 in
      let n = stops.2 r in (
        n.0,
        stops.0,
        record {
          found = f ∷ [];
          front = record { rest = more; split = refl };
          each = found_alone f a b x.1;
          brings = brings_last f r n.0 (a target) (b target) turns stops.0 n.1 n.2;
        },
        n.2,
        stops.1,
      )

  pub keys_stop : (key : Tag × Version) (more : List (Tag × Version)) (r next : Progressed) (e : RebuildErr) (turns : List (LaneTurn Peer)) (a : ℕ → Peer) (at : Peer) (b : ℕ → Peer) → r.stop ≡ None
      → EntryTold shape user target serve from key (Err e) turns a at b → KeysTold shape user target serve from (key ∷ more) r next (Err e) turns a at b
  keys_stop key more r next (errors.FromRestore e) turns a at b none x = (r, not_begun (key ∷ more) r turns a b x.0.0 x.0.2, none, x.1)
  keys_stop key more r next errors.TargetLost turns a at b none x = cut_found key more r turns a at b x.0 none x.1 (λ fs. x.2 fs r none)
  keys_stop key more r next errors.TargetFault turns a at b none x = stopped_at key more r errors.TargetFault turns a b x
  keys_stop key more r next (errors.TargetDamaged place byte) turns a at b none x = stopped_at key more r (errors.TargetDamaged place byte) turns a b x
  keys_stop key more r next (errors.TargetRotten named hash) turns a at b none x = stopped_at key more r (errors.TargetRotten named hash) turns a b x
  keys_stop key more r next (errors.TargetFull room used need limit) turns a at b none x = stopped_at key more r (errors.TargetFull room used need limit) turns a b x
  keys_stop key more r next (errors.TargetLacking place) turns a at b none x = stopped_at key more r (errors.TargetLacking place) turns a b x
  keys_stop key more r next errors.TargetNoMemory turns a at b none x = stopped_at key more r errors.TargetNoMemory turns a b x
  keys_stop key more r next (errors.TargetStrange kind) turns a at b none x = stopped_at key more r (errors.TargetStrange kind) turns a b x
  keys_stop key more r next errors.NoMemory turns a at b none (inl x) = cut_none (key ∷ more) r turns a at b none x.0 x.1
  keys_stop key more r next errors.NoMemory turns a at b none (inr x) = cut_found key more r turns a at b x.0 none x.1 (λ fs. x.2 fs r none)

  pub keys_none : (r : Progressed) (a : ℕ → Peer) → KeysTold shape user target serve from [] r r (Ok tt) [] a (a target) a
  keys_none r a = (
    record {
      found = [];
      front = record { rest = []; split = refl };
      each = λ f has. absurd (contains_nothing f has);
      brings = (refl, refl, refl);
    },
    refl,
  )

-- ---- over a link

abbrev entry_err : RebuildErr → Result (Option SkipWhy) RebuildErr
entry_err e = Err e

abbrev pub keys_err : RebuildErr → Result (Unit {0}) RebuildErr
keys_err e = Err e

module _ {L : Type 0} (t : LinkTelling L) (talk : L → ℕ → Talk → Type 0) (target : ℕ) (from : List ℕ) (shape : Shape) (user : UserId) (apart : Contains from target → ⊥) where
  abbrev pub EntryLeads : L → L → Tag × Version → Result (Option SkipWhy) RebuildErr → Type 0
  EntryLeads old new key result = LeadsWithTarget t talk target from old new result (HasRebuildCause t old shape user target result) (EntryTold shape user target (serves t old target) from key result)

  abbrev pub KeysLeads : (List Command → Request → Outcome) → L → L → List (Tag × Version) → Progressed → Progressed → Result (Unit {0}) RebuildErr → Type 0
  KeysLeads serve old new keys r next result = LeadsWithTarget t talk target from old new result (HasRebuildCause t old shape user target result) (KeysTold shape user target serve from keys r next result)

  pub keys_done : (link : L) (r : Progressed) → KeysLeads (serves t link target) link link [] r r (Ok tt)
  keys_done link r = leads_still t talk target from link (tt {0}) _ _ (λ a. record { caused = tt {0}; said = tt {0}; ended = tt {0}; own = lanes_none shape user target }) (λ a. keys_none shape user target (serves t link target) from apart r a)

  pub keys_then : (old mid new : L) (key : Tag × Version) (more : List (Tag × Version)) (skip : Option SkipWhy) (r next : Progressed) (result : Result (Unit {0}) RebuildErr) → EntryLeads old mid key (ok_of skip)
      → HasAskedToRebuild t target from old mid false → KeysLeads (serves t mid target) mid new more (noted key skip r) next result → KeysLeads (serves t old target) old new (key ∷ more) r next result
  keys_then old mid new key more skip r next result first asked second =
      let serve : List Command → Request → Outcome = serves t old target in
      leads_then t talk target from old mid new skip result _ _ (HasRebuildCause t old shape user target result) _ _ (KeysTold shape user target serve from (key ∷ more) r next result) first asked.told
      (subst (λ (s : List Command → Request → Outcome). KeysLeads s mid new more (noted key skip r) next result) (serves_same t target old mid asked.shape asked.full) second)
      (λ us vs a b c one two x y. holds_on t old mid shape user target skip result us vs a b c asked.told (faults_grow from target a b one) x y)
      (λ us vs a b at c one two x y. keys_step shape user target serve from apart key more skip r next result us vs a b at c one two x y)

  pub keys_failed : (old new : L) (key : Tag × Version) (more : List (Tag × Version)) (r next : Progressed) (e : RebuildErr) → r.stop ≡ None → EntryLeads old new key (Err e) → KeysLeads (serves t old target) old new (key ∷ more) r next (Err e)
  keys_failed old new key more r next e none first =
      leads_as t talk target from old new (entry_err e) (keys_err e) _ _ _ _ first (λ last p q x. then_err (Option SkipWhy) (Unit {0}) t target last new p q e x) (λ turns a b x. holds_as (Option SkipWhy) (Unit {0}) t old shape user target e turns a b x)
      (λ turns a at b x. keys_stop shape user target (serves t old target) from apart key more r next e turns a at b none x)

  pub keys_full : (old new : L) (key : Tag × Version) (more : List (Tag × Version)) (skip : Option SkipWhy) (r next : Progressed) → r.stop ≡ None → EntryLeads old new key (ok_of skip)
      → KeysLeads (serves t old target) old new (key ∷ more) r next (Err errors.NoMemory)
  keys_full old new key more skip r next none first =
      leads_out t talk target from old new skip (keys_err errors.NoMemory) _ _ _ _ first refl (λ turns a b x. record { caused = tt {0}; said = tt {0}; ended = tt {0}; own = x.own })
      (λ turns a b x. cut_noted shape user target (serves t old target) from apart key more skip r turns a b none x)
