-- One entry: the clouds that are read, and then the target.
use Rattle.std.proofs.Common.{◌≡◌, ℕ, Bool, true, false, cond, List, [], ◌∷◌, ◌++◌, Option, Some, None, Result, Ok, Err, refl, sym, ap, ◌∙◌, subst, inl, inr}
use Rattle.std.specs.Prelude.{IsTrue, ◌==◌}
use Rattle.std.specs.List.{Contains}
use Rattle.lane_steps.specs.CdEdges.Causes.{Rose}
use Rattle.lane_steps.specs.CdBase.ids.Tag.{Tag}
use Rattle.lane_steps.specs.CdBase.ids.UserId.{UserId}
use Rattle.lane_steps.specs.CdBase.ids.Version.{Version}
use Rattle.lane_steps.specs.CdBase.shape.Shape.{Shape}
use Rattle.lane_steps.specs.Messages.request.Request.{Request}
use Rattle.lane_steps.specs.UserDedup.command.Command.{Command}
use Rattle.lane_steps.specs.UserDedup.Dedup.{Outcome}
use Rattle.lane_steps.specs.UserDedup.Exec.{Peer, CountsOn}
use Rattle.lane_steps.specs.UserDedup.Link.{LinkTelling, Exchange, Talk, Passes, ReadsOneOf, serves}
use Rattle.lane_steps.specs.UserDedup.Exec.{served}
use Rattle.lane_steps.proofs.UserDedup.Owned.{contains_here, contains_later, contains_cases, contains_nothing}
use Rattle.lane_steps.specs.UploadJob.news.LaneNews.{LaneNews}
use Rattle.lane_steps.specs.UploadJob.news.LaneNews.TheVariants as news
use Rattle.lane_steps.specs.UploadJob.Upload.{FileVersion}
use Rattle.lane_steps.specs.UploadJob.Lane.{LaneState}
use Rattle.lane_steps.specs.Runs.{LaneTurn}
use Rattle.lane_steps.specs.declared.error.StepErr.{StepErr}
use Rattle.lane_steps.specs.declared.error.StepErr.TheVariants as step_errors
use Rattle.lane_steps.specs.Steps.{IsNothingLost as StepFound}
use Rattle.kept_files.specs.RestoreJob.Asking.{AreOnlyAsked, Reads}
use Rattle.kept_files.specs.RestoreJob.Asking.{Leads as ReadLeads, is_loss}
use Rattle.kept_files.specs.RestoreJob.Refusals.{Names}
use Rattle.kept_files.specs.RestoreJob.error.RestoreErr.{RestoreErr}
use Rattle.kept_files.specs.RestoreJob.error.RestoreErr.TheVariants as refusals
use Rattle.kept_files.proofs.RestoreJob.Leading.{may_on, may_stay, passes_on}
use Rattle.rebuild.specs.declared.error.SkipWhy.{SkipWhy}
use Rattle.rebuild.specs.declared.error.RebuildErr.{RebuildErr}
use Rattle.rebuild.specs.declared.error.RebuildErr.TheVariants as errors
use Rattle.rebuild.specs.declared.versions.FoundVersion.{FoundVersion as FoundThere}
use Rattle.rebuild.specs.Rebuilding.{LeavesBut, lane_ended, up_to}
use Rattle.rebuild.specs.Filling.{BringsTold, BringCaused, BringHolds, EndsBy, OfTarget, LaneEnds, StopsBy, failed_as}
use Rattle.rebuild.specs.Over.{Reading, TargetAlong, ThenLost, LeadsWithTarget, CausesRebuildEnd, HandsOn, HasRebuildCause, ReadCaused, is_lost}
use Rattle.rebuild.specs.Turns.{EndsLane, OwnLanes}
use Rattle.rebuild.specs.Steps.{IsVersionFound, FindsTold, ReadEnds, found_of, skip_as}
use Rattle.rebuild.specs.Entering.{EntryBrought, EntryFound, EntryStops, EntryTold, entered_as, stopped_as}
use Rattle.rebuild.proofs.Stable.{SameOn, missing_same, version_same}
use Rattle.rebuild.proofs.Telling.{lanes_none, said_stopped, reply_stopped}

-- ---- the target's own results

abbrev bad : {A : Type 0} → RebuildErr → Result A RebuildErr
bad e = Err e

own_as : (r s : Result Bool RebuildErr) → r ≡ s → OfTarget s × (is_lost s ≡ false) → OfTarget r × (is_lost r ≡ false)
own_as r s e own = subst (λ (x : Result Bool RebuildErr). OfTarget x × (is_lost x ≡ false)) (sym e) own

abbrev ok_version : FileVersion → Result FileVersion SkipWhy
ok_version v = Ok v

pub ends_own : (o : Option LaneNews) (r : Result Bool RebuildErr) → EndsBy o r → OfTarget r × (is_lost r ≡ false)
ends_own (Some (news.Known known missing)) r e = own_as r (Err errors.NoMemory) e (tt, refl)
ends_own (Some (news.Stored new missing)) r e = own_as r (Err errors.NoMemory) e (tt, refl)
ends_own (Some news.Committed) r e = own_as r (Ok true) e (tt, refl)
ends_own (Some news.Exists) r e = own_as r (Ok false) e (tt, refl)
ends_own (Some (news.Full room used need limit)) r e = own_as r (Err (errors.TargetFull room used need limit)) e (tt, refl)
ends_own (Some (news.Lacking place)) r e = own_as r (Err (errors.TargetLacking place)) e (tt, refl)
ends_own (Some news.Fault) r e = own_as r (Err errors.TargetFault) e (tt, refl)
ends_own (Some (news.Damaged at byte)) r e = own_as r (Err (errors.TargetDamaged at byte)) e (tt, refl)
ends_own (Some (news.Rotten named hash)) r e = own_as r (Err (errors.TargetRotten named hash)) e (tt, refl)
ends_own (Some news.NoMemory) r e = own_as r (Err errors.TargetNoMemory) e (tt, refl)
ends_own None r e = own_as r (Err errors.NoMemory) e (tt, refl)

pub failed_own : (e : StepErr) → OfTarget {A = Bool} (Err (failed_as e))
failed_own step_errors.Lost = tt
failed_own (step_errors.Strange kind) = tt
failed_own step_errors.NoMemory = tt

pub failed_found : (e : StepErr) → StepFound {A = Unit {0}} (Err e) → is_lost {A = Bool} (Err (failed_as e)) ≡ false
failed_found step_errors.Lost found = absurd found
failed_found (step_errors.Strange kind) found = refl
failed_found step_errors.NoMemory found = refl

-- ---- the way over the link

pub reading_on : {L : Type 0} (t : LinkTelling L) (from : List ℕ) (old mid new : L) → Reading t from old mid → Reading t from mid new → Reading t from old new
reading_on t from old mid new one two = (one.0 ++ two.0, passes_on t from old mid new one.0 two.0 one.1 two.1)

-- no cloud was read
none_read : {L : Type 0} (t : LinkTelling L) (from : List ℕ) (old new : L) → Reading t [] old new → Reading t from old new
none_read {L} t from old new one = (one.0, go old one.0 one.1)
  where
    go : (at : L) (es : List Exchange) → Passes t (ReadsOneOf []) at es new → Passes t (ReadsOneOf from) at es new
    go at [] p = p
    go at (e ∷ es) p = absurd (contains_nothing e.cloud p.0.0)

pub along_wider : {L : Type 0} (t : LinkTelling L) (talk : L → ℕ → Talk → Type 0) (target : ℕ) (from : List ℕ) (old : L) (p : Peer) (turns : List (LaneTurn Peer)) (new : L) (last : Peer)
    → TargetAlong t talk target [] old p turns new last → TargetAlong t talk target from old p turns new last
along_wider t talk target from old p [] new last x = (none_read t from old new x.0, x.1, x.2)
along_wider t talk target from old p (u ∷ us) new last x =
    (x.0, x.1, none_read t from old x.0 x.2, x.3, x.4, x.5, (x.6.0, x.6.1, x.6.2, along_wider t talk target from x.1 x.6.0 us new last x.6.3))

-- the clouds are read first
pub along_read : {L : Type 0} (t : LinkTelling L) (talk : L → ℕ → Talk → Type 0) (target : ℕ) (from : List ℕ) (old mid : L) (p : Peer) (turns : List (LaneTurn Peer)) (new : L) (last : Peer)
    → Reading t from old mid → TargetAlong t talk target from mid p turns new last → TargetAlong t talk target from old p turns new last
along_read t talk target from old mid p [] new last read x = (reading_on t from old mid new read x.0, x.1, x.2)
along_read t talk target from old mid p (u ∷ us) new last read x = (x.0, x.1, reading_on t from old mid x.0 read x.2, x.3, x.4, x.5, x.6)

abbrev pub Between : Type 1
Between = (ℕ → Peer) → (ℕ → Peer) → Type 0

abbrev pub Along : Type 1
Along = List (LaneTurn Peer) → (ℕ → Peer) → (ℕ → Peer) → Type 0

abbrev pub ByTurns : Type 1
ByTurns = List (LaneTurn Peer) → (ℕ → Peer) → Peer → (ℕ → Peer) → Type 0

-- the same way, with another result
pub leads_as : {L A B : Type 0} (t : LinkTelling L) (talk : L → ℕ → Talk → Type 0) (target : ℕ) (from : List ℕ) (old new : L) (r : Result A RebuildErr) (s : Result B RebuildErr) (C D : Along) (R S : ByTurns)
    → LeadsWithTarget t talk target from old new r C R → ((last : L) (p q : Peer) → ThenLost t target last p r new q → ThenLost t target last p s new q)
    → ((turns : List (LaneTurn Peer)) (a b : ℕ → Peer) → C turns a b → D turns a b)
    → ((turns : List (LaneTurn Peer)) (a : ℕ → Peer) (at : Peer) (b : ℕ → Peer) → R turns a at b → S turns a at b)
    → LeadsWithTarget t talk target from old new s D S
leads_as t talk target from old new r s C D R S leads then always told these all before peers =
    let x = leads these all before peers in
    (x.0, x.1, x.2, x.3, x.4, x.5, x.6, then x.2 x.3 (x.0 target) x.7, always x.1 before x.0 x.8, λ all_told. told x.1 before x.3 x.0 (x.9 all_told))

pub only_target : (target : ℕ) (from : List ℕ) (c : ℕ) → Contains (target ∷ []) c → Contains (target ∷ from) c
only_target target from c has =
    elim (contains_cases target [] c has) [
      | inl same ↦ subst (λ (x : ℕ). Contains (target ∷ from) x) same (contains_here target from)
      | inr none ↦ absurd (contains_nothing c none)
    ]

-- the clouds are read, and then the target alone has turns
pub read_then : {L B : Type 0} (t : LinkTelling L) (talk : L → ℕ → Talk → Type 0) (target : ℕ) (from : List ℕ) (old mid new : L) (r : Result B RebuildErr) (A : Between) (D C : Along) (R : Between) (S T : ByTurns)
    → (Contains from target → ⊥) → Reading t from old mid → t.told mid ≡ t.told old → ReadLeads t from old mid A R → LeadsWithTarget t talk target [] mid new r D S
    → ((turns : List (LaneTurn Peer)) (a b c : ℕ → Peer) → AreOnlyAsked from a b → LeavesBut [] target b c → A a b → D turns b c → C turns a c)
    → ((turns : List (LaneTurn Peer)) (a b : ℕ → Peer) (at : Peer) (c : ℕ → Peer) → AreOnlyAsked from a b → LeavesBut [] target b c → R a b → S turns b at c → T turns a at c)
    → LeadsWithTarget t talk target from old new r C T
read_then {L} t talk target from old mid new r A D C R S T apart read same first second always both these all before peers =
    let x = first these (λ c has. all c (contains_later target from c has)) before peers in
    let y = second these (λ c has. all c (only_target target from c has)) x.0 x.1 in
    let still : x.0 target ≡ before target = x.2.others target apart in (
      y.0,
      y.1,
      y.2,
      y.3,
      y.4,
      record {
        read = λ c ne. may_on (before c) (x.0 c) (y.0 c) (x.2.read c) (y.5.read c ne);
        others = λ c ne out. y.5.others c ne (λ has. contains_nothing c has) ∙ x.2.others c out;
        counts = subst (λ (p : Peer). CountsOn p (y.0 target)) still y.5.counts;
      },
      along_read t talk target from old mid (before target) y.1 y.2 y.3 read
          (subst (λ (p : Peer). TargetAlong t talk target from mid p y.1 y.2 y.3) still (along_wider t talk target from mid (x.0 target) y.1 y.2 y.3 y.6)),
      y.7,
      always y.1 before x.0 y.0 x.2 y.5 x.3 y.8,
      λ told. both y.1 before x.0 y.3 y.0 x.2 y.5 (x.4 (λ c has. told c (contains_later target from c has)))
          (y.9 (λ c has. subst (λ (f : ℕ → Bool). IsTrue (f c)) (sym same) (told c (only_target target from c has)))),
    )

-- the clouds are read, and stop it
pub read_stops : {L B : Type 0} (t : LinkTelling L) (talk : L → ℕ → Talk → Type 0) (target : ℕ) (from : List ℕ) (old new : L) (r : Result B RebuildErr) (A : Between) (C : Along) (R : Between) (T : ByTurns)
    → (Contains from target → ⊥) → Reading t from old new → ReadLeads t from old new A R → ((p q : Peer) → q ≡ p → ThenLost t target new p r new q)
    → ((a b : ℕ → Peer) → AreOnlyAsked from a b → A a b → C [] a b) → ((a b : ℕ → Peer) → AreOnlyAsked from a b → R a b → T [] a (a target) b)
    → LeadsWithTarget t talk target from old new r C T
read_stops t talk target from old new r A C R T apart read first then always told these all before peers =
    let x = first these (λ c has. all c (contains_later target from c has)) before peers in
    let still : x.0 target ≡ before target = x.2.others target apart in (
      x.0,
      [],
      new,
      before target,
      x.1,
      record {
        read = λ c ne. x.2.read c;
        others = λ c ne out. x.2.others c out;
        counts = subst (λ (p : Peer). CountsOn (before target) p) (sym still) (may_stay (before target)).1;
      },
      (read, subst (λ (p : Peer). t.stands new target p) still (x.1 target (all target (contains_here target from))), refl),
      then (before target) (x.0 target) still,
      always before x.0 x.2 x.3,
      λ all_told. told before x.0 x.2 (x.4 (λ c has. all_told c (contains_later target from c has))),
    )

-- ---- one result as another

pub then_err : {L : Type 0} (A B : Type 0) (t : LinkTelling L) (target : ℕ) (last new : L) (p q : Peer) (e : RebuildErr) → ThenLost {L = L} {A = A} t target last p (Err e) new q → ThenLost {L = L} {A = B} t target last p (Err e) new q
then_err A B t target last new p q (errors.FromRestore e) x = x
then_err A B t target last new p q errors.TargetLost x = x
then_err A B t target last new p q errors.TargetFault x = x
then_err A B t target last new p q (errors.TargetDamaged place byte) x = x
then_err A B t target last new p q (errors.TargetRotten named hash) x = x
then_err A B t target last new p q (errors.TargetFull room used need limit) x = x
then_err A B t target last new p q (errors.TargetLacking place) x = x
then_err A B t target last new p q errors.TargetNoMemory x = x
then_err A B t target last new p q (errors.TargetStrange kind) x = x
then_err A B t target last new p q errors.NoMemory x = x

pub bring_caused_as : (A B : Type 0) (told : Bool) (e : RebuildErr) (p q : Peer) → BringCaused {A = A} told (Err e) p q → BringCaused {A = B} told (Err e) p q
bring_caused_as A B told (errors.FromRestore e) p q x = x
bring_caused_as A B told errors.TargetLost p q x = x
bring_caused_as A B told errors.TargetFault p q x = x
bring_caused_as A B told (errors.TargetDamaged place byte) p q x = x
bring_caused_as A B told (errors.TargetRotten named hash) p q x = x
bring_caused_as A B told (errors.TargetFull room used need limit) p q x = x
bring_caused_as A B told (errors.TargetLacking place) p q x = x
bring_caused_as A B told errors.TargetNoMemory p q x = x
bring_caused_as A B told (errors.TargetStrange kind) p q x = x
bring_caused_as A B told errors.NoMemory p q x = x

-- the version whose parts were lent
pub version_is : (user : UserId) (number : Version) (path file path_lent file_lent : List ℕ) → path_lent ≡ path → file_lent ≡ file
    → ok_version (record { user = user; path = path; number = number; file = file }) ≡ ok_version (record { user = user; path = path_lent; number = number; file = file_lent })
version_is user number path file path_lent file_lent one two i = ok_version (record { user = user; path = (sym one) i; number = number; file = (sym two) i })

pub then_stopped : {L : Type 0} (B : Type 0) (t : LinkTelling L) (target : ℕ) (new : L) (p q : Peer) (e : RestoreErr) → q ≡ p → ThenLost {L = L} {A = B} t target new p (Err (stopped_as e)) new q
then_stopped B t target new p q (refusals.Missing c) same = (refl, same)
then_stopped B t target new p q (refusals.Lost c) same = (refl, same)
then_stopped B t target new p q (refusals.CloudFault c) same = (refl, same)
then_stopped B t target new p q (refusals.CloudDamaged c at byte) same = (refl, same)
then_stopped B t target new p q (refusals.CloudRotten c named hash) same = (refl, same)
then_stopped B t target new p q (refusals.CloudNoMemory c) same = (refl, same)
then_stopped B t target new p q (refusals.Strange c kind) same = (refl, same)
then_stopped B t target new p q (refusals.RecipesDiffer one other place) same = (refl, same)
then_stopped B t target new p q (refusals.ShareLength c secret size wanted) same = (refl, same)
then_stopped B t target new p q (refusals.BadShare c secret named hash) same = (refl, same)
then_stopped B t target new p q (refusals.BadSecret secret named hash) same = (refl, same)
then_stopped B t target new p q (refusals.BadPad secret at byte) same = (refl, same)
then_stopped B t target new p q refusals.NoMemory same = (refl, same)

pub stopped_caused : {L : Type 0} (B : Type 0) (t : LinkTelling L) (link : L) (target : ℕ) (e : RestoreErr) (a b : ℕ → Peer) → ReadCaused t link e a b → CausesRebuildEnd {L = L} {A = B} t link target (Err (stopped_as e)) a b
stopped_caused B t link target (refusals.Missing c) a b x = x
stopped_caused B t link target (refusals.Lost c) a b x = x
stopped_caused B t link target (refusals.CloudFault c) a b x = x
stopped_caused B t link target (refusals.CloudDamaged c at byte) a b x = x
stopped_caused B t link target (refusals.CloudRotten c named hash) a b x = x
stopped_caused B t link target (refusals.CloudNoMemory c) a b x = x
stopped_caused B t link target (refusals.Strange c kind) a b x = x
stopped_caused B t link target (refusals.RecipesDiffer one other place) a b x = x
stopped_caused B t link target (refusals.ShareLength c secret size wanted) a b x = x
stopped_caused B t link target (refusals.BadShare c secret named hash) a b x = x
stopped_caused B t link target (refusals.BadSecret secret named hash) a b x = x
stopped_caused B t link target (refusals.BadPad secret at byte) a b x = x
stopped_caused B t link target refusals.NoMemory a b x = tt

pub stopped_hands : (B : Type 0) (from : List ℕ) (e : RestoreErr) → Names (Contains from) e → skip_as e ≡ None → HandsOn {A = B} from (Err (stopped_as e))
stopped_hands B from (refusals.Missing c) names none = absurd cc
stopped_hands B from (refusals.Lost c) names none = (tt, names)
stopped_hands B from (refusals.CloudFault c) names none = (tt, names)
stopped_hands B from (refusals.CloudDamaged c at byte) names none = (tt, names)
stopped_hands B from (refusals.CloudRotten c named hash) names none = (tt, names)
stopped_hands B from (refusals.CloudNoMemory c) names none = (tt, names)
stopped_hands B from (refusals.Strange c kind) names none = (tt, names)
stopped_hands B from (refusals.RecipesDiffer one other place) names none = absurd cc
stopped_hands B from (refusals.ShareLength c secret size wanted) names none = absurd cc
stopped_hands B from (refusals.BadShare c secret named hash) names none = (tt, names)
stopped_hands B from (refusals.BadSecret secret named hash) names none = absurd cc
stopped_hands B from (refusals.BadPad secret at byte) names none = absurd cc
stopped_hands B from refusals.NoMemory names none = tt

pub stopped_lost : (B : Type 0) (e : RestoreErr) → is_lost {A = B} (Err (stopped_as e)) ≡ is_loss e
stopped_lost B (refusals.Missing c) = refl
stopped_lost B (refusals.Lost c) = refl
stopped_lost B (refusals.CloudFault c) = refl
stopped_lost B (refusals.CloudDamaged c at byte) = refl
stopped_lost B (refusals.CloudRotten c named hash) = refl
stopped_lost B (refusals.CloudNoMemory c) = refl
stopped_lost B (refusals.Strange c kind) = refl
stopped_lost B (refusals.RecipesDiffer one other place) = refl
stopped_lost B (refusals.ShareLength c secret size wanted) = refl
stopped_lost B (refusals.BadShare c secret named hash) = refl
stopped_lost B (refusals.BadSecret secret named hash) = refl
stopped_lost B (refusals.BadPad secret at byte) = refl
stopped_lost B refusals.NoMemory = refl

pub own_hands : {B : Type 0} (from : List ℕ) (r : Result B RebuildErr) → OfTarget r → HandsOn from r
own_hands from (Ok x) own = tt
own_hands from (Err (errors.FromRestore e)) own = absurd own
own_hands from (Err errors.TargetLost) own = tt
own_hands from (Err errors.TargetFault) own = tt
own_hands from (Err (errors.TargetDamaged place byte)) own = tt
own_hands from (Err (errors.TargetRotten named hash)) own = tt
own_hands from (Err (errors.TargetFull room used need limit)) own = tt
own_hands from (Err (errors.TargetLacking place)) own = tt
own_hands from (Err errors.TargetNoMemory) own = tt
own_hands from (Err (errors.TargetStrange kind)) own = tt
own_hands from (Err errors.NoMemory) own = tt

pub own_caused : {L B : Type 0} (t : LinkTelling L) (link : L) (target : ℕ) (known : Bool) (r : Result B RebuildErr) (p : Peer) (a c : ℕ → Peer) → known ≡ t.told link target → OfTarget r → p ≡ a target
    → BringCaused known r p (c target) → CausesRebuildEnd t link target r a c
own_caused t link target known (Ok x) p a c is own same y = tt
own_caused t link target known (Err (errors.FromRestore e)) p a c is own same y = absurd own
own_caused t link target known (Err errors.TargetLost) p a c is own same y = tt
own_caused t link target known (Err errors.TargetFault) p a c is own same y = subst (λ (q : Peer). Rose q.faults (c target).faults) same y
own_caused t link target known (Err (errors.TargetDamaged place byte)) p a c is own same y = sym is ∙ y
own_caused t link target known (Err (errors.TargetRotten named hash)) p a c is own same y = sym is ∙ y
own_caused t link target known (Err (errors.TargetFull room used need limit)) p a c is own same y = tt
own_caused t link target known (Err (errors.TargetLacking place)) p a c is own same y = sym is ∙ y
own_caused t link target known (Err errors.TargetNoMemory) p a c is own same y = absurd y
own_caused t link target known (Err (errors.TargetStrange kind)) p a c is own same y = absurd y
own_caused t link target known (Err errors.NoMemory) p a c is own same y = tt

-- the target alone had turns
pub own_holds : {L B : Type 0} (t : LinkTelling L) (link : L) (shape : Shape) (user : UserId) (target : ℕ) (known : Bool) (r : Result B RebuildErr) (turns : List (LaneTurn Peer)) (p : Peer) (a c : ℕ → Peer) → known ≡ t.told link target → OfTarget r
    → p ≡ a target → BringHolds known (OwnLanes shape user target) (EndsLane shape user target) r turns p (c target) → HasRebuildCause t link shape user target r turns a c
own_holds t link shape user target known r turns p a c is own same x = record { caused = own_caused t link target known r p a c is own same x.caused; said = x.said; ended = x.ended; own = x.own }

-- a cloud that is read stopped it
pub stopped_holds : {L : Type 0} (B : Type 0) (t : LinkTelling L) (link : L) (shape : Shape) (user : UserId) (target : ℕ) (e : RestoreErr) (a b : ℕ → Peer) → ReadCaused t link e a b
    → HasRebuildCause {L = L} {A = B} t link shape user target (Err (stopped_as e)) [] a b
stopped_holds B t link shape user target e a b x = record {
  caused = stopped_caused B t link target e a b x;
  said = said_stopped B e [];
  ended = reply_stopped B e _;
  own = lanes_none shape user target;
}

pub up_to_in : (at : ℕ) (clouds : List ℕ) (cloud : ℕ) → Contains (up_to at clouds) cloud → Contains clouds cloud
up_to_in at [] cloud has = has
up_to_in at (c ∷ clouds) cloud has = by_test (c == at) has (up_to_in at clouds cloud)
  where
    by_test : (b : Bool) → Contains (cond b (c ∷ []) (c ∷ up_to at clouds)) cloud → (Contains (up_to at clouds) cloud → Contains clouds cloud) → Contains (c ∷ clouds) cloud
    by_test true has rest =
        elim (contains_cases c [] cloud has) [
          | inl same ↦ subst (λ (x : ℕ). Contains (c ∷ clouds) x) same (contains_here c clouds)
          | inr none ↦ absurd (contains_nothing cloud none)
        ]
    by_test false has rest =
        elim (contains_cases c (up_to at clouds) cloud has) [
          | inl same ↦ subst (λ (x : ℕ). Contains (c ∷ clouds) x) same (contains_here c clouds)
          | inr later ↦ contains_later c clouds cloud (rest later)
        ]

module _ (shape : Shape) (user : UserId) (target : ℕ) (serve : List Command → Request → Outcome) (from : List ℕ) (key : Tag × Version) where
  pub own_told : (r : Result (Option SkipWhy) RebuildErr) (turns : List (LaneTurn Peer)) (a : ℕ → Peer) (at : Peer) (c : ℕ → Peer) → OfTarget r → EntryFound shape user target serve from key r turns a at c
      → EntryTold shape user target serve from key r turns a at c
  own_told (Ok x) turns a at c own y = y
  own_told (Err (errors.FromRestore e)) turns a at c own y = absurd own
  own_told (Err errors.TargetLost) turns a at c own y = y
  own_told (Err errors.TargetFault) turns a at c own y = y
  own_told (Err (errors.TargetDamaged place byte)) turns a at c own y = y
  own_told (Err (errors.TargetRotten named hash)) turns a at c own y = y
  own_told (Err (errors.TargetFull room used need limit)) turns a at c own y = y
  own_told (Err (errors.TargetLacking place)) turns a at c own y = y
  own_told (Err errors.TargetNoMemory) turns a at c own y = y
  own_told (Err (errors.TargetStrange kind)) turns a at c own y = y
  own_told (Err errors.NoMemory) turns a at c own y = inr y

  pub stopped_told : (e : RestoreErr) (a b : ℕ → Peer) → b target ≡ a target → ReadEnds from e a b → EntryTold shape user target serve from key (Err (stopped_as e)) [] a (a target) b
  stopped_told (refusals.Missing c) a b same x = ((refl, refl, same), x)
  stopped_told (refusals.Lost c) a b same x = ((refl, refl, same), x)
  stopped_told (refusals.CloudFault c) a b same x = ((refl, refl, same), x)
  stopped_told (refusals.CloudDamaged c at byte) a b same x = ((refl, refl, same), x)
  stopped_told (refusals.CloudRotten c named hash) a b same x = ((refl, refl, same), x)
  stopped_told (refusals.CloudNoMemory c) a b same x = ((refl, refl, same), x)
  stopped_told (refusals.Strange c kind) a b same x = ((refl, refl, same), x)
  stopped_told (refusals.RecipesDiffer one other place) a b same x = ((refl, refl, same), x)
  stopped_told (refusals.ShareLength c secret size wanted) a b same x = ((refl, refl, same), x)
  stopped_told (refusals.BadShare c secret named hash) a b same x = ((refl, refl, same), x)
  stopped_told (refusals.BadSecret secret named hash) a b same x = ((refl, refl, same), x)
  stopped_told (refusals.BadPad secret at byte) a b same x = ((refl, refl, same), x)
  stopped_told refusals.NoMemory a b same x = inl (refl, refl, same)

  found_at : (found : Result FileVersion SkipWhy) (a b c : ℕ → Peer) → ((cloud : ℕ) → Contains from cloud → c cloud ≡ b cloud) → IsVersionFound shape user from key found a b → IsVersionFound shape user from key found a c
  found_at found a b c same (inl x) = inl (x.0, x.1, missing_same shape user key (λ cloud. (b cloud).list) (λ cloud. (c cloud).list) from lists ∙ x.2, λ cloud has. subst (λ (p : Peer). Reads (a cloud) p) (sym (same cloud (up_to_in x.0 from cloud has))) (x.3 cloud has))
    where
      lists : SameOn from (λ cloud. (b cloud).list) (λ cloud. (c cloud).list)
      lists cloud has = ap (λ (p : Peer). p.list) (same cloud has)
  found_at found a b c same (inr x) = inr (version_same shape user key (λ cloud. (b cloud).list) (λ cloud. (c cloud).list) from lists ∙ x.0, λ cloud has. subst (λ (p : Peer). Reads (a cloud) p) (sym (same cloud has)) (x.1 cloud has))
    where
      lists : SameOn from (λ cloud. (b cloud).list) (λ cloud. (c cloud).list)
      lists cloud has = ap (λ (p : Peer). p.list) (same cloud has)

  -- what was found, and then brought
  pub found_brought : (found : FoundThere) (r : Result (Option SkipWhy) RebuildErr) (turns : List (LaneTurn Peer)) (a b : ℕ → Peer) (at : Peer) (c : ℕ → Peer) → (Contains from target → ⊥) → OfTarget r
      → AreOnlyAsked from a b → LeavesBut [] target b c → FindsTold shape user key from (Ok found) a b → EntryBrought shape target serve key (found_of user key found) r turns (b target) at (c target)
      → EntryTold shape user target serve from key r turns a at c
  found_brought found r turns a b at c apart own read leaves finds brought =
      own_told r turns a at c own (
        found_of user key found,
        found_at (found_of user key found) a b c (λ cloud has. leaves.others cloud (λ same. apart (subst (λ (x : ℕ). Contains from x) same has)) (λ none. contains_nothing cloud none)) finds,
        subst (λ (p : Peer). EntryBrought shape target serve key (found_of user key found) r turns p at (c target)) (read.others target apart) brought,
      )

-- ---- a version that was brought

module _ (shape : Shape) (target : ℕ) (serve : List Command → Request → Outcome) (key : Tag × Version) (v : FileVersion) where
  stops_as : (e : RebuildErr) (turns : List (LaneTurn Peer)) (start end : Peer) → LaneEnds shape target serve v start turns end (StopsBy e) → EntryStops shape target serve key (Ok v) e start turns end
  stops_as e turns start end x = (x.said, x.ends.0, λ r. (lane_ended key x.last.lane.state x.said r, (x.last, x.said, x.run, x.said_is, refl), x.ends.1 key r))

  pub entered_told : (there : Bool) (turns : List (LaneTurn Peer)) (start at end : Peer) → BringsTold shape target serve v (Ok there) turns start at end
      → EntryBrought shape target serve key (Ok v) (Ok (entered_as there)) turns start at end
  entered_told true turns start at end x r = (x.last, x.said, x.run, x.said_is, ap (λ (s : LaneState). lane_ended key s x.said r) (sym x.ends))
  entered_told false turns start at end x r = (x.last, x.said, x.run, x.said_is, λ i. lane_ended key ((sym x.ends.0) i) ((sym x.ends.1) i) r)

  pub refused_told : (e : RebuildErr) (turns : List (LaneTurn Peer)) (start at end : Peer) → BringsTold shape target serve v (Err e) turns start at end → EntryBrought shape target serve key (Ok v) (Err e) turns start at end
  refused_told (errors.FromRestore e) turns start at end x = stops_as (errors.FromRestore e) turns start end x
  refused_told errors.TargetLost turns start at end x = λ fs r none. x (record { key = key; found = Ok v }) fs r refl none
  refused_told errors.TargetFault turns start at end x = stops_as errors.TargetFault turns start end x
  refused_told (errors.TargetDamaged place byte) turns start at end x = stops_as (errors.TargetDamaged place byte) turns start end x
  refused_told (errors.TargetRotten named hash) turns start at end x = stops_as (errors.TargetRotten named hash) turns start end x
  refused_told (errors.TargetFull room used need limit) turns start at end x = stops_as (errors.TargetFull room used need limit) turns start end x
  refused_told (errors.TargetLacking place) turns start at end x = stops_as (errors.TargetLacking place) turns start end x
  refused_told errors.TargetNoMemory turns start at end x = stops_as errors.TargetNoMemory turns start end x
  refused_told (errors.TargetStrange kind) turns start at end x = stops_as (errors.TargetStrange kind) turns start end x
  refused_told errors.NoMemory turns start at end x = λ fs r none. x (record { key = key; found = Ok v }) fs r refl none

-- ---- what was found, at the target

-- the target isn't asked
pub skipped_leads : {L : Type 0} (t : LinkTelling L) (talk : L → ℕ → Talk → Type 0) (target : ℕ) (link : L) (known : Bool) (shape : Shape) (user : UserId) (serve : List Command → Request → Outcome) (key : Tag × Version) (why : SkipWhy)
    → LeadsWithTarget {L = L} {A = Option SkipWhy} t talk target [] link link (Ok (Some why)) (λ turns before after. BringHolds {A = Option SkipWhy} known (OwnLanes shape user target) (EndsLane shape user target) (Ok (Some why)) turns (before target) (after target))
    (λ turns before at after. EntryBrought shape target serve key (Err why) (Ok (Some why)) turns (before target) at (after target))
skipped_leads t talk target link known shape user serve key why these all before peers = (
  before,
  [],
  link,
  before target,
  peers,
  record { read = λ c ne. may_stay (before c); others = λ c ne out. refl; counts = (may_stay (before target)).1 },
  (([], refl), peers target (all target (contains_here target [])), refl),
  (refl, refl),
  record { caused = tt; said = tt; ended = tt; own = lanes_none shape user target },
  λ told r. (refl, refl, refl),
)

pub serves_same : {L : Type 0} (t : LinkTelling L) (target : ℕ) (old new : L) → t.shape new ≡ t.shape old → t.full new ≡ t.full old → serves t new target ≡ serves t old target
serves_same t target old new shape full i = served (shape i) target (full i target)
