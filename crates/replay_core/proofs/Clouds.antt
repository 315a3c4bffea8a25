-- Clouds before and at their first openings.
use Rattle.std.proofs.Common.{◌≡◌, ℕ, ◌+◌, ◌<◌, ◌≤◌, Bool, true, false, [], refl, sym, ap, ◌∙◌, subst, inl, inr, arith}
use Rattle.std.specs.Prelude.{◌≢◌, IsTrue, Result, Err, OnErr, IfErr}
use Rattle.std.proofs.lemmas.Bool.{cases_eq}
use Rattle.share_server.specs.CdBase.ids.CloudNo.{CloudNo}
use Rattle.share_server.specs.CdBase.shape.Shape.{Shape}
use Rattle.share_server.specs.CdEdges.Causes.{Rose}
use Rattle.share_server.specs.CdEdges.area.Area.{Area}
use Rattle.share_server.specs.CdEdges.Disk.{Cloud, Image, IsImage}
use Rattle.share_server.specs.CdEdges.Shelf.{IsCall, Stays, HasFailed, KeepsCounts}
use Rattle.share_server.proofs.CdEdges.Moments.{stayed, left_alone}
use Rattle.share_server.specs.CommitJournal.errors.OpenErr.{OpenErr}
use Rattle.share_server.specs.CommitJournal.errors.OpenErr.TheVariants as errors
use Rattle.share_server.specs.JournalStart.start.Header.{Header}
use Rattle.share_server.specs.CommitJournal.Openings.{OnFault}
use Rattle.share_server.specs.CloudOpening.Spared.{IsOkOrFault}
use Rattle.share_server.specs.CloudAreas.Peers.{StandsForSome}
use Rattle.share_server.specs.CloudAreas.Standing.{StandsFor}
use Rattle.share_server.specs.Names.{HasNoJournal}
use Rattle.share_server.specs.Refusals.{IsNamedDamage}
use Rattle.replay_core.specs.declared.end.ReplayEnd.{ReplayEnd}
use Rattle.replay_core.specs.declared.end.ReplayEnd.TheVariants as ends
use Rattle.replay_core.specs.Opening.{AreEmptyBelow, AreSpared, IsFirstFilled, IsBlank, Prepares, PreparesAll, AreSame, IsEmpty, EndsEmpty, EndsAtOpening, EndsUnopened, IsEndOf}

-- areas that are all empty stand for no commands
abbrev pub EmptyStands : Type 0
EmptyStands = (image : Image) (header : Header) → ((area : Area) → image area ≡ []) → StandsFor image header []

pub empty_stands : ((image : Image) → ((area : Area) → image area ≡ []) → HasNoJournal image)
    → ((image : Image) (header : Header) → HasNoJournal image → StandsFor image header []) → EmptyStands
empty_stands unbegun stands image header empty = stands image header (unbegun image empty)

pub blank_stands : EmptyStands → (header : Header) (cloud : Cloud) → IsBlank cloud → (image : Image) → IsImage cloud.now image
    → StandsForSome header (λ list. list ≡ []) image
blank_stands law header cloud blank image is = ([], refl, law image header (λ area. blank image area is))

pub stays_same : (old new : Cloud) → new ≡ old → Stays old new
stays_same old new same = subst (Stays old) (sym same) (record { armed = refl; past = refl; now = refl })

-- ---- an answer of Err

pub on_err : (result : Result (Unit {0}) ReplayEnd) (end : ReplayEnd) (A : Type 0) → result ≡ Err end → A → OnErr result A
on_err result end A same a = subst (λ (r : Result (Unit {0}) ReplayEnd). OnErr r A) (sym same) a

pub if_err : (result : Result (Unit {0}) ReplayEnd) (end : ReplayEnd) (P : ReplayEnd → Type 0) → result ≡ Err end → P end → IfErr result P
if_err result end P same p = subst (λ (r : Result (Unit {0}) ReplayEnd). IfErr r P) (sym same) p

-- ---- one cloud

-- of a call that leaves all but the counts
pub prepares_still : EmptyStands → (header : Header) (old new : ℕ → Cloud) (number before now : ℕ) → IsCall old new number before now
    → Stays (old number) (new number) → Prepares header (old number) (new number)
prepares_still law header old new number before now call stays = record {
  told = call.told;
  later = call.later;
  armings = call.armings;
  images = λ told blank. stayed (old number) (new number) (StandsForSome header (λ list. list ≡ [])) stays (blank_stands law header (old number) blank);
}

pub prepares_same : EmptyStands → (header : Header) (old new : Cloud) → new ≡ old → Prepares header old new
prepares_same law header old new same = record {
  told = ap (λ (c : Cloud). c.told) same;
  later = (let e : new.faults ≡ old.faults = ap (λ (c : Cloud). c.faults) same in omega arith);
  armings = ap (λ (c : Cloud). c.armings) same;
  images = λ told blank. left_alone old new (StandsForSome header (λ list. list ≡ [])) same (blank_stands law header old blank);
}

pub prepares_from : (header : Header) (old mid new : Cloud) → mid ≡ old → Prepares header mid new → Prepares header old new
prepares_from header old mid new same is = subst (λ (c : Cloud). Prepares header c new) same is

-- ---- clouds that are to be empty

-- a call on one cloud behind calls that changed nothing
pub prepares_one : EmptyStands → (headers : ℕ → Header) (shape : Shape) (old mid new : ℕ → Cloud) (number : ℕ) → AreSame old mid
    → ((header : Header) → Prepares header (mid number) (new number)) → number < shape.n
    → ((other : ℕ) → other ≢ number → new other ≡ mid other) → PreparesAll headers shape old new
prepares_one law headers shape old mid new number same here below others = record {
  each = λ cloud lt. elim (cases_eq cloud number) [
    | inl e ↦ subst (λ (n : ℕ). Prepares (headers n) (old n) (new n)) (sym e)
        (prepares_from (headers number) (old number) (mid number) (new number) (same number) (here (headers number)))
    | inr ne ↦ prepares_same law (headers cloud) (old cloud) (new cloud) (others cloud ne ∙ same cloud)
  ];
  others = λ cloud le. others cloud (λ e. absurd (past cloud e le)) ∙ same cloud;
}
  where
    past : (cloud : ℕ) → cloud ≡ number → shape.n ≤ cloud → ⊥
    past cloud e le = omega arith

pub all_same : EmptyStands → (headers : ℕ → Header) (shape : Shape) (old new : ℕ → Cloud) → AreSame old new → PreparesAll headers shape old new
all_same law headers shape old new same = record {
  each = λ cloud lt. prepares_same law (headers cloud) (old cloud) (new cloud) (same cloud);
  others = λ cloud le. same cloud;
}

pub more_empty : (old mid : ℕ → Cloud) (number : ℕ) → AreSame old mid → ((cloud : ℕ) → cloud < number → IsEmpty (old cloud))
    → IsEmpty (mid number) → (cloud : ℕ) → cloud < number + 1 → IsEmpty (old cloud)
more_empty old mid number same before here cloud lt = elim (cases_eq cloud number) [
  | inl e ↦ subst (λ (n : ℕ). IsEmpty (old n)) (sym e) (subst IsEmpty (same number) here)
  | inr ne ↦ before cloud (omega arith)
]

pub ends_empty : (shape : Shape) (old mid new : ℕ → Cloud) (number : ℕ) → number < shape.n → AreSame old mid
    → ((other : ℕ) → other ≢ number → new other ≡ mid other) → ((cloud : ℕ) → cloud < number → IsEmpty (old cloud)) → (end : ReplayEnd) → EndsEmpty number (mid number) (new number) end
    → EndsUnopened shape old new end
ends_empty shape old mid new number below same others before end is =
    by_end end (subst (λ (c : Cloud). EndsEmpty number c (new number) end) (same number) is)
  where
    by_end : (end : ReplayEnd) → EndsEmpty number (old number) (new number) end → EndsUnopened shape old new end
    by_end (ends.NotEmpty cloud area len) e = subst (λ (n : ℕ). (n < shape.n) × IsFirstFilled old n area len × AreSame old new) (sym e.0) (
      below,
      record {
        some = e.1;
        clouds_before = λ other each lt told. before other lt told each;
        areas_before = λ told. (e.2 told).0;
        len_is = λ told. (e.2 told).1;
      },
      λ other. elim (cases_eq other number) [
        | inl at ↦ subst (λ (n : ℕ). new n ≡ old n) (sym at) e.3
        | inr ne ↦ others other ne ∙ same other
      ],
    )
    by_end (ends.ShelfFault cloud) e = subst (λ (n : ℕ). (n < shape.n) × Rose (old n).faults (new n).faults × AreEmptyBelow old n × AreSpared shape.n old new) (sym e.0) (
      below,
      e.1,
      λ other area lt told. before other lt told area,
      inr (λ other. elim (cases_eq other number) [
        | inl at ↦ subst (λ (n : ℕ). Stays (old n) (new n)) (sym at) e.2
        | inr ne ↦ stays_same (old other) (new other) (others other ne ∙ same other)
      ]),
    )
    by_end (ends.Done events) e = absurd e
    by_end (ends.Script line at found) e = absurd e
    by_end ends.SourceFault e = absurd e
    by_end ends.SinkFault e = absurd e
    by_end ends.NoMemory e = absurd e
    by_end (ends.Damaged cloud at byte) e = absurd e

-- ---- a first opening

pub not_told : (told : Bool) → (IsTrue told → ⊥) → told ≡ false
not_told true never = absurd (never refl)
not_told false _ = refl

pub damaged_end : (cloud : CloudNo) (error : OpenErr) (at byte : ℕ) → error ≢ errors.Fault → IsNamedDamage error at byte
    → IsEndOf cloud error (ends.Damaged cloud at byte)
damaged_end cloud errors.Fault at byte ne is = absurd (ne refl)
damaged_end cloud (errors.NotBegun len) at byte ne is = (at, byte, is, refl)
damaged_end cloud (errors.Damaged place found) at byte ne is = (at, byte, is, refl)
damaged_end cloud (errors.OtherStore found asked start) at byte ne is = (at, byte, is, refl)

-- an opening that ended with this error
abbrev pub failed_by : OpenErr → Result ℕ OpenErr
failed_by error = Err error

pub ends_opening : (cloud : CloudNo) (old new : Cloud) (before now : ℕ) (error : OpenErr) (end : ReplayEnd) → IsEndOf cloud error end
    → OnFault (failed_by error) (HasFailed old new before now) (KeepsCounts old new before now)
    → (IsTrue old.told → IsOkOrFault (failed_by error)) → EndsAtOpening cloud.0 old new end
ends_opening cloud old new before now errors.Fault end e counts may = subst (EndsAtOpening cloud.0 old new) (sym e) (refl, counts.cloud)
ends_opening cloud old new before now (errors.NotBegun len) end e counts may = subst (EndsAtOpening cloud.0 old new) (sym e.3) (refl, not_told old.told may)
ends_opening cloud old new before now (errors.Damaged place found) end e counts may = subst (EndsAtOpening cloud.0 old new) (sym e.3) (refl, not_told old.told may)
ends_opening cloud old new before now (errors.OtherStore found asked start) end e counts may = subst (EndsAtOpening cloud.0 old new) (sym e.3) (refl, not_told old.told may)

-- at one of the clouds
pub ends_unopened : (shape : Shape) (old mid new : ℕ → Cloud) (number : ℕ) → number < shape.n → mid number ≡ old number
    → ((cloud : ℕ) → cloud < shape.n → IsEmpty (old cloud)) → (end : ReplayEnd) → EndsAtOpening number (mid number) (new number) end → EndsUnopened shape old new end
ends_unopened shape old mid new number below same empty end is =
    by_end end (subst (λ (c : Cloud). EndsAtOpening number c (new number) end) same is)
  where
    front : AreEmptyBelow old number
    front other area lt told = empty other (omega (arith, lt, below)) told area

    all : AreEmptyBelow old shape.n
    all other area lt told = empty other lt told area

    by_end : (end : ReplayEnd) → EndsAtOpening number (old number) (new number) end → EndsUnopened shape old new end
    by_end (ends.ShelfFault cloud) e = subst (λ (n : ℕ). (n < shape.n) × Rose (old n).faults (new n).faults × AreEmptyBelow old n × AreSpared shape.n old new) (sym e.0)
        (below, e.1, front, inl all)
    by_end (ends.Damaged cloud at byte) e = subst (λ (n : ℕ). (n < shape.n) × ((old n).told ≡ false) × AreEmptyBelow old shape.n) (sym e.0) (below, e.1, all)
    by_end (ends.NotEmpty cloud area len) e = absurd e
    by_end (ends.Done events) e = absurd e
    by_end (ends.Script line at found) e = absurd e
    by_end ends.SourceFault e = absurd e
    by_end ends.SinkFault e = absurd e
    by_end ends.NoMemory e = absurd e

-- ---- what an end before the openings leaves of the clouds

pub spared_by : (shape : Shape) (old new : ℕ → Cloud) (end : ReplayEnd) → EndsUnopened shape old new end → AreSpared shape.n old new
spared_by shape old new (ends.NotEmpty cloud area len) x = inr (λ other. stays_same (old other) (new other) (x.2 other))
spared_by shape old new (ends.ShelfFault cloud) x = x.3
spared_by shape old new (ends.Damaged cloud at byte) x = inl x.2
spared_by shape old new (ends.Done events) x = absurd x
spared_by shape old new (ends.Script line at found) x = absurd x
spared_by shape old new ends.SourceFault x = absurd x
spared_by shape old new ends.SinkFault x = absurd x
spared_by shape old new ends.NoMemory x = absurd x

pub spared_same : (count : ℕ) (old new : ℕ → Cloud) → AreSame old new → AreSpared count old new
spared_same count old new same = inr (λ cloud. stays_same (old cloud) (new cloud) (same cloud))
