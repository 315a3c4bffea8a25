-- The records of lanes, one after another.
use Rattle.std.proofs.Common.{◌≡◌, ℕ, ◌+◌, ◌-◌, ◌*◌, ◌<◌, ◌≤◌, Bool, true, false, eqb, Result, Ok, Err, List, [], ◌∷◌, ◌++◌, length, sym, ap, ◌∙◌, subst, arith, length-append, IsTrue}
use Rattle.std.specs.Prelude.{All}
use Rattle.std.specs.List.{IsDistinct}
use Rattle.std.proofs.lemmas.List.{length-map}
use Rattle.grammar.specs.CdBase.Numbers.{numbers_of}
use Rattle.grammar.specs.CdBase.ids.CloudNo.{CloudNo}
use Rattle.grammar.specs.CdBase.shape.Shape.{Shape}
use Rattle.commit_journal.specs.CdEdges.area.Area.TheVariants.{Journal}
use Rattle.commit_journal.specs.CdEdges.Disk.{Store, Areas, Cloud}
use Rattle.commit_journal.specs.CdEdges.Shelf.{Stays}
use Rattle.commit_journal.proofs.CdEdges.Moments.{told_on}
use Rattle.commit_journal.specs.States as half
use Rattle.upload_spool.specs.Reading.{JobFields}
use Rattle.upload_spool.specs.Steps.{IsSpoolRead, LaneStepIs, ReadsLane, MoreNoted, AreNoted, notes_of, IsSpoolRefused}
use Rattle.upload_spool.specs.declared.error.SpoolErr.{SpoolErr}
use Rattle.upload_spool.specs.declared.error.SpoolErr.TheVariants.{NotEmpty, Fault, Damaged, OtherStore, Rotten, NoMemory}
use Rattle.upload_spool.proofs.Lanes.{few_lanes, distinct_more, below_more, none_distinct, none_below}
use Rattle.upload_spool.proofs.Sizes.{lane_is}

-- before the first lane
pub none_noted : (shape : Shape) (gate : ℕ) (noted : List CloudNo) → noted ≡ [] → AreNoted shape gate gate noted
none_noted shape gate noted none = record { distinct = none_distinct noted none; below = none_below noted shape.n none; near = omega arith }

pub none_read : (shape : Shape) (state : half.JournalState) (store : Store) (job : JobFields) (noted : List CloudNo) → noted ≡ [] → IsSpoolRead shape state store (notes_of job []) → IsSpoolRead shape state store (notes_of job noted)
none_read shape state store job noted none is = subst (λ (l : List CloudNo). IsSpoolRead shape state store (notes_of job l)) (sym none) is

nearer : (start gate after old new : ℕ) → gate ≤ start + 7 * old → after ≡ gate + 7 → new ≡ old + 1 → after ≤ start + 7 * new
nearer start gate after old new near is more = omega (arith, near, is, more)

one_longer : (noted more : List CloudNo) (lane : CloudNo) → more ≡ noted ++ lane ∷ [] → length more ≡ length noted + 1
one_longer noted more lane is = ap (λ (l : List CloudNo). length l) is ∙ length-append noted (lane ∷ [])

pub noted_more : (shape : Shape) (start gate after : ℕ) (noted more : List CloudNo) → AreNoted shape start gate noted → MoreNoted shape noted more gate after (Ok true) → AreNoted shape start after more
noted_more shape start gate after noted more are step =
    let lane = step.0 in let facts = lane_is shape noted lane.0 step.1 in let is = step.2 in
    record {
      distinct = subst (λ (l : List CloudNo). IsDistinct eqb (numbers_of l)) (sym is) (distinct_more noted lane are.distinct facts.1);
      below = subst (λ (l : List CloudNo). All (λ (x : ℕ). x < shape.n) (numbers_of l)) (sym is) (below_more noted lane shape.n are.below facts.0);
      near = nearer start gate after (length noted) (length more) are.near step.3 (one_longer noted more lane is);
    }

pub noted_same : (shape : Shape) (start gate after : ℕ) (noted more : List CloudNo) → AreNoted shape start gate noted → MoreNoted shape noted more gate after (Ok false) → AreNoted shape start after more
noted_same shape start gate after noted more are step =
    subst (λ (n : ℕ). AreNoted shape start n more) (sym step.1) (subst (λ (l : List CloudNo). AreNoted shape start gate l) (sym step.0) are)

less_left : (n old new : ℕ) → new ≡ old + 1 → new ≤ n → n - new < n - old
less_left n old new is few = omega (arith, is, few)

pub fewer_left : (shape : Shape) (start gate after : ℕ) (noted more : List CloudNo) → AreNoted shape start gate noted → MoreNoted shape noted more gate after (Ok true) → shape.n - length more < shape.n - length noted
fewer_left shape start gate after noted more are step =
    let now = noted_more shape start gate after noted more are step in
    let few : length more ≤ shape.n = subst (λ (n : ℕ). n ≤ shape.n) (length-map more (λ (cloud : CloudNo). cloud.0)) (few_lanes (numbers_of more) shape.n now.distinct now.below) in
    less_left shape.n (length noted) (length more) (one_longer noted more step.0 step.2) few

pub lane_walk : (shape : Shape) (job : JobFields) (mid after : half.JournalState) (c0 c1 : Cloud) (noted more : List CloudNo) (r s : Result Bool SpoolErr) → r ≡ s → Stays c0 c1 → c1.told ≡ c0.told → IsTrue c0.told
    → ReadsLane shape mid after c1 noted more r → IsSpoolRead shape mid (c0.now Journal) (notes_of job noted) → LaneStepIs shape job after (c0.now Journal) more s
lane_walk shape job mid after c0 c1 noted more r s same stays told_is told reads read =
    let here = subst (λ (a : Areas). IsSpoolRead shape mid (a Journal) (notes_of job noted)) (sym stays.now) read in
    let step = reads (told_on c0 c1 told_is told) job here in
    subst (λ (a : Areas). LaneStepIs shape job after (a Journal) more s) stays.now (subst (λ (x : Result Bool SpoolErr). LaneStepIs shape job after (c1.now Journal) more x) same step)

pub walk_refused : (shape : Shape) (job : JobFields) (after : half.JournalState) (store : Store) (more : List CloudNo) (e : SpoolErr) → LaneStepIs shape job after store more (Err e) → IsSpoolRefused shape store.read e
walk_refused shape job after store more (Damaged at byte) is = is
walk_refused shape job after store more Fault is = tt
walk_refused shape job after store more NoMemory is = tt
walk_refused shape job after store more (NotEmpty area len) is = is
walk_refused shape job after store more (OtherStore found asked) is = is
walk_refused shape job after store more (Rotten named found) is = is
