-- The lanes of a job, as contracts see them.
use Rattle.std.proofs.Common.{◌≡◌, ◌↔◌, ℕ, zero, suc, ◌<◌, Bool, true, false, List, [], ◌∷◌, length, get_or, set, drop, Some, None, Option, Result, refl, sym, ap, ◌∙◌, subst, arith, map}
use Rattle.std.specs.Prelude.{All, IsSome, slice_get}
use Rattle.std.proofs.lemmas.List.{get_or_default, length-map}
use Rattle.std.proofs.lemmas.List.Elements.{All-nil, All-cons}
use Rattle.user_dedup.specs.Messages.request.Request.{Request}
use Rattle.upload_job.specs.declared.lane.VersionKey.{VersionKey}
use Rattle.upload_job.specs.declared.lane.Lane.{Lane}
use Rattle.upload_job.specs.declared.lane.LaneStage.{LaneStage}
use Rattle.upload_job.specs.declared.lane.LaneStage.TheVariants as stages
use Rattle.upload_job.specs.declared.news.LaneNews.{LaneNews}
use Rattle.upload_job.specs.declared.news.LaneErr.{LaneErr}
use Rattle.upload_job.specs.Upload.{Work, in_batches}
use Rattle.upload_job.specs.Lane.{LaneState, Done, onward, lane_request}
use Rattle.upload_job.specs.Lanes.{LaneView, request_at, IsAsked, IsDoneAt, AnswersLane, AnswersAt, with_state}
use Rattle.upload_job.specs.Index.{HasRecalledShares, IsLane, AreLanes, shares_in, lane_in, lanes_in, state_in, moved_to, next_in}

pub length-lanes_in : (key : VersionKey) (lanes : List Lane) → length (lanes_in key lanes) ≡ length lanes
length-lanes_in key lanes = length-map lanes (lane_in key)

pub inside_at : (lanes : List Lane) (i : ℕ) (l : Lane) → AreLanes lanes → i < length lanes → IsLane (get_or lanes i l)
inside_at [] i l h lt = absurd (omega arith)
inside_at (m ∷ lanes) zero l h lt = h.0
inside_at (m ∷ lanes) (suc i) l h lt = inside_at lanes i l h.1 (omega arith)

-- what a lane asks
abbrev pub request_of : LaneView → Option Request
request_of lane = lane_request lane.work lane.state

request_in : (key : VersionKey) (lanes : List Lane) (i : ℕ) (l : Lane) → i < length lanes → request_at (lanes_in key lanes) i ≡ request_of (lane_in key (get_or lanes i l))
request_in key [] i l lt = absurd (omega arith)
request_in key (m ∷ lanes) zero l lt = refl
request_in key (m ∷ lanes) (suc i) l lt = request_in key lanes i l (omega arith)

pub asked_below : (lanes : List LaneView) (i : ℕ) → IsSome (request_at lanes i) → i < length lanes
asked_below [] i some = absurd (let no : false ≡ true = some in cc)
asked_below (l ∷ lanes) zero some = omega arith
asked_below (l ∷ lanes) (suc i) some = let lt = asked_below lanes i some in omega arith

-- ---- an answer to one lane

-- the lane has the same to bring, and stands there
pub record Moves (key : VersionKey) (l m : Lane) (state : LaneState) : Type 0 where
  pub recipe : m.recipe ≡ l.recipe
  pub items : m.items ≡ l.items
  pub recalled : m.recalled.bytes ≡ l.recalled.bytes
  pub wanted : m.wanted ≡ l.wanted
  pub stands : state_in (shares_in l.recalled.bytes l.wanted.items) m.stage ≡ state

moved : (key : VersionKey) (l m : Lane) (state : LaneState) → Moves key l m state → lane_in key m ≡ record { work = (lane_in key l).work; state = state }
moved key l m state h = rw (h.recipe, h.items, h.recalled, h.wanted, h.stands) refl

answers_in : (key : VersionKey) (lanes : List Lane) (i : ℕ) (l m : Lane) (content : List ℕ) (result : Result LaneNews LaneErr) (state : LaneState) → i < length lanes
    → AnswersLane (lane_in key (get_or lanes i l)) content result state → Moves key (get_or lanes i l) m state → AnswersAt (lanes_in key lanes) i content result (lanes_in key (set lanes i m))
answers_in key [] i l m content result state lt a n = absurd (omega arith)
answers_in key (o ∷ lanes) zero l m content result state lt a n = (state, a, ap (λ (x : LaneView). x ∷ lanes_in key lanes) (moved key o m state n))
answers_in key (o ∷ lanes) (suc i) l m content result state lt a n = (lanes_in key (set lanes i m), answers_in key lanes i l m content result state (omega arith) a n, refl)

moves_to : (key : VersionKey) (l : Lane) (next : Option LaneStage) → Moves key l (moved_to l next) (next_in (shares_in l.recalled.bytes l.wanted.items) (lane_in key l).state next)
moves_to key l None = record { recipe = refl; items = refl; recalled = refl; wanted = refl; stands = refl }
moves_to key l (Some stage) = record { recipe = refl; items = refl; recalled = refl; wanted = refl; stands = refl }

lanes_set : (lanes : List Lane) (i : ℕ) (m : Lane) → AreLanes lanes → i < length lanes → IsLane m → AreLanes (set lanes i m)
lanes_set [] i m h lt is = absurd (omega arith)
lanes_set (o ∷ lanes) zero m h lt is = (is, h.1)
lanes_set (o ∷ lanes) (suc i) m h lt is = (h.0, lanes_set lanes i m h.1 (omega arith) is)

pub others_stay : (old new : List LaneView) (i : ℕ) (content : List ℕ) (result : Result LaneNews LaneErr) → AnswersAt old i content result new → (j : ℕ) → (j ≡ i → ⊥) → slice_get new j ≡ slice_get old j
others_stay [] new i content result h j ne = absurd h
others_stay (l ∷ old) new zero content result h zero ne = absurd (ne refl)
others_stay (l ∷ old) new zero content result h (suc j) ne = ap (λ (xs : List LaneView). slice_get xs (suc j)) h.2
others_stay (l ∷ old) new (suc i) content result h zero ne = ap (λ (xs : List LaneView). slice_get xs 0) h.2
others_stay (l ∷ old) new (suc i) content result h (suc j) ne =
    ap (λ (xs : List LaneView). slice_get xs (suc j)) h.2 ∙ others_stay old h.0 i content result h.1 j (λ e. ne (ap suc e))

-- ---- the end

not_done : (bs : List (List (List ℕ))) → onward bs ≡ Done → ⊥
not_done [] e = cc
not_done (b ∷ bs) e = cc

pub done_state : (all : List (List ℕ)) (stage : LaneStage) → (state_in all stage ≡ Done) ↔ (stage ≡ stages.Done)
done_state all (stages.Bringing from) = (λ e. absurd (not_done (in_batches (drop from all)) e), λ e. cc)
done_state all (stages.Sending from flags) = (λ e. cc, λ e. cc)
done_state all stages.Done = (λ e. refl, λ e. refl)
done_state all stages.Refused = (λ e. cc, λ e. cc)

done_here : (key : VersionKey) (lanes : List Lane) (i : ℕ) (l : Lane) → i < length lanes → ((get_or lanes i l).stage ≡ stages.Done) ↔ IsDoneAt (lanes_in key lanes) i
done_here key [] i l lt = absurd (omega arith)
done_here key (o ∷ lanes) zero l lt =
    let at = done_state (shares_in o.recalled.bytes o.wanted.items) o.stage in
    (at.1, at.0)
done_here key (o ∷ lanes) (suc i) l lt = done_here key lanes i l (omega arith)

-- one lane of the job
pub done_seen : (key : VersionKey) (lanes : List Lane) (views : List LaneView) (i : ℕ) (l : Lane) → lanes_in key lanes ≡ views → i < length lanes → l ≡ get_or lanes i l → (l.stage ≡ stages.Done) ↔ IsDoneAt views i
done_seen key lanes views i l seen lt at =
    subst (λ (xs : List LaneView). (l.stage ≡ stages.Done) ↔ IsDoneAt xs i) seen
    (subst (λ (m : Lane). (m.stage ≡ stages.Done) ↔ IsDoneAt (lanes_in key lanes) i) (sym at) (done_here key lanes i l lt))

all_head : {A : Type 0} (P : A → Type 0) (x : A) (xs : List A) → All P (x ∷ xs) → P x × All P xs
all_head P x xs h = (h 0 x (omega arith), λ k d lt. h (suc k) d (omega arith))

pub done_in : (key : VersionKey) (lanes : List Lane) → All (λ (l : Lane). l.stage ≡ stages.Done) lanes ↔ All (λ (l : LaneView). l.state ≡ Done) (lanes_in key lanes)
done_in key [] = (λ a. All-nil (λ (l : LaneView). l.state ≡ Done), λ a. All-nil (λ (l : Lane). l.stage ≡ stages.Done))
done_in key (o ∷ lanes) =
    let rest = done_in key lanes in
    let here = done_state (shares_in o.recalled.bytes o.wanted.items) o.stage in (
      λ a. let s = all_head (λ (l : Lane). l.stage ≡ stages.Done) o lanes a in All-cons (λ (l : LaneView). l.state ≡ Done) (lane_in key o) (lanes_in key lanes) (here.1 s.0) (rest.0 s.1),
      λ a. let s = all_head (λ (l : LaneView). l.state ≡ Done) (lane_in key o) (lanes_in key lanes) a in All-cons (λ (l : Lane). l.stage ≡ stages.Done) o lanes (here.0 s.0) (rest.1 s.1),
    )

-- ---- a request

pub asked_yes : (r : Option Request) (more : Bool) (before now out then_out : List ℕ) → more ≡ true → IsAsked r more before now → then_out ≡ now → IsAsked r more out then_out
asked_yes None more before now out then_out e h f = absurd (let no : false ≡ true = sym h.0 ∙ e in cc)
asked_yes (Some r) more before now out then_out e h f = (h.0, f ∙ h.1)

pub asked_no : (r : Option Request) (more : Bool) (before now out : List ℕ) → more ≡ false → IsAsked r more before now → IsAsked r more out out
asked_no None more before now out e h = (h.0, refl)
asked_no (Some r) more before now out e h = absurd (let no : true ≡ false = sym h.0 ∙ e in cc)

-- ---- in a call

-- what a call finds at a place of the lanes that contracts see
pub below_seen : (key : VersionKey) (lanes : List Lane) (seen : List LaneView) (i : ℕ) → lanes_in key lanes ≡ seen → i < length seen → i < length lanes
below_seen key lanes seen i view lt = let len = length-lanes_in key lanes in let same = ap (λ (ys : List LaneView). length ys) view in omega arith

pub inside_here : (lanes : List Lane) (i : ℕ) (l : Lane) → AreLanes lanes → i < length lanes → l ≡ get_or lanes i l → IsLane l
inside_here lanes i l are lt here = subst IsLane (sym here) (inside_at lanes i l are lt)

pub request_found : (key : VersionKey) (lanes : List Lane) (seen : List LaneView) (i : ℕ) (l : Lane) → lanes_in key lanes ≡ seen → i < length lanes → l ≡ get_or lanes i l → request_of (lane_in key l) ≡ request_at seen i
request_found key lanes seen i l view lt here =
    ap (λ (m : Lane). request_of (lane_in key m)) here ∙ sym (request_in key lanes i l lt) ∙ ap (λ (xs : List LaneView). request_at xs i) view

-- an answer to the lane at a place, which is moved there
pub answered : (key : VersionKey) (lanes : List Lane) (seen : List LaneView) (i : ℕ) (l old m : Lane) (next : Option LaneStage) (content : List ℕ) (result : Result LaneNews LaneErr)
    → lanes_in key lanes ≡ seen → i < length lanes → l ≡ get_or lanes i l → old ≡ get_or lanes i old → m ≡ moved_to old next
    → AnswersLane (lane_in key l) content result (next_in (shares_in l.recalled.bytes l.wanted.items) (lane_in key l).state next)
    → AnswersAt seen i content result (lanes_in key (set lanes i m))
answered key lanes seen i l old m next content result view lt here there e h =
    let at : Lane = get_or lanes i l in
    let one = subst (λ (o : Lane). AnswersLane (lane_in key o) content result (next_in (shares_in o.recalled.bytes o.wanted.items) (lane_in key o).state next)) here h in
    let same : m ≡ moved_to at next = e ∙ ap (λ (o : Lane). moved_to o next) (there ∙ get_or_default lanes i old l lt) in
    subst (λ (xs : List LaneView). AnswersAt xs i content result (lanes_in key (set lanes i m))) view
    (answers_in key lanes i l m content result (next_in (shares_in at.recalled.bytes at.wanted.items) (lane_in key at).state next) lt one
    (subst (λ (o : Lane). Moves key at o (next_in (shares_in at.recalled.bytes at.wanted.items) (lane_in key at).state next)) (sym same) (moves_to key at next)))

-- a lane that has a request has its shares
held : (w : Work) (all : List (List ℕ)) (stage : LaneStage) (shares recalled : List ℕ) → IsSome (lane_request w (state_in all stage)) → HasRecalledShares stage shares recalled → shares ≡ recalled
held w all (stages.Bringing from) shares recalled some has = has
held w all (stages.Sending from flags) shares recalled some has = has
held w all stages.Done shares recalled some has = absurd (let no : false ≡ true = some in cc)
held w all stages.Refused shares recalled some has = absurd (let no : false ≡ true = some in cc)

moved_is : (l : Lane) (next : Option LaneStage) → IsLane l → l.shares ≡ l.recalled.bytes → IsLane (moved_to l next)
moved_is l None is e = is
moved_is l (Some (stages.Bringing from)) is e = (is.0, e)
moved_is l (Some (stages.Sending from flags)) is e = (is.0, e)
moved_is l (Some stages.Done) is e = (is.0, tt)
moved_is l (Some stages.Refused) is e = (is.0, tt)

-- an answer to the lane at a place, which has a request
pub are_moved : (key : VersionKey) (lanes : List Lane) (seen : List LaneView) (i : ℕ) (old m : Lane) (next : Option LaneStage) → lanes_in key lanes ≡ seen → IsSome (request_at seen i)
    → AreLanes lanes → i < length lanes → old ≡ get_or lanes i old → m ≡ moved_to old next → AreLanes (set lanes i m)
are_moved key lanes seen i old m next view some are lt there e =
    let is : IsLane old = inside_here lanes i old are lt there in
    let asks : IsSome (request_of (lane_in key old)) = subst (λ (r : Option Request). IsSome r) (sym (request_found key lanes seen i old view lt there)) some in
    lanes_set lanes i m are lt
    (subst IsLane (sym e) (moved_is old next is (held (lane_in key old).work (shares_in old.recalled.bytes old.wanted.items) old.stage old.shares old.recalled.bytes asks is.1)))

-- ---- what lanes work at

abbrev pub works : List LaneView → List Work
works lanes = map (λ (lane : LaneView). lane.work) lanes

pub state_works : (lanes : List LaneView) (i : ℕ) (state : LaneState) → works (with_state lanes i state) ≡ works lanes
state_works [] i state = refl
state_works (lane ∷ lanes) zero state = refl
state_works (lane ∷ lanes) (suc i) state = ap (λ (l : List Work). lane.work ∷ l) (state_works lanes i state)
