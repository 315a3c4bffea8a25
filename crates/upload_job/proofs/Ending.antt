-- Lanes whose version is entered.
use Rattle.std.proofs.Common.{◌≡◌, ℕ, zero, suc, ◌+◌, ◌<◌, List, [], ◌∷◌, length, drop, get_or, set, Some, refl, sym, ap, ◌∙◌, subst, arith}
use Rattle.std.specs.Prelude.{All}
use Rattle.std.proofs.lemmas.List.{drop_more}
use Rattle.std.proofs.lemmas.List.Elements.{All-head, All-tail}
use Rattle.user_dedup.specs.CdBase.ids.CloudNo.{CloudNo}
use Rattle.user_dedup.specs.CdBase.Numbers.{numbers_of}
use Rattle.upload_job.specs.declared.lane.VersionKey.{VersionKey}
use Rattle.upload_job.specs.declared.lane.Lane.{Lane}
use Rattle.upload_job.specs.declared.lane.LaneStage.TheVariants as stages
use Rattle.upload_job.specs.Lane.{Done}
use Rattle.upload_job.specs.Lanes.{LaneView, with_state, entered_at}
use Rattle.upload_job.specs.Index.{AreLanes, lane_in, lanes_in, moved_to, staged_at, done_at}

pub length-staged_at : (lanes : List Lane) (i : ℕ) → length (staged_at lanes i stages.Done) ≡ length lanes
length-staged_at [] i = refl
length-staged_at (lane ∷ lanes) zero = refl
length-staged_at (lane ∷ lanes) (suc i) = omega (arith, length-staged_at lanes i)

staged_in : (key : VersionKey) (lanes : List Lane) (i : ℕ) → lanes_in key (staged_at lanes i stages.Done) ≡ with_state (lanes_in key lanes) i Done
staged_in key [] i = refl
staged_in key (lane ∷ lanes) zero = refl
staged_in key (lane ∷ lanes) (suc i) = ap (λ (l : List LaneView). lane_in key lane ∷ l) (staged_in key lanes i)

staged_lanes : (lanes : List Lane) (i : ℕ) → AreLanes lanes → AreLanes (staged_at lanes i stages.Done)
staged_lanes [] i are = are
staged_lanes (lane ∷ lanes) zero are = ((are.0.0, tt), are.1)
staged_lanes (lane ∷ lanes) (suc i) are = (are.0, staged_lanes lanes i are.1)

pub done_in : (key : VersionKey) (lanes : List Lane) (clouds : List ℕ) → lanes_in key (done_at lanes clouds) ≡ entered_at (lanes_in key lanes) clouds
done_in key lanes [] = refl
done_in key lanes (cloud ∷ clouds) = done_in key (staged_at lanes cloud stages.Done) clouds ∙ ap (λ (l : List LaneView). entered_at l clouds) (staged_in key lanes cloud)

pub done_lanes : (lanes : List Lane) (clouds : List ℕ) → AreLanes lanes → AreLanes (done_at lanes clouds)
done_lanes lanes [] are = are
done_lanes lanes (cloud ∷ clouds) are = done_lanes (staged_at lanes cloud stages.Done) clouds (staged_lanes lanes cloud are)

pub set_staged : (lanes : List Lane) (i : ℕ) (l : Lane) → i < length lanes → l ≡ get_or lanes i l → set lanes i (moved_to l (Some stages.Done)) ≡ staged_at lanes i stages.Done
set_staged [] i l lt e = absurd (omega arith)
set_staged (lane ∷ lanes) zero l lt e = ap (λ (x : Lane). moved_to x (Some stages.Done) ∷ lanes) e
set_staged (lane ∷ lanes) (suc i) l lt e = ap (λ (x : List Lane). lane ∷ x) (set_staged lanes i l (omega arith) e)

-- ---- one cloud after the other

abbrev first_cloud : CloudNo
first_cloud = record { 0 = 0 }

pub first_below : (clouds : List CloudNo) (i n : ℕ) → i < length clouds → All (λ cloud. cloud < n) (numbers_of (drop i clouds)) → (get_or clouds i first_cloud).0 < n
first_below clouds i n lt all =
    let more = subst (λ (l : List CloudNo). All (λ cloud. cloud < n) (numbers_of l)) (drop_more clouds i first_cloud lt) all in
    All-head (λ cloud. cloud < n) (get_or clouds i first_cloud).0 (numbers_of (drop (i + 1) clouds)) more

pub rest_below : (clouds : List CloudNo) (i n m : ℕ) → i < length clouds → m ≡ n → All (λ cloud. cloud < n) (numbers_of (drop i clouds)) → All (λ cloud. cloud < m) (numbers_of (drop (i + 1) clouds))
rest_below clouds i n m lt same all =
    let more = subst (λ (l : List CloudNo). All (λ cloud. cloud < n) (numbers_of l)) (drop_more clouds i first_cloud lt) all in
    subst (λ (k : ℕ). All (λ cloud. cloud < k) (numbers_of (drop (i + 1) clouds))) (sym same)
    (All-tail (λ cloud. cloud < n) (get_or clouds i first_cloud).0 (numbers_of (drop (i + 1) clouds)) more)

pub one_ended : (lanes new start : List Lane) (clouds : List CloudNo) (i : ℕ) → i < length clouds → new ≡ staged_at lanes (get_or clouds i first_cloud).0 stages.Done
    → done_at lanes (numbers_of (drop i clouds)) ≡ done_at start (numbers_of clouds) → done_at new (numbers_of (drop (i + 1) clouds)) ≡ done_at start (numbers_of clouds)
one_ended lanes new start clouds i lt e ended =
    ap (λ (l : List Lane). done_at l (numbers_of (drop (i + 1) clouds))) e
    ∙ sym (ap (λ (l : List CloudNo). done_at lanes (numbers_of l)) (drop_more clouds i first_cloud lt)) ∙ ended
