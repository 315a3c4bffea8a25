-- The lanes of a job that goes on are ones to which a job comes: a committed lane is one whose cloud knew each batch, and then
-- entered the recipe.
use Rattle.std.proofs.Common.{◌≡◌, ℕ, zero, suc, ◌==◌, ◌<◌, ◌≤◌, ◌^◌, ◌⊎◌, inl, inr, Bool, true, cond, List, [], ◌∷◌, length, map, Ok, refl, sym, ap, ◌∙◌, subst, arith}
use Rattle.std.specs.Prelude.{All}
use Rattle.std.specs.List.{list_all, count_by, AllByRecursion, range_with_len}
use Rattle.std.proofs.lemmas.Bool.{cases_lt}
use Rattle.std.proofs.lemmas.List.{length-map}
use Rattle.std.proofs.lemmas.List.Elements.{All-nil, All-cons, All-head, All-tail}
use Rattle.grammar.specs.CdBase.Limits.{IsPath}
use Rattle.grammar.specs.CdBase.shape.Shape.{Shape}
use Rattle.upload_job.specs.MessageFields.Flags.{AreFlags}
use Rattle.upload_job.specs.MessageFields.Shares.{AreShares}
use Rattle.upload_job.specs.Messages.reply.Reply.TheVariants as replies
use Rattle.upload_job.specs.Messages.Replies.{reply_bytes}
use Rattle.upload_job.specs.UserDedup.Cloud.{fingerprint}
use Rattle.upload_job.specs.declared.news.LaneNews.{LaneNews}
use Rattle.upload_job.specs.declared.news.LaneNews.TheVariants as news
use Rattle.upload_job.specs.Lane.{LaneState, Asking, Sending, Committing, Done, onward}
use Rattle.upload_job.specs.Upload.{FileVersion, Work, work_of}
use Rattle.upload_job.specs.Lanes.{LaneView, begun, lanes_resumed, entered_at, with_state, AnswersLane, AnswersAt}
use Rattle.lane_steps.specs.Reached.{IsReached, Begun, Answered}
use Rattle.lane_steps.specs.Runs.{lane_at}
use Rattle.lane_steps.proofs.Reaching.{can_bring}
use Rattle.lane_steps.proofs.Views.{lane_with, length_with, with_twice, with_same}

-- ---- one answer

answer_at : (views : List LaneView) (i : ℕ) (content : List ℕ) (told : LaneNews) (state : LaneState) → i < length views → AnswersLane (lane_at views i) content (Ok told) state
    → AnswersAt views i content (Ok told) (with_state views i state)
answer_at [] i content told state lt answers = absurd (omega arith)
answer_at (lane ∷ views) zero content told state lt answers = (state, answers, refl)
answer_at (lane ∷ views) (suc i) content told state lt answers = (with_state views i state, answer_at views i content told state (omega arith) answers, refl)

abbrev view : Work → LaneState → LaneView
view w state = record { work = w; state = state }

committed : (w : Work) (state : LaneState) → state ≡ Committing → AnswersLane (view w state) (reply_bytes replies.Committed) (Ok news.Committed) Done
committed w state e =
    subst (λ (s : LaneState). AnswersLane (view w s) (reply_bytes replies.Committed) (Ok news.Committed) Done) (sym e)
    (replies.Committed, record { says = record { is = record { fits = tt; spelled = refl }; answers = tt }; told = refl; moves = refl })

-- all of a batch is known
abbrev ones : List (List ℕ) → List ℕ
ones batch = map (λ (share : List ℕ). 1) batch

long_ones : (batch : List (List ℕ)) → length (ones batch) ≡ length batch
long_ones batch = length-map batch (λ (share : List ℕ). 1)

all_ones : (batch : List (List ℕ)) → list_all (λ flag. flag == 1) (ones batch) ≡ true
all_ones [] = refl
all_ones (share ∷ batch) = all_ones batch

few_ones : (batch : List (List ℕ)) → All (λ flag. flag ≤ 1) (ones batch)
few_ones [] = All-nil (λ flag. flag ≤ 1)
few_ones (share ∷ batch) = All-cons (λ flag. flag ≤ 1) 1 (ones batch) (omega arith) (few_ones batch)

are_flags : (batch : List (List ℕ)) → AreShares batch → AreFlags (ones batch)
are_flags batch are =
    let len : length (ones batch) ≡ length batch = long_ones batch in
    ((subst (λ (n : ℕ). 1 ≤ n) (sym len) are.0.0, subst (λ (n : ℕ). n ≤ 256) (sym len) are.0.1), few_ones batch)

known : (w : Work) (batch : List (List ℕ)) (rest : List (List (List ℕ))) (state : LaneState) → state ≡ Asking batch rest → AreShares batch
    → AnswersLane (view w state) (reply_bytes (replies.Known (ones batch))) (Ok (news.Known (count_by (λ flag. flag == 1) (ones batch)) (length batch))) (onward rest)
known w batch rest state e are =
    let len : length (ones batch) ≡ length batch = long_ones batch in
    let fps : length (map fingerprint batch) ≡ length batch = length-map batch fingerprint in
    subst (λ (s : LaneState). AnswersLane (view w s) (reply_bytes (replies.Known (ones batch))) (Ok (news.Known (count_by (λ flag. flag == 1) (ones batch)) (length batch))) (onward rest)) (sym e) (
      replies.Known (ones batch),
      record {
        says = record { is = record { fits = are_flags batch are; spelled = refl }; answers = len ∙ sym fps };
        told = refl;
        moves = sym (ap (λ (b : Bool). cond b (onward rest) (Sending batch (ones batch) rest)) (all_ones batch));
      },
    )

-- ---- one lane to its end

entered : (shape : Shape) (batches : List (List (List ℕ))) (views : List LaneView) (i : ℕ) → i < length views → All AreShares batches → (lane_at views i).state ≡ onward batches
    → IsReached shape views → IsReached shape (with_state views i Done)
entered shape [] views i lt all at reached =
    Answered views (with_state views i Done) i (reply_bytes replies.Committed) (Ok news.Committed) reached
    (answer_at views i (reply_bytes replies.Committed) news.Committed Done lt (committed (lane_at views i).work (lane_at views i).state at))
entered shape (batch ∷ rest) views i lt all at reached =
    let next = with_state views i (onward rest) in
    let content = reply_bytes (replies.Known (ones batch)) in
    let told = news.Known (count_by (λ flag. flag == 1) (ones batch)) (length batch) in
    let same : length next ≡ length views = length_with views i (onward rest) in
    subst (IsReached shape) (with_twice views i (onward rest) Done)
    (entered shape rest next i (subst (λ (n : ℕ). i < n) (sym same) lt) (All-tail AreShares batch rest all) (ap (λ (l : LaneView). l.state) (lane_with views i (onward rest) lt))
    (Answered views next i content (Ok told) reached
    (answer_at views i content told (onward rest) lt (known (lane_at views i).work batch rest (lane_at views i).state at (All-head AreShares batch rest all)))))

-- ---- some of the lanes

-- its batches are ones that it may ask for, and it is at its beginning or at its end
abbrev CanEnd : LaneView → Type 0
CanEnd lane = All AreShares lane.work.batches × ((lane.state ≡ onward lane.work.batches) ⊎ (lane.state ≡ Done))

can_at : (views : List LaneView) (i : ℕ) → i < length views → AllByRecursion CanEnd views → CanEnd (lane_at views i)
can_at [] i lt all = absurd (omega arith)
can_at (lane ∷ views) zero lt all = all.0
can_at (lane ∷ views) (suc i) lt all = can_at views i (omega arith) all.1

can_with : (views : List LaneView) (i : ℕ) → AllByRecursion CanEnd views → AllByRecursion CanEnd (with_state views i Done)
can_with [] i all = tt
can_with (lane ∷ views) zero all = ((all.0.0, inr refl), all.1)
can_with (lane ∷ views) (suc i) all = (all.0, can_with views i all.1)

past_end : (views : List LaneView) (i : ℕ) (state : LaneState) → length views ≤ i → with_state views i state ≡ views
past_end [] i state le = refl
past_end (lane ∷ views) zero state le = absurd (omega arith)
past_end (lane ∷ views) (suc i) state le = ap (λ (l : List LaneView). lane ∷ l) (past_end views i state (omega arith))

one_entered : (shape : Shape) (views : List LaneView) (i : ℕ) → AllByRecursion CanEnd views → IsReached shape views → IsReached shape (with_state views i Done)
one_entered shape views i all reached = elim (cases_lt i (length views)) [
  | inl lt ↦
      let can = can_at views i lt all in
      elim can.1 [
        | inl beginning ↦ entered shape (lane_at views i).work.batches views i lt can.0 beginning reached
        | inr done ↦
            subst (IsReached shape) (sym (ap (with_state views i) (sym done) ∙ with_same views i)) reached
      ]
  | inr le ↦ subst (IsReached shape) (sym (past_end views i Done le)) reached
]

some_entered : (shape : Shape) (views : List LaneView) (clouds : List ℕ) → AllByRecursion CanEnd views → IsReached shape views → IsReached shape (entered_at views clouds)
some_entered shape views [] all reached = reached
some_entered shape views (cloud ∷ clouds) all reached = some_entered shape (with_state views cloud Done) clouds (can_with views cloud all) (one_entered shape views cloud all reached)

all_begun : (shape : Shape) (v : FileVersion) (clouds : List ℕ) → ((cloud : ℕ) → All AreShares (work_of shape v cloud).batches)
    → AllByRecursion CanEnd (map (λ (cloud : ℕ). begun (work_of shape v cloud)) clouds)
all_begun shape v [] can = tt
all_begun shape v (cloud ∷ clouds) can = ((can cloud, inl refl), all_begun shape v clouds can)

pub resumed_reached : (shape : Shape) (v : FileVersion) (committed : List ℕ) → IsPath v.path → length v.file ≤ 67108864 → v.user.0 < 2 ^ 32 → v.number.0 < 2 ^ 64 → IsReached shape (lanes_resumed shape v committed)
resumed_reached shape v committed named few user number =
    some_entered shape (map (λ (cloud : ℕ). begun (work_of shape v cloud)) (range_with_len 0 shape.n)) committed
    (all_begun shape v (range_with_len 0 shape.n) (λ cloud. (can_bring shape v cloud named few user number).batches)) (Begun v named few user number)
