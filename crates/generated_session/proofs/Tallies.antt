-- What one line more adds to the numbers.
use Rattle.std.proofs.Common.{◌≡◌, ℕ, zero, suc, ◌+◌, Bool, true, false, List, [], ◌∷◌, ◌++◌, map, length, refl, sym, ap, ◌∙◌, subst, inl, inr, ◌⊎◌, arith, append-nil}
use Rattle.std.specs.Prelude.{sum_by, if◌then◌else◌}
use Rattle.std.specs.List.{flat_map}
use Rattle.std.proofs.lemmas.List.Concat.{flat_map-append}
use Rattle.std.proofs.lemmas.List.Sums.{sum_by-cons, sum_by-append, sum_by_push}
use Rattle.lane_steps.specs.UploadJob.Upload.{FileVersion}
use Rattle.lane_steps.specs.UploadJob.news.LaneNews.{LaneNews}
use Rattle.lane_steps.specs.UploadJob.news.LaneNews.TheVariants as lane_news
use Rattle.replay_core.specs.Session.event.Event.{Event}
use Rattle.subset_restore.specs.Transcript.line.Line.{Line}
use Rattle.subset_restore.specs.Transcript.line.Line.TheVariants as lines
use Rattle.replay_core.specs.SessionModel.Steps.{step_line}
use Rattle.replay_core.specs.SessionModel.Kept.{upload_of, uploads}
use Rattle.replay_core.specs.SessionModel.Run.{Answered, script_of, answers_of}
use Rattle.replay_core.specs.ScriptLines.Stepping.{stored_if}
use Rattle.replay_core.proofs.Sessions.{script_more, answers_more}
use Rattle.generated_session.specs.declared.numbers.Numbers.{Numbers}
use Rattle.generated_session.specs.Numbers.{stored_in, sent_in, known_in, GivesUploaded, CountsSuch, bytes_in, HasNumbers}
use Rattle.generated_session.specs.Progress.{sent_by, known_by, no_numbers, HasAddedAnswers}

-- ---- the lines of a lane

sum_told : (f : Line → ℕ) (g : LaneNews → ℕ) (job cloud : ℕ) → ((t : LaneNews) → f (step_line job cloud t) ≡ g t) → (told : List LaneNews)
    → sum_by f (map (step_line job cloud) told) ≡ sum_by g told
sum_told f g job cloud same [] = refl
sum_told f g job cloud same (t ∷ told) =
    sum_by-cons f (step_line job cloud t) (map (step_line job cloud) told)
    ∙ ap (λ (n : ℕ). n + sum_by f (map (step_line job cloud) told)) (same t)
    ∙ ap (λ (n : ℕ). g t + n) (sum_told f g job cloud same told)
    ∙ sym (sum_by-cons g t told)

abbrev none_by : LaneNews → ℕ
none_by t = 0

sum_none : (told : List LaneNews) → sum_by none_by told ≡ 0
sum_none [] = refl
sum_none (t ∷ told) = omega (arith, sum_by-cons none_by t told, sum_none told)

sent_line : (job cloud : ℕ) (t : LaneNews) → sent_in (step_line job cloud t) ≡ sent_by t
sent_line job cloud (lane_news.Known known asked) = refl
sent_line job cloud (lane_news.Stored new sent) = refl
sent_line job cloud lane_news.Committed = refl
sent_line job cloud lane_news.Exists = refl
sent_line job cloud (lane_news.Lacking place) = refl
sent_line job cloud (lane_news.Full room used need limit) = refl
sent_line job cloud lane_news.Fault = refl
sent_line job cloud (lane_news.Damaged at byte) = refl
sent_line job cloud (lane_news.Rotten named found) = refl
sent_line job cloud lane_news.NoMemory = refl

known_line : (job cloud : ℕ) (t : LaneNews) → known_in (step_line job cloud t) ≡ known_by t
known_line job cloud (lane_news.Known known asked) = refl
known_line job cloud (lane_news.Stored new sent) = refl
known_line job cloud lane_news.Committed = refl
known_line job cloud lane_news.Exists = refl
known_line job cloud (lane_news.Lacking place) = refl
known_line job cloud (lane_news.Full room used need limit) = refl
known_line job cloud lane_news.Fault = refl
known_line job cloud (lane_news.Damaged at byte) = refl
known_line job cloud (lane_news.Rotten named found) = refl
known_line job cloud lane_news.NoMemory = refl

sum_stored : (job : ℕ) (b : Bool) → (sum_by stored_in (stored_if job b) ≡ (if b then 1 else 0)) × (sum_by sent_in (stored_if job b) ≡ 0) × (sum_by known_in (stored_if job b) ≡ 0)
sum_stored job true = (refl, refl, refl)
sum_stored job false = (refl, refl, refl)

pub adds_lane : (job cloud : ℕ) (told : List LaneNews) (b : Bool) (n m : Numbers)
    → m ≡ record n { stored = n.stored + (if b then 1 else 0); sent = n.sent + sum_by sent_by told; known = n.known + sum_by known_by told }
    → HasAddedAnswers (map (step_line job cloud) told ++ stored_if job b) n m
adds_lane job cloud told b n m e =
    let steps = map (step_line job cloud) told in
    let last = sum_stored job b in
    record {
      bytes = ap (λ (x : Numbers). x.bytes) e;
      stored = ap (λ (x : Numbers). x.stored) e ∙ ap (λ (k : ℕ). n.stored + k) (omega (arith, sum_told stored_in none_by job cloud (λ t. refl) told, sum_none told, last.0, sum_by-append stored_in steps (stored_if job b)));
      sent = ap (λ (x : Numbers). x.sent) e ∙ ap (λ (k : ℕ). n.sent + k) (omega (arith, sum_told sent_in sent_by job cloud (sent_line job cloud) told, last.1, sum_by-append sent_in steps (stored_if job b)));
      known = ap (λ (x : Numbers). x.known) e ∙ ap (λ (k : ℕ). n.known + k) (omega (arith, sum_told known_in known_by job cloud (known_line job cloud) told, last.2, sum_by-append known_in steps (stored_if job b)));
      equal = ap (λ (x : Numbers). x.equal) e;
    }

pub adds_none : (n : Numbers) → HasAddedAnswers [] n n
adds_none n = record { bytes = refl; stored = omega arith; sent = omega arith; known = omega arith; equal = refl }

pub adds_join : (xs ys : List Line) (n k m : Numbers) → HasAddedAnswers xs n k → HasAddedAnswers ys k m → HasAddedAnswers (xs ++ ys) n m
adds_join xs ys n k m one two = record {
  bytes = two.bytes ∙ one.bytes;
  stored = omega (arith, one.stored, two.stored, sum_by-append stored_in xs ys);
  sent = omega (arith, one.sent, two.sent, sum_by-append sent_in xs ys);
  known = omega (arith, one.known, two.known, sum_by-append known_in xs ys);
  equal = two.equal ∙ one.equal;
}

-- the line with which a finish ends counts nothing
pub adds_end : (xs : List Line) (job : ℕ) (b : Bool) (n m : Numbers) → HasAddedAnswers xs n m → HasAddedAnswers (xs ++ lines.End job b ∷ []) n m
adds_end xs job b n m adds = record {
  bytes = adds.bytes;
  stored = omega (arith, adds.stored, sum_by_push stored_in xs (lines.End job b));
  sent = omega (arith, adds.sent, sum_by_push sent_in xs (lines.End job b));
  known = omega (arith, adds.known, sum_by_push known_in xs (lines.End job b));
  equal = adds.equal;
}

-- ---- one line more

counts_more : {A : Type 0} (P : A → Type 0) (xs : List A) (x : A) (c d : ℕ) → CountsSuch P xs c → (P x × (d ≡ c + 1)) ⊎ ((¬ P x) × (d ≡ c)) → CountsSuch P (xs ++ x ∷ []) d
counts_more P [] x c d none (inl h) = inl (h.0, (0, h.1 ∙ ap (λ (k : ℕ). k + 1) none, refl))
counts_more P [] x c d none (inr h) = inr (h.0, h.1 ∙ none)
counts_more P (y ∷ xs) x c d (inl k) (inl h) =
    inl (k.0, (k.1.0 + 1, h.1 ∙ ap (λ (n : ℕ). n + 1) k.1.1, counts_more P xs x k.1.0 (k.1.0 + 1) k.1.2 (inl (h.0, refl))))
counts_more P (y ∷ xs) x c d (inl k) (inr h) = inl (k.0, (k.1.0, h.1 ∙ k.1.1, counts_more P xs x k.1.0 k.1.0 k.1.2 (inr (h.0, refl))))
counts_more P (y ∷ xs) x c d (inr k) h = inr (k.0, counts_more P xs x c d k.1 h)

uploads_more : (script : List Event) (event : Event) → uploads (script ++ event ∷ []) ≡ uploads script ++ upload_of event
uploads_more script event = flat_map-append upload_of script (event ∷ []) ∙ ap (λ (l : List FileVersion). uploads script ++ l) (append-nil (upload_of event))

abbrev pub Gives : List FileVersion → Answered → Type 0
Gives files a = GivesUploaded files a.event a.answers

pub numbers_more : (files : List FileVersion) (history : List Answered) (a : Answered) (n m : Numbers) → HasNumbers files history n
    → m.bytes ≡ n.bytes + bytes_in (upload_of a.event) → m.stored ≡ n.stored + sum_by stored_in a.answers
    → m.sent ≡ n.sent + sum_by sent_in a.answers → m.known ≡ n.known + sum_by known_in a.answers
    → (Gives files a × (m.equal ≡ n.equal + 1)) ⊎ ((¬ Gives files a) × (m.equal ≡ n.equal))
    → HasNumbers files (history ++ a ∷ []) m
numbers_more files history a n m has bytes stored sent known equal = record {
  bytes = bytes ∙ ap (λ (k : ℕ). k + bytes_in (upload_of a.event)) has.bytes
      ∙ sym (ap (λ (l : List Event). bytes_in (uploads l)) (script_more history a) ∙ ap bytes_in (uploads_more (script_of history) a.event)
      ∙ sum_by-append (λ (v : FileVersion). length v.file) (uploads (script_of history)) (upload_of a.event));
  stored = stored ∙ ap (λ (k : ℕ). k + sum_by stored_in a.answers) has.stored ∙ sym (ap (sum_by stored_in) (answers_more history a) ∙ sum_by-append stored_in (answers_of history) a.answers);
  sent = sent ∙ ap (λ (k : ℕ). k + sum_by sent_in a.answers) has.sent ∙ sym (ap (sum_by sent_in) (answers_more history a) ∙ sum_by-append sent_in (answers_of history) a.answers);
  known = known ∙ ap (λ (k : ℕ). k + sum_by known_in a.answers) has.known ∙ sym (ap (sum_by known_in) (answers_more history a) ∙ sum_by-append known_in (answers_of history) a.answers);
  equal = counts_more (Gives files) history a n.equal m.equal has.equal equal;
}

pub numbers_none : (files : List FileVersion) → HasNumbers files [] no_numbers
numbers_none files = record { bytes = refl; stored = refl; sent = refl; known = refl; equal = refl }
