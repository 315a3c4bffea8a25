-- Streams of frames, and what a framer makes of them.
use Rattle.std.proofs.Common.{◌≡◌, ℕ, ◌+◌, ◌-◌, ◌<◌, List, [], ◌∷◌, ◌++◌, length, take, refl, sym, ◌∙◌, ap, arith, append_assoc, subst, inl, inr}
use Rattle.std.proofs.Math.Seq.{take-append-add}
use Rattle.std.proofs.lemmas.Bool.{cases_lt}
use Rattle.std.proofs.lemmas.List.{append-nil, length-append, length-take, take-append-le, take-take}
use Rattle.std.proofs.lemmas.List.Concat.{flat_map-append}
use Rattle.frames.specs.Frames.{AreContents, IsFrameOf, IsFrame, NoneWithin, IsRefused, frame, stream, length_in}
use Rattle.frames.specs.Steps.{Run, Begun, Took, Refused, Dropped}
use Rattle.frames.proofs.FrameLaws.{one_frame, measured, length_in-frame, length_in-append}

pub AreContents-append : (one two : List (List ℕ)) → AreContents one → AreContents two → AreContents (one ++ two)
AreContents-append [] two s t = t
AreContents-append (a ∷ one) two s t = (s.0, AreContents-append one two s.1 t)

stream-one : (content : List ℕ) → stream (content ∷ []) ≡ frame content
stream-one content = append-nil (frame content)

abbrev pub Splits : List ℕ → List (List ℕ) → List ℕ → Type 0
Splits total shown standing = AreContents shown × (total ≡ stream shown ++ standing)

more : (total : List ℕ) (shown : List (List ℕ)) (old part new : List ℕ) → Splits total shown old → new ≡ old ++ part → Splits (total ++ part) shown new
more total shown old part new s e = (s.0, ap (λ (l : List ℕ). l ++ part) s.1 ∙ append_assoc (stream shown) old part ∙ ap (λ (l : List ℕ). stream shown ++ l) (sym e))

dropped : (total : List ℕ) (shown : List (List ℕ)) (old content : List ℕ) → Splits total shown old → IsFrameOf content old → Splits total (shown ++ content ∷ []) []
dropped total shown old content s is = (
  AreContents-append shown (content ∷ []) s.0 (is.lawful, tt),
  s.1 ∙ ap (λ (l : List ℕ). stream shown ++ l) (is.spelled ∙ sym (stream-one content)) ∙ sym (flat_map-append frame shown (content ∷ [])) ∙ sym (append-nil (stream (shown ++ content ∷ []))),
)

splits : (total : List ℕ) (shown : List (List ℕ)) (standing : List ℕ) → Run total shown standing → Splits total shown standing
splits total shown standing Begun = (tt, refl)
splits total shown standing (Took before s old piece count new run step) = more before s old (take count piece) new (splits before s old run) step.taken
splits total shown standing (Refused before s old piece found new run step) = more before s old (take (4 - length old) piece) new (splits before s old run) step.taken
splits total shown standing (Dropped before s old content run is) = dropped before s old content (splits before s old run) is

-- no frame ends within a part of a list that no frame ends within
more_within : (old piece : List ℕ) (count : ℕ) → NoneWithin old → ((m : ℕ) → m < count → IsFrame (old ++ take m piece) → ⊥) → NoneWithin (old ++ take count piece)
more_within old piece count none first n below =
    elim (cases_lt n (length old)) [
      | inl within ↦ rw (take-append-le n old (take count piece) (omega arith)) (none n within)
      | inr past ↦
          let m = n - length old in
          let fits : m < count = omega (arith, length-append old (take count piece), length-take count piece) in
          let split : length old + m ≡ n = omega arith in
          let start : take n (old ++ take count piece) ≡ old ++ take m piece =
          ap (λ (k : ℕ). take k (old ++ take count piece)) (sym split) ∙ take-append-add old (take count piece) m ∙ ap (λ (l : List ℕ). old ++ l) (take-take m count piece (omega arith)) in
          rw start (first m fits)
    ]

-- a refused length has no frame within
refused_within : (old piece : List ℕ) → NoneWithin old → NoneWithin (old ++ take (4 - length old) piece)
refused_within old piece none n below =
    elim (cases_lt n (length old)) [
      | inl within ↦ rw (take-append-le n old (take (4 - length old) piece) (omega arith)) (none n within)
      | inr past ↦ λ frame.
          let all = old ++ take (4 - length old) piece in
          let k = measured (take n all) frame in
          let long = k.long in
          let lawful = k.lawful.0 in
          omega (arith, length-append old (take (4 - length old) piece), length-take (4 - length old) piece, length-take n all)
    ]

none_within : (total : List ℕ) (shown : List (List ℕ)) (standing : List ℕ) → Run total shown standing → NoneWithin standing
none_within total shown standing Begun = λ n below. absurd (omega arith)
none_within total shown standing (Took before s old piece count new run step) = subst NoneWithin (sym step.taken) (more_within old piece count (none_within before s old run) step.first)
none_within total shown standing (Refused before s old piece found new run step) = subst NoneWithin (sym step.taken) (refused_within old piece (none_within before s old run))
none_within total shown standing (Dropped before s old content run is) = λ n below. absurd (omega arith)

pub all_shown : (total : List ℕ) (shown : List (List ℕ)) (standing : List ℕ) → Run total shown standing → AreContents shown × (total ≡ stream shown ++ standing) × NoneWithin standing
all_shown total shown standing run = let s = splits total shown standing run in (s.0, s.1, none_within total shown standing run)

-- a stream that begins with frames is one of their contents and others
pub record Begins (sent shown : List (List ℕ)) (tail : List ℕ) : Type 0 where
  pub others : List (List ℕ)
  pub sent_is : sent ≡ shown ++ others
  pub tail_is : tail ≡ stream others
  pub lawful : AreContents others

no_nothing : (a : List ℕ) (b : List ℕ) → [] ≡ frame a ++ b → ⊥
no_nothing a b e = cc

pub begins : (sent shown : List (List ℕ)) (tail : List ℕ) → AreContents sent → AreContents shown → stream sent ≡ stream shown ++ tail → Begins sent shown tail
begins sent [] tail s t e = record { others = sent; sent_is = refl; tail_is = sym e; lawful = s }
begins [] (b ∷ shown) tail s t e = absurd (no_nothing b (stream shown ++ tail) (e ∙ append_assoc (frame b) (stream shown) tail))
begins (a ∷ sent) (b ∷ shown) tail s t e =
    let same = one_frame a b (stream sent) (stream shown ++ tail) s.0 t.0 (e ∙ append_assoc (frame b) (stream shown) tail) in
    let rest : Begins sent shown tail = begins sent shown tail s.1 t.1 same.1 in
    record {
      others = rest.others;
      sent_is = ap (λ (l : List ℕ). l ∷ sent) same.0 ∙ ap (λ (l : List (List ℕ)). b ∷ l) rest.sent_is;
      tail_is = rest.tail_is;
      lawful = rest.lawful;
    }

-- what begins a stream of frames has no length that no frame has
pub never_refused : (others : List (List ℕ)) (standing to_come : List ℕ) → AreContents others → standing ++ to_come ≡ stream others → IsRefused standing → ⊥
never_refused [] standing to_come t e r = let n : length standing + length to_come ≡ 0 = sym (length-append standing to_come) ∙ ap length e in let k = r.known in omega arith
never_refused (a ∷ others) standing to_come t e r =
    let at : length_in standing ≡ length a = sym (length_in-append standing to_come r.known) ∙ ap length_in e ∙ length_in-frame a (stream others) t.0 in
    r.wrong (rw at t.0)

pub shown_first : (total : List ℕ) (shown : List (List ℕ)) (standing : List ℕ) → Run total shown standing → (sent : List (List ℕ)) (to_come : List ℕ) → AreContents sent → stream sent ≡ total ++ to_come → (others : List (List ℕ)) × ((sent ≡ shown ++ others) × (standing ++ to_come ≡ stream others) × (IsRefused standing → ⊥))
shown_first total shown standing run sent to_come lawful e =
    let s = splits total shown standing run in
    let b = begins sent shown (standing ++ to_come) lawful s.0 (e ∙ ap (λ (l : List ℕ). l ++ to_come) s.1 ∙ append_assoc (stream shown) standing to_come) in
    (b.others, (b.sent_is, b.tail_is, never_refused b.others standing to_come b.lawful b.tail_is))
