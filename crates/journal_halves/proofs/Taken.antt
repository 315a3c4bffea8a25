-- What was read ahead, and the area's bytes from the gate on.
use Rattle.std.proofs.Common.{◌≡◌, inl, inr, ℕ, ◌+◌, ◌-◌, ◌<◌, ◌≤◌, min, List, [], ◌∷◌, ◌++◌, length, take, drop, get_or, refl, sym, ◌∙◌, ap, subst, arith, append_assoc, length-append, length-take, length-drop}
use Rattle.std.proofs.lemmas.List.{take-append-drop, take_at, drop-drop, drop-take, take-take, take_min}
use Rattle.std.proofs.Math.Seq.{take-length}
use Rattle.journal_halves.specs.declared.errors.RecordErr.TheVariants.{Damaged}
use Rattle.journal_halves.specs.Records.{sized, NoRecord, IsDamage, LastGate, BadLength}
use Rattle.journal_halves.specs.Frames.{IsClosed, IsRecordAhead, HasBadLength, IsRecordCutOff}
use Rattle.journal_halves.specs.Outcomes.{DamageIs}

module _ (ahead rest : List ℕ) (window : ahead ≡ take (length ahead) rest) where
  pub more_is : rest ≡ ahead ++ drop (length ahead) rest
  more_is = sym (take-append-drop (length ahead) rest) ∙ ap (λ (l : List ℕ). l ++ drop (length ahead) rest) (sym window)

  pub closed_on : IsClosed ahead → IsClosed rest
  closed_on c = record {
    gate = c.gate;
    behind = c.behind ++ drop (length ahead) rest;
    shut = c.shut;
    spelled = more_is ∙ ap (λ (l : List ℕ). l ++ drop (length ahead) rest) c.spelled;
  }

  pub record_on : (body : List ℕ) → IsRecordAhead ahead body → IsRecordAhead rest body
  record_on body r = record {
    gate = r.gate;
    behind = r.behind ++ drop (length ahead) rest;
    is_body = r.is_body;
    spelled = more_is ∙ ap (λ (l : List ℕ). l ++ drop (length ahead) rest) r.spelled ∙ append_assoc (1 ∷ sized body) (r.gate ∷ r.behind) (drop (length ahead) rest);
  }

  pub bad_on : (gate : ℕ) → HasBadLength ahead → (at byte : ℕ) → DamageIs ahead gate (Damaged at byte) → IsDamage rest gate at byte
  bad_on gate bad at byte (inl last) = absurd (omega (arith, ap length bad.spelled, last.0))
  bad_on gate bad at byte (inr wrong) =
      let more = drop (length ahead) rest in
      let same : byte ≡ bad.byte = wrong.2 ∙ ap (λ (l : List ℕ). get_or l 1 0) bad.spelled in
      let whole : rest ≡ 1 ∷ bad.byte ∷ (bad.tail ++ more) = more_is ∙ ap (λ (l : List ℕ). l ++ more) bad.spelled in
      BadLength (bad.tail ++ more) (whole ∙ ap (λ (b : ℕ). 1 ∷ b ∷ (bad.tail ++ more)) (sym same)) (subst NoRecord (sym more_is) (bad.none more)) wrong.1

module _ (rest : List ℕ) (gate : ℕ) (some : 0 < length rest) where
  cut_at : (tail : List ℕ) → rest ≡ 1 ∷ tail → NoRecord rest → (at byte : ℕ) → DamageIs rest gate (Damaged at byte) → IsDamage rest gate at byte
  cut_at [] is none at byte (inl last) = LastGate is last.1 last.2
  cut_at [] is none at byte (inr wrong) = absurd (omega (arith, ap length is, wrong.0))
  cut_at (b ∷ tail) is none at byte (inl last) = absurd (omega (arith, ap length is, last.0))
  cut_at (b ∷ tail) is none at byte (inr wrong) =
      let same : byte ≡ b = wrong.2 ∙ ap (λ (l : List ℕ). get_or l 1 0) is in
      BadLength tail (is ∙ ap (λ (x : ℕ). 1 ∷ x ∷ tail) (sym same)) none wrong.1

  pub short_on : IsRecordCutOff rest → (at byte : ℕ) → DamageIs rest gate (Damaged at byte) → IsDamage rest gate at byte
  short_on cut = let opened = cut.opened some in cut_at opened.0 opened.1 cut.none

-- the record's body within what was read ahead
pub body_ahead : (ahead body : List ℕ) → IsRecordAhead ahead body → take (length body) (drop 5 ahead) ≡ body
body_ahead ahead body r =
    ap (λ (l : List ℕ). take (length body) (drop 5 l)) r.spelled ∙ take_at body (r.gate ∷ r.behind) (length body) refl

pub length_ahead : (ahead body : List ℕ) → IsRecordAhead ahead body → length body + 6 ≤ length ahead
length_ahead ahead body r = omega (arith, ap length r.spelled, length-append body (r.gate ∷ r.behind))

-- a part of what was read ahead, where it lies in the buffer
pub part_of : (buffer : List ℕ) (from filled k len : ℕ) → from + k + len ≤ filled → filled ≤ length buffer → take len (drop (from + k) buffer) ≡ take len (drop k (take (filled - from) (drop from buffer)))
part_of buffer from filled k len within long =
    let size : filled - from ≡ k + (filled - from - k) = omega arith in
    let cut : drop k (take (filled - from) (drop from buffer)) ≡ take (filled - from - k) (drop (from + k) buffer) =
    ap (λ (n : ℕ). drop k (take n (drop from buffer))) size ∙ drop-take k (filled - from - k) (drop from buffer) ∙ ap (λ (l : List ℕ). take (filled - from - k) l) (drop-drop k from buffer) in
    sym (ap (λ (l : List ℕ). take len l) cut ∙ take-take len (filled - from - k) (drop (from + k) buffer) (omega arith))

-- what was read ahead, one part further
pub window_on : (buffer rest : List ℕ) (from filled k : ℕ) → from + k ≤ filled → take (filled - from) (drop from buffer) ≡ take (filled - from) rest → take (filled - (from + k)) (drop (from + k) buffer) ≡ take (filled - (from + k)) (drop k rest)
window_on buffer rest from filled k within window =
    let m = filled - (from + k) in
    let size : filled - from ≡ k + m = omega arith in
    let same : take (k + m) (drop from buffer) ≡ take (k + m) rest = subst (λ (n : ℕ). take n (drop from buffer) ≡ take n rest) size window in
    ap (λ (l : List ℕ). take m l) (sym (drop-drop k from buffer)) ∙ sym (drop-take k m (drop from buffer)) ∙ ap (λ (l : List ℕ). drop k l) same ∙ drop-take k m rest

pub length_window : (buffer : List ℕ) (from filled : ℕ) → filled ≤ length buffer → length (take (filled - from) (drop from buffer)) ≡ filled - from
length_window buffer from filled within = omega (arith, length-take (filled - from) (drop from buffer), length-drop from buffer)

-- the damage where all that there is was read
pub short_ahead : (ahead rest : List ℕ) (gate : ℕ) → ahead ≡ rest → 0 < length rest → IsRecordCutOff ahead → (at byte : ℕ) → DamageIs ahead gate (Damaged at byte) → IsDamage rest gate at byte
short_ahead ahead rest gate same some cut at byte damage =
    short_on rest gate some (subst IsRecordCutOff same cut) at byte (subst (λ (l : List ℕ). DamageIs l gate (Damaged at byte)) same damage)

-- as much as was asked for
pub prefix_of : (ahead rest : List ℕ) (most : ℕ) → ahead ≡ take most rest → ahead ≡ take (length ahead) rest
prefix_of ahead rest most is =
    let size : length ahead ≡ min most (length rest) = ap length is ∙ length-take most rest in
    is ∙ sym (ap (λ (n : ℕ). take n rest) size ∙ take_min most rest)

pub all_of : (ahead rest : List ℕ) → ahead ≡ take 65541 rest → length ahead < 65541 → ahead ≡ rest
all_of ahead rest is few =
    let size : min 65541 (length rest) ≡ length rest = omega (arith, ap length is ∙ length-take 65541 rest, few) in
    is ∙ sym (take_min 65541 rest) ∙ ap (λ (n : ℕ). take n rest) size ∙ take-length rest
