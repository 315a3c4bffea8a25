-- One record further.
use Rattle.std.proofs.Common.{◌≡◌, ℕ, ◌+◌, ◌-◌, ◌*◌, ◌<◌, ◌≤◌, min, Bool, true, false, List, [], ◌∷◌, ◌++◌, length, take, drop, Result, Ok, Err, refl, sym, ◌∙◌, ap, subst, arith, append_assoc, length-append, length-take, length-drop}
use Rattle.std.proofs.lemmas.List.{take-append-drop, drop_at, drop-drop, drop-take, take-take, take-append-le, take_min}
use Rattle.cd_edges.specs.Disk.{Store}
use Rattle.cd_edges.specs.Shelf.{ReadsFrom}
use Rattle.journal_halves.specs.Records.{sized, chain, IsDamage}
use Rattle.journal_halves.specs.Frames.{IsClosed, IsRecordAhead, HasBadLength, IsRecordCutOff}
use Rattle.journal_halves.proofs.Chain.{chain-push, length-chain-push, bodies_more}
use Rattle.journal_halves.proofs.Taken.{bad_on, short_ahead}
use Rattle.journal_halves.specs.Halves.{half_len, half_of}
use Rattle.journal_halves.specs.Findings.{part_of}
use Rattle.journal_halves.proofs.Looks.{part_short}
use Rattle.journal_halves.specs.declared.errors.RecordErr.{RecordErr}
use Rattle.journal_halves.specs.declared.errors.RecordErr.TheVariants.{Failed, Damaged}
use Rattle.journal_halves.specs.States.{HalfState, IsHalfReading, IsEnded}
use Rattle.journal_halves.specs.Outcomes.{IsWindow, gate_at, rest_of, IsRecordFurther, StepIs, TakenIs, NextBodyIs, DamageIs}

pub rest_at : (state : HalfState) (store : Store) (bodies : List (List ℕ)) (r : IsHalfReading state store bodies) → r.rest ≡ rest_of state store
rest_at state store bodies r =
    sym (ap (λ (n : ℕ). drop n (part_of state.half store.read)) r.gate ∙ ap (λ (l : List ℕ). drop (length (chain bodies)) l) r.spelled ∙ drop_at (chain bodies) r.rest (length (chain bodies)) refl)

rest_in : (part front rest : List ℕ) (n : ℕ) → part ≡ front ++ rest → length part ≤ n → length rest ≤ n
rest_in part front rest n e few = omega (arith, ap length e, length-append front rest, few)

front_in : (part front rest : List ℕ) (n gate : ℕ) → part ≡ front ++ rest → length part ≤ n → 0 < length rest → gate ≡ length front → gate + 1 ≤ n
front_in part front rest n gate e few some at = omega (arith, ap length e, length-append front rest, few, some, at)

pub rest_short : (state : HalfState) (store : Store) (bodies : List (List ℕ)) (r : IsHalfReading state store bodies) → length r.rest ≤ half_len
rest_short state store bodies r = rest_in (part_of state.half store.read) (chain bodies) r.rest half_len r.spelled (part_short state.half store.read)

module _ (old mid new : HalfState) (store : Store) (bodies : List (List ℕ)) (r : IsHalfReading old store bodies) (half : mid.half ≡ old.half) (gate : mid.gate ≡ old.gate) where
  next_record : IsRecordAhead r.rest new.body → IsRecordFurther mid new → IsWindow new (drop (5 + length new.body) r.rest) → IsHalfReading new store (bodies ++ new.body ∷ [])
  next_record one over window =
      let body = new.body in
      let tail = one.gate ∷ one.behind in
      let behind : drop (5 + length body) r.rest ≡ tail = ap (λ (l : List ℕ). drop (5 + length body) l) one.spelled ∙ drop_at (1 ∷ sized body) tail (5 + length body) (omega arith) in
      record {
        synced = r.synced;
        sizes = bodies_more bodies body r.sizes one.is_body;
        rest = tail;
        more = omega arith;
        spelled = ap (λ (h : ℕ). part_of h store.read) (over.half ∙ half) ∙ r.spelled ∙ ap (λ (l : List ℕ). chain bodies ++ l) one.spelled ∙ sym (chain-push bodies body tail);
        gate = omega (arith, over.gate, gate, r.gate, length-chain-push bodies body);
        ahead = window ∙ ap (λ (l : List ℕ). take (length new.ahead) l) behind;
      }

  next_closed : IsClosed r.rest → new ≡ mid → IsEnded new store bodies
  next_closed c same =
      let whole = half_of old.half store.read in
      let new_half : new.half ≡ old.half = ap (λ (s : HalfState). s.half) same ∙ half in
      let new_gate : new.gate ≡ old.gate = ap (λ (s : HalfState). s.gate) same ∙ gate in
      record {
        synced = r.synced;
        chain_is = record {
          gate = c.gate;
          behind = c.behind ++ drop half_len whole;
          sizes = r.sizes;
          shut = c.shut;
          spelled = ap (λ (h : ℕ). half_of h store.read) new_half ∙ sym (take-append-drop half_len whole)
              ∙ ap (λ (l : List ℕ). l ++ drop half_len whole) (r.spelled ∙ ap (λ (l : List ℕ). chain bodies ++ l) c.spelled)
              ∙ append_assoc (chain bodies) (c.gate ∷ c.behind) (drop half_len whole);
        };
        gate = new_gate ∙ r.gate;
        within = front_in (part_of old.half store.read) (chain bodies) r.rest half_len new.gate r.spelled (part_short old.half store.read) r.more (new_gate ∙ r.gate);
      }

  same_place : gate_at mid ≡ gate_at old
  same_place = ap (λ (h : ℕ). h * half_len + mid.gate) half ∙ ap (λ (n : ℕ). old.half * half_len + n) gate

  pub next_is : (result : Result Bool RecordErr) → TakenIs mid new r.rest result → NextBodyIs old new store bodies result
  next_is (Ok true) taken = next_record taken.0 taken.1 taken.2
  next_is (Ok false) taken = next_closed taken.0 taken.1
  next_is (Err (Damaged at byte)) taken =
      subst (λ (l : List ℕ). IsDamage l (gate_at old) at byte) (rest_at old store bodies r) (subst (λ (n : ℕ). IsDamage r.rest n at byte) same_place taken)
  next_is (Err Failed) taken = tt

-- a step from a state at the same gate
pub step_from : (old mid new : HalfState) (result : Result Bool RecordErr) → mid.half ≡ old.half → mid.gate ≡ old.gate → StepIs mid new result → StepIs old new result
step_from old mid new (Ok true) half gate over = record {
  is_body = over.is_body;
  half = over.half ∙ half;
  gate = over.gate ∙ ap (λ (n : ℕ). n + 5 + length new.body) gate;
  body_at = over.body_at ∙ ap (λ (h : ℕ). h * half_len + mid.gate + 5) half ∙ ap (λ (n : ℕ). old.half * half_len + n + 5) gate;
}
step_from old mid new (Ok false) half gate same = (same.0 ∙ half, same.1 ∙ gate)
step_from old mid new (Err e) half gate same = tt

-- ---- damage

module _ (old new : HalfState) (rest : List ℕ) where
  pub bad_taken : IsWindow old rest → HasBadLength old.ahead → (e : RecordErr) → DamageIs old.ahead (gate_at old) e → TakenIs old new rest (Err e)
  bad_taken window bad (Damaged at byte) damage = bad_on old.ahead rest window (gate_at old) bad at byte damage
  bad_taken window bad Failed damage = damage

  pub short_taken : old.ahead ≡ rest → 0 < length rest → IsRecordCutOff old.ahead → (e : RecordErr) → DamageIs old.ahead (gate_at old) e → TakenIs old new rest (Err e)
  short_taken same some cut (Damaged at byte) damage = short_ahead old.ahead rest (gate_at old) same some cut at byte damage
  short_taken same some cut Failed damage = damage

-- ---- what a read puts into the window, up to the half's end

pub loaded : (buffer held out : List ℕ) (long half gate place count filled : ℕ) → length out ≡ long → long ≡ 65541 → gate + 1 ≤ half_len → place ≡ half * half_len + gate → filled ≡ min count (half_len - gate) → ReadsFrom held place count out
    → take (filled - 0) (take long (out ++ drop (length out) buffer)) ≡ take 65541 (drop gate (part_of half held))
loaded buffer held out long half gate place count filled size is gate_in at cut read =
    let rest = drop place held in let m = half_len - gate in let part = take m rest in
    let sum : half_len ≡ gate + m = omega (arith, gate_in) in
    let part_is : drop gate (part_of half held) ≡ part =
    ap (λ (n : ℕ). drop gate (take n (half_of half held))) sum ∙ drop-take gate m (half_of half held)
    ∙ ap (take m) (drop-drop gate (half * half_len) held ∙ ap (λ (n : ℕ). drop n held) (sym at)) in
    let same : filled ≡ min 65541 (length part) = omega (arith, cut, read.lesser, size, is, length-take m rest, length-drop place held) in
    let none : filled - 0 ≡ filled = omega arith in
    let tail = drop (length out) buffer in
    ap (λ (n : ℕ). take n (take long (out ++ tail))) none
    ∙ take-take filled long (out ++ tail) (omega (arith, cut, read.lesser, size))
    ∙ take-append-le filled out tail (omega (arith, cut, read.lesser))
    ∙ sym (take-take filled count out (omega (arith, cut)))
    ∙ ap (take filled) read.bytes
    ∙ take-take filled count rest (omega (arith, cut))
    ∙ sym (take-take filled m rest (omega (arith, cut)))
    ∙ ap (λ (n : ℕ). take n part) same
    ∙ take_min 65541 part
    ∙ ap (take 65541) (sym part_is)
