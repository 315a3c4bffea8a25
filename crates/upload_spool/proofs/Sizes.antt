-- How many bytes a record's body has.
use Rattle.std.proofs.Common.{◌≡◌, ◌≢◌, ℕ, zero, suc, ◌+◌, ◌≤◌, ◌<◌, Bool, true, false, cond, eqb, leb, ltb, List, [], ◌∷◌, length, take, drop, Some, Result, Ok, Err, refl, sym, ap, ◌∙◌, subst, arith}
use Rattle.std.specs.Prelude.{All, ◌||◌, not}
use Rattle.std.specs.List.{list_any}
use Rattle.std.specs.Int.{Width, w16, w32, w64, byte_len, from_be_bytes}
use Rattle.std.proofs.lemmas.Bool.{eq-eqb, leb-true, ltb-true, ltb-false, false≢true, and_parts, not-true}
use Rattle.std.proofs.lemmas.List.{length-drop, length-take}
use Rattle.std.proofs.lemmas.List.Elements.{All-cons, All-nil}
use Rattle.grammar.specs.CdBase.Limits.{IsPath}
use Rattle.grammar.specs.CdBase.ids.CloudNo.{CloudNo}
use Rattle.grammar.specs.CdBase.shape.Shape.{Shape}
use Rattle.grammar.specs.Readers.{◌>>=◌, ◌▷◌, ◌▷▷◌}
use Rattle.grammar.specs.Fields.{number_at, bytes_at, checked}
use Rattle.grammar.proofs.Laws.{bind_ok, ok_is}
use Rattle.grammar.proofs.FieldLaws.{guard_ok, test_ok}
use Rattle.upload_job.specs.MessageFields.Parts.{made, kept}
use Rattle.upload_job.proofs.MessageFields.PartLaws.{spelled_ok}
use Rattle.upload_spool.specs.Reading.{JobFields, one_byte, is_kind, is_path_len, has_no_zero, is_file_len, is_lane, path_at, job_at, lane_at, make_job, judged, job_in, lane_in, wrong_at}
use Rattle.upload_spool.specs.declared.records.RecordFault.{RecordFault}
use Rattle.upload_spool.specs.declared.records.RecordFault.TheVariants as faults

-- ---- readers made of readers

kept_ok : {A : Type 0} (ok : A → Bool) (f : List ℕ → Result (A × List ℕ) ℕ) (bytes : List ℕ) (x : A) (rest : List ℕ) → kept ok f bytes ≡ Ok (x, rest) → (f bytes ≡ Ok (x, rest)) × (ok x ≡ true)
kept_ok {A} ok f bytes x rest e =
    let a = bind_ok (f bytes) (λ y. cond (ok y.0) (Ok y) (Err (length bytes))) (x, rest) e in
    let g = test_ok (ok a.0.0) (length bytes) a.0 (x, rest) a.2 in
    subst (λ (p : A × List ℕ). (f bytes ≡ Ok p) × (ok p.0 ≡ true)) g.1 (a.1, g.0)

made_ok : {A B : Type 0} (make : A → B) (f : List ℕ → Result (A × List ℕ) ℕ) (bytes : List ℕ) (y : B) (rest : List ℕ) → made make f bytes ≡ Ok (y, rest) → (x : A) × (f bytes ≡ Ok (x, rest)) × (make x ≡ y)
made_ok {A} {B} make f bytes y rest e =
    let a = bind_ok (f bytes) (λ x. Ok (make x.0, x.1)) (y, rest) e in
    let same = ok_is (make a.0.0, a.0.1) (y, rest) a.2 in
    (a.0.0, subst (λ (r : List ℕ). f bytes ≡ Ok (a.0.0, r)) (ap (λ (p : B × List ℕ). p.1) same) a.1, ap (λ (p : B × List ℕ). p.0) same)

both_ok : {A B : Type 0} (f : List ℕ → Result (A × List ℕ) ℕ) (g : A → List ℕ → Result (B × List ℕ) ℕ) (bytes : List ℕ) (x : A × B) (rest : List ℕ) → (f ▷▷ g) bytes ≡ Ok (x, rest)
    → (mid : List ℕ) × (f bytes ≡ Ok (x.0, mid)) × (g x.0 mid ≡ Ok (x.1, rest))
both_ok {A} {B} f g bytes x rest e =
    let a = bind_ok (f bytes) (λ a. g a.0 a.1 >>= λ b. Ok ((a.0, b.0), b.1)) (x, rest) e in
    let b = bind_ok (g a.0.0 a.0.1) (λ b. Ok ((a.0.0, b.0), b.1)) (x, rest) a.2 in
    let same = ok_is ((a.0.0, b.0.0), b.0.1) (x, rest) b.2 in
    subst (λ (p : (A × B) × List ℕ). (mid : List ℕ) × (f bytes ≡ Ok (p.0.0, mid)) × (g p.0.0 mid ≡ Ok (p.0.1, p.1))) same (a.0.1, a.1, b.1)

-- ---- how much they read

byte_size : (bytes : List ℕ) (x : ℕ) (rest : List ℕ) → one_byte bytes ≡ Ok (x, rest) → length bytes ≡ 1 + length rest
byte_size [] x rest e = absurd cc
byte_size (b ∷ bytes) x rest e = let s = spelled_ok (Some b) bytes (length (b ∷ bytes)) x rest e in let same = ap (λ (l : List ℕ). length l) s.1 in omega (arith, same)

bytes_size : (n : ℕ) (bytes x rest : List ℕ) → bytes_at n bytes ≡ Ok (x, rest) → (length bytes ≡ n + length rest) × (length x ≡ n)
bytes_size n bytes x rest e =
    let g = guard_ok (ltb (length bytes) n) 0 (take n bytes, drop n bytes) (x, rest) e in
    let long : n ≤ length bytes = ltb-false _ _ g.0 in
    subst (λ (p : List ℕ × List ℕ). (length bytes ≡ n + length p.1) × (length p.0 ≡ n)) g.1 (omega (arith, length-drop n bytes), omega (arith, length-take n bytes))

number_size : (w : Width) (bytes : List ℕ) (x : ℕ) (rest : List ℕ) → number_at w bytes ≡ Ok (x, rest) → length bytes ≡ byte_len w + length rest
number_size w bytes x rest e =
    let n = byte_len w in
    let g = guard_ok (ltb (length bytes) n) 0 (from_be_bytes w (take n bytes), drop n bytes) (x, rest) e in
    let long : n ≤ length bytes = ltb-false _ _ g.0 in
    subst (λ (p : ℕ × List ℕ). length bytes ≡ n + length p.1) g.1 (omega (arith, length-drop n bytes))

checked_ok : (ok : ℕ → Bool) (w : Width) (bytes : List ℕ) (x : ℕ) (rest : List ℕ) → checked ok (number_at w) bytes ≡ Ok (x, rest) → (length bytes ≡ byte_len w + length rest) × (ok x ≡ true)
checked_ok ok w bytes x rest e =
    let a = bind_ok (number_at w bytes) (λ y. cond (ok y.0) (Ok y) (Err (length bytes))) (x, rest) e in
    let g = test_ok (ok a.0.0) (length bytes) a.0 (x, rest) a.2 in
    subst (λ (p : ℕ × List ℕ). (length bytes ≡ byte_len w + length p.1) × (ok p.0 ≡ true)) g.1 (number_size w bytes a.0.0 a.0.1 a.1, g.0)

-- ---- all of a body

again : {A : Type 0} → Result A RecordFault → Result (A × List ℕ) ℕ
again (Ok z) = Ok (z, [])
again (Err f) = Err 0

judged_ok : {A : Type 0} (body : List ℕ) (r : Result (A × List ℕ) ℕ) (x : A) → judged body r ≡ Ok x → r ≡ Ok (x, [])
unfolding again
judged_ok {A} body (Ok (y, [])) x e = ap (again {A = A}) e
judged_ok body (Ok (y, b ∷ rest)) x e = absurd cc
judged_ok body (Err zero) x e = absurd cc
judged_ok body (Err (suc left)) x e = absurd cc

-- the wrong place lies in the body
abbrev pub IsWithin : List ℕ → RecordFault → Type 0
IsWithin body faults.Short = Unit {0}
IsWithin body (faults.Wrong place byte) = place ≤ length body

abbrev faulty : {A : Type 0} → RecordFault → Result A RecordFault
faulty fault = Err fault

same_fault : {A : Type 0} (a b : RecordFault) → faulty {A = A} a ≡ faulty b → a ≡ b
same_fault a b e = cc

wrong_within : (body : List ℕ) (left : ℕ) → IsWithin body (wrong_at body left)
wrong_within body left = omega arith

pub judged_within : {A : Type 0} (body : List ℕ) (r : Result (A × List ℕ) ℕ) (fault : RecordFault) → judged body r ≡ Err fault → IsWithin body fault
judged_within body (Ok (y, [])) fault e = absurd cc
judged_within {A} body (Ok (y, b ∷ rest)) fault e = subst (IsWithin body) (same_fault {A = A} (wrong_at body (length (b ∷ rest))) fault e) (wrong_within body (length (b ∷ rest)))
judged_within {A} body (Err zero) fault e = subst (IsWithin body) (same_fault {A = A} faults.Short fault e) tt
judged_within {A} body (Err (suc left)) fault e = subst (IsWithin body) (same_fault {A = A} (wrong_at body (suc left)) fault e) (wrong_within body (suc left))

-- ---- a job

nonzero : (x : ℕ) → not (eqb x 0) ≡ true → x ≢ 0
nonzero x e z = false≢true (subst (λ (n : ℕ). not (eqb n 0) ≡ true) z e)

no_zeros : (path : List ℕ) → has_no_zero path ≡ true → All (λ byte. byte ≢ 0) path
no_zeros [] e = All-nil (λ byte. byte ≢ 0)
no_zeros (x ∷ path) e = let p = and_parts (not (eqb x 0)) (has_no_zero path) e in All-cons (λ byte. byte ≢ 0) x path (nonzero x p.0) (no_zeros path p.1)

path_facts : (bytes path rest : List ℕ) → path_at bytes ≡ Ok (path, rest) → (length bytes ≡ 2 + length path + length rest) × IsPath path
unfolding path_at
path_facts bytes path rest e =
    let m = made_ok (λ x. x.1) (checked is_path_len (number_at w16) ▷▷ λ n. kept has_no_zero (bytes_at n)) bytes path rest e in
    let b = both_ok (checked is_path_len (number_at w16)) (λ n. kept has_no_zero (bytes_at n)) bytes m.0 rest m.1 in
    let len = checked_ok is_path_len w16 bytes m.0.0 b.0 b.1 in
    let k = kept_ok has_no_zero (bytes_at m.0.0) b.0 m.0.1 rest b.2 in
    let s = bytes_size m.0.0 b.0 m.0.1 rest k.0 in
    let t = and_parts (leb 1 m.0.0) (leb m.0.0 1024) len.1 in
    let least = leb-true 1 m.0.0 t.0 in let most = leb-true m.0.0 1024 t.1 in
    subst (λ (p : List ℕ). (length bytes ≡ 2 + length p + length rest) × IsPath p) m.2
    (omega (arith, len.0, s.0, s.1), record { some = omega (arith, least, s.1); few = omega (arith, most, s.1); no_zero = no_zeros m.0.1 k.1 })

pub record JobFacts (body : List ℕ) (job : JobFields) : Type 0 where
  pub few : length body ≤ 1079
  pub path : IsPath job.path
  pub len : job.len ≤ 67108864

job_facts_at : (body : List ℕ) (job : JobFields) → job_at body ≡ Ok (job, []) → JobFacts body job
unfolding job_at
job_facts_at body job e =
    let file = checked is_file_len (number_at w64) in
    let m = made_ok make_job (kept (is_kind 1) one_byte ▷ (number_at w32 ▷ (number_at w64 ▷ (path_at ▷ (file ▷ bytes_at 32))))) body job [] e in
    let x = m.0 in
    let a = both_ok (kept (is_kind 1) one_byte) (λ _. number_at w32 ▷ (number_at w64 ▷ (path_at ▷ (file ▷ bytes_at 32)))) body x [] m.1 in
    let b = both_ok (number_at w32) (λ _. number_at w64 ▷ (path_at ▷ (file ▷ bytes_at 32))) a.0 x.1 [] a.2 in
    let c = both_ok (number_at w64) (λ _. path_at ▷ (file ▷ bytes_at 32)) b.0 x.1.1 [] b.2 in
    let d = both_ok path_at (λ _. file ▷ bytes_at 32) c.0 x.1.1.1 [] c.2 in
    let f = both_ok file (λ _. bytes_at 32) d.0 x.1.1.1.1 [] d.2 in
    let one = byte_size body x.0 a.0 (kept_ok (is_kind 1) one_byte body x.0 a.0 a.1).0 in
    let two = number_size w32 a.0 x.1.0 b.0 b.1 in
    let three = number_size w64 b.0 x.1.1.0 c.0 c.1 in
    let four = path_facts c.0 x.1.1.1.0 d.0 d.1 in
    let five = checked_ok is_file_len w64 d.0 x.1.1.1.1.0 f.0 f.1 in
    let six = bytes_size 32 f.0 x.1.1.1.1.1 [] f.2 in
    let short = four.1.few in
    let most = leb-true x.1.1.1.1.0 67108864 five.1 in
    subst (λ (j : JobFields). JobFacts body j) m.2 (record { few = omega (arith, one, two, three, four.0, five.0, six.0, short); path = four.1; len = most })

pub job_facts : (body : List ℕ) (job : JobFields) → job_in body ≡ Ok job → JobFacts body job
job_facts body job e = job_facts_at body job (judged_ok body (job_at body) job e)

-- ---- a lane

pub lane_facts : (shape : Shape) (noted : List CloudNo) (body : List ℕ) (cloud : ℕ) → lane_in shape noted body ≡ Ok cloud → (length body ≡ 2) × (is_lane shape noted cloud ≡ true)
unfolding lane_at
lane_facts shape noted body cloud e =
    let e0 = judged_ok body (lane_at shape noted body) cloud e in
    let m = made_ok (λ x. x.1) (kept (is_kind 2) one_byte ▷ kept (is_lane shape noted) one_byte) body cloud [] e0 in
    let x = m.0 in
    let a = both_ok (kept (is_kind 2) one_byte) (λ _. kept (is_lane shape noted) one_byte) body x [] m.1 in
    let k = kept_ok (is_lane shape noted) one_byte a.0 x.1 [] a.2 in
    let one = byte_size body x.0 a.0 (kept_ok (is_kind 2) one_byte body x.0 a.0 a.1).0 in
    let two = byte_size a.0 x.1 [] k.0 in
    (omega (arith, one, two), subst (λ (n : ℕ). is_lane shape noted n ≡ true) m.2 k.1)

other_lanes : (noted : List CloudNo) (cloud : ℕ) → list_any (λ (lane : CloudNo). eqb lane.0 cloud) noted ≡ false → All (λ (lane : CloudNo). lane.0 ≢ cloud) noted
other_lanes [] cloud e = All-nil (λ (lane : CloudNo). lane.0 ≢ cloud)
other_lanes (lane ∷ noted) cloud e =
    let p = or_parts (eqb lane.0 cloud) (list_any (λ (l : CloudNo). eqb l.0 cloud) noted) e in
    All-cons (λ (l : CloudNo). l.0 ≢ cloud) lane noted (λ same. false≢true (sym p.0 ∙ same_eqb lane.0 cloud same)) (other_lanes noted cloud p.1)
  where
    or_parts : (a b : Bool) → (a || b) ≡ false → (a ≡ false) × (b ≡ false)
    or_parts true b h = absurd cc
    or_parts false b h = (refl, h)

    same_eqb : (x y : ℕ) → x ≡ y → eqb x y ≡ true
    same_eqb x y s = subst (λ (n : ℕ). eqb x n ≡ true) s (eq-eqb x x refl)

pub lane_is : (shape : Shape) (noted : List CloudNo) (cloud : ℕ) → is_lane shape noted cloud ≡ true → (cloud < shape.n) × All (λ (lane : CloudNo). lane.0 ≢ cloud) noted
lane_is shape noted cloud e =
    let p = and_parts (ltb cloud shape.n) (not (list_any (λ (lane : CloudNo). eqb lane.0 cloud) noted)) e in
    (ltb-true cloud shape.n p.0, other_lanes noted cloud (not-true _ p.1))
