-- The starts of a journal are damaged at one place at most.
use Rattle.std.proofs.Common.{◌≡◌, inl, inr, ℕ, zero, suc, ◌+◌, ◌-◌, ◌%◌, ◌≤◌, true, false, List, ◌∷◌, length, Result, Ok, Err, sym, ◌∙◌, ap, subst, arith}
use Rattle.std.proofs.lemmas.Bool.{false≢true}
use Rattle.cloud_disk.specs.JournalHalves.Records.{IsDamage, LastGate, BadLength}
use Rattle.cloud_disk.proofs.JournalHalves.Headed.{one_record}
use Rattle.cloud_disk.proofs.JournalHalves.Unique.{undamaged}
use Rattle.cloud_disk.specs.JournalStart.fault.StartFault.{StartFault}
use Rattle.cloud_disk.specs.JournalStart.fault.StartFault.TheVariants.{Short, Wrong}
use Rattle.cloud_disk.specs.JournalStart.start.Start.{Start}
use Rattle.cloud_disk.specs.JournalStart.Ranges.{IsStart}
use Rattle.cloud_disk.specs.JournalStart.Reading.{Fields, start_at, fields_of}
use Rattle.cloud_disk.specs.JournalStart.Spelling.{start_bytes, epoch_of}
use Rattle.cloud_disk.proofs.JournalStart.Whole.{again}
use Rattle.cloud_disk.specs.JournalHalves.Halves.{half_len, half_of, is_half_begun, HasStart, IsCurrent}
use Rattle.cloud_disk.proofs.JournalHalves.Current.{one_start, begun_half, epoch_small, other_before}
use Rattle.cloud_disk.specs.JournalHalves.Findings.{part_of, IsFaultAt, IsBodyDamage, IsStartDamage, IsHalfSound, epoch_place, IsFoundDamage, InFirst, InSecond, Epochs}
use Rattle.cloud_disk.specs.JournalHalves.Beginnings.{IsUnbegun}
use Rattle.cloud_disk.proofs.CommitJournal.Kept.{record_off}

-- the two name one place, and one byte
pub record SamePlace (at byte at2 byte2 : ℕ) : Type 0 where
  pub places : at ≡ at2
  pub bytes : byte ≡ byte2

-- ---- a frame

second_of : (a b : ℕ) (xs ys : List ℕ) → 1 ∷ a ∷ xs ≡ 1 ∷ b ∷ ys → a ≡ b
second_of a b xs ys e = cc

pub one_damage : (rest : List ℕ) (gate at byte at2 byte2 : ℕ) → IsDamage rest gate at byte → IsDamage rest gate at2 byte2 → SamePlace at byte at2 byte2
one_damage rest gate at byte at2 byte2 (LastGate is place same) (LastGate is2 place2 same2) = record { places = place ∙ sym place2; bytes = same ∙ sym same2 }
one_damage rest gate at byte at2 byte2 (LastGate is place same) (BadLength tail is2 none place2) = absurd (omega (arith, ap length (sym is ∙ is2)))
one_damage rest gate at byte at2 byte2 (BadLength tail is none place) (LastGate is2 place2 same) = absurd (omega (arith, ap length (sym is ∙ is2)))
one_damage rest gate at byte at2 byte2 (BadLength tail is none place) (BadLength tail2 is2 none2 place2) = record {
  places = place ∙ sym place2;
  bytes = second_of byte byte2 tail tail2 (sym is ∙ is2);
}

-- ---- a start

fault_of : (f f2 : StartFault) (a b : Result Fields StartFault) → a ≡ Err f → b ≡ Err f2 → a ≡ b → f ≡ f2
fault_of f f2 a b x y e = let same : Err f ≡ Err f2 = sym x ∙ e ∙ y in cc

one_fault : (f : StartFault) (at byte at2 byte2 : ℕ) → IsFaultAt f at byte → IsFaultAt f at2 byte2 → SamePlace at byte at2 byte2
one_fault Short at byte at2 byte2 a b = record { places = a.0 ∙ sym b.0; bytes = a.1 ∙ sym b.1 }
one_fault (Wrong place wrong) at byte at2 byte2 a b = record { places = a.0 ∙ sym b.0; bytes = a.1 ∙ sym b.1 }

one_body : (half : ℕ) (rest : List ℕ) (at byte at2 byte2 : ℕ) → IsBodyDamage half rest at byte → IsBodyDamage half rest at2 byte2 → SamePlace at byte at2 byte2
one_body half rest at byte at2 byte2 d e =
    let same = one_record rest d.body e.body d.record_is e.record_is in
    let fault = fault_of d.fault e.fault (start_at half d.body) (start_at half e.body) d.no_start e.no_start (ap (start_at half) same) in
    one_fault d.fault at byte at2 byte2 d.place (subst (λ (f : StartFault). IsFaultAt f at2 byte2) (sym fault) e.place)

one_start_damage : (half : ℕ) (rest : List ℕ) (at byte at2 byte2 : ℕ) → IsStartDamage half rest at byte → IsStartDamage half rest at2 byte2 → SamePlace at byte at2 byte2
one_start_damage half rest at byte at2 byte2 (inl d) (inl e) = one_damage rest 0 at byte at2 byte2 d e
one_start_damage half rest at byte at2 byte2 (inl d) (inr e) = absurd (undamaged rest e.body 0 at byte e.record_is d)
one_start_damage half rest at byte at2 byte2 (inr d) (inl e) = absurd (undamaged rest d.body 0 at2 byte2 d.record_is e)
one_start_damage half rest at byte at2 byte2 (inr d) (inr e) = one_body half rest at byte at2 byte2 d e

ok_err : (fields : Fields) (f : StartFault) (a b : Result Fields StartFault) → a ≡ Ok fields → b ≡ Err f → a ≡ b → ⊥
ok_err fields f a b x y e = let never : Ok fields ≡ Err f = sym x ∙ e ∙ y in cc

-- a half that has a start isn't damaged there
whole_start : (journal : List ℕ) (half at byte : ℕ) (start : Start) → HasStart journal half start → IsStartDamage half (part_of half journal) at byte → ⊥
whole_start journal half at byte start has (inl d) = undamaged (part_of half journal) (start_bytes start) 0 at byte (record_off (half_of half journal) (start_bytes start) has.record_is) d
whole_start journal half at byte start has (inr d) =
    let same = one_record (part_of half journal) (start_bytes start) d.body (record_off (half_of half journal) (start_bytes start) has.record_is) d.record_is in
    ok_err (fields_of start) d.fault (start_at half (start_bytes start)) (start_at half d.body) (again half start has.is_start) d.no_start (ap (start_at half) same)

-- ---- both halves

not_next : (e : ℕ) → e ≤ 2 → e ≡ (e + 1) % 3 → ⊥
not_next zero le is = cc
not_next (suc zero) le is = cc
not_next (suc (suc zero)) le is = cc
not_next (suc (suc (suc e))) le is = omega arith

first_whole : (journal : List ℕ) (at byte : ℕ) → is_half_begun 0 journal ≡ true → IsStartDamage 0 (part_of 0 journal) at byte → IsHalfSound journal 0 → ⊥
first_whole journal at byte begun d (inl none) = false≢true (sym none ∙ begun)
first_whole journal at byte begun d (inr has) = whole_start journal 0 at byte has.0 has.1 d

pub one_found : (journal : List ℕ) (at byte at2 byte2 : ℕ) → IsFoundDamage journal at byte → IsFoundDamage journal at2 byte2 → SamePlace at byte at2 byte2
one_found journal at byte at2 byte2 (InFirst begun d) (InFirst begun2 e) = one_start_damage 0 (part_of 0 journal) at byte at2 byte2 d e
one_found journal at byte at2 byte2 (InFirst begun d) (InSecond place sound begun2 e is) = absurd (first_whole journal at byte begun d sound)
one_found journal at byte at2 byte2 (InFirst begun d) (Epochs e) = absurd (whole_start journal 0 at byte e.first e.has_first d)
one_found journal at byte at2 byte2 (InSecond place sound begun d is) (InFirst begun2 e) = absurd (first_whole journal at2 byte2 begun2 e sound)
one_found journal at byte at2 byte2 (InSecond place sound begun d is) (InSecond place2 sound2 begun2 e is2) =
    let same = one_start_damage 1 (part_of 1 journal) place byte place2 byte2 d e in
    record { places = is ∙ ap (λ (n : ℕ). half_len + n) same.places ∙ sym is2; bytes = same.bytes }
one_found journal at byte at2 byte2 (InSecond place sound begun d is) (Epochs e) = absurd (whole_start journal 1 place byte e.second e.has_second d)
one_found journal at byte at2 byte2 (Epochs d) (InFirst begun e) = absurd (whole_start journal 0 at2 byte2 d.first d.has_first e)
one_found journal at byte at2 byte2 (Epochs d) (InSecond place sound begun e is) = absurd (whole_start journal 1 place byte2 d.second d.has_second e)
one_found journal at byte at2 byte2 (Epochs d) (Epochs e) =
    record { places = d.place ∙ ap (λ (s : Start). half_len + epoch_place s) (one_start journal 1 d.second e.second d.has_second e.has_second) ∙ sym e.place; bytes = d.byte_is ∙ sym e.byte_is }

-- an unbegun journal isn't damaged
pub unbegun_whole : (journal : List ℕ) (at byte : ℕ) → IsUnbegun journal → IsFoundDamage journal at byte → ⊥
unbegun_whole journal at byte none (InFirst begun d) = false≢true (sym none.first ∙ begun)
unbegun_whole journal at byte none (InSecond place sound begun d is) = false≢true (sym none.second ∙ begun)
unbegun_whole journal at byte none (Epochs d) = false≢true (sym none.first ∙ begun_half journal 0 d.first d.has_first)

-- a half that is begun beside a current one, and both epochs
begun_whole : (journal : List ℕ) (half other at byte : ℕ) (start : Start) → IsCurrent journal half start → other ≡ 1 - half → is_half_begun other journal ≡ true → IsStartDamage other (part_of other journal) at byte → ⊥
begun_whole journal half other at byte start c is begun d = elim c.other [
  | inl none ↦ false≢true (sym (subst (λ (h : ℕ). is_half_begun h journal ≡ false) (sym is) none) ∙ begun)
  | inr before ↦ whole_start journal other at byte before.0 (subst (λ (h : ℕ). HasStart journal h before.0) (sym is) before.1) d
]

equal_epochs : (a b : Start) (half format : ℕ) → IsStart half a → epoch_of a.checkpoint ≡ epoch_of b.checkpoint → epoch_of a.checkpoint ≡ (epoch_of b.checkpoint + 1) % 3 → ⊥
equal_epochs a b half format is same next =
    not_next (epoch_of a.checkpoint) (epoch_small half a.header.format a.checkpoint is.behind) (next ∙ ap (λ (n : ℕ). (n + 1) % 3) (sym same))

-- nor is one with a current half
module _ (journal : List ℕ) (half : ℕ) (start : Start) (c : IsCurrent journal half start) where
  at_half : (h : ℕ) → half ≡ h → HasStart journal h start
  at_half h is = subst (λ (n : ℕ). HasStart journal n start) is c.begun

  pub current_whole : (at byte : ℕ) → IsFoundDamage journal at byte → ⊥
  current_whole at byte (InFirst begun d) = elim c.is_half [
    | inl zero_is ↦ whole_start journal 0 at byte start (at_half 0 zero_is) d
    | inr one_is ↦ begun_whole journal half 0 at byte start c (ap (λ (n : ℕ). 1 - n) (sym one_is)) begun d
  ]
  current_whole at byte (InSecond place sound begun d is) = elim c.is_half [
    | inl zero_is ↦ begun_whole journal half 1 place byte start c (ap (λ (n : ℕ). 1 - n) (sym zero_is)) begun d
    | inr one_is ↦ whole_start journal 1 place byte start (at_half 1 one_is) d
  ]
  current_whole at byte (Epochs d) = elim c.is_half [
    | inl zero_is ↦
        let same = one_start journal 0 start d.first (at_half 0 zero_is) d.has_first in
        let next = other_before journal 0 start d.second (subst (λ (h : ℕ). IsCurrent journal h start) zero_is c) d.has_second in
        equal_epochs start d.second 0 0 (at_half 0 zero_is).is_start (ap (λ (s : Start). epoch_of s.checkpoint) same ∙ d.same) next
    | inr one_is ↦
        let same = one_start journal 1 start d.second (at_half 1 one_is) d.has_second in
        let next = other_before journal 1 start d.first (subst (λ (h : ℕ). IsCurrent journal h start) one_is c) d.has_first in
        equal_epochs start d.first 1 0 (at_half 1 one_is).is_start (ap (λ (s : Start). epoch_of s.checkpoint) same ∙ sym d.same) next
  ]
