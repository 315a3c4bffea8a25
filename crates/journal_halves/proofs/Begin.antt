-- Journals that are begun, and those that aren't.
use Rattle.std.proofs.Common.{◌≡◌, ◌≢◌, ℕ, ◌<◌, ◌≤◌, false, List, [], ◌∷◌, length, refl, ◌∙◌, ap, arith, nat_eq}
use Rattle.std.proofs.lemmas.Bool.Decides.{nat_tests}
use Rattle.cd_edges.specs.Disk.{overwritten}
use Rattle.journal_halves.specs.Records.{IsJournal, is_begun}

not_one : (gate : ℕ) → nat_eq gate 1 ≡ false → gate ≢ 1
not_one gate test one = grind (arith, nat_tests)

one_not : (gate : ℕ) → gate ≢ 1 → nat_eq gate 1 ≡ false
one_not gate shut = grind (arith, nat_tests)

pub closed_unbegun : (gate : ℕ) (behind : List ℕ) → gate ≢ 1 → is_begun (gate ∷ behind) ≡ false
closed_unbegun gate [] shut = refl
closed_unbegun gate (x ∷ rest) shut = one_not gate shut

pub journal_unbegun : (image : List ℕ) → IsJournal [] image → is_begun image ≡ false
journal_unbegun image j = ap is_begun j.spelled ∙ closed_unbegun j.gate j.behind j.shut

pub unbegun_journal : (bytes : List ℕ) → is_begun bytes ≡ false → 2 ≤ length bytes → IsJournal [] bytes
unbegun_journal [] unbegun long = absurd (omega arith)
unbegun_journal (gate ∷ []) unbegun long = absurd (omega arith)
unbegun_journal (gate ∷ x ∷ rest) unbegun long = record { gate = gate; behind = x ∷ rest; sizes = tt; shut = not_one gate unbegun; spelled = refl }

pub small_unbegun : (bytes : List ℕ) → length bytes ≤ 1 → is_begun bytes ≡ false
small_unbegun [] short = refl
small_unbegun (gate ∷ []) short = refl
small_unbegun (gate ∷ x ∷ rest) short = absurd (omega arith)

pub one_zero : (bytes : List ℕ) → length bytes < 2 → overwritten bytes 0 (0 ∷ []) ≡ 0 ∷ []
one_zero [] short = refl
one_zero (x ∷ []) short = refl
one_zero (x ∷ y ∷ rest) short = absurd (omega arith)

pub zero_journal : IsJournal [] (0 ∷ [])
zero_journal = record { gate = 0; behind = []; sizes = tt; shut = omega arith; spelled = refl }
