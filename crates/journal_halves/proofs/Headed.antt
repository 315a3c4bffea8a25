-- One record stands at a gate.
use Rattle.std.proofs.Common.{◌≡◌, ℕ, true, List, ◌∷◌, ◌++◌, sym, ◌∙◌, ap}
use Rattle.journal_halves.specs.Records.{sized, IsJournal, is_begun}
use Rattle.journal_halves.specs.Frames.{IsRecordAhead}
use Rattle.journal_halves.proofs.Unique.{same_body, tail_of, whole_record}

pub one_record : (bytes a b : List ℕ) → IsRecordAhead bytes a → IsRecordAhead bytes b → a ≡ b
one_record bytes a b r s = same_body a b (r.gate ∷ r.behind) (s.gate ∷ s.behind) r.is_body.few s.is_body.few (tail_of 1 1 (sized a ++ r.gate ∷ r.behind) (sized b ++ s.gate ∷ s.behind) (sym r.spelled ∙ s.spelled))

pub record_begun : (bytes body : List ℕ) → IsRecordAhead bytes body → is_begun bytes ≡ true
record_begun bytes body r = ap is_begun r.spelled

-- a journal's first record
pub first_record : (bytes body : List ℕ) (more : List (List ℕ)) → IsJournal (body ∷ more) bytes → IsRecordAhead bytes body
first_record bytes body more j = whole_record body more j.gate j.behind bytes j.sizes.0 j.spelled
