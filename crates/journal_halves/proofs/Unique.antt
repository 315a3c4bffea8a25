-- Bytes are the journal of one list at most.
use Rattle.std.proofs.Common.{◌≡◌, ◌≢◌, ℕ, ◌≤◌, List, [], ◌∷◌, ◌++◌, length, take, drop, refl, sym, ◌∙◌, ap, arith, append_assoc, length-append}
use Rattle.std.proofs.lemmas.List.{take_at, drop_at}
use Rattle.std.proofs.lemmas.Nat.{from_be_bytes-to_be_bytes_4}
use Rattle.std.specs.Int.{w32, from_be_bytes}
use Rattle.journal_halves.specs.Records.{IsJournalBody, sized, chain, AreBodies, IsJournal, IsDamage, LastGate, BadLength}
use Rattle.journal_halves.specs.Frames.{IsRecordAhead}

same_length : (a b one two : List ℕ) → length a ≤ 65535 → length b ≤ 65535 → sized a ++ one ≡ sized b ++ two → length a ≡ length b
same_length a b one two la lb e =
    sym (from_be_bytes-to_be_bytes_4 (length a) (omega arith)) ∙ ap (λ (l : List ℕ). from_be_bytes w32 (take 4 l)) e ∙ from_be_bytes-to_be_bytes_4 (length b) (omega arith)

pub same_body : (a b one two : List ℕ) → length a ≤ 65535 → length b ≤ 65535 → sized a ++ one ≡ sized b ++ two → a ≡ b
same_body a b one two la lb e =
    sym (take_at a one (length a) refl) ∙ ap (λ (l : List ℕ). take (length a) (drop 4 l)) e ∙ ap (λ (n : ℕ). take n (b ++ two)) (same_length a b one two la lb e) ∙ take_at b two (length b) refl

same_rest : (a b one two : List ℕ) → length a ≤ 65535 → length b ≤ 65535 → sized a ++ one ≡ sized b ++ two → one ≡ two
same_rest a b one two la lb e =
    sym (drop_at a one (length a) refl) ∙ ap (λ (l : List ℕ). drop (length a) (drop 4 l)) e ∙ ap (λ (n : ℕ). drop n (b ++ two)) (same_length a b one two la lb e) ∙ drop_at b two (length b) refl

pub head_of : (a b : ℕ) (xs ys : List ℕ) → a ∷ xs ≡ b ∷ ys → a ≡ b
head_of a b xs ys e = cc

pub tail_of : (a b : ℕ) (xs ys : List ℕ) → a ∷ xs ≡ b ∷ ys → xs ≡ ys
tail_of a b xs ys e = cc

both : (a b : List ℕ) (one two : List (List ℕ)) → a ≡ b → one ≡ two → a ∷ one ≡ b ∷ two
both a b one two e f = cc

unique : (one two : List (List ℕ)) → AreBodies one → AreBodies two → (g h : ℕ) (xs ys : List ℕ) → g ≢ 1 → h ≢ 1 → chain one ++ g ∷ xs ≡ chain two ++ h ∷ ys → one ≡ two
unique [] [] s t g h xs ys shut closed e = refl
unique [] (b ∷ two) s t g h xs ys shut closed e = absurd (shut (head_of g 1 xs _ e))
unique (a ∷ one) [] s t g h xs ys shut closed e = absurd (closed (sym (head_of 1 h _ ys e)))
unique (a ∷ one) (b ∷ two) s t g h xs ys shut closed e =
    let rest = tail_of 1 1 (sized a ++ chain one ++ g ∷ xs) (sized b ++ chain two ++ h ∷ ys) e in
    let spelled : sized a ++ (chain one ++ g ∷ xs) ≡ sized b ++ (chain two ++ h ∷ ys) = sym (append_assoc (sized a) (chain one) (g ∷ xs)) ∙ rest ∙ append_assoc (sized b) (chain two) (h ∷ ys) in
    both a b one two (same_body a b _ _ s.0.few t.0.few spelled) (unique one two s.1 t.1 g h xs ys shut closed (same_rest a b _ _ s.0.few t.0.few spelled))

pub one_journal : (one two : List (List ℕ)) (bytes : List ℕ) → IsJournal one bytes → IsJournal two bytes → one ≡ two
one_journal one two bytes i j = unique one two i.sizes j.sizes i.gate j.gate i.behind j.behind i.shut j.shut (sym i.spelled ∙ j.spelled)

-- what was read so far are the first bodies of the journal
pub first_of : (one two : List (List ℕ)) → AreBodies one → AreBodies two → (rest : List ℕ) (h : ℕ) (ys : List ℕ) → h ≢ 1 → chain one ++ rest ≡ chain two ++ h ∷ ys → (more : List (List ℕ)) × (one ++ more ≡ two)
first_of [] two s t rest h ys closed e = (two, refl)
first_of (a ∷ one) [] s t rest h ys closed e = absurd (closed (sym (head_of 1 h _ ys e)))
first_of (a ∷ one) (b ∷ two) s t rest h ys closed e =
    let tails = tail_of 1 1 (sized a ++ chain one ++ rest) (sized b ++ chain two ++ h ∷ ys) e in
    let spelled : sized a ++ (chain one ++ rest) ≡ sized b ++ (chain two ++ h ∷ ys) = sym (append_assoc (sized a) (chain one) rest) ∙ tails ∙ append_assoc (sized b) (chain two) (h ∷ ys) in
    let further = first_of one two s.1 t.1 rest h ys closed (same_rest a b _ _ s.0.few t.0.few spelled) in
    (further.0, both a b (one ++ further.0) two (same_body a b _ _ s.0.few t.0.few spelled) further.1)

-- ---- whole records

pub whole_record : (b : List ℕ) (more : List (List ℕ)) (gate : ℕ) (behind rest : List ℕ) → IsJournalBody b → rest ≡ chain (b ∷ more) ++ gate ∷ behind → IsRecordAhead rest b
whole_record b [] gate behind rest one e = record { gate = gate; behind = behind; is_body = one; spelled = e ∙ ap (λ (l : List ℕ). 1 ∷ l) (append_assoc (sized b) [] (gate ∷ behind)) }
whole_record b (next ∷ more) gate behind rest one e = record {
  gate = 1;
  behind = (sized next ++ chain more) ++ gate ∷ behind;
  is_body = one;
  spelled = e ∙ ap (λ (l : List ℕ). 1 ∷ l) (append_assoc (sized b) (chain (next ∷ more)) (gate ∷ behind));
}

-- no whole record is damaged
pub undamaged : (rest body : List ℕ) (gate at byte : ℕ) → IsRecordAhead rest body → IsDamage rest gate at byte → ⊥
undamaged rest body gate at byte r (LastGate is place same) = omega (arith, ap length (sym is ∙ r.spelled), length-append body (r.gate ∷ r.behind))
undamaged rest body gate at byte r (BadLength tail is none place) = none body r.gate r.behind r.is_body r.spelled
