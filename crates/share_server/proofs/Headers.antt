-- The first byte at which two headers differ.
use Rattle.std.proofs.Common.{◌≡◌, ◌≢◌, inl, inr, ℕ, Bool, true, false, cond, List, [], ◌∷◌, ◌++◌, length, take, get_or, None, refl, sym, ap, ◌∙◌, subst, append-nil, arith}
use Rattle.std.specs.Prelude.{◌==◌}
use Rattle.server_requests.specs.JournalStart.start.Header.{Header}
use Rattle.server_requests.specs.JournalStart.start.Start.{Start}
use Rattle.server_requests.specs.JournalStart.Ranges.{IsHeader}
use Rattle.server_requests.specs.JournalStart.Spelling.{front_bytes, rooms_bytes, header_bytes, start_bytes}
use Rattle.server_requests.proofs.JournalStart.Lengths.{plain_first, plain_second}
use Rattle.server_requests.proofs.JournalStart.Whole.{one}
use Rattle.share_server.specs.Refusals.{DiffersAt, AreSameInFront}

-- ---- lists

whole : (xs : List ℕ) → take (length xs) xs ≡ xs
whole [] = refl
whole (x ∷ xs) = ap (λ (l : List ℕ). x ∷ l) (whole xs)

same_list : (xs ys : List ℕ) → length xs ≡ length ys → AreSameInFront xs ys → xs ≡ ys
same_list xs ys long alike = sym (whole xs) ∙ ap (λ (n : ℕ). take n xs) long ∙ alike ∙ ap (λ (n : ℕ). take n ys) long ∙ whole ys

-- ---- headers

first_long : (h : Header) → h.format ≡ 1 → length (header_bytes h) ≡ 8
first_long h first = sym (ap length (append-nil (header_bytes h))) ∙ plain_first (record { header = h; checkpoint = None }) first refl

second_long : (h : Header) → h.format ≡ 2 → length (header_bytes h) ≡ 36
second_long h second = sym (ap length (append-nil (header_bytes h))) ∙ plain_second (record { header = h; checkpoint = None }) second refl

-- the format is the fifth byte
format_in : (h : Header) → get_or (take 8 (header_bytes h)) 4 0 ≡ h.format
format_in h = by_test (h.format == 1)
  where
    by_test : (b : Bool) → get_or (take 8 (cond b (front_bytes h) (front_bytes h ++ rooms_bytes h.rooms))) 4 0 ≡ h.format
    by_test true = refl
    by_test false = refl

format_within : (h : Header) → get_or (take 36 (header_bytes h)) 4 0 ≡ h.format
format_within h = by_test (h.format == 1)
  where
    by_test : (b : Bool) → get_or (take 36 (cond b (front_bytes h) (front_bytes h ++ rooms_bytes h.rooms))) 4 0 ≡ h.format
    by_test true = refl
    by_test false = refl

two_formats : (a b : Header) → a.format ≡ 1 → b.format ≡ 2 → take 36 (header_bytes a) ≡ take 8 (header_bytes b) → ⊥
two_formats a b first second alike =
    let same : a.format ≡ b.format = sym (format_within a) ∙ ap (λ (l : List ℕ). get_or l 4 0) alike ∙ format_in b in
    omega (arith, first, second, same)

by_bytes : (a b : Header) → IsHeader a → IsHeader b → header_bytes a ≡ header_bytes b → a ≡ b
by_bytes a b i j e =
    ap (λ (s : Start). s.header)
    (one 0 (record { header = a; checkpoint = None }) (record { header = b; checkpoint = None }) (record { header = i; behind = refl }) (record { header = j; behind = refl }) (ap (λ (l : List ℕ). l ++ []) e))

-- headers that are the same as far as both go are one
one_header : (a b : Header) → IsHeader a → IsHeader b → AreSameInFront (header_bytes a) (header_bytes b) → a ≡ b
one_header a b i j alike = elim i.format [
  | inl first ↦ elim j.format [
    | inl too ↦ by_bytes a b i j (same_list (header_bytes a) (header_bytes b) (first_long a first ∙ sym (first_long b too)) alike)
    | inr second ↦ absurd (two_formats a b first second
        (ap (λ (n : ℕ). take n (header_bytes a)) (sym (second_long b second)) ∙ alike ∙ ap (λ (n : ℕ). take n (header_bytes b)) (first_long a first)))
  ]
  | inr second ↦ elim j.format [
    | inl first ↦ absurd (two_formats b a first second
        (ap (λ (n : ℕ). take n (header_bytes b)) (sym (second_long a second)) ∙ sym alike ∙ ap (λ (n : ℕ). take n (header_bytes a)) (first_long b first)))
    | inr too ↦ by_bytes a b i j (same_list (header_bytes a) (header_bytes b) (second_long a second ∙ sym (second_long b too)) alike)
  ]
]

-- what is found of two lists of bytes, which are headers' spellings
pub differs_of : (found asked : Header) (ours theirs : List ℕ) (place byte : ℕ) → ours ≡ start_bytes (record { header = found; checkpoint = None }) → theirs ≡ start_bytes (record { header = asked; checkpoint = None })
    → (¬ (AreSameInFront ours theirs) → DiffersAt ours theirs place byte) → IsHeader found → IsHeader asked → found ≢ asked → DiffersAt (header_bytes found) (header_bytes asked) place byte
differs_of found asked ours theirs place byte is are differs i j other =
    let o = is ∙ append-nil (header_bytes found) in let t = are ∙ append-nil (header_bytes asked) in
    subst (λ (l : List ℕ). DiffersAt l (header_bytes asked) place byte) o
    (subst (λ (l : List ℕ). DiffersAt ours l place byte) t
    (differs (λ alike. other (one_header found asked i j (subst (λ (l : List ℕ). AreSameInFront l (header_bytes asked)) o (subst (λ (l : List ℕ). AreSameInFront ours l) t alike))))))
