-- A whole record at a gate.
use Rattle.std.proofs.Common.{◌≡◌, ℕ, suc, zero, ◌+◌, ◌<◌, ◌≤◌, List, [], ◌∷◌, ◌++◌, length, take, drop, get_or, refl, sym, ◌∙◌, ap, subst, arith, length-take, append_assoc}
use Rattle.std.proofs.lemmas.List.{take-append-drop, drop_more}
use Rattle.std.proofs.lemmas.Nat.{be_bytes_4}
use Rattle.std.specs.Int.{w32, to_be_bytes, from_be_bytes}
use Rattle.journal_halves.specs.Frames.{IsRecordAhead}

four_small : (a b c d : ℕ) → a < 256 → b < 256 → c < 256 → d < 256 → (i : ℕ) → get_or (a ∷ b ∷ c ∷ d ∷ []) i 0 < 256
four_small a b c d la lb lc ld zero = la
four_small a b c d la lb lc ld (suc zero) = lb
four_small a b c d la lb lc ld (suc (suc zero)) = lc
four_small a b c d la lb lc ld (suc (suc (suc zero))) = ld
four_small a b c d la lb lc ld (suc (suc (suc (suc i)))) = omega arith

pub whole_record : (a b c d len : ℕ) (rest : List ℕ) → a < 256 → b < 256 → c < 256 → d < 256 → len ≡ from_be_bytes w32 (a ∷ b ∷ c ∷ d ∷ []) → 1 ≤ len → len ≤ 65535 → len < length rest
    → (body : List ℕ) × IsRecordAhead (1 ∷ a ∷ b ∷ c ∷ d ∷ rest) body × (length body ≡ len)
whole_record a b c d len rest la lb lc ld is some few within =
    let body = take len rest in
    let long : length body ≡ len = omega (arith, length-take len rest) in
    let bytes : to_be_bytes w32 len ≡ a ∷ b ∷ c ∷ d ∷ [] = be_bytes_4 (a ∷ b ∷ c ∷ d ∷ []) len refl (four_small a b c d la lb lc ld) is in
    let split : rest ≡ body ++ get_or rest len 0 ∷ drop (len + 1) rest = sym (take-append-drop len rest) ∙ ap (λ (l : List ℕ). body ++ l) (drop_more rest len 0 within) in (
      body,
      record {
        gate = get_or rest len 0;
        behind = drop (len + 1) rest;
        is_body = record { some = omega (arith, long, some); few = omega (arith, long, few) };
        spelled =
            ap (λ (l : List ℕ). 1 ∷ (a ∷ b ∷ c ∷ d ∷ []) ++ l) split
            ∙ ap (λ (l : List ℕ). 1 ∷ l) (sym (append_assoc (a ∷ b ∷ c ∷ d ∷ []) body (get_or rest len 0 ∷ drop (len + 1) rest)))
            ∙ ap (λ (l : List ℕ). 1 ∷ (l ++ body ++ get_or rest len 0 ∷ drop (len + 1) rest)) (sym bytes)
            ∙ ap (λ (n : ℕ). 1 ∷ (to_be_bytes w32 n ++ body ++ get_or rest len 0 ∷ drop (len + 1) rest)) (sym long);
      },
      long,
    )

-- the same of bytes that are read one by one
pub record_at : (xs : List ℕ) (len : ℕ) → 5 ≤ length xs → get_or xs 0 0 ≡ 1 → ((i : ℕ) → get_or xs i 0 < 256) → len ≡ from_be_bytes w32 (get_or xs 1 0 ∷ get_or xs 2 0 ∷ get_or xs 3 0 ∷ get_or xs 4 0 ∷ [])
    → 1 ≤ len → len ≤ 65535 → len + 5 < length xs → (body : List ℕ) × IsRecordAhead xs body × (length body ≡ len)
record_at [] len long one small is some few within = absurd (omega arith)
record_at (g ∷ []) len long one small is some few within = absurd (omega arith)
record_at (g ∷ a ∷ []) len long one small is some few within = absurd (omega arith)
record_at (g ∷ a ∷ b ∷ []) len long one small is some few within = absurd (omega arith)
record_at (g ∷ a ∷ b ∷ c ∷ []) len long one small is some few within = absurd (omega arith)
record_at (g ∷ a ∷ b ∷ c ∷ d ∷ rest) len long one small is some few within =
    subst (λ (x : ℕ). (body : List ℕ) × IsRecordAhead (x ∷ a ∷ b ∷ c ∷ d ∷ rest) body × (length body ≡ len)) (sym one)
    (whole_record a b c d len rest (small 1) (small 2) (small 3) (small 4) is some few (omega arith))
