-- What the ends of a file's secrets are, by each secret; that how a file comes in pieces does not matter.
use Rattle.std.proofs.Common.{◌≡◌, ℕ, zero, suc, ◌+◌, ◌<◌, ◌≤◌, List, [], ◌∷◌, ◌++◌, length, refl, sym, ap, ◌∙◌, arith, Bool, true, false, eqb, append_assoc, ◌⊎◌, inl, inr}
use Rattle.std.specs.List.{concat}
use Rattle.std.proofs.lemmas.Bool.{cases_lt, cases_eq}
use Rattle.std.proofs.lemmas.Bool.Decides.{nat_tests}
use Rattle.std.proofs.lemmas.List.{append-nil, length-append}
use Rattle.rabin_chunker.specs.Cuts.{is_end, start_at, ends_after, last_end, ends, fed_ends}
use Rattle.rabin_chunker.specs.Rule.{IsFirstEnd, IsCutFrom}
use Rattle.rabin_chunker.proofs.Steps.{is_end-early, is_end-longest, start_at-cut, start_at-on, ends_after-cut, ends_after-on, ends_after-none, ends_after-add, ends_after-longer}

-- the ends that are decided, from the secret that begins at s to the one that begins at t
abbrev pub IsDecided : List ℕ → ℕ → List ℕ → ℕ → Type 0
IsDecided file s [] t = s ≡ t
IsDecided file s (e ∷ es) t = IsFirstEnd file s e × IsDecided file e es t

decided_more : (file : List ℕ) (s t e : ℕ) (es : List ℕ) → IsDecided file s es t → IsFirstEnd file t e → IsDecided file s (es ++ e ∷ []) e
decided_more file s t e [] h f = (rw h f, refl)
decided_more file s t e (x ∷ xs) h f = (h.0, decided_more file x t e xs h.1 f)

cut_from_decided : (file : List ℕ) (s t : ℕ) (es rest : List ℕ) → IsDecided file s es t → IsCutFrom file t rest → IsCutFrom file s (es ++ rest)
cut_from_decided file s t [] rest h c = rw h c
cut_from_decided file s t (x ∷ xs) rest h c = (h.0, cut_from_decided file x t xs rest h.1 c)

-- what is known at a place
record IsUpTo (file : List ℕ) (n : ℕ) : Type 0 where
  begun : start_at file n ≤ n
  none : (k : ℕ) → start_at file n < k → k ≤ n → is_end file (start_at file n) k ≡ false
  decided : IsDecided file 0 (ends_after file 0 n) (start_at file n)

bool_cases : (b : Bool) → (b ≡ true) ⊎ (b ≡ false)
bool_cases true = inl refl
bool_cases false = inr refl

start_at-none : (file : List ℕ) → start_at file 0 ≡ 0
unfolding start_at
start_at-none file = refl

up_to : (file : List ℕ) (n : ℕ) → n ≤ length file → IsUpTo file n
up_to file zero h = record {
  begun = omega (arith, start_at-none file);
  none = λ k a b. absurd (omega (arith, start_at-none file));
  decided = rw (ends_after-none file 0) (sym (start_at-none file));
}
up_to file (suc n) h =
    let u : IsUpTo file n = up_to file n (omega arith) in
    let s : ℕ = start_at file n in
    let at : 0 + n ≡ n = omega arith in
    elim (bool_cases (is_end file s (suc n))) [
      | inl ended ↦
          let new : start_at file (suc n) ≡ suc n = start_at-cut file s n refl ended in
          let more : ends_after file 0 (suc n) ≡ ends_after file 0 n ++ suc n ∷ [] =
          ends_after-cut file 0 n s (ap (λ (x : ℕ). start_at file x) at) (ap (λ (x : ℕ). is_end file s (suc x)) at ∙ ended) ∙ ap (λ (x : ℕ). ends_after file 0 n ++ suc x ∷ []) at in
          let first : IsFirstEnd file s (suc n) = record {
            after = omega (arith, u.begun);
            within = h;
            ends = inl ended;
            first = λ k a b. u.none k a (omega arith);
          } in
          record {
            begun = omega (arith, new);
            none = λ k a b. absurd (omega (arith, new));
            decided = rw (more, new) (decided_more file 0 s (suc n) (ends_after file 0 n) u.decided first);
          }
      | inr goes_on ↦
          let same : start_at file (suc n) ≡ s = start_at-on file s n refl goes_on in
          let more : ends_after file 0 (suc n) ≡ ends_after file 0 n = ends_after-on file 0 n s (ap (λ (x : ℕ). start_at file x) at) (ap (λ (x : ℕ). is_end file s (suc x)) at ∙ goes_on) in
          record {
            begun = omega (arith, same, u.begun);
            none = rw same (λ k a b. elim (cases_lt k (suc n)) [
              | inl l ↦ u.none k a (omega arith)
              | inr m ↦ let e : k ≡ suc n = omega arith in rw e goes_on
            ]);
            decided = rw (more, same) u.decided;
          }
    ]

last_cut : (file : List ℕ) → IsUpTo file (length file) → IsCutFrom file (start_at file (length file)) (last_end file)
unfolding last_end
last_cut file u = elim (cases_eq (start_at file (length file)) (length file)) [
  | inl e ↦
      let t : eqb (start_at file (length file)) (length file) ≡ true = grind (arith, nat_tests) in
      rw t e
  | inr n ↦
      let t : eqb (start_at file (length file)) (length file) ≡ false = grind (arith, nat_tests) in
      rw t (
        record {
          after = omega (arith, u.begun, n);
          within = omega arith;
          ends = inr refl;
          first = λ k a b. u.none k a (omega arith);
        },
        refl,
      )
]

-- each secret ends at the first place where it may
pub ends_cut : (file : List ℕ) → IsCutFrom file 0 (ends file)
unfolding ends
ends_cut file =
    let u : IsUpTo file (length file) = up_to file (length file) (omega arith) in
    cut_from_decided file 0 (start_at file (length file)) (ends_after file 0 (length file)) (last_end file) u.decided (last_cut file u)

same_end : (file : List ℕ) (s x y : ℕ) → IsFirstEnd file s x → IsFirstEnd file s y → x ≡ y
same_end file s x y hx hy = elim (cases_lt x y) [
  | inl l ↦ elim hx.ends [
    | inl t ↦ let f : is_end file s x ≡ false = hy.first x hx.after l in cc
    | inr e ↦ absurd (omega (arith, hy.within))
  ]
  | inr m ↦ elim (cases_eq x y) [
    | inl e ↦ e
    | inr n ↦
        let l : y < x = omega arith in
        elim hy.ends [
          | inl t ↦ let f : is_end file s y ≡ false = hx.first y hy.after l in cc
          | inr e ↦ absurd (omega (arith, hx.within))
        ]
  ]
]

-- and no other list of places is so
pub cut_only : (file : List ℕ) (s : ℕ) (xs ys : List ℕ) → IsCutFrom file s xs → IsCutFrom file s ys → xs ≡ ys
cut_only file s [] [] hx hy = refl
cut_only file s [] (y ∷ ys) hx hy = absurd (omega (arith, hx, hy.0.after, hy.0.within))
cut_only file s (x ∷ xs) [] hx hy = absurd (omega (arith, hy, hx.0.after, hx.0.within))
cut_only file s (x ∷ xs) (y ∷ ys) hx hy =
    let e : x ≡ y = same_end file s x y hx.0 hy.0 in
    let hy2 : IsCutFrom file x ys = rw (sym e) at hy.1 in
    rw (← e) (ap (λ (z : List ℕ). x ∷ z) (cut_only file x xs ys hx.1 hy2))

-- no secret is longer than 16384 bytes
pub secret_at_most : (file : List ℕ) (s e : ℕ) → IsFirstEnd file s e → e ≤ s + 16384
secret_at_most file s e h = elim (cases_lt (s + 16384) e) [
  | inl l ↦ let f : is_end file s (s + 16384) ≡ false = h.first (s + 16384) (omega arith) l in let t : is_end file s (s + 16384) ≡ true = is_end-longest file s in cc
  | inr m ↦ m
]

-- and none but the last is shorter than 2048
pub secret_at_least : (file : List ℕ) (s e : ℕ) → IsFirstEnd file s e → e < length file → s + 2048 ≤ e
secret_at_least file s e h l = elim (cases_lt e (s + 2048)) [
  | inl early ↦
      let f : is_end file s e ≡ false = is_end-early file s e early in
      elim h.ends [
        | inl t ↦ cc
        | inr last ↦ absurd (omega arith)
      ]
  | inr m ↦ m
]

pub ends-empty : ends [] ≡ []
unfolding ends ends_after last_end start_at
ends-empty = refl

-- ---- pieces
-- the ends within a file and those within one more piece are those within both
pub ends_of_more : (fed piece : List ℕ) → ends_after fed 0 (length fed) ++ ends_after (fed ++ piece) (length fed) (length piece) ≡ ends_after (fed ++ piece) 0 (length (fed ++ piece))
ends_of_more fed piece =
    let at : 0 + length fed ≡ length fed = omega arith in
    let same : ends_after fed 0 (length fed) ≡ ends_after (fed ++ piece) 0 (length fed) = sym (ends_after-longer fed piece 0 (length fed) (omega arith)) in
    ap (λ (x : List ℕ). x ++ ends_after (fed ++ piece) (length fed) (length piece)) same
    ∙ ap (λ (x : ℕ). ends_after (fed ++ piece) 0 (length fed) ++ ends_after (fed ++ piece) x (length piece)) (sym at)
    ∙ sym (ends_after-add (fed ++ piece) 0 (length fed) (length piece))
    ∙ ap (λ (x : ℕ). ends_after (fed ++ piece) 0 x) (sym (length-append fed piece))

pub ends_of_all : (file : List ℕ) → ends_after file 0 (length file) ++ last_end file ≡ ends file
unfolding ends
ends_of_all file = refl

fed_from : (fed : List ℕ) (pieces : List (List ℕ)) → ends_after fed 0 (length fed) ++ fed_ends fed pieces ≡ ends_after (fed ++ concat pieces) 0 (length (fed ++ concat pieces))
fed_from fed [] = append-nil (ends_after fed 0 (length fed)) ∙ ap (λ (x : List ℕ). ends_after x 0 (length x)) (sym (append-nil fed))
fed_from fed (piece ∷ pieces) =
    sym (append_assoc (ends_after fed 0 (length fed)) (ends_after (fed ++ piece) (length fed) (length piece)) (fed_ends (fed ++ piece) pieces))
    ∙ ap (λ (x : List ℕ). x ++ fed_ends (fed ++ piece) pieces) (ends_of_more fed piece)
    ∙ fed_from (fed ++ piece) pieces
    ∙ ap (λ (x : List ℕ). ends_after x 0 (length x)) (append_assoc fed piece (concat pieces))

-- the ends are those of the whole file, however it is cut into pieces
pub pieces_do_not_matter : (pieces : List (List ℕ)) → fed_ends [] pieces ++ last_end (concat pieces) ≡ ends (concat pieces)
unfolding ends
pieces_do_not_matter pieces = ap (λ (x : List ℕ). x ++ last_end (concat pieces)) (rw (ends_after-none [] 0) at (fed_from [] pieces))
