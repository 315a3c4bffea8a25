-- A line's text, whatever follows it, is read back as the line and what follows.
use Rattle.std.proofs.Common.{◌≡◌, ℕ, suc, zero, ◌+◌, ◌-◌, ◌<◌, ◌≤◌, true, false, ltb, List, [], ◌∷◌, ◌++◌, length, get_or, take, Option, Some, None, refl, sym, ap, ◌∙◌, append_assoc, arith}
use Rattle.std.specs.List.{AllByRecursion, All, flat_map, join_with_byte, slice_split}
use Rattle.std.proofs.lemmas.Bool.{and_parts, ltb-true, ne_eqb}
use Rattle.std.proofs.lemmas.Option.{same_Some}
use Rattle.std.proofs.lemmas.List.{take_at, drop_at, length-append, get_or_append_left}
use Rattle.std.proofs.lemmas.List.Elements.{All-from_recursion, recursion_from_All}
use Rattle.std.proofs.lemmas.List.Splits.{slice_split_none, slice_split_at}
use Rattle.std.proofs.lemmas.List.Sums.{position_or_len_is}
use Rattle.std.proofs.Math.Seq.{get_or-append_right}
use Rattle.grammar.specs.Words.{is_blank}
use Rattle.transcript.specs.Transcript.{line_words, line_text}
use Rattle.transcript.specs.Ranges.{FitsTranscript}
use Rattle.transcript.specs.Reading.{is_newline, line_len, and_rest, line_of, line_at}
use Rattle.transcript.specs.declared.line.Line.{Line}
use Rattle.transcript.proofs.WordsBack.{solid, all_solid}
use Rattle.transcript.proofs.LinesBack.{line_back, line_solid}

-- ---- words with one blank between are split again

no_blank : (text : List ℕ) → solid text ≡ true → AllByRecursion (λ b. is_blank b ≡ false) text
no_blank [] e = tt
no_blank (b ∷ bs) e =
    let p = and_parts (ltb 32 b) _ e in
    let above = ltb-true 32 b p.0 in
    (ne_eqb b 32 (λ h. omega arith), no_blank bs p.1)

split_back : (word : List ℕ) (words : List (List ℕ)) → all_solid (word ∷ words) ≡ true → slice_split is_blank (join_with_byte 32 (word ∷ words)) ≡ word ∷ words
split_back word [] e = slice_split_none is_blank word (All-from_recursion _ _ (no_blank word (and_parts (solid word) _ e).0))
split_back word (next ∷ words) e =
    let p = and_parts (solid word) _ e in
    slice_split_at is_blank word 32 (join_with_byte 32 (next ∷ words)) (All-from_recursion _ _ (no_blank word p.0)) refl
    ∙ ap (λ (ws : List (List ℕ)). word ∷ ws) (split_back next words p.1)

-- ---- no newline is in them

abbrev pub Flat : List ℕ → Type 0
Flat [] = Unit {0}
Flat (b ∷ bs) = (10 < b) × Flat bs

pub flat_append : (xs ys : List ℕ) → Flat xs → Flat ys → Flat (xs ++ ys)
flat_append [] ys p q = q
flat_append (x ∷ xs) ys p q = (p.0, flat_append xs ys p.1 q)

flat_word : (text : List ℕ) → solid text ≡ true → Flat text
flat_word [] e = tt
flat_word (b ∷ bs) e =
    let p = and_parts (ltb 32 b) _ e in
    let above = ltb-true 32 b p.0 in
    (omega arith, flat_word bs p.1)

flat_join : (words : List (List ℕ)) → all_solid words ≡ true → Flat (join_with_byte 32 words)
flat_join [] e = tt
flat_join (word ∷ []) e = flat_word word (and_parts (solid word) _ e).0
flat_join (word ∷ next ∷ words) e =
    let p = and_parts (solid word) _ e in
    flat_append word (32 ∷ join_with_byte 32 (next ∷ words)) (flat_word word p.0) (omega arith, flat_join (next ∷ words) p.1)

pub flat_at : (text : List ℕ) (k : ℕ) → Flat text → k < length text → is_newline (get_or text k 0) ≡ false
flat_at [] k p lt = absurd (omega arith)
flat_at (b ∷ bs) zero p lt = let above = p.0 in ne_eqb b 10 (λ h. omega arith)
flat_at (b ∷ bs) (suc k) p lt = flat_at bs k p.1 (omega arith)

pub line_ends : (text rest : List ℕ) → Flat text → line_len (text ++ 10 ∷ rest) ≡ length text
line_ends text rest flat =
    let len = length-append text (10 ∷ rest) in
    position_or_len_is is_newline (text ++ 10 ∷ rest) (length text) 0 (omega (arith, len))
    (λ k lt. rw (get_or_append_left text (10 ∷ rest) 0 k lt) (flat_at text k flat lt))
    (λ lt. let k : length text ≤ length text = omega arith in
    let z : 0 ≡ length text - length text = omega arith in
    ap is_newline (get_or-append_right text (10 ∷ rest) (length text) 0 k) ∙ ap (λ (i : ℕ). is_newline (get_or (10 ∷ rest) i 0)) (sym z))

-- ---- one line, and what follows it

-- the front line of some text
front_is : (text rest : List ℕ) → Flat text → line_at ((text ++ 10 ∷ []) ++ rest) ≡ and_rest (line_of (slice_split is_blank text)) rest
unfolding line_at
front_is text rest flat =
    let whole = append_assoc text (10 ∷ []) rest in
    let here : line_len ((text ++ 10 ∷ []) ++ rest) ≡ length text = ap line_len whole ∙ line_ends text rest flat in
    let front : take (length text) ((text ++ 10 ∷ []) ++ rest) ≡ text = ap (take (length text)) whole ∙ take_at text (10 ∷ rest) (length text) refl in
    let long : length (text ++ 10 ∷ []) ≡ length text + 1 = omega (arith, length-append text (10 ∷ [])) in
    let behind = drop_at (text ++ 10 ∷ []) rest (length text + 1) long in
    rw (here, front, behind) refl

words_of : (words : List (List ℕ)) → all_solid words ≡ true → (x : Line) → line_of words ≡ Some x → line_of (slice_split is_blank (join_with_byte 32 words)) ≡ Some x
unfolding line_of
words_of [] e x h = absurd cc
words_of (word ∷ words) e x h = ap line_of (split_back word words e) ∙ h

pub read_back : (x : Line) (rest : List ℕ) → FitsTranscript x → line_at (line_text x ++ rest) ≡ Some (x, rest)
unfolding line_text
read_back x rest fits =
    let all = line_solid x fits in
    front_is (join_with_byte 32 (line_words x)) rest (flat_join (line_words x) all)
    ∙ ap (λ (o : Option Line). and_rest o rest) (words_of (line_words x) all x (line_back x fits))

-- no two texts of lines begin alike
pub one_line : (a b : Line) (x y : List ℕ) → FitsTranscript a → FitsTranscript b → line_text a ++ x ≡ line_text b ++ y → (a ≡ b) × (x ≡ y)
one_line a b x y first second same =
    let e : (a, x) ≡ (b, y) = same_Some (a, x) (b, y) (sym (read_back a x first) ∙ ap line_at same ∙ read_back b y second) in
    (ap (λ (p : Line × List ℕ). p.0) e, ap (λ (p : Line × List ℕ). p.1) e)

-- ---- a transcript

abbrev nothing : Option (Line × List ℕ)
nothing = None

not_nothing : (p : Line × List ℕ) → nothing ≡ Some p → ⊥
not_nothing p e = cc

no_line : (x : Line) (rest : List ℕ) → FitsTranscript x → [] ≡ line_text x ++ rest → ⊥
unfolding line_at line_of
no_line x rest fits e = not_nothing (x, rest) (ap line_at e ∙ read_back x rest fits)

each_line : (a b : List Line) → AllByRecursion FitsTranscript a → AllByRecursion FitsTranscript b → flat_map line_text a ≡ flat_map line_text b → a ≡ b
each_line [] [] p q e = refl
each_line [] (y ∷ ys) p q e = absurd (no_line y (flat_map line_text ys) q.0 e)
each_line (x ∷ xs) [] p q e = absurd (no_line x (flat_map line_text xs) p.0 (sym e))
each_line (x ∷ xs) (y ∷ ys) p q e =
    let one = one_line x y (flat_map line_text xs) (flat_map line_text ys) p.0 q.0 e in
    let more = each_line xs ys p.1 q.1 one.1 in
    cc (one.0, more)

pub one_transcript : (a b : List Line) → All FitsTranscript a → All FitsTranscript b → flat_map line_text a ≡ flat_map line_text b → a ≡ b
one_transcript a b first second = each_line a b (recursion_from_All _ _ first) (recursion_from_All _ _ second)
