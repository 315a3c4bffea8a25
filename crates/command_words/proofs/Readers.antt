-- What is read from words was written so, and what was written is read again. Readers in a row are so too.
use Rattle.std.proofs.Common.{◌≡◌, ℕ, List, [], ◌∷◌, ◌++◌, Option, Some, None, refl, sym, ap, subst, ◌∙◌, append_assoc}
use Rattle.std.proofs.lemmas.List.{append-nil}
use Rattle.std.proofs.lemmas.Option.{same_Some}
use Rattle.session.proofs.Grammar.WordLaws.{Reads}
use Rattle.command_words.specs.Reading.{◌>>=◌, ◌▷◌, ◌▷▷◌, with_rest, word_at, done_at, whole}

-- a kind of words: what is read is spelled so, and what is spelled so is read
pub record Spells {A : Type 0} (read : List ℕ → Option A) (spell : A → List ℕ) (Fits : A → Type 0) : Type 0 where
  pub takes : (word : List ℕ) (x : A) → read word ≡ Some x → (word ≡ spell x) × Fits x
  pub again : (x : A) → Fits x → read (spell x) ≡ Some x

pub spells_by : {A : Type 0} {read : List ℕ → Option A} {spell : A → List ℕ} {Fits : A → Type 0}
    → Reads read spell Fits → Spells read spell Fits
spells_by laws = record { takes = laws.takes; again = laws.again }

-- a reader of words: what it takes from the front is spelled so, and what is spelled so is taken
pub record Lawful {A : Type 0} (f : List (List ℕ) → Option (A × List (List ℕ))) (spell : A → List (List ℕ))
    (Fits : A → Type 0) : Type 0 where
  pub takes : (words : List (List ℕ)) (x : A) (rest : List (List ℕ)) → f words ≡ Some (x, rest)
      → (words ≡ spell x ++ rest) × Fits x
  pub again : (x : A) (rest : List (List ℕ)) → Fits x → f (spell x ++ rest) ≡ Some (x, rest)

pub bind_some : {A B : Type 0} (o : Option A) (f : A → Option B) (y : B) → (o >>= f) ≡ Some y
    → (x : A) × (o ≡ Some x) × (f x ≡ Some y)
bind_some (Some x) f y e = (x, refl, e)
bind_some None f y e = absurd cc

-- ---- one word

rest_some : {A : Type 0} (o : Option A) (words : List (List ℕ)) (y : A × List (List ℕ)) → with_rest o words ≡ Some y
    → (x : A) × (o ≡ Some x) × ((x, words) ≡ y)
rest_some (Some x) words y e = (x, refl, same_Some (x, words) y e)
rest_some None words y e = absurd cc

word_takes : {A : Type 0} (read : List ℕ → Option A) (spell : A → List ℕ) (Fits : A → Type 0) → Spells read spell Fits
    → (words : List (List ℕ)) (x : A) (rest : List (List ℕ)) → word_at read words ≡ Some (x, rest)
    → (words ≡ (spell x ∷ []) ++ rest) × Fits x
unfolding word_at
word_takes read spell Fits laws [] x rest e = absurd cc
word_takes {A} read spell Fits laws (word ∷ words) x rest e =
    let r = rest_some (read word) words (x, rest) e in
    let t = laws.takes word r.0 r.1 in
    subst (λ (p : A × List (List ℕ)). (word ∷ words ≡ (spell p.0 ∷ []) ++ p.1) × Fits p.0) r.2
    (ap (λ (w : List ℕ). w ∷ words) t.0, t.1)

word_again : {A : Type 0} (read : List ℕ → Option A) (spell : A → List ℕ) (Fits : A → Type 0) → Spells read spell Fits
    → (x : A) (rest : List (List ℕ)) → Fits x → word_at read ((spell x ∷ []) ++ rest) ≡ Some (x, rest)
unfolding word_at
word_again read spell Fits laws x rest fits = ap (λ o. with_rest o rest) (laws.again x fits)

pub lawful_word : {A : Type 0} {read : List ℕ → Option A} {spell : A → List ℕ} {Fits : A → Type 0}
    → Spells read spell Fits → Lawful (word_at read) (λ x. spell x ∷ []) Fits
lawful_word {A} {read} {spell} {Fits} laws = record {
  takes = word_takes read spell Fits laws;
  again =
      word_again read spell Fits laws;
}

-- ---- two in a row, of which the first may bound the second

given_takes : {A B : Type 0} (f : List (List ℕ) → Option (A × List (List ℕ))) (sf : A → List (List ℕ))
    (Ff : A → Type 0) (g : A → List (List ℕ) → Option (B × List (List ℕ))) (sg : B → List (List ℕ))
    (Fg : A → B → Type 0)
    → Lawful f sf Ff → ((a : A) → Lawful (g a) sg (Fg a)) → (words : List (List ℕ)) (x : A × B) (rest : List (List ℕ))
    → (f ▷▷ g) words ≡ Some (x, rest)
    → (words ≡ (sf x.0 ++ sg x.1) ++ rest) × (Ff x.0 × Fg x.0 x.1)
given_takes {A} {B} f sf Ff g sg Fg first second words x rest e =
    let a = bind_some (f words) (λ a. g a.0 a.1 >>= λ b. Some ((a.0, b.0), b.1)) (x, rest) e in
    let b = bind_some (g a.0.0 a.0.1) (λ b. Some ((a.0.0, b.0), b.1)) (x, rest) a.2 in
    let t = first.takes words a.0.0 a.0.1 a.1 in
    let u = (second a.0.0).takes a.0.1 b.0.0 b.0.1 b.1 in
    let made : (A × B) × List (List ℕ) = ((a.0.0, b.0.0), b.0.1) in
    subst (λ (p : (A × B) × List (List ℕ)). (words ≡ (sf p.0.0 ++ sg p.0.1) ++ p.1) × (Ff p.0.0 × Fg p.0.0 p.0.1))
    (same_Some made (x, rest) b.2)
    (t.0 ∙ ap (λ (w : List (List ℕ)). sf a.0.0 ++ w) u.0 ∙ sym (append_assoc (sf a.0.0) (sg b.0.0) b.0.1), (t.1, u.1))

given_again : {A B : Type 0} (f : List (List ℕ) → Option (A × List (List ℕ))) (sf : A → List (List ℕ))
    (Ff : A → Type 0) (g : A → List (List ℕ) → Option (B × List (List ℕ))) (sg : B → List (List ℕ))
    (Fg : A → B → Type 0)
    → Lawful f sf Ff → ((a : A) → Lawful (g a) sg (Fg a)) → (x : A × B) (rest : List (List ℕ)) → Ff x.0 × Fg x.0 x.1
    → (f ▷▷ g) ((sf x.0 ++ sg x.1) ++ rest) ≡ Some (x, rest)
given_again f sf Ff g sg Fg first second x rest fits =
    ap (f ▷▷ g) (append_assoc (sf x.0) (sg x.1) rest) ∙ rw (
      first.again x.0 (sg x.1 ++ rest) fits.0,
      (second x.0).again x.1 rest fits.1,
    ) refl

pub lawful_given : {A B : Type 0} {f : List (List ℕ) → Option (A × List (List ℕ))} {sf : A → List (List ℕ)}
    {Ff : A → Type 0} {g : A → List (List ℕ) → Option (B × List (List ℕ))} {sg : B → List (List ℕ)}
    {Fg : A → B → Type 0}
    → Lawful f sf Ff → ((a : A) → Lawful (g a) sg (Fg a))
    → Lawful (f ▷▷ g) (λ x. sf x.0 ++ sg x.1) (λ x. Ff x.0 × Fg x.0 x.1)
lawful_given {A} {B} {f} {sf} {Ff} {g} {sg} {Fg} first second = record {
  takes = given_takes f sf Ff g sg Fg first second;
  again = given_again f sf Ff g sg Fg first second;
}

-- two in a row
pub lawful_then : {A B : Type 0} {f : List (List ℕ) → Option (A × List (List ℕ))} {sf : A → List (List ℕ)}
    {Ff : A → Type 0} {g : List (List ℕ) → Option (B × List (List ℕ))} {sg : B → List (List ℕ)}
    {Fg : B → Type 0}
    → Lawful f sf Ff → Lawful g sg Fg → Lawful (f ▷ g) (λ x. sf x.0 ++ sg x.1) (λ x. Ff x.0 × Fg x.1)
lawful_then {A} {B} {f} {sf} {Ff} {g} {sg} {Fg} first second =
    lawful_given {f = f} {g = λ _. g} {Fg = λ _. Fg} first (λ _. second)

-- ---- all the words

done_some : {B : Type 0} (t : B) (rest : List (List ℕ)) (s : B) → done_at t rest ≡ Some s → (rest ≡ []) × (t ≡ s)
done_some t [] s e = (refl, same_Some t s e)
done_some t (word ∷ words) s e = absurd cc

pub whole_takes : {A B : Type 0} {f : List (List ℕ) → Option (A × List (List ℕ))} {spell : A
    → List (List ℕ)} {Fits : A → Type 0} → Lawful f spell Fits → (make : A → B) (words : List (List ℕ)) (s : B)
    → whole make f words ≡ Some s → (x : A) × (words ≡ spell x) × Fits x × (make x ≡ s)
whole_takes {A} {B} {f} {spell} {Fits} laws make words s e =
    let a = bind_some (f words) (λ x. done_at (make x.0) x.1) s e in
    let d = done_some (make a.0.0) a.0.1 s a.2 in
    let t = laws.takes words a.0.0 a.0.1 a.1 in
    (a.0.0, t.0 ∙ ap (λ (r : List (List ℕ)). spell a.0.0 ++ r) d.0 ∙ append-nil (spell a.0.0), t.1, d.1)

pub whole_again : {A B : Type 0} {f : List (List ℕ) → Option (A × List (List ℕ))} {spell : A
    → List (List ℕ)} {Fits : A → Type 0} → Lawful f spell Fits → (make : A → B) (x : A) → Fits x
    → whole make f (spell x) ≡ Some (make x)
whole_again {A} {B} {f} {spell} {Fits} laws make x fits = ap (whole make f) (sym (append-nil (spell x)))
    ∙ rw (laws.again x [] fits) refl
