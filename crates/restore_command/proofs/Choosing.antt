-- The lines of some of the clouds.
use Rattle.std.proofs.Common.{◌≡◌, ◌≢◌, ℕ, List, [], ◌∷◌, length, refl, sym, ◌∙◌, ap, subst, arith, inl, inr}
use Rattle.std.specs.Prelude.{All}
use Rattle.std.specs.List.{Contains}
use Rattle.std.proofs.lemmas.List.Elements.{All-nil, All-cons, All-head, All-tail}
use Rattle.ports_link.specs.CdBase.ids.CloudNo.{CloudNo}
use Rattle.ports_link.proofs.UserDedup.Owned.{contains_here, contains_later, contains_cases, contains_nothing}
use Rattle.ports_link.specs.Hellos.{clouds_of}
use Rattle.restore_command.proofs.Lists.{Apart, NoneIs}
use Rattle.restore_command.specs.Calls.{named_in, ports_of}

-- the line of a cloud
pub record LineAt (all : List (CloudNo × ℕ)) (cloud : ℕ) : Type 0 where
  pub line : CloudNo × ℕ
  pub has : Contains all line
  pub is : line.0.0 ≡ cloud

pub line_at : (all : List (CloudNo × ℕ)) (cloud : ℕ) → Contains (clouds_of all) cloud → LineAt all cloud
line_at [] cloud has = absurd (contains_nothing cloud has)
line_at (line ∷ all) cloud has = elim (contains_cases line.0.0 (clouds_of all) cloud has) [
  | inl e ↦ record { line = line; has = contains_here line all; is = e }
  | inr later ↦
      let l = line_at all cloud later in record { line = l.line; has = contains_later line all l.line l.has; is = l.is }
]

pub cloud_of : (all : List (CloudNo × ℕ)) (line : CloudNo × ℕ) → Contains all line
    → Contains (clouds_of all) line.0.0
cloud_of [] line has = absurd (contains_nothing line has)
cloud_of (first ∷ all) line has = elim (contains_cases first all line has) [
  | inl e ↦ subst (λ (l : CloudNo × ℕ). Contains (first.0.0 ∷ clouds_of all) l.0.0) e
      (contains_here first.0.0 (clouds_of all))
  | inr later ↦ contains_later first.0.0 (clouds_of all) line.0.0 (cloud_of all line later)
]

pub port_of : (all : List (CloudNo × ℕ)) (line : CloudNo × ℕ) → Contains all line → Contains (ports_of all) line.1
port_of [] line has = absurd (contains_nothing line has)
port_of (first ∷ all) line has = elim (contains_cases first all line has) [
  | inl e ↦ subst (λ (l : CloudNo × ℕ). Contains (first.1 ∷ ports_of all) l.1) e
      (contains_here first.1 (ports_of all))
  | inr later ↦ contains_later first.1 (ports_of all) line.1 (port_of all line later)
]

pub name_of : (all : List (CloudNo × ℕ)) (line : CloudNo × ℕ) → Contains all line → Contains (named_in all) line.0
name_of [] line has = absurd (contains_nothing line has)
name_of (first ∷ all) line has = elim (contains_cases first all line has) [
  | inl e ↦ subst (λ (l : CloudNo × ℕ). Contains (first.0 ∷ named_in all) l.0) e
      (contains_here first.0 (named_in all))
  | inr later ↦ contains_later first.0 (named_in all) line.0 (name_of all line later)
]

-- lines of these clouds
pub record Chosen (all : List (CloudNo × ℕ)) (subset : List ℕ) : Type 0 where
  pub lines : List (CloudNo × ℕ)
  pub clouds : clouds_of lines ≡ subset
  pub among : All (Contains all) lines

pub choose : (all : List (CloudNo × ℕ)) (subset : List ℕ)
    → ((cloud : ℕ) → Contains subset cloud → Contains (clouds_of all) cloud) → Chosen all subset
choose all [] within = record { lines = []; clouds = refl; among = All-nil (Contains all) }
choose all (cloud ∷ subset) within =
    let l = line_at all cloud (within cloud (contains_here cloud subset)) in
    let more = choose all subset (λ c has. within c (contains_later cloud subset c has)) in
    record {
      lines = l.line ∷ more.lines;
      clouds = λ i. l.is i ∷ more.clouds i;
      among = All-cons (Contains all) l.line more.lines l.has more.among;
    }

-- ---- clouds that differ have one line each

other_cloud : (cloud : ℕ) (all : List (CloudNo × ℕ)) (line : CloudNo × ℕ) → NoneIs cloud (named_in all)
    → Contains all line → cloud ≢ line.0.0
other_cloud cloud [] line none has = absurd (contains_nothing line has)
other_cloud cloud (first ∷ all) line none has = elim (contains_cases first all line has) [
  | inl e ↦ subst (λ (l : CloudNo × ℕ). cloud ≢ l.0.0) e none.0
  | inr later ↦ other_cloud cloud all line none.1 later
]

one_line : (all : List (CloudNo × ℕ)) (a b : CloudNo × ℕ) → Apart (named_in all) → Contains all a → Contains all b
    → a.0.0 ≡ b.0.0 → a ≡ b
one_line [] a b differ has_a has_b same = absurd (contains_nothing a has_a)
one_line (line ∷ all) a b differ has_a has_b same = elim (contains_cases line all a has_a) [
  | inl here ↦ elim (contains_cases line all b has_b) [
    | inl there ↦ sym here ∙ there
    | inr later ↦
        absurd (other_cloud line.0.0 all b differ.0 later (ap (λ (l : CloudNo × ℕ). l.0.0) here ∙ same))
  ]
  | inr later ↦ elim (contains_cases line all b has_b) [
    | inl there ↦
        absurd (other_cloud line.0.0 all a differ.0 later (ap (λ (l : CloudNo × ℕ). l.0.0) there ∙ sym same))
    | inr further ↦ one_line all a b differ.1 later further same
  ]
]

pub same_lines : (all xs ys : List (CloudNo × ℕ)) → Apart (named_in all) → All (Contains all) xs
    → All (Contains all) ys → clouds_of xs ≡ clouds_of ys → xs ≡ ys
same_lines all [] [] differ in_xs in_ys e = refl
same_lines all [] (y ∷ ys) differ in_xs in_ys e =
    absurd (let n : 0 ≡ length (clouds_of (y ∷ ys)) = ap length e in omega (arith, n))
same_lines all (x ∷ xs) [] differ in_xs in_ys e =
    absurd (let n : length (clouds_of (x ∷ xs)) ≡ 0 = ap length e in omega (arith, n))
same_lines all (x ∷ xs) (y ∷ ys) differ in_xs in_ys e =
    let both = heads x.0.0 y.0.0 (clouds_of xs) (clouds_of ys) e in
    let one = one_line all x y differ (All-head (Contains all) x xs in_xs) (All-head (Contains all) y ys in_ys) both.0 in
    let rest = same_lines all xs ys differ (All-tail (Contains all) x xs in_xs) (All-tail (Contains all) y ys in_ys)
    both.1 in
    λ i. one i ∷ rest i
  where
    heads : (a b : ℕ) (more others : List ℕ) → a ∷ more ≡ b ∷ others → (a ≡ b) × (more ≡ others)
    heads a b more others same = (cc, cc)
