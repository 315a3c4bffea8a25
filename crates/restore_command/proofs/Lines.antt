-- The lines of a link over clouds that rise.
use Rattle.std.proofs.Common.{◌≡◌, ℕ, ◌<◌, ◌≤◌, List, [], ◌∷◌, length, refl, sym, ◌∙◌, ap, subst, arith}
use Rattle.std.proofs.Common.{set, replicate, length-set, inl, inr}
use Rattle.std.specs.Prelude.{All}
use Rattle.std.specs.List.Sorted.{IsStrictlyIncreasing}
use Rattle.std.proofs.lemmas.List.{get_or-set_same, get_or-set_other, length-replicate}
use Rattle.std.proofs.lemmas.List.Elements.{All-nil, All-cons, All-head, All-tail, All-weaker}
use Rattle.ports_link.specs.CdBase.Numbers.{numbers_of}
use Rattle.ports_link.specs.CdBase.ids.CloudNo.{CloudNo}
use Rattle.ports_link.specs.CdBase.shape.Shape.{Shape}
use Rattle.ports_link.proofs.UserDedup.Owned.{contains_here, contains_later, contains_cases, contains_nothing}
use Rattle.ports_link.proofs.CloudLists.{line_on}
use Rattle.ports_link.specs.declared.lines.CloudLine.{CloudLine}
use Rattle.ports_link.specs.Lines.{line_of, lines_for, no_line, with_ports}
use Rattle.ports_link.specs.Hellos.{clouds_of}
use Rattle.restore_command.proofs.Lists.{Apart, NoneIs, apart}
use Rattle.restore_command.specs.Calls.{named_in, ports_of}
use Rattle.restore_command.proofs.Passing.{AreOn}

-- each of these clouds is reached on its port
abbrev pub AreReachedBy : List CloudLine → List (CloudNo × ℕ) → Type 0
AreReachedBy lines named = All (λ (line : CloudNo × ℕ). line_of lines line.0.0 ≡ line_on line.1) named

-- ---- clouds

pub numbers_in : (lines : List (CloudNo × ℕ)) → numbers_of (named_in lines) ≡ clouds_of lines
numbers_in [] = refl
numbers_in (line ∷ lines) = ap (λ (l : List ℕ). line.0.0 ∷ l) (numbers_in lines)

heads_are : (a b : ℕ) (more rest : List ℕ) → a ∷ more ≡ b ∷ rest → (a ≡ b) × (more ≡ rest)
heads_are a b more rest e = (cc, cc)

pub same_clouds : (a b : List CloudNo) → numbers_of a ≡ numbers_of b → a ≡ b
same_clouds [] [] e = refl
same_clouds [] (y ∷ b) e = absurd (let n : 0 ≡ length (y ∷ b) = cc in omega (arith, n))
same_clouds (x ∷ a) [] e = absurd (let n : length (x ∷ a) ≡ 0 = cc in omega (arith, n))
same_clouds (x ∷ a) (y ∷ b) e =
    let both = heads_are x.0 y.0 (numbers_of a) (numbers_of b) e in
    ap (λ (n : ℕ). record { 0 = n } ∷ a) both.0 ∙ ap (λ (l : List CloudNo). y ∷ l) (same_clouds a b both.1)

-- ---- lines

kept_line : (base : List CloudLine) (lines : List (CloudNo × ℕ)) (cloud : ℕ) → NoneIs cloud (named_in lines)
    → line_of (with_ports base lines) cloud ≡ line_of base cloud
kept_line base [] cloud none = refl
kept_line base (line ∷ lines) cloud none =
    kept_line (set base line.0.0 (line_on line.1)) lines cloud none.1
    ∙ get_or-set_other base line.0.0 cloud (line_on line.1) no_line none.0

reached_by : (base : List CloudLine) (lines : List (CloudNo × ℕ)) → length base ≡ 256
    → All (λ cloud. cloud < 256) (clouds_of lines) → Apart (named_in lines) → AreReachedBy (with_ports base lines) lines
reached_by base [] long few differ = All-nil _
reached_by base (line ∷ lines) long few differ =
    All-cons (λ (l : CloudNo × ℕ). line_of (with_ports next lines) l.0.0 ≡ line_on l.1) line lines
    (kept_line next lines line.0.0 differ.0
    ∙ get_or-set_same base line.0.0 (line_on line.1) no_line (omega (
      arith,
      long,
      All-head (λ cloud. cloud < 256) line.0.0
          (clouds_of lines) few,
    )))
    (reached_by next lines (length-set base line.0.0 (line_on line.1) ∙ long) (All-tail (λ cloud. cloud < 256) line.0.0
    (clouds_of lines) few) differ.1)
  where
    next : List CloudLine
    next = set base line.0.0 (line_on line.1)

pub lines_reach : (lines : List (CloudNo × ℕ)) → All (λ cloud. cloud < 256) (clouds_of lines)
    → IsStrictlyIncreasing (clouds_of lines) → AreReachedBy (lines_for lines) lines
lines_reach lines few rises = reached_by (replicate 256 no_line) lines (length-replicate 256 no_line) few
    (apart (named_in lines) (subst IsStrictlyIncreasing (sym (numbers_in lines)) rises))

-- each cloud is reached on one of the ports
pub on_ports : (all : List CloudLine) (lines : List (CloudNo × ℕ)) → AreReachedBy all lines
    → AreOn all (clouds_of lines) (ports_of lines)
on_ports all [] reach cloud has = absurd (contains_nothing cloud has)
on_ports all (line ∷ lines) reach cloud has = elim (contains_cases line.0.0 (clouds_of lines) cloud has) [
  | inl here ↦ (
    line.1,
    ap (λ (n : ℕ). (line_of all n).port) (sym here)
        ∙ ap (λ (l : CloudLine). l.port) (All-head (λ (l : CloudNo × ℕ). line_of all l.0.0 ≡ line_on l.1) line lines reach),
    contains_here line.1 (ports_of lines),
  )
  | inr later ↦
      let more = on_ports all lines (All-tail (λ (l : CloudNo × ℕ). line_of all l.0.0 ≡ line_on l.1) line lines reach)
      cloud later in
      (more.0, more.1, contains_later line.1 (ports_of lines) more.0 more.2)
]

-- the clouds of a shape have numbers of a byte
pub few_clouds : (shape : Shape) (lines : List (CloudNo × ℕ)) → All (λ cloud. cloud < shape.n) (clouds_of lines)
    → shape.n ≤ 16 → All (λ cloud. cloud < 256) (clouds_of lines)
few_clouds shape lines below few = All-weaker (λ cloud. cloud < shape.n) (λ cloud. cloud < 256)
    (λ cloud less. omega (arith, less, few)) (clouds_of lines) below
