-- A journal has one chain.
use Rattle.std.proofs.Common.{◌≡◌, ◌⊎◌, inl, inr, ℕ, zero, suc, ◌+◌, ◌-◌, ◌%◌, ◌≤◌, true, List, ◌∷◌, Option, Some, None, sym, ◌∙◌, ap, subst, arith}
use Rattle.std.proofs.lemmas.Bool.{false≢true}
use Rattle.journal_halves.specs.Records.{IsJournal}
use Rattle.journal_halves.proofs.Unique.{one_journal}
use Rattle.journal_halves.proofs.Headed.{one_record, record_begun}
use Rattle.journal_start.specs.declared.start.Checkpoint.{Checkpoint}
use Rattle.journal_start.specs.declared.start.Start.{Start}
use Rattle.journal_start.specs.Ranges.{IsBehind}
use Rattle.journal_start.specs.Spelling.{start_bytes, epoch_of}
use Rattle.journal_start.proofs.Whole.{one}
use Rattle.journal_halves.specs.Halves.{half_of, is_half_begun, HasStart, IsCurrent}
use Rattle.journal_halves.specs.Journals.{Where, all_bodies, HasChain}

-- two epochs can't both be the later one
pub one_epoch : (a b : ℕ) → a ≤ 2 → b ≤ 2 → a ≡ (b + 1) % 3 → b ≡ (a + 1) % 3 → ⊥
one_epoch zero zero la lb e f = cc
one_epoch zero (suc zero) la lb e f = cc
one_epoch zero (suc (suc zero)) la lb e f = cc
one_epoch (suc zero) zero la lb e f = cc
one_epoch (suc zero) (suc zero) la lb e f = cc
one_epoch (suc zero) (suc (suc zero)) la lb e f = cc
one_epoch (suc (suc zero)) zero la lb e f = cc
one_epoch (suc (suc zero)) (suc zero) la lb e f = cc
one_epoch (suc (suc zero)) (suc (suc zero)) la lb e f = cc
one_epoch (suc (suc (suc a))) b la lb e f = omega arith
one_epoch zero (suc (suc (suc b))) la lb e f = omega arith
one_epoch (suc zero) (suc (suc (suc b))) la lb e f = omega arith
one_epoch (suc (suc zero)) (suc (suc (suc b))) la lb e f = omega arith

pub epoch_small : (half format : ℕ) (o : Option Checkpoint) → IsBehind half format o → epoch_of o ≤ 2
epoch_small half format None is = omega arith
epoch_small half format (Some c) is = is.epoch

-- a half has one start
pub one_start : (journal : List ℕ) (half : ℕ) (a b : Start) → HasStart journal half a → HasStart journal half b → a ≡ b
one_start journal half a b s t = one half a b s.is_start t.is_start (one_record (half_of half journal) (start_bytes a) (start_bytes b) s.record_is t.record_is)

pub begun_half : (journal : List ℕ) (half : ℕ) (a : Start) → HasStart journal half a → is_half_begun half journal ≡ true
begun_half journal half a s = record_begun (half_of half journal) (start_bytes a) s.record_is

-- where the other half is begun, its epoch is the one before
pub other_before : (journal : List ℕ) (half : ℕ) (a b : Start) → IsCurrent journal half a → HasStart journal (1 - half) b → epoch_of a.checkpoint ≡ (epoch_of b.checkpoint + 1) % 3
other_before journal half a b c t = elim c.other [
  | inl none ↦ absurd (false≢true (sym none ∙ begun_half journal (1 - half) b t))
  | inr before ↦ before.2 ∙ ap (λ (s : Start). (epoch_of s.checkpoint + 1) % 3) (one_start journal (1 - half) before.0 b before.1 t)
]

-- the two halves aren't both the current one
pub not_both : (journal : List ℕ) (a b : Start) → IsCurrent journal 0 a → IsCurrent journal 1 b → ⊥
not_both journal a b c d =
    one_epoch (epoch_of a.checkpoint) (epoch_of b.checkpoint) (epoch_small 0 a.header.format a.checkpoint c.begun.is_start.behind) (epoch_small 1 b.header.format b.checkpoint d.begun.is_start.behind)
    (other_before journal 0 a b c d.begun) (other_before journal 1 b a d c.begun)

same_half : (journal : List ℕ) (i j : ℕ) (a b : Start) → (i ≡ 0) ⊎ (i ≡ 1) → (j ≡ 0) ⊎ (j ≡ 1) → IsCurrent journal i a → IsCurrent journal j b → i ≡ j
same_half journal i j a b is_i is_j c d = elim is_i [
  | inl zero_i ↦ elim is_j [
    | inl zero_j ↦ zero_i ∙ sym zero_j
    | inr one_j ↦ absurd (not_both journal a b (subst (λ (h : ℕ). IsCurrent journal h a) zero_i c) (subst (λ (h : ℕ). IsCurrent journal h b) one_j d))
  ]
  | inr one_i ↦ elim is_j [
    | inl zero_j ↦ absurd (not_both journal b a (subst (λ (h : ℕ). IsCurrent journal h b) zero_j d) (subst (λ (h : ℕ). IsCurrent journal h a) one_i c))
    | inr one_j ↦ one_i ∙ sym one_j
  ]
]

-- a journal has one current half, with one start
pub one_current : (journal : List ℕ) (i j : ℕ) (a b : Start) → IsCurrent journal i a → IsCurrent journal j b → a ≡ b
one_current journal i j a b c d =
    let half = same_half journal i j a b c.is_half d.is_half c d in
    one_start journal i a b c.begun (subst (λ (h : ℕ). HasStart journal h b) (sym half) d.begun)

pub tail_same : (x y : List ℕ) (xs ys : List (List ℕ)) → x ∷ xs ≡ y ∷ ys → xs ≡ ys
tail_same x y xs ys e = cc

-- a journal has one chain
pub one_chain : (journal : List ℕ) (w v : Where) → HasChain journal w → HasChain journal v → w ≡ v
one_chain journal w v c d =
    let half = same_half journal w.half v.half w.start v.start c.current.is_half d.current.is_half c.current d.current in
    let begun : HasStart journal w.half v.start = subst (λ (h : ℕ). HasStart journal h v.start) (sym half) d.current.begun in
    let start = one_start journal w.half w.start v.start c.current.begun begun in
    let bodies = tail_same (start_bytes w.start) (start_bytes v.start) w.bodies v.bodies
    (one_journal (all_bodies w) (all_bodies v) (half_of w.half journal) c.chain_is (subst (λ (h : ℕ). IsJournal (all_bodies v) (half_of h journal)) (sym half) d.chain_is)) in
    λ i. record { half = half i; start = start i; bodies = bodies i }
