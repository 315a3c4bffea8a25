-- What a write within one half leaves of that half and of the other.
use Rattle.std.proofs.Common.{◌≡◌, ◌⊎◌, inl, inr, ℕ, ◌+◌, ◌-◌, ◌*◌, ◌≤◌, List, ◌++◌, length, take, drop, sym, ◌∙◌, ap, subst, arith, append_assoc, length-take, length-drop}
use Rattle.std.proofs.Math.Seq.{take-add}
use Rattle.std.proofs.lemmas.List.{drop_at, drop-drop, drop-take, take-take}
use Rattle.cd_edges.specs.Disk.{overwritten}
use Rattle.cd_edges.proofs.Torn.{Torn}
use Rattle.journal_halves.proofs.Chain.{overwritten_within}
use Rattle.journal_halves.specs.Halves.{half_len}
use Rattle.journal_halves.specs.Findings.{part_of}

-- what stays of an area stays of its places from one on
pub torn_drop : (b place end : ℕ) (old new : List ℕ) (p e : ℕ) → p ≡ b + place → e ≡ b + end → Torn old p e new → Torn (drop b old) place end (drop b new)
torn_drop b place end old new p e is_p is_e t = record {
  no_shorter = omega (arith, t.no_shorter, length-drop b old, length-drop b new);
  no_longer = omega (arith, t.no_longer, is_e, length-drop b old, length-drop b new);
  before = sym (drop-take b place new) ∙ ap (drop b) (subst (λ (n : ℕ). take n new ≡ take n old) is_p t.before) ∙ drop-take b place old;
  after = drop-drop end b new ∙ subst (λ (n : ℕ). drop n new ≡ drop n old) is_e t.after ∙ sym (drop-drop end b old);
}

-- the places behind a half, where nothing was written of them
behind_kept : (end : ℕ) (old new : List ℕ) → end ≤ half_len → drop end new ≡ drop end old → drop half_len new ≡ drop half_len old
behind_kept end old new le same =
    let n = half_len - end in let sum : half_len ≡ end + n = omega (arith, le) in
    ap (λ (m : ℕ). drop m new) sum ∙ sym (drop-drop n end new) ∙ ap (drop n) same ∙ drop-drop n end old ∙ ap (λ (m : ℕ). drop m old) (sym sum)

front_kept : (place : ℕ) (old new : List ℕ) → half_len ≤ place → take place new ≡ take place old → take half_len new ≡ take half_len old
front_kept place old new le same = sym (take-take half_len place new le) ∙ ap (take half_len) same ∙ take-take half_len place old le

-- the other half's places stay
pub other_kept : (half : ℕ) (old new : List ℕ) (place end : ℕ) → (half ≡ 0) ⊎ (half ≡ 1) → half * half_len ≤ place → end ≤ half * half_len + half_len → Torn old place end new → part_of (1 - half) new ≡ part_of (1 - half) old
other_kept half old new place end is from to t = elim is [
  | inl zero_is ↦ subst (λ (h : ℕ). part_of (1 - h) new ≡ part_of (1 - h) old) (sym zero_is) (ap (take half_len) (behind_kept end old new (omega (arith, zero_is, to)) t.after))
  | inr one_is ↦ subst (λ (h : ℕ). part_of (1 - h) new ≡ part_of (1 - h) old) (sym one_is) (front_kept place old new (omega (arith, one_is, from)) t.before)
]

-- a write is one of the half's places
pub overwritten_drop : (b place p : ℕ) (old bytes : List ℕ) → p ≡ b + place → p ≤ length old → drop b (overwritten old p bytes) ≡ overwritten (drop b old) place bytes
overwritten_drop b place p old bytes is within =
    let rest = drop (p + length bytes) old in
    let cut : take p old ≡ take b old ++ take place (drop b old) = ap (λ (n : ℕ). take n old) is ∙ take-add b place old in
    let same : rest ≡ drop (place + length bytes) (drop b old) = ap (λ (n : ℕ). drop n old) (omega (arith, is)) ∙ sym (drop-drop (place + length bytes) b old) in
    ap (drop b) (overwritten_within old p bytes within ∙ append_assoc (take p old) bytes rest ∙ ap (λ (l : List ℕ). l ++ (bytes ++ rest)) cut ∙ append_assoc (take b old) (take place (drop b old)) (bytes ++ rest))
    ∙ drop_at (take b old) (take place (drop b old) ++ (bytes ++ rest)) b (omega (arith, length-take b old, is, within))
    ∙ ap (λ (l : List ℕ). take place (drop b old) ++ (bytes ++ l)) same
    ∙ sym (append_assoc (take place (drop b old)) bytes (drop (place + length bytes) (drop b old)))
    ∙ sym (overwritten_within (drop b old) place bytes (omega (arith, is, within, length-drop b old)))
