-- What is read of two ranges.
use Rattle.std.proofs.Common.{◌≡◌, ◌⊎◌, inl, inr, ℕ, ◌+◌, ◌-◌, ◌<◌, ◌≤◌, min, List, [], ◌∷◌, ◌++◌, length, take, drop, get_or, ◌∙◌, sym, ap, subst, arith, length-append, length-take, length-drop, get_or-take, get_or-drop}
use Rattle.std.specs.Prelude.{replicate}
use Rattle.std.proofs.lemmas.List.{ext_get_or, drop-append-le, take-append-le}
use Rattle.cd_edges.specs.Shelf.{ReadsFrom}
use Rattle.mem_disk.specs.Areas.{joined}
use Rattle.mem_disk.proofs.Joined.{joined_long, joined_none, joined_above}

-- of the first range alone
pub reads_first : (first : List ℕ) (second : ℕ) (high : List ℕ) (at count : ℕ) (out : List ℕ) → at + length out ≤ length first → ReadsFrom first at count out → ReadsFrom (joined first second high) at count out
reads_first first second [] at count out within old = old
reads_first first second (x ∷ xs) at count out within old =
    let rest : List ℕ = replicate (second - length first) 0 ++ x ∷ xs in
    record {
      lesser = omega (arith, within, old.lesser, length-append first rest);
      bytes = old.bytes ∙ sym (ap (λ (l : List ℕ). take count l) (drop-append-le at first rest (omega (arith, within)))
          ∙ take-append-le count (drop at first) rest (omega (arith, within, old.lesser, length-drop at first)));
    }

-- each byte that is read
pub reads_each : (held : List ℕ) (at count : ℕ) (out : List ℕ) → count ≡ min (length out) (length held - at) → ((k : ℕ) → k < count → get_or out k 0 ≡ get_or held (at + k) 0) → ReadsFrom held at count out
reads_each held at count out lesser each = record {
  lesser = lesser;
  bytes = ext_get_or 0 (take count out) (take count (drop at held))
      (omega (arith, lesser, length-take count out, length-take count (drop at held), length-drop at held))
      (λ k within. let below : k < count = omega (arith, within, lesser, length-take count out) in
      get_or-take count out k 0 below ∙ each k below ∙ sym (get_or-take count (drop at held) k 0 below ∙ get_or-drop at held k 0));
}

-- of the second range alone
pub reads_second : (first : List ℕ) (second : ℕ) (high : List ℕ) (at count : ℕ) (out : List ℕ) → length first ≤ second → 0 < length high → second ≤ at → ReadsFrom high (at - second) count out → ReadsFrom (joined first second high) at count out
reads_second first second high at count out apart some from old = reads_each (joined first second high) at count out
    (omega (arith, old.lesser, from, joined_long first second apart high some))
    (λ k below. sym (get_or-take count out k 0 below) ∙ ap (λ (l : List ℕ). get_or l k 0) old.bytes ∙ get_or-take count (drop (at - second) high) k 0 below ∙ get_or-drop (at - second) high k 0
    ∙ sym (joined_above first second apart high (at + k) (omega (arith, from)) ∙ ap (λ (n : ℕ). get_or high n 0) (omega (arith, from))))

-- of the first range, where there is no other or it has all that is asked for
pub reads_low : (first : List ℕ) (second : ℕ) (high : List ℕ) (at count : ℕ) (out : List ℕ) → (length high ≡ 0) ⊎ (at + length out ≤ length first) → length first ≤ second → ReadsFrom first at count out → ReadsFrom (joined first second high) at count out
reads_low first second high at count out (inl none) apart old = subst (λ (l : List ℕ). ReadsFrom l at count out) (sym (joined_none first second apart high none)) old
reads_low first second high at count out (inr within) apart old = reads_first first second high at count out within old
