-- Slots in the order of reading.
use Rattle.std.proofs.Common.{◌≡◌, ℕ, ◌+◌, ◌<◌, List, [], ◌∷◌, ◌++◌, length, slice_index_or, Result, Ok, refl, zero, suc, ap, ◌∙◌, subst, arith, below_more}
use Rattle.std.specs.List.Sorted.{IsPermutation}
use Rattle.std.proofs.lemmas.List.Elements.{Contains-append_left, Contains-push}
use Rattle.std.proofs.lemmas.List.Sorted.{Contains-permutation}
use Rattle.audit_base.specs.CdEdges.area.Area.{Area}
use Rattle.audit_base.specs.CdEdges.Disk.{Image}
use Rattle.blob_audit.specs.declared.errors.ReadErr.{ReadErr}
use Rattle.blob_audit.specs.declared.held.Held.{Held}
use Rattle.blob_audit.specs.Holding.{IsHeldInWindow, Along, IsSlotIn, HasAll, slot_at}
use Rattle.blob_audit.specs.Steps.{AllAs}
use Rattle.blob_audit.proofs.Listed.{one_more}

pub has_none : HasAll 0 []
has_none slot less = absurd (omega arith)

pub one_has : (slots at : ℕ) (order : List (ℕ × ℕ)) → HasAll slots order → HasAll (slots + 1) (order ++ (at, slots) ∷ [])
one_has slots at order all =
    below_more (IsSlotIn (order ++ (at, slots) ∷ [])) slots
    (λ slot less. let old = all slot less in record { at = old.at; has = Contains-append_left order ((at, slots) ∷ []) (old.at, slot) old.has })
    (record { at = at; has = Contains-push order (at, slots) })

pub has_sorted : (order sorted : List (ℕ × ℕ)) (slots : ℕ) → IsPermutation order sorted → HasAll slots order → HasAll slots sorted
has_sorted order sorted slots moved all slot less =
    let old = all slot less in
    record { at = old.at; has = Contains-permutation order sorted (old.at, slot) moved old.has }

-- an element that is there, whatever stands for none
read_there : (xs : List (ℕ × ℕ)) (k : ℕ) (d e : ℕ × ℕ) → k < length xs → slice_index_or xs k d ≡ slice_index_or xs k e
read_there [] k d e less = absurd (omega arith)
read_there (x ∷ xs) zero d e less = refl
read_there (x ∷ xs) (suc k) d e less = read_there xs k d e (omega (arith, less))

-- what is answered of a list that has all slots is answered of all slots
pub all_read : (Q : ℕ → Result (Unit {0}) ReadErr → Type 0) (slots : ℕ) (order : List (ℕ × ℕ)) → HasAll slots order → AllAs (length order) (λ i. Q (slot_at order i)) (Ok tt) → AllAs slots Q (Ok tt)
all_read Q slots order has all slot less =
    let there = has slot less in let c = there.has in let index = c.0 in
    let same : slice_index_or order index (0, 0) ≡ (there.at, slot) = read_there order index (0, 0) (there.at, slot) c.1 ∙ c.2 in
    subst (λ (s : ℕ). Q s (Ok tt)) (ap (λ (pair : ℕ × ℕ). pair.1) same) (all index c.1)

-- one more, with the window along
pub one_along : (area : Area) (Q : ℕ → Image → Result (Unit {0}) ReadErr → Type 0) (index : ℕ) (held new : Held) (window after : List ℕ) (image : Image)
    → AllAs index (λ i. Q i image) (Ok tt) × IsHeldInWindow (image area) held window → Along area (Q index) held window new after image (Ok tt)
    → AllAs (index + 1) (λ i. Q i image) (Ok tt) × IsHeldInWindow (image area) new after
one_along area Q index held new window after image before here =
    let now = here before.1 in
    (one_more (λ i. Q i image) index before.0 now.0, now.1)
