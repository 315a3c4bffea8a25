-- A blob in a window.
use Rattle.std.proofs.Common.{◌≡◌, ℕ, ◌+◌, ◌-◌, ◌≤◌, min, List, length, take, drop, sym, ap, ◌∙◌, arith, Result, Ok, Err, OnOk}
use Rattle.std.proofs.lemmas.List.{take-take, drop-take, drop-drop, take_min, drop_min}
use Rattle.audit_base.specs.CdBase.place.Place.{Place}
use Rattle.audit_base.specs.Whole.{stored_at}
use Rattle.blob_audit.specs.declared.held.Held.{Held}
use Rattle.blob_audit.specs.Holding.{IsHeldInWindow, Covers}

part_is : (area : List ℕ) (at asked from len whole : ℕ) → whole ≡ at + from → from + len ≤ asked → take len (drop from (take asked (drop at area))) ≡ take len (drop whole area)
part_is area at asked from len whole sum less =
    let more = asked - from in
    let split : asked ≡ from + more = omega arith in
    let fits : len ≤ more = omega arith in
    ap (λ (n : ℕ). take len (drop from (take n (drop at area)))) split
    ∙ ap (take len) (drop-take from more (drop at area))
    ∙ take-take len more (drop from (drop at area)) fits
    ∙ ap (take len) (drop-drop from at area)
    ∙ ap (λ (n : ℕ). take len (drop n area)) (sym sum)

pub blob_in : (area : List ℕ) (held : Held) (place : Place) (window front rest bytes : List ℕ) (skip count : ℕ) → Covers held place → IsHeldInWindow area held window
    → front ≡ take held.count window → skip ≡ min (place.at - held.at) (length front) → rest ≡ drop skip front → count ≡ min place.len (length rest) → bytes ≡ take count rest
    → bytes ≡ stored_at area place.at place.len
blob_in area held place window front rest bytes skip count covers is front_is skip_is rest_is count_is bytes_is =
    let from = place.at - held.at in
    let first = covers.first in let last = covers.last in
    let behind : rest ≡ drop from (stored_at area held.at held.asked)
    = rest_is ∙ ap (λ (n : ℕ). drop n front) skip_is ∙ drop_min from front ∙ ap (drop from) (front_is ∙ is.bytes) in
    let sum : place.at ≡ held.at + from = omega arith in
    let less : from + place.len ≤ held.asked = omega arith in
    bytes_is ∙ ap (λ (n : ℕ). take n rest) count_is ∙ take_min place.len rest ∙ ap (take place.len) behind ∙ part_is area held.at held.asked from place.len place.at sum less

pub on_ok : {A E X : Type 0} (r : Result A E) → X → OnOk r X
on_ok (Ok a) x = x
on_ok (Err e) x = tt
