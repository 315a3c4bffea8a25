-- What a call says of its answer, once it is known which it is; that an end which came was asked for.
use Rattle.std.proofs.Common.{◌≡◌, ℕ, ◌+◌, ◌-◌, ◌≤◌, List, [], ◌∷◌, ◌++◌, length, ap, sym, ◌∙◌, arith, true, false}
use Rattle.std.specs.Prelude.{Result, Ok, Err, OnOk, OnErr}
use Rattle.std.specs.Result.{is_ok}
use Rattle.std.proofs.lemmas.List.{length-append}
use Rattle.rabin_chunker.specs.Cuts.{ends_after}
use Rattle.rabin_chunker.proofs.Steps.{ends_after-add}

pub at_ok : {T E P : Type 0} (r : Result T E) → OnOk r P → is_ok r ≡ true → P
at_ok (Ok v) h e = h
at_ok (Err x) h e = cc

pub at_err : {T E P : Type 0} (r : Result T E) → OnErr r P → is_ok r ≡ false → P
at_err (Ok v) h e = cc
at_err (Err x) h e = h

-- an end that was found within the piece is among those that the piece decides
pub end_is_asked : (file before now : List ℕ) (from k n long x : ℕ) → n ≤ long → now ≡ before ++ ends_after file from k
    → now ++ x ∷ [] ≡ before ++ ends_after file from n → ends_after file from long ≡ [] → ⊥
end_is_asked file before now from k n long x le held more none =
    let rest : ℕ = long - n in
    let all : n + rest ≡ long = omega arith in
    let split : ends_after file from n ++ ends_after file (from + n) rest ≡ [] =
    sym (ends_after-add file from n rest) ∙ ap (ends_after file from) all ∙ none in
    let a : length (ends_after file from n) + length (ends_after file (from + n) rest) ≡ 0 =
    sym (length-append (ends_after file from n) (ends_after file (from + n) rest)) ∙ ap length split in
    let b : length now ≡ length before + length (ends_after file from k) = ap length held ∙ length-append before (ends_after file from k) in
    let c : length now + 1 ≡ length before + length (ends_after file from n) =
    sym (length-append now (x ∷ [])) ∙ ap length more ∙ length-append before (ends_after file from n) in
    absurd (omega arith)
