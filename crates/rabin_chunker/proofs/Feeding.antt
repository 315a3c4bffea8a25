-- Pieces that are fed in turn.
use Rattle.std.proofs.Common.{refl, ◌≡◌, ℕ, ◌+◌, ◌<◌, ◌≤◌, List, [], ◌∷◌, ◌++◌, length, take, get_or, ap, ◌∙◌, arith, add-one, append_assoc}
use Rattle.std.specs.List.{concat}
use Rattle.std.proofs.Math.Seq.{take-suc}
use Rattle.std.proofs.lemmas.List.{append-nil, take_all}
use Rattle.std.proofs.lemmas.List.Concat.{concat_is}
use Rattle.std.proofs.lemmas.List.Folds.{concat-append, length-flat_map-take}
use Rattle.rabin_chunker.specs.declared.chunker.Chunker.{Chunker}
use Rattle.rabin_chunker.specs.Cuts.{start_at, ends_after, last_end, ends}
use Rattle.rabin_chunker.specs.Reading.{HasRead}
use Rattle.rabin_chunker.proofs.Steps.{ends_after-none}
use Rattle.rabin_chunker.proofs.RuleLaws.{ends_of_more, ends_of_all}

-- the bytes of the first n pieces
abbrev pub fed_by : List (List ℕ) → ℕ → List ℕ
fed_by pieces n = concat (take n pieces)

pub fed_by-next : (pieces : List (List ℕ)) (n : ℕ) → n < length pieces → fed_by pieces (n + 1) ≡ fed_by pieces n ++ get_or pieces n []
fed_by-next pieces n lt =
    ap (λ (k : ℕ). fed_by pieces k) (add-one n) ∙ ap concat (take-suc pieces n [] lt)
    ∙ concat-append (take n pieces) (get_or pieces n [] ∷ []) ∙ ap (λ (x : List ℕ). fed_by pieces n ++ x) (append-nil (get_or pieces n []))

pub fed_by-all : (pieces : List (List ℕ)) (n : ℕ) → length pieces ≤ n → fed_by pieces n ≡ concat pieces
fed_by-all pieces n le = ap concat (take_all n pieces le)

pub fed_by-short : (pieces : List (List ℕ)) (n : ℕ) → n < length pieces → length (fed_by pieces n) + length (get_or pieces n []) ≤ length (concat pieces)
fed_by-short pieces n lt =
    let short = length-flat_map-take (λ (x : List ℕ). x) pieces n [] lt in
    omega (arith, short, ap length (concat_is pieces), ap length (concat_is (take n pieces)))

-- a chunker has read these bytes, and their ends stand after those before
pub record IsFed (chunker : Chunker) (before now fed : List ℕ) : Type 0 where
  pub read : HasRead chunker fed
  pub ends : now ≡ before ++ ends_after fed 0 (length fed)

pub fed_more : (before now new fed piece : List ℕ) → now ≡ before ++ ends_after fed 0 (length fed)
    → new ≡ now ++ ends_after (fed ++ piece) (length fed) (length piece) → new ≡ before ++ ends_after (fed ++ piece) 0 (length (fed ++ piece))
fed_more before now new fed piece held more =
    more ∙ ap (λ (x : List ℕ). x ++ ends_after (fed ++ piece) (length fed) (length piece)) held
    ∙ append_assoc before (ends_after fed 0 (length fed)) (ends_after (fed ++ piece) (length fed) (length piece))
    ∙ ap (λ (x : List ℕ). before ++ x) (ends_of_more fed piece)

pub fed_all : (before now new fed : List ℕ) → now ≡ before ++ ends_after fed 0 (length fed) → new ≡ now ++ last_end fed → new ≡ before ++ ends fed
fed_all before now new fed held more =
    more ∙ ap (λ (x : List ℕ). x ++ last_end fed) held ∙ append_assoc before (ends_after fed 0 (length fed)) (last_end fed)
    ∙ ap (λ (x : List ℕ). before ++ x) (ends_of_all fed)

-- with no bytes there is no end
pub none_more : (pieces : List (List ℕ)) (n : ℕ) (file piece : List ℕ) (from : ℕ) → n < length pieces → concat pieces ≡ [] → piece ≡ get_or pieces n []
    → ends_after file from (length piece) ≡ []
none_more pieces n file piece from lt none same =
    let all : length (concat pieces) ≡ 0 = ap length none in
    let short : length piece ≡ 0 = omega (arith, all, ap length same, fed_by-short pieces n lt) in
    ap (λ (k : ℕ). ends_after file from k) short ∙ ends_after-none file from

pub none_last : (file : List ℕ) → file ≡ [] → last_end file ≡ []
unfolding last_end start_at
none_last file none = rw none refl
