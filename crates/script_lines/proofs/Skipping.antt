-- The lines of what a rebuild skipped, one after another.
use Rattle.std.proofs.Common.{◌≡◌, ℕ, zero, suc, ◌+◌, List, [], ◌∷◌, ◌++◌, map, take, Some, None, sym, ap, ◌∙◌, arith}
use Rattle.std.specs.Prelude.{slice_get}
use Rattle.std.proofs.lemmas.List.{map-append}
use Rattle.session_model.specs.Rebuild.skips.Skip.{Skip}
use Rattle.session_model.specs.Session.Texts.{text_of}
use Rattle.session_model.specs.Transcript.line.Line.{Line}
use Rattle.session_model.specs.Steps.{skip_line}
use Rattle.script_lines.proofs.Lines.{text_more}

take_next : {A : Type 0} (xs : List A) (place : ℕ) (x : A) → slice_get xs place ≡ Some x → take (suc place) xs ≡ take place xs ++ x ∷ []
take_next [] place x e = absurd (let f : None ≡ Some x = e in cc)
take_next {A} (y ∷ ys) zero x e = ap (λ (z : A). z ∷ []) (let f : Some y ≡ Some x = e in cc)
take_next {A} (y ∷ ys) (suc place) x e = ap (λ (l : List A). y ∷ l) (take_next ys place x e)

-- one more
pub skips_on : (before old new : List ℕ) (skips : List Skip) (place : ℕ) (skip : Skip) → slice_get skips place ≡ Some skip → old ≡ before ++ text_of (map skip_line (take place skips))
    → new ≡ old ++ text_of (skip_line skip ∷ []) → new ≡ before ++ text_of (map skip_line (take (place + 1) skips))
skips_on before old new skips place skip here so_far put =
    text_more before old new (map skip_line (take place skips)) (skip_line skip ∷ []) so_far put
    ∙ ap (λ (l : List Line). before ++ text_of l) (sym (map-append skip_line (take place skips) (skip ∷ [])))
    ∙ ap (λ (l : List Skip). before ++ text_of (map skip_line l)) (sym (take_next skips place skip here))
    ∙ ap (λ (n : ℕ). before ++ text_of (map skip_line (take n skips))) (let e : suc place ≡ place + 1 = omega arith in e)

-- the first line, and then those of the skips
pub done_on : (before mid new : List ℕ) (first : Line) (rest : List Line) → mid ≡ before ++ text_of (first ∷ []) → new ≡ mid ++ text_of rest → new ≡ before ++ text_of (first ∷ rest)
done_on before mid new first rest one two = text_more before mid new (first ∷ []) rest one two
