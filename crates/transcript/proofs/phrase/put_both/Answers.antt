use Rattle.std.proofs.Common.{List, ℕ, [], ◌∷◌, ◌≡◌, ◌++◌, refl, sym, ap, ◌∙◌, map, append_assoc}
use Rattle.transcript.specs.Words.{behind, spaced}
use Rattle.transcript.specs.Phrases.{value_text, phrase_name, phrase_values, phrase_words}
use Rattle.transcript.proofs.phrase.put_both.Goals as goal

behind_append : (xs ys : List (List ℕ)) → behind (xs ++ ys) ≡ behind xs ++ behind ys
behind_append [] ys = refl
behind_append (x ∷ xs) ys =
    ap (λ (l : List ℕ). 32 ∷ (x ++ l)) (behind_append xs ys)
    ∙ ap (λ (l : List ℕ). 32 ∷ l) (sym (append_assoc x (behind xs) (behind ys)))

-- words, a blank, and words
both : (out was now w : List ℕ) (ws : List (List ℕ)) (v : List ℕ) (vs : List (List ℕ)) → was ≡ out ++ spaced (w ∷ ws) → now ≡ was ++ 32 ∷ []
    → out ++ spaced (w ∷ ws ++ v ∷ vs) ≡ now ++ spaced (v ∷ vs)
both out was now w ws v vs first second = rw (second, first, behind_append ws (v ∷ vs)) (simp append_assoc)

pub returns-clause-ok : goal.returns-clause-ok
returns-clause-ok c =
    let first = c.args.first in
    let second = c.args.second in
    let whole : c.args.out.now ++ spaced (phrase_words first ++ phrase_words second) ≡ c.push.new.self ++ spaced (phrase_words second) =
    both c.args.out.now c.put_phrase.new.out c.push.new.self (phrase_name first) (map value_text (phrase_values first)) (phrase_name second)
    (map value_text (phrase_values second)) c.in_ok-put_phrase.ensures.ok c.in_ok-push.ensures.ok in
    rw whole c.put_phrase-2.ensures.ok
