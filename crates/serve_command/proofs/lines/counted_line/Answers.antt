use Rattle.std.proofs.Common.{◌≡◌, List, ℕ, [], ◌∷◌, ◌++◌, IfOk, codes, decimal, string_bytes, subst, append_assoc}
use Rattle.ports_link.specs.Transcript.Transcript.{ended}
use Rattle.serve_command.proofs.lines.counted_line.Goals as goal

spaced : (number word : List ℕ)
    → codes "connection " ++ (number ++ (32 ∷ (word ++ 10 ∷ []))) ≡ ended (codes "connection" ∷ number ∷ word ∷ [])
spaced number word = simp append_assoc

pub returns : goal.returns
returns c =
    subst (λ (bytes : List ℕ). IfOk c.format.result (λ line. string_bytes line ≡ bytes))
    (spaced (decimal c.args.number) c.args.word.now) c.format.ensures.ok
