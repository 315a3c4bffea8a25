use Rattle.std.proofs.Common.{◌≡◌, List, ℕ, [], ◌∷◌, IfOk, codes, decimal, string_bytes, subst}
use Rattle.ports_link.specs.Transcript.Transcript.{ended}
use Rattle.serve_command.specs.Lines.{connection_text}
use Rattle.serve_command.proofs.lines.connection_line.Goals as goal

pub returns : goal.returns
unfolding connection_text
returns c =
    subst (λ (w : List ℕ). IfOk c.counted_line.result
    (λ line. string_bytes line ≡ ended (codes "connection" ∷ decimal c.args.number ∷ w ∷ [])))
    c.word_of.ensures c.counted_line.ensures
