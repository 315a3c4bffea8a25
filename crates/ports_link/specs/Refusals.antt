-- The lines of refused Hellos.
use Rattle.std.specs.Prelude.{ℕ, List, [], ◌∷◌, codes, decimal}
use Rattle.transcript.specs.Words.{byte_text}
use Rattle.transcript.specs.Transcript.{ended}
use Rattle.ports_link.specs.declared.refused.Refused.{Refused}
use Rattle.ports_link.specs.declared.refused.Refused.TheVariants as refusals

-- `refused hello POSITION N K CLOUD` with its newline
unfoldable pub hello_numbers : ℕ → ℕ → ℕ → ℕ → List ℕ
hello_numbers position n k cloud =
    ended (codes "refused" ∷ codes "hello" ∷ decimal position ∷ decimal n ∷ decimal k ∷ decimal cloud ∷ [])

-- the line of a refusal with its newline
unfoldable pub refused_text : Refused → List ℕ
refused_text (refusals.Hello position n k cloud) = hello_numbers position n k cloud
refused_text (refusals.Strange position kind) =
    ended (codes "refused" ∷ codes "strange" ∷ decimal position ∷ byte_text kind ∷ [])
