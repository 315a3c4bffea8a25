-- The words of a phrase.
use Rattle.std.specs.Prelude.{ℕ, List, [], ◌∷◌, ◌++◌, map, codes, decimal}
use Rattle.grammar.specs.Hexadecimal.{hex}
use Rattle.transcript.specs.Words.{bytes_text, byte_text}
use Rattle.transcript.specs.declared.phrase.Value.{Value}
use Rattle.transcript.specs.declared.phrase.Value.TheVariants as values
use Rattle.transcript.specs.declared.phrase.Phrase.{Phrase}
use Rattle.transcript.specs.declared.phrase.Phrase.TheVariants as phrases
use Rattle.transcript.specs.declared.phrase.Said.{Said}
use Rattle.transcript.specs.declared.phrase.Said.TheVariants as ways

abbrev pub value_text : Value → List ℕ
value_text (values.Number number) = decimal number
value_text (values.Small number) = decimal number
value_text (values.Cloud cloud) = decimal cloud.0
value_text (values.Byte byte) = byte_text byte
value_text (values.Print print) = hex print
value_text (values.Name name) = name.now

abbrev pub phrase_name : Phrase → List ℕ
phrase_name (phrases.Bare name) = name.now
phrase_name (phrases.One name a) = name.now
phrase_name (phrases.Two name a b) = name.now
phrase_name (phrases.Three name a b c) = name.now
phrase_name (phrases.Four name a b c d) = name.now
phrase_name (phrases.Five name a b c d e) = name.now

abbrev pub phrase_values : Phrase → List Value
phrase_values (phrases.Bare name) = []
phrase_values (phrases.One name a) = a ∷ []
phrase_values (phrases.Two name a b) = a ∷ b ∷ []
phrase_values (phrases.Three name a b c) = a ∷ b ∷ c ∷ []
phrase_values (phrases.Four name a b c d) = a ∷ b ∷ c ∷ d ∷ []
phrase_values (phrases.Five name a b c d e) = a ∷ b ∷ c ∷ d ∷ e ∷ []

-- the name, and the words behind it
abbrev pub phrase_words : Phrase → List (List ℕ)
phrase_words phrase = phrase_name phrase ∷ map value_text (phrase_values phrase)

abbrev pub got_words : List ℕ → List (List ℕ)
got_words bytes = codes "got" ∷ bytes_text bytes ∷ []

abbrev pub said_words : Said → List (List ℕ)
said_words (ways.Plain phrase) = phrase_words phrase
said_words (ways.Both first second) = phrase_words first ++ phrase_words second
said_words (ways.Got bytes) = got_words bytes.now
