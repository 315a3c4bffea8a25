use Rattle.std.specs.Prelude.{string_bytes}
use Rattle.command_words.proofs.WordLaws.{some_words}
use Rattle.command_words.proofs.fields.no_word.Goals as goal

pub returns-in-len1-up : goal.returns-in-len1-up
returns-in-len1-up c = some_words (λ word. string_bytes word) c.args.words.now c.in-len1-up.len_at_least
