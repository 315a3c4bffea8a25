-- The lines of a cloud that is served.
use Rattle.std.specs.Prelude.{ℕ, ◌+◌, List, [], ◌∷◌, ◌++◌, codes, decimal}
use Rattle.serve_command.specs.declared.served.Served.{Served}
use Rattle.serve_command.specs.declared.served.Served.TheVariants as ends
use Rattle.ports_link.specs.Transcript.Transcript.{ended}

-- how a connection ended
abbrev pub end_word : Served → List ℕ
end_word ends.End = codes "end"
end_word (ends.Cut got) = codes "cut"
end_word (ends.BadLength found) = codes "length"
end_word ends.Spent = codes "spent"
end_word ends.Failed = codes "failed"

-- the line behind which connections to the address are taken
unfoldable pub ready_text : List ℕ → List ℕ
ready_text address = ended (codes "ready" ∷ address ∷ [])

-- the line of a connection, by its number
unfoldable pub connection_text : ℕ → Served → List ℕ
connection_text number served = ended (codes "connection" ∷ decimal number ∷ end_word served ∷ [])

-- the lines of connections in order, the first of which has this number
abbrev pub connection_texts : ℕ → List Served → List ℕ
connection_texts number [] = []
connection_texts number (served ∷ more) = connection_text number served ++ connection_texts (number + 1) more

-- all lines, where connections ended so: they are counted from 1
abbrev pub serving_text : List ℕ → List Served → List ℕ
serving_text address all = ready_text address ++ connection_texts 1 all
