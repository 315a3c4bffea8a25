-- What a list of bytes becomes that is lent for writing.
use Rattle.std.specs.Prelude.{ℕ, List, ◌++◌, length, take, drop}
use Rattle.std.specs.Borrow.{Lends, MutBor, Fml, Array, u8}
use Rattle.cd_base.specs.contracts.bytes.Bytes.{the_row}

-- a list with its first bytes set to the given ones: these bytes themselves, where there are as many
abbrev pub with_bytes : List ℕ → List ℕ → List ℕ
with_bytes bytes given = take (length bytes) (given ++ drop (length given) bytes)

-- the list ends with the last bytes behind the slice, which is as long
abbrev pub LendsAll : MutBor (List ℕ) → MutBor (List ℕ) → Fml
LendsAll bytes slice = Lends the_row (Array u8 0) bytes slice (with_bytes bytes.now)
