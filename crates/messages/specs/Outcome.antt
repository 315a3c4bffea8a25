-- What reading content returns.
use Rattle.std.specs.Prelude.{◌≡◌, ℕ, Result, Ok, Err}
use Rattle.messages.specs.declared.fault.MsgErr.{MsgErr}
use Rattle.messages.specs.declared.fault.MsgErr.TheVariants as errors

-- What a function returned is what reading gives, unless memory ran out.
abbrev pub IsMessageRead : {R : Type 0} → Result R MsgErr → Result R ℕ → Type 0
IsMessageRead (Ok r) reading = reading ≡ Ok r
IsMessageRead (Err errors.NoMemory) reading = Unit {0}
IsMessageRead (Err (errors.Malformed at)) reading = reading ≡ Err at
