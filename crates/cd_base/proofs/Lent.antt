-- A list whose bytes were lent for writing.
use Rattle.std.proofs.Common.{◌≡◌, ℕ, List, length, drop}
use Rattle.std.proofs.lemmas.List.{take_at}
use Rattle.cd_base.specs.Lending.{with_bytes}

-- it holds what was left there
pub with_bytes_whole : (bytes given : List ℕ) → length given ≡ length bytes → with_bytes bytes given ≡ given
with_bytes_whole bytes given same = take_at given (drop (length given) bytes) (length bytes) same
