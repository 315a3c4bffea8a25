use Rattle.gf256.proofs.Bilinear.{product_right}
use Rattle.gf256.proofs.Laws.{product_lt, product_comm, product_assoc, product_zero, product_one, product_inverse, inverse_only, not_zero-from_one, no_zero_divisors}
use Rattle.gf256.proofs.field_laws.Goals as goal

pub returns-clause-byte : goal.returns-clause-byte
returns-clause-byte c = product_lt

pub returns-clause-commutative : goal.returns-clause-commutative
returns-clause-commutative c = product_comm

pub returns-clause-associative : goal.returns-clause-associative
returns-clause-associative c = product_assoc

pub returns-clause-distributive : goal.returns-clause-distributive
returns-clause-distributive c = product_right

pub returns-clause-zero : goal.returns-clause-zero
returns-clause-zero c = product_zero

pub returns-clause-one : goal.returns-clause-one
returns-clause-one c = product_one

pub returns-clause-inverses : goal.returns-clause-inverses
returns-clause-inverses c = product_inverse

pub returns-clause-only_inverse : goal.returns-clause-only_inverse
returns-clause-only_inverse c = λ a b ha hb e. inverse_only a b ha hb (not_zero-from_one a b e) e

pub returns-clause-no_zero_divisors : goal.returns-clause-no_zero_divisors
returns-clause-no_zero_divisors c = no_zero_divisors
