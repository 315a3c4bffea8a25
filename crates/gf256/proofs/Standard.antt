-- Products that FIPS 197, section 4.2, and the field's tables give.
use Rattle.std.proofs.Common.{◌≡◌, refl}
use Rattle.gf256.specs.Field.{product, carryless, remainder}

pub product-57-83 : product 0x57 0x83 ≡ 0xc1
unfolding product carryless remainder
product-57-83 = refl

pub product-57-13 : product 0x57 0x13 ≡ 0xfe
unfolding product carryless remainder
product-57-13 = refl

pub product-03-03 : product 0x03 0x03 ≡ 0x05
unfolding product carryless remainder
product-03-03 = refl
