pub mod Laws
pub mod WordLaws
pub mod NumeralLaws
pub mod HexadecimalLaws
pub mod KitHex
pub mod FieldLaws
pub mod Places
