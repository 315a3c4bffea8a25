pub mod Polynomial
pub mod Lagrange
pub mod Rows
pub mod Recovery
pub mod Shares
