pub mod Certificate
pub mod Inner
pub mod Own
