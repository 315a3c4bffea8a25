pub mod AuditBase
pub mod Audits
pub mod Certificate
pub mod Inner
pub mod Serving
