-- What certificate says, for callers.
pub use Rattle.certificate.specs.Lines
pub use Rattle.certificate.specs.Reading
pub use Rattle.certificate.specs.declared.line
