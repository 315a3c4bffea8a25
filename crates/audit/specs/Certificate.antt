-- What certificate says, for callers.
pub use Rattle.own_certificate.specs.Certificate.Lines
