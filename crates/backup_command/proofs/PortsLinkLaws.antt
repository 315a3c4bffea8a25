-- What ports_link has proved, for callers.
pub use Rattle.ports_link.proofs.CloudLists
pub use Rattle.ports_link.proofs.Sending
pub use Rattle.ports_link.proofs.Talks
