-- What share_server says of copies, for callers.
pub use Rattle.share_server.specs.Copies
pub use Rattle.share_server.specs.declared.copies
