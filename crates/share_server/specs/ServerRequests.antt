-- What server_requests says, for callers.
pub use Rattle.server_requests.specs.Asking
pub use Rattle.server_requests.specs.Hashed
