-- What recipe has proved, for callers.
pub use Rattle.server_requests.proofs.Recipe.Written
