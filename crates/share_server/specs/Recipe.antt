-- What recipe says, for callers.
pub use Rattle.server_requests.specs.Recipe.Reading
pub use Rattle.server_requests.specs.Recipe.Spelling
pub use Rattle.server_requests.specs.Recipe.recipe
