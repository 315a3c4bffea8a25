-- What recipe says, for callers.
pub use Rattle.server_commands.specs.Recipe.Reading
pub use Rattle.server_commands.specs.Recipe.Spelling
pub use Rattle.server_commands.specs.Recipe.recipe
