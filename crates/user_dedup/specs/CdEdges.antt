-- What cd_edges says, for callers.
pub use Rattle.cd_edges.specs.Causes
