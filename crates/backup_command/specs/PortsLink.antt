-- What ports_link says, for callers.
pub use Rattle.ports_link.specs.Dialled
pub use Rattle.ports_link.specs.Hellos
pub use Rattle.ports_link.specs.Lines
pub use Rattle.ports_link.specs.Meeting
pub use Rattle.ports_link.specs.Refusals
pub use Rattle.ports_link.specs.Sending
pub use Rattle.ports_link.specs.Tells
pub use Rattle.ports_link.specs.declared.greeting
pub use Rattle.ports_link.specs.declared.judging
pub use Rattle.ports_link.specs.declared.lines
pub use Rattle.ports_link.specs.declared.link
pub use Rattle.ports_link.specs.declared.meeting
