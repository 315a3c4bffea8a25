pub mod MigrationModel
pub mod Said
pub mod ServeCommand
pub mod TakenOver
