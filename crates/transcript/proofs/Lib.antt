pub mod Joined
pub mod LineLaws
pub mod LinesBack
pub mod Shapes
pub mod Texts
pub mod WordsBack
pub mod Written
pub mod CdEdges
