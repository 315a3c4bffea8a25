mod Along
mod Clouds
mod Draws
mod Ends
mod Examples
mod Files
mod Generations
mod Gets
mod Growing
mod Lanes
mod Pieces
mod Ranges
mod Script
pub mod SessionModel
mod Stops
mod Tallies
mod Unarmed
