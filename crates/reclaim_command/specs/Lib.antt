pub mod CommandCloud
pub mod GivenBack
pub mod Said
pub mod Steps
