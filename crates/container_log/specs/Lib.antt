pub mod Caches
pub mod Kept
pub mod Laying
pub mod Places
pub mod States
