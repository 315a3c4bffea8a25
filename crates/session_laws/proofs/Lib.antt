mod Leaving
mod Storing
mod Working
