mod Tables
mod Listed
mod Indexing
mod Parting
