mod Judged
mod WordLaws
mod Readers
mod RoomWords
mod Table
