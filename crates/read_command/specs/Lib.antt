pub mod CloudAreas
pub mod Disks
pub mod Ends
pub mod JournalHalves
pub mod KeptFiles
pub mod LocalLink
pub mod Opening
pub mod Refusals
