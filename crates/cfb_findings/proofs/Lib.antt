pub mod Counting
pub mod Found
pub mod Linking
pub mod Listed
pub mod NoneFound
pub mod Rooming
pub mod SoundFile
pub mod Wholes
