pub mod NewFile
