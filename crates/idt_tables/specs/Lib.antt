-- What files of exported tables say.
pub mod Lines
pub mod Headings
pub mod Tables
pub mod HeadingsOf
