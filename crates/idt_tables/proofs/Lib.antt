-- Files that come back, and what is read of them.
pub mod EachRead
pub mod HeadingsBack
pub mod LinesBack
pub mod TablesBack
pub mod LinesRead
pub mod WidthsRead
