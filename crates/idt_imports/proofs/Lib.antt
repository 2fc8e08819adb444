-- What is read of files of exported tables.
pub mod ColumnsRead
pub mod FilesRead
pub mod SummaryRead
