-- Lemmas on the summary as a table.
pub mod Cuts
pub mod MomentsBack
pub mod SummariesBack
pub mod Wholes
pub mod Written
