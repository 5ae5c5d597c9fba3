-- A column of rows.
pub mod Column
