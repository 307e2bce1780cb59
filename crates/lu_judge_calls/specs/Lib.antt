pub mod Marks
pub mod PieceTables
pub mod Tables
