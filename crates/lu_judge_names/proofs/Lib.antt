pub mod IndexLaws
pub mod Lines
pub mod Marks
pub mod Risen
pub mod Trees
pub mod FormedLines
pub mod LogLines
