pub mod Answers
pub mod Parents
pub mod Parts
pub mod Walks
pub mod Consults
pub mod Trees
pub mod PathLists
pub mod PathListLaws
