-- the law
pub mod SameNames
