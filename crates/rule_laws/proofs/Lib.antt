pub mod Tabling
pub mod Accepting
pub mod Typing
pub mod Numbers
pub mod Meaning
pub mod Expressions
