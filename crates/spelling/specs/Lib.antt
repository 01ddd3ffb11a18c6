-- What bytes spell.
pub mod Number
