pub mod Listed
mod FirstWords
