pub mod Record
mod Same
