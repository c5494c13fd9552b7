mod TieLaws
mod NameLaws
mod Settling
mod OwnLaws
mod Transfers
mod Numbers
mod Taking
mod Admitting
mod Texts
mod Turns
mod Leaving
mod EntryOrder
mod MovedTies
mod TakingMoves
pub mod OwnHints
pub mod ContentIndex
