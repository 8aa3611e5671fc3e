mod Computed
mod Table
pub mod Lists
pub mod Edits
pub mod Answered
pub mod Effects
mod Written
pub mod Runs
pub mod Reached
mod Becoming
mod Contents
mod CellAt
mod SealedStays
mod Built
mod Secret
mod InvSound
mod InvTurns
mod InvNewCell
mod InvGood
pub mod InvCalls
mod InvFits
mod InvRuns
mod InvWritten
mod InvRegisters
pub mod InvHolds
mod IntegrityEdits
mod IntegrityCalls
pub mod Integrity
mod ConfSeen
mod ConfLike
mod ConfCalls
pub mod ConfRunning
mod ConfEnds
mod ConfRuns
pub mod Confidentiality
pub mod EventsMade
pub mod SameBuilt
pub mod EventsKeep
pub mod GoodProcessor
pub mod InPlace
