mod Trials
mod CameTrials
mod Faults
mod Replies
mod Errors
mod Outs
mod AtEdge
mod FromSix
mod FromFour
pub mod Ranks
mod Levels
pub mod Whole
pub mod RunLists
mod RunSteps
mod RunQueue
mod RunDerived
mod RunNotes
mod RunTables
mod RunParts
mod RunAtEdge
mod RunFragments
mod RunAtRelay
mod RunSent
mod RunItems
mod RunEntries
mod RunGood
pub mod RunIsTrace
pub mod RunWalk
pub mod RunKept
mod Generations
mod Depths
mod PartsOnce
mod JourneysOnce
mod NoneFreed
