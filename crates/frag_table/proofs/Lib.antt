pub mod Keys
pub mod LiveNotes
pub mod EachRow
pub mod WithinBounds
pub mod AnswerKinds
pub mod HeldParcels
