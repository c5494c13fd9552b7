pub mod PieceSteps
pub mod WordLaws
pub mod BodyReading
pub mod TextReading
pub mod SlotFormulaLaws
pub mod FormulaPrinting
pub mod Puts
pub mod Groups
