pub mod EmissionOrder
pub mod EmissionPieces
pub mod GraphEdges
pub mod GraphOrders
pub mod EmissionForms
pub mod EmissionMeaning
pub mod EmissionMarks
pub mod EmissionCauses
