pub mod OpenedUnits
pub mod RefusedUnits
