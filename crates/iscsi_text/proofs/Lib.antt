pub mod Parts
pub mod Lists
pub mod StringList
pub mod PieceFaults
pub mod Pieces
pub mod Keys
pub mod ReadAgain
pub mod Cuts
