mod DiskCame
mod DiskDone
mod DiskWrites
mod Pieces
mod Rooms
