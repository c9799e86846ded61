pub mod Numbers
mod TakingTurns
mod NamingShort
mod Fairness
mod Seeing
mod Accounts
mod Buffers
mod LingeringPlaces
mod Waiting
