mod NumberSet
mod Marked
mod Ahead
mod Whole
mod Counting
