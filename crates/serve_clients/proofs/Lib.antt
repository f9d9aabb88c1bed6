mod Counting
mod Rounds
