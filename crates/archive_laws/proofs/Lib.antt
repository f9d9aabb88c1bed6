mod Accepted
mod Calls
mod Cuts
mod Shown
mod Started
