mod Growing
mod Packing
mod Keeping
mod Walking
mod Places
mod Complete
