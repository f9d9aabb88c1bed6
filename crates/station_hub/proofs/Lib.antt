mod Ended
mod Going
mod Keeping
mod Lasting
mod Losing
mod Marked
mod Owed
mod Tracked
