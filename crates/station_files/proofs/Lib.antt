mod Behind
mod Moved
mod Placed
mod Sent
