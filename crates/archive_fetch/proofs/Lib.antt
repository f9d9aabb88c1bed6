mod Contents
mod Ending
mod EndPages
mod Numbers
mod Placed
mod Ranges
mod Tags
mod Slashes
