mod Copied
mod Parted
mod Pieced
mod Placed
mod Salvaged
mod Unfinished
