mod Ending
mod Imported
mod Passing
