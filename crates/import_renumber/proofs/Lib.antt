mod Staying
mod Steps
