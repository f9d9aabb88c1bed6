mod CommandLists
mod Examples
mod Running
mod DiskWorlds
mod Worlds
