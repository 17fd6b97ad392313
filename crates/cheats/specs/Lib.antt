pub mod Cheats
