mod Finds
mod Prints
mod Spaces
mod Wholes
