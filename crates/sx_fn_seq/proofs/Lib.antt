mod Additions
mod Bests
mod Distinctness
mod Orders
mod Totals
