mod Clocks
mod Past
mod Sessions
mod Calls
mod Lists
mod Floors
mod Ending
mod Teams
