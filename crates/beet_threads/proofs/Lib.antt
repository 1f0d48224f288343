mod Crosses
mod Ending
