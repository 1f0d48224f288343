mod Beginning
mod Taken
