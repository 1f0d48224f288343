mod LineParts
mod Watching
