mod Noting
mod Turning
mod Undone
