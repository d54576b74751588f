mod Places
mod Takes
mod Plain
mod OneCommand
