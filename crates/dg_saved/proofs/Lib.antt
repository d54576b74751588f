mod Calls
mod Opened
mod Places
mod Served
mod TextLines
mod Unopened
