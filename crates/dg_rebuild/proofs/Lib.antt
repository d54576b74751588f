mod Answers
mod Counts
mod Members
mod Reaping
mod Steps
