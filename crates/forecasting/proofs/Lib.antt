mod Runs
mod Answers
