mod Choices
mod Taken
