mod Acts
mod Keywords
mod Lines
