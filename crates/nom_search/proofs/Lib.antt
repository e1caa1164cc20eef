pub mod BytePlaces
pub mod TextPlaces
pub mod Tokens
mod CollectedText
