-- What is proved of AES over shares (GoodKey), and the laws that lead there.
pub mod Sizes
pub mod Linear
pub mod Agree
pub mod EvenMansour
pub mod GoodKey
pub mod Sound
