pub mod ReadingItems
pub mod Standing
pub mod Turning
pub mod Leaving
pub mod Beginning
pub mod OtherCases
