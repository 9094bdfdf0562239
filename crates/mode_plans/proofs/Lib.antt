pub mod Plans
pub mod Lists
