pub mod Forecast
pub mod Fits
