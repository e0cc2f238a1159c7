-- Laws of the plan file.
pub mod Numbers
pub mod Stores
pub mod Records
pub mod Layouts
pub mod Bands
pub mod Runs
pub mod Files
pub mod RoundTrip
pub mod CallTrips
pub mod BandFiles
pub mod Refusing
