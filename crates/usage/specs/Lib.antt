pub mod Usage
