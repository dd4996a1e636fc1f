pub mod ByTask
