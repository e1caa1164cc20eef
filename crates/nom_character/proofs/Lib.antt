pub mod LineMatching
