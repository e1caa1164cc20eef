pub mod DumpLines
pub mod AsciiDumps
mod ReadBytes
mod Counting
