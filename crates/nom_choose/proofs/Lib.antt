mod First
mod Listed
