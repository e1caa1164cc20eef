mod Mapped
mod Needs
