mod Below
mod StreamBelow
