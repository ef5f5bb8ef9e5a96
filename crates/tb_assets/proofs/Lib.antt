mod Grown
mod Escapes
mod Pages
