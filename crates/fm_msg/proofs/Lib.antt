mod Rows
mod Numerals
