mod CutAgain
mod ExcerptFiles
mod PartsFiles
