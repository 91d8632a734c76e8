mod Reading
mod Parts
