mod Images
mod Moments
mod Parts
