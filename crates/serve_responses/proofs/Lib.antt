mod Reading
mod OneResponse
mod Contents
mod Framing
mod Examples
