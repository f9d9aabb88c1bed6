-- How long the bytes of pages are.
pub use Rattle.packetiser.specs.Laws.Appending.{length-bytes_of_pages}
