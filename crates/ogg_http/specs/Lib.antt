pub mod Digits
pub mod Fields
pub mod Head
pub mod Target
pub mod Range
pub mod Answer
pub mod Laws
-- the grammar of heads, which the contracts of `read_head` cite
pub use Rattle.httparse.specs.Grammar
pub use Rattle.httparse.specs.Spans
