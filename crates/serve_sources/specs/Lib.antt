pub mod Asking
pub mod Own
pub mod Answers
pub mod Credentials
pub mod Password
pub mod Fields
pub mod Framing
pub mod Reply
pub mod Offer
pub mod Body
-- the grammar of bodies, which the contracts of `Body` cite
pub use Rattle.http1.specs.Body as BodyGrammar
