-- What holds of links, of their chain state and of rules, and why LinkLaws holds. Nobody needs these to read a
-- contract.
pub mod Rules
pub mod Lent
pub mod Grow
pub mod LastLink
pub mod StateBehind
pub mod OwnSerials
pub mod PageRules
pub mod PageState
pub mod TakenLinks
pub mod Fronts
pub mod InTurn
pub mod LeftWhole
pub mod OneChain
pub mod Walked
pub mod Lengths
