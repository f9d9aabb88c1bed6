pub mod Action
