pub mod HeldLaws
pub mod OneThing
