pub mod WentLaws
