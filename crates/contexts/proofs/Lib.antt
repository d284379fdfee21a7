pub mod LackingLaws
