pub mod DirectivePass
