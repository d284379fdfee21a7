pub mod AcceptanceLaws
