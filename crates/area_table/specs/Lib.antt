pub mod AreaTable
pub mod States
pub mod Table
