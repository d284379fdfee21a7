pub mod AreaTree
