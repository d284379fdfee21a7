pub mod KeptFor
