pub mod PlatformPass
