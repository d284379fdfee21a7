pub mod PlatformLaws
