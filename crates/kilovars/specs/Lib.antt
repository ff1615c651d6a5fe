pub mod Reactive
