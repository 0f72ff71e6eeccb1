pub mod Cookies
pub mod SetCookies
pub mod Jars
pub mod Joining
