pub mod OneHop
