pub mod FormedBodies
