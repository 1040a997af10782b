pub mod AddedColumns
pub mod FormedViews
pub mod NamedQueries
pub mod SoundViews
pub mod ViewsSettled
