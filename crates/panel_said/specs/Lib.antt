pub mod PanelSaid
pub mod Reordering
pub mod Program
