pub mod PanelText
pub mod PanelIn
pub mod PanelRoom
pub mod Lines
