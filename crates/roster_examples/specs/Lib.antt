pub mod MiniText
