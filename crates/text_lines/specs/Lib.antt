-- Lines of text as code meets them; texts in form, texts as they are written, texts that are cut; parts of what is read.
pub mod Lines
pub mod Form
pub mod Written
pub mod Cut
pub mod Parts
