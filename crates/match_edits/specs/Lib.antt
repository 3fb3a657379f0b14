-- Edits of every match of a page.
pub mod Edit
pub mod Examples
