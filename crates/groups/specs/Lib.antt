-- Hash, groups and entries in groups: a page's two groups, one group as 64 bytes of the table, and its free entries.
pub mod Page
pub mod Hash
pub mod Group
pub mod Examples
