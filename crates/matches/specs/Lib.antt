-- The matches of a page in its two groups: the search, and what one pass tells.
pub mod Search
pub mod Examples
