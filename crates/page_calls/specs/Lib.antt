-- What the calls on one page find in its two groups, what an edit of its matches leaves, and what unmap and look answer.
pub mod PageWork
