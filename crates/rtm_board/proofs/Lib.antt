pub mod Sets
pub mod Accounts
pub mod Opening
pub mod Closing
pub mod Keeping
pub mod Posting
