pub mod BatchHashes
pub mod SentIndex
