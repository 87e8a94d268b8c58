pub mod SentIndex
