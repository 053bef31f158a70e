-- What the contracts cite.
pub mod Digest
