-- What blob_copy says, for callers.
pub use Rattle.share_server.specs.BlobCopy.Answers
pub use Rattle.share_server.specs.BlobCopy.Copying
