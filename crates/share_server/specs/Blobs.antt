-- What a read of a blob answers.
use Rattle.std.specs.Prelude.{◌≡◌, ℕ, ◌<◌, List, ◌++◌, length, take, drop, Result, Ok, Err}
use Rattle.server_requests.specs.CdBase.place.Place.{Place}
use Rattle.share_server.specs.declared.blobs.BlobErr.{BlobErr}
use Rattle.share_server.specs.declared.blobs.BlobErr.TheVariants.{Fault, Short, NoMemory}

-- what an area has at a place: as many bytes as the place says, or fewer where the area ends before
abbrev pub blob_at : List ℕ → Place → List ℕ
blob_at area place = take place.len (drop place.at area)

-- The bytes of the area at the place were appended: all of them, or those that there are where the area ends before. Else nothing was.
abbrev pub BlobIs : List ℕ → Place → Result (Unit {0}) BlobErr → List ℕ → List ℕ → Type 0
BlobIs area place (Ok u) before now = (now ≡ before ++ blob_at area place) × (length (blob_at area place) ≡ place.len)
BlobIs area place (Err (Short found)) before now =
    (now ≡ before ++ blob_at area place) × (length (blob_at area place) ≡ found) × (found < place.len)
BlobIs area place (Err Fault) before now = now ≡ before
BlobIs area place (Err NoMemory) before now = now ≡ before

-- So many bytes were appended as the answer says, whatever they are, and none by Fault and NoMemory.
abbrev pub AppendsBlobBytes : ℕ → Result (Unit {0}) BlobErr → List ℕ → List ℕ → Type 0
AppendsBlobBytes len (Ok u) before now = (more : List ℕ) × (now ≡ before ++ more) × (length more ≡ len)
AppendsBlobBytes len (Err (Short found)) before now = (more : List ℕ) × (now ≡ before ++ more) × (length more ≡ found) × (found < len)
AppendsBlobBytes len (Err Fault) before now = now ≡ before
AppendsBlobBytes len (Err NoMemory) before now = now ≡ before

-- one fact where a device failed, and another for every other answer
abbrev pub OnBlobFault : Result (Unit {0}) BlobErr → Type 0 → Type 0 → Type 0
OnBlobFault (Ok u) failed other = other
OnBlobFault (Err (Short found)) failed other = other
OnBlobFault (Err Fault) failed other = failed
OnBlobFault (Err NoMemory) failed other = other
