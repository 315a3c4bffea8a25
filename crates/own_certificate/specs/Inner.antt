-- The slots of the own certificate's lines, and how far a text has them. No public clause cites this module.
use Rattle.std.specs.Prelude.{◌≡◌, ◌≢◌, ℕ, zero, suc, ◌+◌, ◌≤◌, ◌<◌, ◌^◌, List, [], ◌∷◌, ◌++◌, length, map, take, replicate, All, slice_get}
use Rattle.std.specs.Prelude.{Option, Some, None, is_some, unwrap_or, if◌then◌else◌}
use Rattle.std.specs.List.{flat_map}
use Rattle.std.specs.FinMap.{entries}
use Rattle.audit_base.specs.CdBase.place.Place.{Place}
use Rattle.pool_map.specs.Slots.{slot_of}
use Rattle.audit_base.specs.ShareIndex.Shares.{Shares}
use Rattle.audit_base.specs.FileIndex.key.Entry.{Entry}
use Rattle.audit_base.specs.FileIndex.key.FileKey.{FileKey}
use Rattle.audit_base.specs.FileIndex.Files.{Files}
use Rattle.audit_base.specs.CloudMemory.Live.{live_at}
use Rattle.audit_base.specs.CloudMemory.cloud.CloudMemory.{CloudMemory}
use Rattle.audit_base.specs.Certificate.line.CertificateLine.{CertificateLine}
use Rattle.audit_base.specs.Certificate.Lines.{certificate_line, FitsLine}
use Rattle.audit_base.specs.Own.{live_shares}
use Rattle.audit_base.specs.Whole.{tables_of}

-- the slots below n that have something
abbrev pub some_below : {X : Type 0} → (ℕ → Option X) → ℕ → List ℕ
some_below at zero = []
some_below at (suc n) = if is_some (at n) then some_below at n ++ n ∷ [] else some_below at n

abbrev pub no_share : List ℕ × Place
no_share = (replicate 32 0, record { at = 0; len = 0 })

-- what a slot with a share that some user owns has
abbrev pub share_at : Shares → ℕ → List ℕ × Place
share_at shares slot = unwrap_or (live_at shares slot) no_share

abbrev pub no_file : FileKey × Entry
no_file = (record { user = 0; tag = replicate 32 0; version = 0 }, record { at = 0; len = 0; fp = record { 0 = replicate 32 0 } })

-- what a slot with an entry has
abbrev pub file_at : Files → ℕ → FileKey × Entry
file_at files slot = unwrap_or (slot_of files.slots slot) no_file

-- The slots of the memory's shares and entries, in the order of the own lines, and how many these are.
pub record AreLinesOf (shares files : List ℕ) (count : ℕ) (memory : CloudMemory) : Type 0 where
  pub in_shares : map (share_at memory.shares) shares ≡ live_shares (tables_of memory)
  pub in_files : map (file_at memory.files) files ≡ entries memory.files.files
  pub all : count ≡ length shares + length files
  pub few : count < 2 ^ 32

-- The text begins with the lines below this one, and doesn't go on with this one.
pub record PartsAt (lines : List CertificateLine) (bytes : List ℕ) (index : ℕ) : Type 0 where
  pub rest : List ℕ
  pub within : index ≤ length lines
  pub before : bytes ≡ flat_map certificate_line (take index lines) ++ rest
  pub fits : All FitsLine (take index lines)
  pub other : (line : CertificateLine) (more : List ℕ) → slice_get lines index ≡ Some line → rest ≢ certificate_line line ++ more
  pub more : slice_get lines index ≡ None → rest ≢ []
