-- A server's own certificate: what it would write now, as one function of its memory.
use Rattle.std.specs.Prelude.{◌≡◌, ℕ, ◌+◌, ◌-◌, ◌≤◌, nat_lt, Bool, List, length, map, take, slice_get, Option}
use Rattle.std.specs.FinMap.{FinMap, entries, retain_keys}
use Rattle.cloud_memory.specs.CdBase.ids.CloudNo.{CloudNo}
use Rattle.cloud_memory.specs.CdBase.shape.Shape.{Shape}
use Rattle.cloud_memory.specs.FileIndex.key.Entry.{Entry}
use Rattle.cloud_memory.specs.FileIndex.key.FileKey.{FileKey}
use Rattle.cloud_memory.specs.CdBase.place.Place.{Place}
use Rattle.cloud_memory.specs.CdBase.Order.{fp_cmp}
use Rattle.cloud_memory.specs.ShareIndex.Shares.{owners_of}
use Rattle.certificate.specs.declared.line.ShareLine.{ShareLine}
use Rattle.certificate.specs.declared.line.FileLine.{FileLine}
use Rattle.certificate.specs.declared.line.CertificateLine.{CertificateLine}
use Rattle.certificate.specs.Lines.{Certificate, certificate_lines}
use Rattle.audit_base.specs.Whole.{Tables}

-- some user owns it
abbrev pub is_live : Tables → List ℕ → Bool
is_live t fp = nat_lt 0 (owners_of t.owners fp)

-- the fingerprints that some user owns, with their places
abbrev pub live : Tables → FinMap fp_cmp Place
live t = retain_keys t.places (is_live t)

-- they come rising
abbrev pub live_shares : Tables → List (List ℕ × Place)
live_shares t = entries (live t)

abbrev pub share_line : List ℕ × Place → ShareLine
share_line s = record { fp = record { 0 = s.0 }; at = s.1.at; len = s.1.len }

abbrev pub file_line : FileKey × Entry → FileLine
file_line f = record {
  user = record { 0 = f.0.user };
  tag = record { 0 = f.0.tag };
  version = record { 0 = f.0.version };
  at = f.1.at;
  len = f.1.len;
  fp = f.1.fp;
}

-- the entries of a map come rising by their keys
abbrev pub own : Shape → CloudNo → Tables → Certificate
own shape cloud t = record {
  heading = record { shape = shape; cloud = cloud };
  shares = map share_line (live_shares t);
  files = map file_line (entries t.files);
  count = length (live_shares t) + length (entries t.files);
}

-- the server's own line at a position, counted from 1
abbrev pub own_line : Shape → CloudNo → Tables → ℕ → Option CertificateLine
own_line shape cloud t line = slice_get (certificate_lines (own shape cloud t)) (line - 1)

-- At this position, counted from 1, the two first differ, or one of them has no line.
pub record DifferAt (one two : List CertificateLine) (line : ℕ) : Type 0 where
  pub before : take (line - 1) one ≡ take (line - 1) two
  pub here : ¬ (slice_get one (line - 1) ≡ slice_get two (line - 1))
  pub some : 1 ≤ line
