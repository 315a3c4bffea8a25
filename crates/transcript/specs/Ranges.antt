-- The ranges of the fields of lines, as their types have them.
use Rattle.std.specs.Prelude.{ℕ, ◌≡◌, ◌<◌, ◌^◌, List, length, All}
use Rattle.transcript.specs.declared.news.News.{News}
use Rattle.transcript.specs.declared.news.News.TheVariants as news
use Rattle.transcript.specs.declared.refusal.TargetWhy.{TargetWhy}
use Rattle.transcript.specs.declared.refusal.TargetWhy.TheVariants as targets
use Rattle.transcript.specs.declared.refusal.Refusal.{Refusal}
use Rattle.transcript.specs.declared.refusal.Refusal.TheVariants as refusals
use Rattle.transcript.specs.declared.line.Line.{Line}
use Rattle.transcript.specs.declared.line.Line.TheVariants as lines

abbrev pub AreLineBytes : List ℕ → Type 0
AreLineBytes bytes = All (λ byte. byte < 256) bytes

-- a fingerprint or a tag
abbrev pub IsPrint : List ℕ → Type 0
IsPrint bytes = (length bytes ≡ 32) × AreLineBytes bytes

abbrev pub AreLimits : ℕ → ℕ → ℕ → Type 0
AreLimits used need limit = (used < 2 ^ 64) × (need < 2 ^ 64) × (limit < 2 ^ 64)

abbrev pub FitsNews : News → Type 0
FitsNews (news.Known known asked) = (known < 2 ^ 16) × (asked < 2 ^ 16)
FitsNews (news.Stored new sent) = (new < 2 ^ 16) × (sent < 2 ^ 16)
FitsNews news.Committed = Unit {0}
FitsNews news.Exists = Unit {0}
FitsNews (news.Lacking place) = place < 2 ^ 32
FitsNews (news.Full room used need limit) = AreLimits used need limit
FitsNews news.Fault = Unit {0}
FitsNews (news.Damaged at byte) = (at < 2 ^ 64) × (byte < 2 ^ 8)
FitsNews (news.Rotten named found) = IsPrint named.0 × IsPrint found.0
FitsNews news.NoMemory = Unit {0}
FitsNews (news.Strange kind) = kind < 2 ^ 8
FitsNews news.Done = Unit {0}

abbrev pub FitsTarget : TargetWhy → Type 0
FitsTarget targets.Lost = Unit {0}
FitsTarget targets.Fault = Unit {0}
FitsTarget (targets.Damaged at byte) = (at < 2 ^ 64) × (byte < 2 ^ 8)
FitsTarget (targets.Rotten named found) = IsPrint named.0 × IsPrint found.0
FitsTarget (targets.Full room used need limit) = AreLimits used need limit
FitsTarget (targets.Lacking place) = place < 2 ^ 32
FitsTarget targets.NoMemory = Unit {0}
FitsTarget (targets.Strange kind) = kind < 2 ^ 8

abbrev pub FitsRefusal : Refusal → Type 0
FitsRefusal (refusals.Missing cloud) = cloud.0 < 2 ^ 8
FitsRefusal (refusals.Lost cloud) = cloud.0 < 2 ^ 8
FitsRefusal (refusals.Fault cloud) = cloud.0 < 2 ^ 8
FitsRefusal (refusals.Damaged cloud at byte) = (cloud.0 < 2 ^ 8) × (at < 2 ^ 64) × (byte < 2 ^ 8)
FitsRefusal (refusals.Rotten cloud named found) = (cloud.0 < 2 ^ 8) × IsPrint named.0 × IsPrint found.0
FitsRefusal (refusals.NoMemory cloud) = cloud.0 < 2 ^ 8
FitsRefusal (refusals.Strange cloud kind) = (cloud.0 < 2 ^ 8) × (kind < 2 ^ 8)
FitsRefusal (refusals.RecipesDiffer cloud_a cloud_b place) =
    (cloud_a.0 < 2 ^ 8) × (cloud_b.0 < 2 ^ 8) × (place < 2 ^ 32)
FitsRefusal (refusals.ShareLength cloud secret found wanted) =
    (cloud.0 < 2 ^ 8) × (secret < 2 ^ 32) × (found < 2 ^ 32) × (wanted < 2 ^ 32)
FitsRefusal (refusals.BadShare cloud secret named found) =
    (cloud.0 < 2 ^ 8) × (secret < 2 ^ 32) × IsPrint named.0 × IsPrint found.0
FitsRefusal (refusals.BadSecret secret named found) = (secret < 2 ^ 32) × IsPrint named.0 × IsPrint found.0
FitsRefusal (refusals.BadPad secret at byte) = (secret < 2 ^ 32) × (at < 2 ^ 32) × (byte < 2 ^ 8)
FitsRefusal (refusals.Target why) = FitsTarget why

-- the ranges of a line's fields
abbrev pub FitsTranscript : Line → Type 0
FitsTranscript (lines.Opened shape) = Unit {0}
FitsTranscript (lines.Done events) = events < 2 ^ 64
FitsTranscript (lines.Job job) = job < 2 ^ 32
FitsTranscript (lines.Step job lane news) = (job < 2 ^ 32) × (lane.0 < 2 ^ 8) × FitsNews news
FitsTranscript (lines.JobStored job) = job < 2 ^ 32
FitsTranscript (lines.Lost job lane) = (job < 2 ^ 32) × (lane.0 < 2 ^ 8)
FitsTranscript (lines.End job stored) = job < 2 ^ 32
FitsTranscript (lines.Got bytes) = AreLineBytes bytes
FitsTranscript (lines.Refused why) = FitsRefusal why
FitsTranscript (lines.Entries user cloud count) = (user.0 < 2 ^ 32) × (cloud.0 < 2 ^ 8) × (count < 2 ^ 32)
FitsTranscript (lines.Entry tag version) = IsPrint tag.0 × (version.0 < 2 ^ 64)
FitsTranscript (lines.Armed cloud) = cloud.0 < 2 ^ 8
FitsTranscript (lines.Restarted cloud commands) = (cloud.0 < 2 ^ 8) × (commands < 2 ^ 64)
FitsTranscript (lines.Replaced cloud) = cloud.0 < 2 ^ 8
FitsTranscript (lines.Fault cloud) = cloud.0 < 2 ^ 8
FitsTranscript (lines.Damaged cloud at byte) = (cloud.0 < 2 ^ 8) × (at < 2 ^ 64) × (byte < 2 ^ 8)
FitsTranscript (lines.Rebuilt user cloud files skipped) =
    (user.0 < 2 ^ 32) × (cloud.0 < 2 ^ 8) × (files < 2 ^ 32) × (skipped < 2 ^ 32)
FitsTranscript (lines.Skipped tag version why) = IsPrint tag.0 × (version.0 < 2 ^ 64)
FitsTranscript (lines.Deleted cloud) = cloud.0 < 2 ^ 8
FitsTranscript (lines.Missing cloud) = cloud.0 < 2 ^ 8
FitsTranscript (lines.Full cloud room used need limit) = (cloud.0 < 2 ^ 8) × AreLimits used need limit
FitsTranscript (lines.Rotten cloud named found) = (cloud.0 < 2 ^ 8) × IsPrint named.0 × IsPrint found.0
FitsTranscript (lines.NoMemory cloud) = cloud.0 < 2 ^ 8
FitsTranscript (lines.Strange cloud kind) = (cloud.0 < 2 ^ 8) × (kind < 2 ^ 8)
