-- The words of a line are read back as the line, and each of them is solid.
use Rattle.std.proofs.Common.{◌≡◌, Bool, true, false, [], ◌∷◌, Some, refl, arith}
use Rattle.grammar.specs.CdBase.rooms.Room.{Room}
use Rattle.grammar.specs.CdBase.rooms.Room.TheVariants as rooms
use Rattle.transcript.specs.Transcript.{room_word, news_words, target_words, refusal_words, skip_word, end_word, line_words}
use Rattle.transcript.specs.Ranges.{FitsNews, FitsTarget, FitsRefusal, FitsTranscript}
use Rattle.transcript.specs.Reading.{room_in, skip_in, end_in, named_by, news_named, target_named, refusal_named, line_of}
use Rattle.transcript.specs.declared.news.News.{News}
use Rattle.transcript.specs.declared.news.News.TheVariants as news
use Rattle.transcript.specs.declared.refusal.TargetWhy.{TargetWhy}
use Rattle.transcript.specs.declared.refusal.TargetWhy.TheVariants as targets
use Rattle.transcript.specs.declared.refusal.Refusal.{Refusal}
use Rattle.transcript.specs.declared.refusal.Refusal.TheVariants as refusals
use Rattle.transcript.specs.declared.line.SkipWord.{SkipWord}
use Rattle.transcript.specs.declared.line.SkipWord.TheVariants as skips
use Rattle.transcript.specs.declared.line.Line.{Line}
use Rattle.transcript.specs.declared.line.Line.TheVariants as lines
use Rattle.transcript.proofs.Shapes.{shape_of_is}
use Rattle.transcript.proofs.WordsBack.{back_8, back_16, back_32, back_64, back_byte, back_print, back_bytes, solid, all_solid, solid_8, solid_16, solid_32, solid_64, solid_hex, solid_bytes}

-- ---- words of a choice

room_back : (room : Room) → room_in (room_word room) ≡ Some room
room_back rooms.Shares = refl
room_back rooms.Recipes = refl
room_back rooms.Journal = refl
room_back rooms.Fps = refl
room_back rooms.Owners = refl
room_back rooms.Files = refl

room_solid : (room : Room) → solid (room_word room) ≡ true
room_solid rooms.Shares = refl
room_solid rooms.Recipes = refl
room_solid rooms.Journal = refl
room_solid rooms.Fps = refl
room_solid rooms.Owners = refl
room_solid rooms.Files = refl

skip_back : (why : SkipWord) → skip_in (skip_word why) ≡ Some why
skip_back skips.Missing = refl
skip_back skips.RecipesDiffer = refl
skip_back skips.ShareLength = refl
skip_back skips.BadSecret = refl
skip_back skips.BadPad = refl
skip_back skips.BadName = refl
skip_back skips.BadNamePad = refl
skip_back skips.BadPath = refl
skip_back skips.TargetExists = refl

skip_solid : (why : SkipWord) → solid (skip_word why) ≡ true
skip_solid skips.Missing = refl
skip_solid skips.RecipesDiffer = refl
skip_solid skips.ShareLength = refl
skip_solid skips.BadSecret = refl
skip_solid skips.BadPad = refl
skip_solid skips.BadName = refl
skip_solid skips.BadNamePad = refl
skip_solid skips.BadPath = refl
skip_solid skips.TargetExists = refl

end_back : (stored : Bool) → end_in (end_word stored) ≡ Some stored
end_back true = refl
end_back false = refl

end_solid : (stored : Bool) → solid (end_word stored) ≡ true
end_solid true = refl
end_solid false = refl

-- ---- what a step came to

news_back : (x : News) → FitsNews x → named_by news_named (news_words x) ≡ Some x
news_back (news.Known known asked) h = rw (back_16 known h.0, back_16 asked h.1) refl
news_back (news.Stored new sent) h = rw (back_16 new h.0, back_16 sent h.1) refl
news_back news.Committed h = refl
news_back news.Exists h = refl
news_back (news.Lacking place) h = rw (back_32 place h) refl
news_back (news.Full room used need limit) h = rw (room_back room, back_64 used h.0, back_64 need h.1, back_64 limit h.2) refl
news_back news.Fault h = refl
news_back (news.Damaged at byte) h = rw (back_64 at h.0, back_byte byte h.1) refl
news_back (news.Rotten named found) h = rw (back_print named.0 h.0, back_print found.0 h.1) refl
news_back news.NoMemory h = refl
news_back (news.Strange kind) h = rw (back_byte kind h) refl
news_back news.Done h = refl

news_solid : (x : News) → FitsNews x → all_solid (news_words x) ≡ true
news_solid (news.Known known asked) h = rw (solid_16 known h.0, solid_16 asked h.1) refl
news_solid (news.Stored new sent) h = rw (solid_16 new h.0, solid_16 sent h.1) refl
news_solid news.Committed h = refl
news_solid news.Exists h = refl
news_solid (news.Lacking place) h = rw (solid_32 place h) refl
news_solid (news.Full room used need limit) h = rw (room_solid room, solid_64 used h.0, solid_64 need h.1, solid_64 limit h.2) refl
news_solid news.Fault h = refl
news_solid (news.Damaged at byte) h = rw (solid_64 at h.0, solid_hex (byte ∷ [])) refl
news_solid (news.Rotten named found) h = rw (solid_hex named.0, solid_hex found.0) refl
news_solid news.NoMemory h = refl
news_solid (news.Strange kind) h = rw (solid_hex (kind ∷ [])) refl
news_solid news.Done h = refl

-- ---- why something was refused

target_back : (x : TargetWhy) → FitsTarget x → named_by target_named (target_words x) ≡ Some x
target_back targets.Lost h = refl
target_back targets.Fault h = refl
target_back (targets.Damaged at byte) h = rw (back_64 at h.0, back_byte byte h.1) refl
target_back (targets.Rotten named found) h = rw (back_print named.0 h.0, back_print found.0 h.1) refl
target_back (targets.Full room used need limit) h = rw (room_back room, back_64 used h.0, back_64 need h.1, back_64 limit h.2) refl
target_back (targets.Lacking place) h = rw (back_32 place h) refl
target_back targets.NoMemory h = refl
target_back (targets.Strange kind) h = rw (back_byte kind h) refl

target_solid : (x : TargetWhy) → FitsTarget x → all_solid (target_words x) ≡ true
target_solid targets.Lost h = refl
target_solid targets.Fault h = refl
target_solid (targets.Damaged at byte) h = rw (solid_64 at h.0, solid_hex (byte ∷ [])) refl
target_solid (targets.Rotten named found) h = rw (solid_hex named.0, solid_hex found.0) refl
target_solid (targets.Full room used need limit) h = rw (room_solid room, solid_64 used h.0, solid_64 need h.1, solid_64 limit h.2) refl
target_solid (targets.Lacking place) h = rw (solid_32 place h) refl
target_solid targets.NoMemory h = refl
target_solid (targets.Strange kind) h = rw (solid_hex (kind ∷ [])) refl

refusal_back : (x : Refusal) → FitsRefusal x → named_by refusal_named (refusal_words x) ≡ Some x
refusal_back (refusals.Missing cloud) h = rw (back_8 cloud.0 h) refl
refusal_back (refusals.Lost cloud) h = rw (back_8 cloud.0 h) refl
refusal_back (refusals.Fault cloud) h = rw (back_8 cloud.0 h) refl
refusal_back (refusals.Damaged cloud at byte) h = rw (back_8 cloud.0 h.0, back_64 at h.1, back_byte byte h.2) refl
refusal_back (refusals.Rotten cloud named found) h = rw (back_8 cloud.0 h.0, back_print named.0 h.1, back_print found.0 h.2) refl
refusal_back (refusals.NoMemory cloud) h = rw (back_8 cloud.0 h) refl
refusal_back (refusals.Strange cloud kind) h = rw (back_8 cloud.0 h.0, back_byte kind h.1) refl
refusal_back (refusals.RecipesDiffer cloud_a cloud_b place) h = rw (back_8 cloud_a.0 h.0, back_8 cloud_b.0 h.1, back_32 place h.2) refl
refusal_back (refusals.ShareLength cloud secret found wanted) h =
    rw (back_8 cloud.0 h.0, back_32 secret h.1, back_32 found h.2, back_32 wanted h.3) refl
refusal_back (refusals.BadShare cloud secret named found) h =
    rw (back_8 cloud.0 h.0, back_32 secret h.1, back_print named.0 h.2, back_print found.0 h.3) refl
refusal_back (refusals.BadSecret secret named found) h = rw (back_32 secret h.0, back_print named.0 h.1, back_print found.0 h.2) refl
refusal_back (refusals.BadPad secret at byte) h = rw (back_32 secret h.0, back_32 at h.1, back_byte byte h.2) refl
refusal_back (refusals.Target why) h = rw (target_back why h) refl

refusal_solid : (x : Refusal) → FitsRefusal x → all_solid (refusal_words x) ≡ true
refusal_solid (refusals.Missing cloud) h = rw (solid_8 cloud.0 h) refl
refusal_solid (refusals.Lost cloud) h = rw (solid_8 cloud.0 h) refl
refusal_solid (refusals.Fault cloud) h = rw (solid_8 cloud.0 h) refl
refusal_solid (refusals.Damaged cloud at byte) h = rw (solid_8 cloud.0 h.0, solid_64 at h.1, solid_hex (byte ∷ [])) refl
refusal_solid (refusals.Rotten cloud named found) h = rw (solid_8 cloud.0 h.0, solid_hex named.0, solid_hex found.0) refl
refusal_solid (refusals.NoMemory cloud) h = rw (solid_8 cloud.0 h) refl
refusal_solid (refusals.Strange cloud kind) h = rw (solid_8 cloud.0 h.0, solid_hex (kind ∷ [])) refl
refusal_solid (refusals.RecipesDiffer cloud_a cloud_b place) h = rw (solid_8 cloud_a.0 h.0, solid_8 cloud_b.0 h.1, solid_32 place h.2) refl
refusal_solid (refusals.ShareLength cloud secret found wanted) h =
    rw (solid_8 cloud.0 h.0, solid_32 secret h.1, solid_32 found h.2, solid_32 wanted h.3) refl
refusal_solid (refusals.BadShare cloud secret named found) h = rw (solid_8 cloud.0 h.0, solid_32 secret h.1, solid_hex named.0, solid_hex found.0) refl
refusal_solid (refusals.BadSecret secret named found) h = rw (solid_32 secret h.0, solid_hex named.0, solid_hex found.0) refl
refusal_solid (refusals.BadPad secret at byte) h = rw (solid_32 secret h.0, solid_32 at h.1, solid_hex (byte ∷ [])) refl
refusal_solid (refusals.Target why) h = target_solid why h

-- ---- lines

pub line_back : (x : Line) → FitsTranscript x → line_of (line_words x) ≡ Some x
unfolding line_of
line_back (lines.Opened shape) h =
    let a = shape.spare in let b = shape.few in
    rw (back_8 shape.n (omega arith), back_8 shape.k (omega arith), shape_of_is shape) refl
line_back (lines.Done events) h = rw (back_64 events h) refl
line_back (lines.Job job) h = rw (back_32 job h) refl
line_back (lines.Step job lane news) h = rw (back_32 job h.0, back_8 lane.0 h.1, news_back news h.2) refl
line_back (lines.JobStored job) h = rw (back_32 job h) refl
line_back (lines.Lost job lane) h = rw (back_32 job h.0, back_8 lane.0 h.1) refl
line_back (lines.End job stored) h = rw (back_32 job h, end_back stored) refl
line_back (lines.Got bytes) h = rw (back_bytes bytes h) refl
line_back (lines.Refused why) h = rw (refusal_back why h) refl
line_back (lines.Entries user cloud count) h = rw (back_32 user.0 h.0, back_8 cloud.0 h.1, back_32 count h.2) refl
line_back (lines.Entry tag version) h = rw (back_print tag.0 h.0, back_64 version.0 h.1) refl
line_back (lines.Armed cloud) h = rw (back_8 cloud.0 h) refl
line_back (lines.Restarted cloud commands) h = rw (back_8 cloud.0 h.0, back_64 commands h.1) refl
line_back (lines.Replaced cloud) h = rw (back_8 cloud.0 h) refl
line_back (lines.Fault cloud) h = rw (back_8 cloud.0 h) refl
line_back (lines.Damaged cloud at byte) h = rw (back_8 cloud.0 h.0, back_64 at h.1, back_byte byte h.2) refl
line_back (lines.Rebuilt user cloud files skipped) h = rw (back_32 user.0 h.0, back_8 cloud.0 h.1, back_32 files h.2, back_32 skipped h.3) refl
line_back (lines.Skipped tag version why) h = rw (back_print tag.0 h.0, back_64 version.0 h.1, skip_back why) refl
line_back (lines.Deleted cloud) h = rw (back_8 cloud.0 h) refl
line_back (lines.Missing cloud) h = rw (back_8 cloud.0 h) refl
line_back (lines.Full cloud room used need limit) h =
    rw (back_8 cloud.0 h.0, room_back room, back_64 used h.1.0, back_64 need h.1.1, back_64 limit h.1.2) refl
line_back (lines.Rotten cloud named found) h = rw (back_8 cloud.0 h.0, back_print named.0 h.1, back_print found.0 h.2) refl
line_back (lines.NoMemory cloud) h = rw (back_8 cloud.0 h) refl
line_back (lines.Strange cloud kind) h = rw (back_8 cloud.0 h.0, back_byte kind h.1) refl

pub line_solid : (x : Line) → FitsTranscript x → all_solid (line_words x) ≡ true
line_solid (lines.Opened shape) h =
    let a = shape.spare in let b = shape.few in
    rw (solid_8 shape.n (omega arith), solid_8 shape.k (omega arith)) refl
line_solid (lines.Done events) h = rw (solid_64 events h) refl
line_solid (lines.Job job) h = rw (solid_32 job h) refl
line_solid (lines.Step job lane news) h = rw (solid_32 job h.0, solid_8 lane.0 h.1, news_solid news h.2) refl
line_solid (lines.JobStored job) h = rw (solid_32 job h) refl
line_solid (lines.Lost job lane) h = rw (solid_32 job h.0, solid_8 lane.0 h.1) refl
line_solid (lines.End job stored) h = rw (solid_32 job h, end_solid stored) refl
line_solid (lines.Got bytes) h = rw (solid_bytes bytes) refl
line_solid (lines.Refused why) h = refusal_solid why h
line_solid (lines.Entries user cloud count) h = rw (solid_32 user.0 h.0, solid_8 cloud.0 h.1, solid_32 count h.2) refl
line_solid (lines.Entry tag version) h = rw (solid_hex tag.0, solid_64 version.0 h.1) refl
line_solid (lines.Armed cloud) h = rw (solid_8 cloud.0 h) refl
line_solid (lines.Restarted cloud commands) h = rw (solid_8 cloud.0 h.0, solid_64 commands h.1) refl
line_solid (lines.Replaced cloud) h = rw (solid_8 cloud.0 h) refl
line_solid (lines.Fault cloud) h = rw (solid_8 cloud.0 h) refl
line_solid (lines.Damaged cloud at byte) h = rw (solid_8 cloud.0 h.0, solid_64 at h.1, solid_hex (byte ∷ [])) refl
line_solid (lines.Rebuilt user cloud files skipped) h = rw (solid_32 user.0 h.0, solid_8 cloud.0 h.1, solid_32 files h.2, solid_32 skipped h.3) refl
line_solid (lines.Skipped tag version why) h = rw (solid_hex tag.0, solid_64 version.0 h.1, skip_solid why) refl
line_solid (lines.Deleted cloud) h = rw (solid_8 cloud.0 h) refl
line_solid (lines.Missing cloud) h = rw (solid_8 cloud.0 h) refl
line_solid (lines.Full cloud room used need limit) h =
    rw (solid_8 cloud.0 h.0, room_solid room, solid_64 used h.1.0, solid_64 need h.1.1, solid_64 limit h.1.2) refl
line_solid (lines.Rotten cloud named found) h = rw (solid_8 cloud.0 h.0, solid_hex named.0, solid_hex found.0) refl
line_solid (lines.NoMemory cloud) h = rw (solid_8 cloud.0 h) refl
line_solid (lines.Strange cloud kind) h = rw (solid_8 cloud.0 h.0, solid_hex (kind ∷ [])) refl
