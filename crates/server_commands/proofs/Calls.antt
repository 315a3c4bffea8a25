-- Two calls of a device, one after the other, the first of which only read.
use Rattle.std.proofs.Common.{◌≡◌, ℕ, ◌++◌, List, Result, Ok, Err, refl, sym, ap, ◌∙◌, subst, arith}
use Rattle.std.specs.Prelude.{OnOk, OnErr}
use Rattle.server_reads.specs.CdEdges.area.Area.TheVariants.{Journal}
use Rattle.server_reads.specs.CdEdges.stream.Failed.{Failed}
use Rattle.server_reads.specs.CdEdges.Disk.{Areas, Cloud, Image, LeavesOnly}
use Rattle.server_reads.specs.CdEdges.Causes.{Rose}
use Rattle.server_reads.specs.CdEdges.Shelf.{IsCall, HasFailed, KeepsCounts, Stays}
use Rattle.server_reads.proofs.CdEdges.Moments.{weaker, told_on}
use Rattle.server_reads.proofs.CdEdges.Calls.{called_twice}
use Rattle.cloud_store.specs.CommitJournal.States as journals
use Rattle.cloud_store.specs.JournalHalves.Journals.{Where}
use Rattle.cloud_store.specs.declared.store.CloudStore.{CloudStore}
use Rattle.cloud_store.specs.Adding.{IsLeftOf, KeepsOrGrows}
use Rattle.server_reads.specs.Reading.{HasReadCloud}
use Rattle.server_reads.specs.declared.blobs.BlobStop.{BlobStop}
use Rattle.server_reads.specs.declared.blobs.BlobStop.TheVariants as stops
use Rattle.server_commands.specs.Steps.{Calls}

abbrev pub ok_result : Result (Unit {0}) Failed
ok_result = Ok tt

abbrev pub failed_result : Result (Unit {0}) Failed
failed_result = Err (record {})

abbrev pub ok_read : Result (Unit {0}) BlobStop
ok_read = Ok tt

abbrev pub failed_read : Result (Unit {0}) BlobStop
failed_read = Err stops.Failed

-- ---- calls

failed_then : {T E : Type 0} (r : Result T E) (a b c : Cloud) (before mid now : ℕ) → KeepsCounts a b before mid → OnErr r (HasFailed b c mid now) → OnErr r (HasFailed a c before now)
failed_then (Ok v) a b c before mid now kept failed = tt
failed_then (Err e) a b c before mid now kept failed = record {
  cloud = subst (λ (n : ℕ). Rose n c.faults) kept.cloud failed.cloud;
  total = subst (λ (n : ℕ). Rose n now) kept.total failed.total;
}

counts_then : {T E : Type 0} (r : Result T E) (a b c : Cloud) (before mid now : ℕ) → KeepsCounts a b before mid → OnOk r (KeepsCounts b c mid now) → OnOk r (KeepsCounts a c before now)
counts_then (Err e) a b c before mid now kept counts = tt
counts_then (Ok v) a b c before mid now kept counts = record { cloud = counts.cloud ∙ kept.cloud; total = counts.total ∙ kept.total }

pub calls_then : {T E : Type 0} (r : Result T E) (a b c : ℕ → Cloud) (number before mid now : ℕ) → HasReadCloud a b number before mid ok_read → Calls b c number mid now r → Calls a c number before now r
calls_then r a b c number before mid now read calls = record {
  call = called_twice a b c number before mid now read.call calls.call;
  failed = failed_then r (a number) (b number) (c number) before mid now read.counts calls.failed;
  counts = counts_then r (a number) (b number) (c number) before mid now read.counts calls.counts;
}

pub calls_failed : (a b : ℕ → Cloud) (number before now : ℕ) → HasReadCloud a b number before now failed_read → Calls a b number before now failed_result
calls_failed a b number before now read = record { call = read.call; failed = read.failed; counts = tt }

pub calls_read : (a b : ℕ → Cloud) (number before now : ℕ) → IsCall a b number before now → KeepsCounts (a number) (b number) before now → Calls a b number before now ok_result
calls_read a b number before now call counts = record { call = call; failed = tt; counts = counts }

pub no_calls : (a : ℕ → Cloud) (number now : ℕ) → Calls a a number now now ok_result
no_calls a number now = record {
  call = record { others = λ other ne. refl; told = refl; armings = refl; later = omega arith; total_later = omega arith };
  failed = tt;
  counts = record { cloud = refl; total = refl };
}

-- ---- moments

pub since_read : (a b c : Cloud) (P : Image → Type 0) → Stays a b → LeavesOnly b c P → LeavesOnly a c P
since_read a b c P stays run = record { since = run.since; past = run.past ∙ ap (λ (p : List Areas). p ++ run.since) stays.past; each = run.each }

pub stays_twice : (a b c : Cloud) → Stays a b → Stays b c → Stays a c
stays_twice a b c first second = record { armed = second.armed ∙ first.armed; past = second.past ∙ first.past; now = second.now ∙ first.now }

pub stays_still : (a : Cloud) → Stays a a
stays_still a = record { armed = refl; past = refl; now = refl }

-- what a store adds behind what it has, where only a read was made before
pub grows_read : (s mid : CloudStore) (body : List ℕ) (a b c : Cloud) → mid.disk.journal ≡ s.disk.journal → ((w : Where) (image : Image) → IsLeftOf mid b w body image → IsLeftOf s a w body image)
    → Stays a b → b.told ≡ a.told → KeepsOrGrows mid body b c → KeepsOrGrows s body a c
grows_read s mid body a b c journal left stays told grows is w ended =
    since_read a b c (IsLeftOf s a w body) stays
    (weaker b c (IsLeftOf mid b w body) (IsLeftOf s a w body)
    (grows (told_on a b told is) w
    (subst (λ (j : journals.JournalState). journals.IsJournalEnded j (b.now Journal) w) (sym journal) (subst (λ (x : Areas). journals.IsJournalEnded s.disk.journal (x Journal) w) (sym stays.now) ended)))
    (λ image. left w image))
