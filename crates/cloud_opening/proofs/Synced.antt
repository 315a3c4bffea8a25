-- A cloud behind the three syncs, and its journal opened then.
use Rattle.std.proofs.Common.{◌≡◌, inl, inr, Bool, false, List, ℕ, Result, Ok, Err, OnOk, sym, ◌∙◌, ap, subst}
use Rattle.cloud_disk.specs.CdEdges.area.Area.{Area}
use Rattle.cloud_disk.specs.CdEdges.area.Area.TheVariants.{Journal, Shares, Recipes}
use Rattle.cloud_disk.specs.CdEdges.Disk.{Store, Areas, Image, Cloud, MayLeave, IsImage, LeavesOnly}
use Rattle.cloud_disk.specs.CdEdges.Shelf.{stable, Stays, HasFailed, KeepsCounts, IsCall}
use Rattle.cloud_disk.proofs.CdEdges.Calls.{failed_after}
use Rattle.cloud_disk.proofs.CdEdges.Moments.{joined, weaker, at_end}
use Rattle.cloud_disk.proofs.CdEdges.Torn.{only}
use Rattle.cloud_disk.proofs.CommitJournal.Opening.{synced_only}
use Rattle.cloud_disk.specs.JournalStart.start.Header.{Header}
use Rattle.cloud_disk.specs.CommitJournal.errors.OpenErr.{OpenErr}
use Rattle.cloud_disk.specs.CommitJournal.errors.OpenErr.TheVariants.{Fault, NotBegun, Damaged, OtherStore}
use Rattle.cloud_disk.specs.CommitJournal.Openings.{MayBeBegun, OpensIs, IsOpening, OnFault, HasBegun}
use Rattle.cloud_disk.specs.JournalHalves.Beginnings.{IsUnbegun}
use Rattle.cloud_disk.specs.CommitJournal.States.{JournalState}
use Rattle.cloud_opening.specs.Starts.{IsStarted}
use Rattle.cloud_opening.specs.Steps.{IsOfRecords}
use Rattle.cloud_opening.specs.Synced.{AreSynced, BeginsSynced}

-- all three areas are on the disk
pub synced_at : (c0 c1 : Cloud) → AreSynced c0 c1 → (area : Area) → c1.now area ≡ stable (c0.now area).read
synced_at c0 c1 s Journal = s.recipes.others Journal (λ e. cc) ∙ s.shares.others Journal (λ e. cc) ∙ s.journal.area
synced_at c0 c1 s Shares = s.recipes.others Shares (λ e. cc) ∙ s.shares.area ∙ ap (λ (a : Store). stable a.read) (s.journal.others Shares (λ e. cc))
synced_at c0 c1 s Recipes = s.recipes.area ∙ ap (λ (a : Store). stable a.read) (s.shares.others Recipes (λ e. cc) ∙ s.journal.others Recipes (λ e. cc))

become : (c0 c1 : Cloud) (header : Header) (begin : Bool) → ((area : Area) → MayLeave (c0.now area) (c0.now area).read) → LeavesOnly c0 c1 (IsImage c0.now) → AreSynced c0 c1
    → (image : Image) → MayBeBegun c1.now header begin image → MayBeBegun c0.now header begin image
become c0 c1 header begin reads first synced image (inl left) = inl (at_end c0 c1 _ first image left)
become c0 c1 header begin reads first synced image (inr new) = inr (
  new.0,
  subst (λ (s : Store). IsUnbegun s.read) (synced_at c0 c1 synced Journal) new.1,
  record {
    area = new.2.area;
    others = λ other ne. subst (λ (l : List ℕ). MayLeave (c0.now other) l)
        (sym (only (c0.now other).read (image other) (subst (λ (s : Store). MayLeave s (image other)) (synced_at c0 c1 synced other) (new.2.others other ne)))) (reads other);
  },
)

then_opened : (c0 c1 c2 : Cloud) (header : Header) (begin : Bool) → ((area : Area) → MayLeave (c0.now area) (c0.now area).read) → LeavesOnly c0 c1 (IsImage c0.now) → AreSynced c0 c1
    → LeavesOnly c1 c2 (MayBeBegun c1.now header begin) → LeavesOnly c0 c2 (MayBeBegun c0.now header begin)
then_opened c0 c1 c2 header begin reads first synced second =
    joined c0 c1 c2 _ (synced_only c0 c1 header begin first) (weaker c1 c2 _ _ second (become c0 c1 header begin reads first synced))

-- what came behind the syncs
begins : (c0 c1 c2 : Cloud) (P : Image → Type 0) → AreSynced c0 c1 → LeavesOnly c1 c2 P → BeginsSynced c0 c2
begins c0 c1 c2 P first run = record { synced = c1; first = first; since = run.since; past = run.past }

-- nothing did
pub none_behind : (c0 c1 c2 : Cloud) → AreSynced c0 c1 → Stays c1 c2 → AreSynced c0 c2
none_behind c0 c1 c2 s stays = record {
  first = s.first;
  second = s.second;
  past = stays.past ∙ s.past;
  journal = s.journal;
  shares = s.shares;
  recipes = record {
    area = ap (λ (a : Areas). a Recipes) stays.now ∙ s.recipes.area;
    others = λ other ne. ap (λ (a : Areas). a other) stays.now ∙ s.recipes.others other ne;
  };
}

-- of every answer
pub of_all : {T : Type 0} (result : Result T OpenErr) (P : Type 0) → P → OnFault result (Unit {0}) P
of_all (Ok value) P holds = holds
of_all (Err Fault) P holds = tt
of_all (Err (OtherStore found wanted at)) P holds = holds
of_all (Err (Damaged at byte)) P holds = holds
of_all (Err (NotBegun len)) P holds = holds

-- of every answer but that a device call failed
pub on_answer : {T : Type 0} (result : Result T OpenErr) (P Q : Type 0) → (P → Q) → OnFault result (Unit {0}) P → OnFault result (Unit {0}) Q
on_answer (Ok value) P Q f is = f is
on_answer (Err Fault) P Q f is = tt
on_answer (Err (OtherStore found wanted at)) P Q f is = f is
on_answer (Err (Damaged at byte)) P Q f is = f is
on_answer (Err (NotBegun len)) P Q f is = f is

pub always : {T E : Type 0} (result : Result T E) (P : Type 0) → P → OnOk result P
always (Ok value) P holds = holds
always (Err e) P holds = tt

pub on_ok : {T E : Type 0} (result : Result T E) (P Q : Type 0) → (P → Q) → OnOk result P → OnOk result Q
on_ok (Ok value) P Q f is = f is
on_ok (Err e) P Q f is = tt

-- the same of an Err, whatever an Ok would give
pub same_err : (T U : Type 0) (error : OpenErr) (failed other : Type 0) → OnFault {T = T} (Err error) failed other → OnFault {T = U} (Err error) failed other
same_err T U Fault failed other is = is
same_err T U (OtherStore found wanted at) failed other is = is
same_err T U (Damaged at byte) failed other is = is
same_err T U (NotBegun len) failed other is = is

-- ---- the journal behind the syncs

module _ (header : Header) (begin : Bool) (c0 c1 : Cloud) (first : LeavesOnly c0 c1 (IsImage c0.now)) where
  pub not_synced : (after : JournalState) → IsStarted header begin c0 c1 after (Err Fault)
  not_synced after = record {
    any_moment = synced_only c0 c1 header begin first;
    answer = tt;
    opened = tt;
    begun = λ no. tt;
    unbegun = λ none. tt;
    others = tt;
    synced = tt;
    unasked = λ no. tt;
    begun_stays = λ no. tt;
  }

  module _ (c2 : Cloud) (reads : (area : Area) → MayLeave (c0.now area) (c0.now area).read) (synced : AreSynced c0 c1) where
    pub synced_started : (after : JournalState) (result : Result (Unit {0}) OpenErr) → IsOpening header begin c1 c2 after result
        → (¬ IsUnbegun (c1.now Journal).read → Stays c1 c2) → (begin ≡ false → Stays c1 c2) → IsStarted header begin c0 c2 after result
    synced_started after result opening begun unasked =
        let same : (c1.now Journal).read ≡ (c0.now Journal).read = ap (λ (s : Store). s.read) (synced_at c0 c1 synced Journal) in
        let still : ¬ IsUnbegun (c0.now Journal).read → Stays c1 c2 = λ no. begun (λ none. no (subst IsUnbegun same none)) in
        record {
          any_moment = then_opened c0 c1 c2 header begin reads first synced opening.any_moment;
          answer = subst (λ (l : List ℕ). OpensIs l header begin result) same opening.answer;
          opened = opening.opened;
          begun = λ no. always result _ (ap (λ (a : Areas). a Journal) (still no).now ∙ synced_at c0 c1 synced Journal);
          unbegun = λ none. opening.unbegun (subst IsUnbegun (sym same) none);
          others = on_ok result _ _ (λ others other ne. others other ne ∙ synced_at c0 c1 synced other) opening.others;
          synced = of_all result _ (begins c0 c1 c2 (MayBeBegun c1.now header begin) synced opening.any_moment);
          unasked = λ no. of_all result _ (none_behind c0 c1 c2 synced (unasked no));
          begun_stays = λ no. of_all result _ (none_behind c0 c1 c2 synced (still no));
        }

-- ---- counts

pub counts_still : (a b c : Cloud) (before mid now : ℕ) → KeepsCounts a b before mid → KeepsCounts b c mid now → KeepsCounts a c before now
counts_still a b c before mid now first second = record { cloud = second.cloud ∙ first.cloud; total = second.total ∙ first.total }

-- the counts of a call behind one that was Ok
pub counted_behind : {T : Type 0} (result : Result T OpenErr) (a b c : ℕ → Cloud) (number before mid now : ℕ) → IsCall a b number before mid → KeepsCounts (a number) (b number) before mid
    → OnFault result (HasFailed (b number) (c number) mid now) (KeepsCounts (b number) (c number) mid now) → OnFault result (HasFailed (a number) (c number) before now) (KeepsCounts (a number) (c number) before now)
counted_behind (Ok value) a b c number before mid now call first second = counts_still (a number) (b number) (c number) before mid now first second
counted_behind (Err Fault) a b c number before mid now call first second = failed_after a b c number before mid now call second
counted_behind (Err (OtherStore found wanted at)) a b c number before mid now call first second = counts_still (a number) (b number) (c number) before mid now first second
counted_behind (Err (Damaged at byte)) a b c number before mid now call first second = counts_still (a number) (b number) (c number) before mid now first second
counted_behind (Err (NotBegun len)) a b c number before mid now call first second = counts_still (a number) (b number) (c number) before mid now first second

pub still : (a b c : Cloud) → Stays a b → Stays b c → Stays a c
still a b c first second = record { armed = second.armed ∙ first.armed; past = second.past ∙ first.past; now = second.now ∙ first.now }

-- an opening that may begin doesn't answer that no half is begun
pub begins_ok : (result : Result ℕ OpenErr) → IsOfRecords result → HasBegun result
begins_ok (Ok value) kind = tt
begins_ok (Err Fault) kind = tt
begins_ok (Err (Damaged at byte)) kind = tt
begins_ok (Err (NotBegun len)) kind = absurd kind
begins_ok (Err (OtherStore found asked at)) kind = tt

pub begins_err : (error : OpenErr) → HasBegun {T = Unit {0}} (Err error) → HasBegun {T = ℕ} (Err error)
begins_err Fault begun = tt
begins_err (Damaged at byte) begun = tt
begins_err (NotBegun len) begun = absurd begun
begins_err (OtherStore found asked at) begun = tt
