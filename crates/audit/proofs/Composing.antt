-- What an audit and a check come to, by what their parts say.
use Rattle.std.proofs.Common.{◌≡◌, ◌≢◌, ℕ, ◌≤◌, ◌++◌, List, Result, Ok, Err, Option, Some, None, IsTrue, OnOk, is_some, true, refl, sym, ap, ◌∙◌, subst, arith}
use Rattle.std.proofs.lemmas.Option.{same_Some}
use Rattle.std.specs.FinMap.{get}
use Rattle.share_server.specs.CdBase.ids.Fp.{Fp}
use Rattle.share_server.specs.CdBase.place.Place.{Place}
use Rattle.share_server.specs.CdEdges.area.Area.TheVariants.{Shares}
use Rattle.share_server.specs.CdEdges.Disk.{Cloud, Image, reads}
use Rattle.share_server.specs.CdEdges.Shelf.{IsCall, HasFailed, KeepsCounts, Stays}
use Rattle.share_server.specs.CdBase.shape.Shape.{Shape}
use Rattle.share_server.specs.UserDedup.command.Command.{Command}
use Rattle.cloud_disk.specs.CloudAreas.Standing.{Chain}
use Rattle.own_certificate.specs.Certificate.Lines.{certificate_text}
use Rattle.blob_audit.specs.CloudMemory.cloud.CloudMemory.{CloudMemory}
use Rattle.blob_audit.specs.ShareIndex.Placed.{AreAllPlaced}
use Rattle.cloud_store.specs.declared.store.CloudStore.{CloudStore}
use Rattle.cloud_store.specs.Store.{Serves}
use Rattle.blob_audit.specs.declared.errors.ReadErr.{ReadErr}
use Rattle.blob_audit.specs.declared.errors.ReadErr.TheVariants as reading
use Rattle.blob_audit.specs.Reading.{AreStored, AreGood, IsUnlike, StoredIs, GoodIs, OnReadFault}
use Rattle.blob_audit.specs.Reading as unlike
use Rattle.audit.specs.declared.errors.AuditErr.TheVariants as audits
use Rattle.blob_audit.specs.AuditBase.errors.CheckErr.{CheckErr}
use Rattle.blob_audit.specs.AuditBase.errors.CheckErr.TheVariants as checks
use Rattle.blob_audit.specs.AuditBase.Judged.{JudgedIs}
use Rattle.blob_audit.specs.AuditBase.Whole.{Tables, tables_of, ArePlaced, IsOwned, IsStored, IsRottenNow, WholeNow}
use Rattle.blob_audit.specs.AuditBase.Whole as rotten
use Rattle.audit.specs.Audits.{AppendsCertificate, AuditIs, AuditPasses, OnAuditFault, IfCheckRotten, CheckPasses, OnCheckFault}
use Rattle.audit.specs.Inner.{own_in, number_in, audit_error, check_error, IsAudited, IsChecked}
use Rattle.audit.proofs.Serving.{whole}

-- ---- a whole cloud has nothing rotten

stored_one : (shape : Shape) (image : Image) (t : Tables) → WholeNow shape image t → (fp : Fp) (place : Place) → IsOwned t fp → get t.places fp.0 ≡ Some place
    → IsStored (image Shares) place.at place.len fp
stored_one shape image t w fp place owned got =
    let x = w.shares fp owned in
    subst (λ (p : Place). IsStored (image Shares) p.at p.len fp) (same_Some x.0 place (sym x.1 ∙ got)) x.2

none_unlike : (shape : Shape) (image : Image) (t : Tables) (named found : Fp) → WholeNow shape image t → IsUnlike image t named found → ⊥
none_unlike shape image t named found w (unlike.Share place owned got hash not) = not (stored_one shape image t w named place owned got)
none_unlike shape image t named found w (unlike.File user tag version e got is hash not) = not (w.files user tag version e got).there

none_rotten : (shape : Shape) (image : Image) (t : Tables) (named found : Fp) → WholeNow shape image t → IsRottenNow shape image t named found → ⊥
none_rotten shape image t named found w (rotten.Share place owned got hash not) = not (stored_one shape image t w named place owned got)
none_rotten shape image t named found w (rotten.File user tag version e got is hash not) = not (w.files user tag version e got)

-- ---- what is owned has a place

some_is : (o : Option Place) → is_some o ≡ true → (p : Place) × (o ≡ Some p)
some_is None e = absurd cc
some_is (Some p) e = (p, refl)

pub all_placed : (memory : CloudMemory) → AreAllPlaced memory.shares.places memory.shares.owners → ArePlaced (tables_of memory)
all_placed memory placed fp owned = some_is (get memory.shares.places fp.0) (placed owned.user.0 fp.0 (ap is_some owned.owns.has))

whole_by : (shape : Shape) (image : Image) (t : Tables) → ArePlaced t → AreGood shape image t → WholeNow shape image t
whole_by shape image t placed good = record {
  shares = λ fp owned. let p = placed fp owned in (p.0, p.1, good.shares fp p.0 owned p.1);
  files = good.files;
}

-- ---- an audit

module _ (store : CloudStore) (old new : ℕ → Cloud) (before now : ℕ) where
  abbrev n : ℕ
  n = number_in store

  abbrev t : Tables
  t = tables_of store.memory

  abbrev Failed : Type 0
  Failed = HasFailed (old n) (new n) before now

  abbrev Kept : Type 0
  Kept = KeepsCounts (old n) (new n) before now

  -- a store that serves a list has its cloud whole behind calls that change nothing
  served_whole : Stays (old n) (new n) → (list : List Command) (c : Chain) → Serves list c store (old n) → WholeNow store.header.shape (reads (new n).now) t
  served_whole stays list c s = subst (λ areas. WholeNow store.header.shape (reads areas) t) (sym stays.now) (whole list c store (old n) s)

  served_told : (list : List Command) (c : Chain) → Serves list c store (old n) → IsTrue (old n).told
  served_told list c s = s.known.on.read.told

  unlike_ends : (e : ReadErr) → (IsTrue (old n).told → StoredIs (reads (new n).now) t (Err e)) → IsTrue (old n).told → AuditIs (reads (new n).now) t (Err (audit_error e))
  unlike_ends reading.Fault is told = tt
  unlike_ends (reading.Rotten named found) is told = is told
  unlike_ends reading.NoMemory is told = tt

  unlike_never : (e : ReadErr) → (IsTrue (old n).told → StoredIs (reads (new n).now) t (Err e)) → IsTrue (old n).told → WholeNow store.header.shape (reads (new n).now) t → AuditPasses (Err (audit_error e))
  unlike_never reading.Fault is told w = tt
  unlike_never (reading.Rotten named found) is told w = none_unlike store.header.shape (reads (new n).now) t named found w (is told)
  unlike_never reading.NoMemory is told w = tt

  audit_counts : (e : ReadErr) → OnReadFault (Err e) Failed Kept → OnAuditFault (Err (audit_error e)) Failed Kept
  audit_counts reading.Fault k = k
  audit_counts (reading.Rotten named found) k = k
  audit_counts reading.NoMemory k = k

  pub audit_ended : (e : ReadErr) → (IsTrue (old n).told → StoredIs (reads (new n).now) t (Err e)) → Stays (old n) (new n) → IsCall old new n before now → OnReadFault (Err e) Failed Kept
      → (had has : List ℕ) → has ≡ had → IsAudited store old new before now (Err (audit_error e)) had has
  audit_ended e is stays call counts had has same = record {
    appends = same;
    judged = unlike_ends e is;
    passes = λ list c s. unlike_never e is (served_told list c s) (served_whole stays list c s);
    stays = stays;
    call = call;
    counts = audit_counts e counts;
  }

  pub audit_done : (IsTrue (old n).told → AreStored (reads (new n).now) t) → Stays (old n) (new n) → IsCall old new n before now → Kept
      → (count : ℕ) (had has : List ℕ) → count ≡ (own_in store).count → has ≡ had ++ certificate_text (own_in store) → IsAudited store old new before now (Ok count) had has
  audit_done is stays call kept count had has counted text = record {
    appends = (counted, text);
    judged = is;
    passes = λ list c s. tt;
    stays = stays;
    call = call;
    counts = kept;
  }

  pub audit_lacks : Stays (old n) (new n) → IsCall old new n before now → Kept → (had has : List ℕ) → has ≡ had → IsAudited store old new before now (Err audits.NoMemory) had has
  audit_lacks stays call kept had has same = record {
    appends = same;
    judged = λ told. tt;
    passes = λ list c s. tt;
    stays = stays;
    call = call;
    counts = kept;
  }

  -- ---- a check

  rotten_never : (e : ReadErr) → (IsTrue (old n).told → GoodIs store.header.shape (reads (new n).now) t (Err e)) → IsTrue (old n).told → WholeNow store.header.shape (reads (new n).now) t
      → CheckPasses (Err (check_error e))
  rotten_never reading.Fault is told w = tt
  rotten_never (reading.Rotten named found) is told w = none_rotten store.header.shape (reads (new n).now) t named found w (is told)
  rotten_never reading.NoMemory is told w = tt

  rotten_ends : (e : ReadErr) → (IsTrue (old n).told → GoodIs store.header.shape (reads (new n).now) t (Err e)) → IsTrue (old n).told
      → IfCheckRotten (Err (check_error e)) (IsRottenNow store.header.shape (reads (new n).now) t)
  rotten_ends reading.Fault is told = tt
  rotten_ends (reading.Rotten named found) is told = is told
  rotten_ends reading.NoMemory is told = tt

  check_counts : (e : ReadErr) → OnReadFault (Err e) Failed Kept → OnCheckFault (Err (check_error e)) Failed Kept
  check_counts reading.Fault k = k
  check_counts (reading.Rotten named found) k = k
  check_counts reading.NoMemory k = k

  own_judged : (text : List ℕ) (e : ReadErr) → text ≡ certificate_text (own_in store) → JudgedIs (own_in store) text (Err (check_error e))
  own_judged text reading.Fault same = same
  own_judged text (reading.Rotten named found) same = same
  own_judged text reading.NoMemory same = tt

  pub check_ended : (text : List ℕ) (e : ReadErr) → text ≡ certificate_text (own_in store) → (IsTrue (old n).told → GoodIs store.header.shape (reads (new n).now) t (Err e)) → Stays (old n) (new n)
      → IsCall old new n before now → OnReadFault (Err e) Failed Kept → IsChecked store text old new before now (Err (check_error e))
  check_ended text e same is stays call counts = record {
    judged = own_judged text e same;
    whole = λ told. tt;
    rotten = rotten_ends e is;
    passes = λ list c s text_is. rotten_never e is (served_told list c s) (served_whole stays list c s);
    stays = stays;
    call = call;
    counts = check_counts e counts;
  }

  pub check_done : (text : List ℕ) (count : ℕ) → ArePlaced t → JudgedIs (own_in store) text (Ok count) → (IsTrue (old n).told → AreGood store.header.shape (reads (new n).now) t) → Stays (old n) (new n)
      → IsCall old new n before now → Kept → IsChecked store text old new before now (Ok count)
  check_done text count placed judged is stays call kept = record {
    judged = judged;
    whole = λ told. whole_by store.header.shape (reads (new n).now) t placed (is told);
    rotten = λ told. tt;
    passes = λ list c s text_is. tt;
    stays = stays;
    call = call;
    counts = kept;
  }

-- ---- a text that is refused before anything is read

abbrev refusal : CheckErr → Result ℕ CheckErr
refusal e = Err e

module _ (store : CloudStore) (text : List ℕ) (old : ℕ → Cloud) (before : ℕ) where
  no_rotten : (P : Fp → Fp → Type 0) (e : CheckErr) → ((named found : Fp) → refusal e ≢ refusal (checks.Rotten named found)) → IfCheckRotten (Err e) P
  no_rotten P (checks.Malformed line at) never = tt
  no_rotten P checks.OtherCloud never = tt
  no_rotten P (checks.Differs line) never = tt
  no_rotten P (checks.Rotten named found) never = absurd (never named found refl)
  no_rotten P checks.Fault never = tt
  no_rotten P checks.NoMemory never = tt

  no_fault : (F K : Type 0) (e : CheckErr) → refusal e ≢ refusal checks.Fault → K → OnCheckFault (Err e) F K
  no_fault F K (checks.Malformed line at) never k = k
  no_fault F K checks.OtherCloud never k = k
  no_fault F K (checks.Differs line) never k = k
  no_fault F K (checks.Rotten named found) never k = k
  no_fault F K checks.Fault never k = absurd (never refl)
  no_fault F K checks.NoMemory never k = k

  pub check_refused : (e : CheckErr) → JudgedIs (own_in store) text (Err e) → ((named found : Fp) → refusal e ≢ refusal (checks.Rotten named found)) → refusal e ≢ refusal checks.Fault
      → (text ≡ certificate_text (own_in store) → e ≡ checks.NoMemory) → IsChecked store text old old before before (Err e)
  check_refused e judged unread uncalled own = record {
    judged = judged;
    whole = λ told. tt;
    rotten = λ told. no_rotten _ e unread;
    passes = λ list c s text_is. subst (λ (x : CheckErr). CheckPasses (Err x)) (sym (own text_is)) tt;
    stays = record { armed = refl; past = refl; now = refl };
    call = record { others = λ other apart. refl; told = refl; armings = refl; later = omega arith; total_later = omega arith };
    counts = no_fault _ _ e uncalled (record { cloud = refl; total = refl });
  }
