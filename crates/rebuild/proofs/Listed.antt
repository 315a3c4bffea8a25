-- What a page of a user's keys tells.
use Rattle.std.proofs.Common.{◌≡◌, ◌⊎◌, ℕ, false, List, [], ◌∷◌, Option, Result, Ok, Err, refl, sym, ap, ◌∙◌, subst, inl, inr}
use Rattle.std.specs.Prelude.{IsTrue, IfErr}
use Rattle.std.specs.List.{Contains}
use Rattle.lane_steps.specs.CdEdges.Causes.{Rose}
use Rattle.lane_steps.specs.CdBase.Reading.{AreBytes}
use Rattle.lane_steps.specs.CdBase.ids.CloudNo.{CloudNo}
use Rattle.lane_steps.specs.CdBase.ids.UserId.{UserId}
use Rattle.lane_steps.specs.CdBase.shape.Shape.{Shape}
use Rattle.lane_steps.specs.Messages.request.Request.TheVariants as requests
use Rattle.lane_steps.specs.Messages.reply.Reply.{Reply}
use Rattle.lane_steps.specs.Messages.reply.Reply.TheVariants as replies
use Rattle.lane_steps.specs.Messages.ReplyReading.{reply_at}
use Rattle.lane_steps.specs.UserDedup.Cloud.{user_view}
use Rattle.lane_steps.specs.UserDedup.Pages.{page_of}
use Rattle.lane_steps.specs.UserDedup.Exec.{Peer}
use Rattle.lane_steps.specs.UserDedup.Link.{LinkTelling, Asks}
use Rattle.lane_steps.proofs.UserDedup.Owned.{contains_here}
use Rattle.lane_steps.proofs.UserDedup.Pages.{Key}
use Rattle.kept_files.specs.RestoreJob.Asking.{Reads, ReadFails, Leads}
use Rattle.kept_files.specs.RestoreJob.Refusals.{Names}
use Rattle.kept_files.specs.RestoreJob.error.RestoreErr.{RestoreErr}
use Rattle.kept_files.specs.RestoreJob.error.RestoreErr.TheVariants as errors
use Rattle.kept_files.proofs.RestoreJob.Causing.{FaultRose, untold, only_told}
use Rattle.kept_files.proofs.RestoreJob.Held.{heard_moves, lost_moves}
use Rattle.kept_files.proofs.RestoreJob.Leading.{Moves, leads_to}
use Rattle.rebuild.specs.Steps.{ReadCauses, RefusesPage, PageIs, PageFrom, PageTold}

abbrev Listed : Type 0
Listed = Result (List Key) RestoreErr

-- ---- names

refuses_names : (cloud : CloudNo) (reply : Reply) (e : RestoreErr) → RefusesPage cloud reply e → Names (λ c. c ≡ cloud.0) e
refuses_names cloud replies.Fault e is = subst (Names (λ c. c ≡ cloud.0)) (sym is) refl
refuses_names cloud (replies.Damaged at byte) e is = subst (Names (λ c. c ≡ cloud.0)) (sym is) refl
refuses_names cloud (replies.Rotten named found) e is = subst (Names (λ c. c ≡ cloud.0)) (sym is) refl
refuses_names cloud replies.NoMemory e is = subst (Names (λ c. c ≡ cloud.0)) (sym is) refl
refuses_names cloud (replies.Hello n k own format) e is = subst (Names (λ c. c ≡ cloud.0)) (sym is.1) refl
refuses_names cloud (replies.Known flags) e is = subst (Names (λ c. c ≡ cloud.0)) (sym is.1) refl
refuses_names cloud (replies.Stored new) e is = subst (Names (λ c. c ≡ cloud.0)) (sym is.1) refl
refuses_names cloud replies.Committed e is = subst (Names (λ c. c ≡ cloud.0)) (sym is.1) refl
refuses_names cloud replies.Exists e is = subst (Names (λ c. c ≡ cloud.0)) (sym is.1) refl
refuses_names cloud (replies.Lacking place) e is = subst (Names (λ c. c ≡ cloud.0)) (sym is.1) refl
refuses_names cloud (replies.Recipe bytes) e is = subst (Names (λ c. c ≡ cloud.0)) (sym is.1) refl
refuses_names cloud replies.Missing e is = subst (Names (λ c. c ≡ cloud.0)) (sym is.1) refl
refuses_names cloud (replies.Shares shares) e is = subst (Names (λ c. c ≡ cloud.0)) (sym is.1) refl
refuses_names cloud (replies.NotYours place) e is = subst (Names (λ c. c ≡ cloud.0)) (sym is.1) refl
refuses_names cloud (replies.Entries entries) e is = subst (Names (λ c. c ≡ cloud.0)) (sym is.1) refl
refuses_names cloud replies.Deleted e is = subst (Names (λ c. c ≡ cloud.0)) (sym is.1) refl
refuses_names cloud (replies.Full room used need limit) e is = subst (Names (λ c. c ≡ cloud.0)) (sym is.1) refl
refuses_names cloud (replies.Malformed at) e is = subst (Names (λ c. c ≡ cloud.0)) (sym is.1) refl

abbrev NamesOne : CloudNo → Listed → Type 0
NamesOne cloud result = IfErr result (Names (λ c. c ≡ cloud.0))

-- what a reply that is no page leaves
abbrev NoPage : CloudNo → Reply → Listed → Type 0
NoPage cloud reply result = (e : RestoreErr) × (result ≡ Err e) × RefusesPage cloud reply e

none_names : (cloud : CloudNo) (reply : Reply) (result : Listed) → NoPage cloud reply result → NamesOne cloud result
none_names cloud reply result is = subst (NamesOne cloud) (sym is.1) (refuses_names cloud reply is.0 is.2)

is_names : (cloud : CloudNo) (read : Result Reply ℕ) (result : Listed) → PageIs cloud read result → NamesOne cloud result
is_names cloud (Err at) result is = subst (NamesOne cloud) (sym is.1) refl
is_names cloud (Ok (replies.Entries entries)) result is = subst (NamesOne cloud) (sym is) tt
is_names cloud (Ok replies.Fault) result is = none_names cloud replies.Fault result is
is_names cloud (Ok (replies.Damaged at byte)) result is = none_names cloud (replies.Damaged at byte) result is
is_names cloud (Ok (replies.Rotten named found)) result is = none_names cloud (replies.Rotten named found) result is
is_names cloud (Ok replies.NoMemory) result is = none_names cloud replies.NoMemory result is
is_names cloud (Ok (replies.Hello n k own format)) result is = none_names cloud (replies.Hello n k own format) result is
is_names cloud (Ok (replies.Known flags)) result is = none_names cloud (replies.Known flags) result is
is_names cloud (Ok (replies.Stored new)) result is = none_names cloud (replies.Stored new) result is
is_names cloud (Ok replies.Committed) result is = none_names cloud replies.Committed result is
is_names cloud (Ok replies.Exists) result is = none_names cloud replies.Exists result is
is_names cloud (Ok (replies.Lacking place)) result is = none_names cloud (replies.Lacking place) result is
is_names cloud (Ok (replies.Recipe bytes)) result is = none_names cloud (replies.Recipe bytes) result is
is_names cloud (Ok replies.Missing) result is = none_names cloud replies.Missing result is
is_names cloud (Ok (replies.Shares shares)) result is = none_names cloud (replies.Shares shares) result is
is_names cloud (Ok (replies.NotYours place)) result is = none_names cloud (replies.NotYours place) result is
is_names cloud (Ok replies.Deleted) result is = none_names cloud replies.Deleted result is
is_names cloud (Ok (replies.Full room used need limit)) result is = none_names cloud (replies.Full room used need limit) result is
is_names cloud (Ok (replies.Malformed at)) result is = none_names cloud (replies.Malformed at) result is

pub from_names : (cloud : CloudNo) (read : Result Reply ℕ) (result : Listed) → PageFrom cloud read result → NamesOne cloud result
from_names cloud read result (inl memory) = subst (NamesOne cloud) (sym memory) tt
from_names cloud read result (inr is) = is_names cloud read result is

-- ---- a fault

-- the result is fault only where the reply is
abbrev FaultFrom : Result Reply ℕ → Listed → Type 0
FaultFrom read (Ok page) = Unit {0}
FaultFrom read (Err (errors.CloudFault c)) = read ≡ Ok replies.Fault
FaultFrom read (Err e) = Unit {0}

none_faults : (cloud : CloudNo) (read : Result Reply ℕ) (reply : Reply) (result : Listed) → (read ≡ Ok replies.Fault) ⊎ ((e : RestoreErr) → RefusesPage cloud reply e → FaultFrom read (Err e)) → NoPage cloud reply result → FaultFrom read result
none_faults cloud read reply result (inl fault) is = by_result result
  where
    by_result : (r : Listed) → FaultFrom read r
    by_result (Ok page) = tt
    by_result (Err (errors.Missing c)) = tt
    by_result (Err (errors.Lost c)) = tt
    by_result (Err (errors.CloudFault c)) = fault
    by_result (Err (errors.CloudDamaged c at byte)) = tt
    by_result (Err (errors.CloudRotten c named found)) = tt
    by_result (Err (errors.CloudNoMemory c)) = tt
    by_result (Err (errors.Strange c kind)) = tt
    by_result (Err (errors.RecipesDiffer a b place)) = tt
    by_result (Err (errors.ShareLength c secret found wanted)) = tt
    by_result (Err (errors.BadShare c secret named found)) = tt
    by_result (Err (errors.BadSecret secret named found)) = tt
    by_result (Err (errors.BadPad secret at byte)) = tt
    by_result (Err errors.NoMemory) = tt
none_faults cloud read reply result (inr other) is = subst (FaultFrom read) (sym is.1) (other is.0 is.2)

strange_faults : (read : Result Reply ℕ) (cloud : CloudNo) (e : RestoreErr) → (kind : ℕ) × (e ≡ errors.Strange cloud kind) → FaultFrom read (Err e)
strange_faults read cloud e is = subst (λ (x : RestoreErr). FaultFrom read (Err x)) (sym is.1) tt

is_faults : (cloud : CloudNo) (read : Result Reply ℕ) (result : Listed) → PageIs cloud read result → FaultFrom read result
is_faults cloud (Err at) result is = subst (FaultFrom (Err at)) (sym is.1) tt
is_faults cloud (Ok (replies.Entries entries)) result is = subst (FaultFrom (Ok (replies.Entries entries))) (sym is) tt
is_faults cloud (Ok replies.Fault) result is = none_faults cloud (Ok replies.Fault) replies.Fault result (inl refl) is
is_faults cloud (Ok (replies.Damaged at byte)) result is = none_faults cloud (Ok (replies.Damaged at byte)) (replies.Damaged at byte) result (inr (λ e k. subst (λ (x : RestoreErr). FaultFrom (Ok (replies.Damaged at byte)) (Err x)) (sym k) tt)) is
is_faults cloud (Ok (replies.Rotten named found)) result is = none_faults cloud (Ok (replies.Rotten named found)) (replies.Rotten named found) result (inr (λ e k. subst (λ (x : RestoreErr). FaultFrom (Ok (replies.Rotten named found)) (Err x)) (sym k) tt)) is
is_faults cloud (Ok replies.NoMemory) result is = none_faults cloud (Ok replies.NoMemory) replies.NoMemory result (inr (λ e k. subst (λ (x : RestoreErr). FaultFrom (Ok replies.NoMemory) (Err x)) (sym k) tt)) is
is_faults cloud (Ok (replies.Hello n k own format)) result is = none_faults cloud (Ok (replies.Hello n k own format)) (replies.Hello n k own format) result (inr (strange_faults _ cloud)) is
is_faults cloud (Ok (replies.Known flags)) result is = none_faults cloud (Ok (replies.Known flags)) (replies.Known flags) result (inr (strange_faults _ cloud)) is
is_faults cloud (Ok (replies.Stored new)) result is = none_faults cloud (Ok (replies.Stored new)) (replies.Stored new) result (inr (strange_faults _ cloud)) is
is_faults cloud (Ok replies.Committed) result is = none_faults cloud (Ok replies.Committed) replies.Committed result (inr (strange_faults _ cloud)) is
is_faults cloud (Ok replies.Exists) result is = none_faults cloud (Ok replies.Exists) replies.Exists result (inr (strange_faults _ cloud)) is
is_faults cloud (Ok (replies.Lacking place)) result is = none_faults cloud (Ok (replies.Lacking place)) (replies.Lacking place) result (inr (strange_faults _ cloud)) is
is_faults cloud (Ok (replies.Recipe bytes)) result is = none_faults cloud (Ok (replies.Recipe bytes)) (replies.Recipe bytes) result (inr (strange_faults _ cloud)) is
is_faults cloud (Ok replies.Missing) result is = none_faults cloud (Ok replies.Missing) replies.Missing result (inr (strange_faults _ cloud)) is
is_faults cloud (Ok (replies.Shares shares)) result is = none_faults cloud (Ok (replies.Shares shares)) (replies.Shares shares) result (inr (strange_faults _ cloud)) is
is_faults cloud (Ok (replies.NotYours place)) result is = none_faults cloud (Ok (replies.NotYours place)) (replies.NotYours place) result (inr (strange_faults _ cloud)) is
is_faults cloud (Ok replies.Deleted) result is = none_faults cloud (Ok replies.Deleted) replies.Deleted result (inr (strange_faults _ cloud)) is
is_faults cloud (Ok (replies.Full room used need limit)) result is = none_faults cloud (Ok (replies.Full room used need limit)) (replies.Full room used need limit) result (inr (strange_faults _ cloud)) is
is_faults cloud (Ok (replies.Malformed at)) result is = none_faults cloud (Ok (replies.Malformed at)) (replies.Malformed at) result (inr (strange_faults _ cloud)) is

from_faults : (cloud : CloudNo) (read : Result Reply ℕ) (result : Listed) → PageFrom cloud read result → FaultFrom read result
from_faults cloud read result (inl memory) = subst (FaultFrom read) (sym memory) tt
from_faults cloud read result (inr is) = is_faults cloud read result is

fault_rose : (read : Result Reply ℕ) (result : Listed) (p q : Peer) → FaultFrom read result → (read ≡ Ok replies.Fault → Rose p.faults q.faults) → FaultRose result p q
fault_rose read (Ok page) p q is rose = tt
fault_rose read (Err (errors.Missing c)) p q is rose = tt
fault_rose read (Err (errors.Lost c)) p q is rose = tt
fault_rose read (Err (errors.CloudFault c)) p q is rose = rose is
fault_rose read (Err (errors.CloudDamaged c at byte)) p q is rose = tt
fault_rose read (Err (errors.CloudRotten c named found)) p q is rose = tt
fault_rose read (Err (errors.CloudNoMemory c)) p q is rose = tt
fault_rose read (Err (errors.Strange c kind)) p q is rose = tt
fault_rose read (Err (errors.RecipesDiffer a b place)) p q is rose = tt
fault_rose read (Err (errors.ShareLength c secret found wanted)) p q is rose = tt
fault_rose read (Err (errors.BadShare c secret named found)) p q is rose = tt
fault_rose read (Err (errors.BadSecret secret named found)) p q is rose = tt
fault_rose read (Err (errors.BadPad secret at byte)) p q is rose = tt
fault_rose read (Err errors.NoMemory) p q is rose = tt

-- ---- one cloud

abbrev PeerTold : Shape → UserId → CloudNo → Option Key → Listed → Peer → Peer → Type 0
PeerTold shape user cloud above (Ok page) p q = Reads p q × (page ≡ page_of (user_view shape q.list user).files above)
PeerTold shape user cloud above (Err (errors.CloudFault c)) p q = (c ≡ cloud) × ReadFails p q
PeerTold shape user cloud above (Err (errors.Lost c)) p q = c ≡ cloud
PeerTold shape user cloud above (Err errors.NoMemory) p q = Unit {0}
PeerTold shape user cloud above (Err e) p q = ⊥

by_page : (shape : Shape) (user : UserId) (cloud : CloudNo) (above : Option Key) (result : Listed) (p q : Peer) → Reads p q → PageFrom cloud (Ok (replies.Entries (page_of (user_view shape q.list user).files above))) result
    → PeerTold shape user cloud above result p q
by_page shape user cloud above result p q reads (inl memory) = subst (λ (r : Listed). PeerTold shape user cloud above r p q) (sym memory) tt
by_page shape user cloud above result p q reads (inr is) = subst (λ (r : Listed). PeerTold shape user cloud above r p q) (sym is) (reads, refl)

by_fault : (shape : Shape) (user : UserId) (cloud : CloudNo) (above : Option Key) (result : Listed) (p q : Peer) → ReadFails p q → PageFrom cloud (Ok replies.Fault) result → PeerTold shape user cloud above result p q
by_fault shape user cloud above result p q fails (inl memory) = subst (λ (r : Listed). PeerTold shape user cloud above r p q) (sym memory) tt
by_fault shape user cloud above result p q fails (inr is) =
    subst (λ (r : Listed). PeerTold shape user cloud above r p q) (sym (is.1 ∙ ap (λ (e : RestoreErr). bad e) is.2)) (refl, fails)
  where
    bad : RestoreErr → Listed
    bad e = Err e

pub page_moves : {L : Type 0} (t : LinkTelling L) (shape : Shape) (user : UserId) (above : Option Key) (cloud : CloudNo) (old new : L) (content : List ℕ) (result : Listed)
    → t.shape old ≡ shape → AreBytes content → Asks {E = RestoreErr} t cloud.0 old (requests.List user above) content (Ok tt) new
    → PageFrom cloud (reply_at content) result → Moves t cloud.0 old new (FaultRose result) (PeerTold shape user cloud above result)
page_moves t shape user above cloud old new content result same bytes asks from =
    heard_moves t cloud.0 old new (requests.List user above) content (FaultRose result) (PeerTold shape user cloud above result) (λ list. refl)
    (λ list e. let f : replies.Entries (page_of (user_view (t.shape old) list user).files above) ≡ replies.Fault = e in cc) bytes asks
    (λ p q rose. fault_rose (reply_at content) result p q (from_faults cloud (reply_at content) result from) rose)
    (λ p q stands told reads at. by_page shape user cloud above result p q reads
    (subst (λ (s : Shape). PageFrom cloud (Ok (replies.Entries (page_of (user_view s q.list user).files above))) result) same (subst (λ (x : Result Reply ℕ). PageFrom cloud x result) at from)))
    (λ p q fails at. by_fault shape user cloud above result p q fails (subst (λ (x : Result Reply ℕ). PageFrom cloud x result) at from))

-- ---- the cloud of a link

caused_at : {L : Type 0} (t : LinkTelling L) (link : L) (shape : Shape) (user : UserId) (cloud : CloudNo) (above : Option Key) (result : Listed) (a b : ℕ → Peer) → NamesOne cloud result → FaultRose result (a cloud.0) (b cloud.0)
    → (IsTrue (t.told link cloud.0) → PeerTold shape user cloud above result (a cloud.0) (b cloud.0)) → ReadCauses t link result a b
caused_at t link shape user cloud above (Ok page) a b named rose told = tt
caused_at t link shape user cloud above (Err (errors.Missing c)) a b named rose told = tt
caused_at t link shape user cloud above (Err (errors.Lost c)) a b named rose told = tt
caused_at t link shape user cloud above (Err (errors.CloudFault c)) a b named rose told = subst (λ (x : ℕ). Rose (a x).faults (b x).faults) (sym named) rose
caused_at t link shape user cloud above (Err (errors.CloudDamaged c at byte)) a b named rose told = subst (λ (x : ℕ). t.told link x ≡ false) (sym named) (untold (t.told link cloud.0) told)
caused_at t link shape user cloud above (Err (errors.CloudRotten c hash found)) a b named rose told = subst (λ (x : ℕ). t.told link x ≡ false) (sym named) (untold (t.told link cloud.0) told)
caused_at t link shape user cloud above (Err (errors.CloudNoMemory c)) a b named rose told = subst (λ (x : ℕ). t.told link x ≡ false) (sym named) (untold (t.told link cloud.0) told)
caused_at t link shape user cloud above (Err (errors.Strange c kind)) a b named rose told = subst (λ (x : ℕ). t.told link x ≡ false) (sym named) (untold (t.told link cloud.0) told)
caused_at t link shape user cloud above (Err (errors.BadShare c secret hash found)) a b named rose told = subst (λ (x : ℕ). t.told link x ≡ false) (sym named) (untold (t.told link cloud.0) told)
caused_at t link shape user cloud above (Err (errors.RecipesDiffer x y place)) a b named rose told = tt
caused_at t link shape user cloud above (Err (errors.ShareLength c secret found wanted)) a b named rose told = tt
caused_at t link shape user cloud above (Err (errors.BadSecret secret hash found)) a b named rose told = tt
caused_at t link shape user cloud above (Err (errors.BadPad secret at byte)) a b named rose told = tt
caused_at t link shape user cloud above (Err errors.NoMemory) a b named rose told = tt

told_at : (shape : Shape) (user : UserId) (cloud : CloudNo) (above : Option Key) (result : Listed) (a b : ℕ → Peer) → PeerTold shape user cloud above result (a cloud.0) (b cloud.0) → PageTold shape user cloud above result a b
told_at shape user cloud above (Ok page) a b told = told
told_at shape user cloud above (Err (errors.CloudFault c)) a b told =
    let same : cloud.0 ≡ c.0 = ap (λ (x : CloudNo). x.0) (sym told.0) in
    (subst (Contains (cloud.0 ∷ [])) same (contains_here cloud.0 []), subst (λ (x : ℕ). Rose (a x).faults (b x).faults) same told.1.0)
told_at shape user cloud above (Err (errors.Lost c)) a b told =
    let same : cloud.0 ≡ c.0 = ap (λ (x : CloudNo). x.0) (sym told) in subst (Contains (cloud.0 ∷ [])) same (contains_here cloud.0 [])
told_at shape user cloud above (Err errors.NoMemory) a b told = tt
told_at shape user cloud above (Err (errors.Missing c)) a b told = absurd told
told_at shape user cloud above (Err (errors.CloudDamaged c at byte)) a b told = absurd told
told_at shape user cloud above (Err (errors.CloudRotten c hash found)) a b told = absurd told
told_at shape user cloud above (Err (errors.CloudNoMemory c)) a b told = absurd told
told_at shape user cloud above (Err (errors.Strange c kind)) a b told = absurd told
told_at shape user cloud above (Err (errors.RecipesDiffer x y place)) a b told = absurd told
told_at shape user cloud above (Err (errors.ShareLength c secret found wanted)) a b told = absurd told
told_at shape user cloud above (Err (errors.BadShare c secret hash found)) a b told = absurd told
told_at shape user cloud above (Err (errors.BadSecret secret hash found)) a b told = absurd told
told_at shape user cloud above (Err (errors.BadPad secret at byte)) a b told = absurd told

abbrev PageLeads : {L : Type 0} → LinkTelling L → Shape → UserId → CloudNo → Option Key → L → L → Listed → Type 0
PageLeads t shape user cloud above old new result = Leads t (cloud.0 ∷ []) old new (ReadCauses t old result) (PageTold shape user cloud above result)

pub page_leads : {L : Type 0} (t : LinkTelling L) (shape : Shape) (user : UserId) (cloud : CloudNo) (above : Option Key) (old new : L) (result : Listed) → NamesOne cloud result
    → Leads t (cloud.0 ∷ []) old new (λ a b. FaultRose result (a cloud.0) (b cloud.0)) (λ a b. PeerTold shape user cloud above result (a cloud.0) (b cloud.0))
    → PageLeads t shape user cloud above old new result
page_leads t shape user cloud above old new result named first =
    leads_to t (cloud.0 ∷ []) (cloud.0 ∷ []) old new _ _ _ _ first (λ x has. has)
    (λ a b one rose told. caused_at t old shape user cloud above result a b named rose (λ yes. told (only_told t old cloud.0 yes)))
    (λ a b one r. told_at shape user cloud above result a b r)

-- an ask that was lost
pub lost_page : {L : Type 0} (t : LinkTelling L) (shape : Shape) (user : UserId) (cloud : CloudNo) (above : Option Key) (old new : L) (content : List ℕ) (e : RestoreErr) → e ≡ errors.Lost cloud
    → Asks t cloud.0 old (requests.List user above) content (Err e) new → Moves t cloud.0 old new (FaultRose {A = List Key} (Err e)) (PeerTold shape user cloud above (Err e))
lost_page t shape user cloud above old new content e is asks =
    lost_moves t cloud.0 old new (requests.List user above) content e (FaultRose {A = List Key} (Err e)) (PeerTold shape user cloud above (Err e)) (λ list. refl) asks
    (λ p q. subst (λ (x : RestoreErr). FaultRose {A = List Key} (Err x) p q) (sym is) tt)
    (λ p q. subst (λ (x : RestoreErr). PeerTold shape user cloud above (Err x) p q) (sym is) refl)
