-- A listing over the servers of this process, as one over a vault's clouds.
use Rattle.std.proofs.Common.{◌≡◌, ℕ, ◌+◌, ◌-◌, ◌<◌, ◌≤◌, Bool, true, false, List, [], ◌∷◌, ◌++◌, map, length, Option, Some, None, refl, sym, ap, ◌∙◌, subst, inl, inr, ◌⊎◌, arith, eqb-true, append_assoc}
use Rattle.std.specs.Prelude.{Result, Ok, Err, ◌==◌, slice_get}
use Rattle.std.specs.Bool.{MatchBool}
use Rattle.std.proofs.lemmas.Bool.{cases_eq, eqb-false}
use Rattle.std.proofs.lemmas.List.{length-append, map-append}
use Rattle.recipe.specs.CdBase.ids.CloudNo.{CloudNo}
use Rattle.recipe.specs.CdBase.ids.Tag.{Tag}
use Rattle.recipe.specs.CdBase.ids.UserId.{UserId}
use Rattle.recipe.specs.CdBase.ids.Version.{Version}
use Rattle.recipe.specs.CdBase.shape.Shape.{Shape}
use Rattle.session_model.specs.CdEdges.Disk.{Cloud}
use Rattle.session_model.specs.MessageFields.Keys.{key_limit}
use Rattle.deletions.specs.Messages.request.Request.{Request}
use Rattle.deletions.specs.Messages.request.Request.TheVariants as requests
use Rattle.deletions.specs.Messages.Requests.{IsRequest}
use Rattle.deletions.specs.Messages.reply.Reply.{Reply}
use Rattle.deletions.specs.Messages.reply.Reply.TheVariants as replies
use Rattle.deletions.specs.Messages.Answering.{IsReplyTo}
use Rattle.deletions.specs.Messages.Replies.{FitsReply, IsReply}
use Rattle.session_model.specs.UserDedup.command.Command.{Command}
use Rattle.session_model.specs.UserDedup.link.Lost.{Lost}
use Rattle.session_model.specs.UserDedup.Cloud.{user_view}
use Rattle.session_model.specs.UserDedup.Dedup.{FullRoom}
use Rattle.session_model.specs.UserDedup.Pages.{page_of}
use Rattle.session_model.specs.UserDedup.Exec.{Peer, Exec, ExecTold, ExecUntold, served}
use Rattle.session_model.specs.UserDedup.Link.{Asks, LeavesOthers}
use Rattle.session_model.specs.UserDedup.Requests.{asked_at}
use Rattle.session_model.proofs.UserDedup.Asked.{asked_law}
use Rattle.session_model.specs.UploadJob.Lanes.{LaneView}
use Rattle.session_jobs.specs.LaneSteps.Runs.{LaneTurn}
use Rattle.session_model.specs.LocalLink.link.LocalLink.{LocalLink}
use Rattle.session_model.specs.LocalLink.Tells.{full_at, telling, PassesOn}
use Rattle.session_model.specs.Session.event.Event.TheVariants as events
use Rattle.session_model.specs.Transcript.refusal.Refusal.{Refusal}
use Rattle.session_model.specs.Transcript.refusal.Refusal.TheVariants as refusals
use Rattle.session_model.specs.Transcript.line.Line.TheVariants as lines
use Rattle.session_model.specs.Vault.{Setting, Vault}
use Rattle.session_model.specs.Steps.{Moment, cloud_no, moment_of, list_refusal, EndsListing, behind_page, ListRun, entry_line, list_lines}
use Rattle.session_model.specs.Session.Texts.{text_of}
use Rattle.session_model.proofs.Parts.{fault_of, fails, put}
use Rattle.session_model.proofs.Parts as parts
use Rattle.script_lines.specs.declared.listing.Listing.{Listing}
use Rattle.script_lines.specs.declared.listing.NoPage.{NoPage}
use Rattle.script_lines.specs.declared.listing.NoPage.TheVariants as no_pages
use Rattle.script_lines.specs.At.{LinkAt, IsAtVault}
use Rattle.script_lines.specs.Does.{Images, Goes, IsLineCut, CarriesOut, IsCutOff}
use Rattle.script_lines.specs.Paging.{IsListReply, TakesPage, HasAddedPage, PageAsked, PageTurns, ListsByReply, Listed, ListsEntries, SaysNoPage}
use Rattle.script_lines.proofs.Going.{moves, executes, images_executed, images_still, left_at, cut_behind}
use Rattle.script_lines.proofs.Lines.{text_join}
use Rattle.script_lines.proofs.Bringing.{images_later}

-- ---- replies

-- a refusal ends a listing
ends_refused : (cloud : ℕ) (reply : Reply) (why : Refusal) → list_refusal cloud reply ≡ Some why → EndsListing cloud reply (Err why)
ends_refused cloud (replies.Entries page) why e = absurd (let n : None ≡ Some why = e in cc)
ends_refused cloud (replies.Hello n k c format) why e = (why, e, refl)
ends_refused cloud (replies.Known flags) why e = (why, e, refl)
ends_refused cloud (replies.Stored new) why e = (why, e, refl)
ends_refused cloud replies.Committed why e = (why, e, refl)
ends_refused cloud replies.Exists why e = (why, e, refl)
ends_refused cloud (replies.Lacking place) why e = (why, e, refl)
ends_refused cloud (replies.Recipe bytes) why e = (why, e, refl)
ends_refused cloud replies.Missing why e = (why, e, refl)
ends_refused cloud (replies.Shares shares) why e = (why, e, refl)
ends_refused cloud (replies.NotYours place) why e = (why, e, refl)
ends_refused cloud replies.Deleted why e = (why, e, refl)
ends_refused cloud (replies.Full room used need limit) why e = (why, e, refl)
ends_refused cloud replies.Fault why e = (why, e, refl)
ends_refused cloud (replies.Damaged at byte) why e = (why, e, refl)
ends_refused cloud (replies.Rotten named found) why e = (why, e, refl)
ends_refused cloud (replies.Malformed at) why e = (why, e, refl)
ends_refused cloud replies.NoMemory why e = (why, e, refl)

-- a page that isn't full does
ends_last : (cloud : ℕ) (reply : Reply) (page : List (Tag × Version)) → reply ≡ replies.Entries page → length page < key_limit → EndsListing cloud reply (Ok page)
ends_last cloud reply page e lt = subst (λ (r : Reply). EndsListing cloud r (Ok page)) (sym e) (lt, refl)

-- what a server gives to the request where nothing is told
untold_reply : (cloud items : ℕ) (user : UserId) (above : Option (Tag × Version)) (reply : Reply) → FitsReply reply → IsReplyTo items (requests.List user above) reply → IsListReply cloud reply
untold_reply cloud items user above (replies.Entries page) fits kind = inl (page, refl, fits.0)
untold_reply cloud items user above replies.Fault fits kind = inr (refusals.Fault (cloud_no cloud), refl)
untold_reply cloud items user above (replies.Damaged at byte) fits kind = inr (refusals.Damaged (cloud_no cloud) at byte, refl)
untold_reply cloud items user above replies.NoMemory fits kind = inr (refusals.NoMemory (cloud_no cloud), refl)
untold_reply cloud items user above (replies.Hello n k c format) fits kind = absurd kind
untold_reply cloud items user above (replies.Known flags) fits kind = absurd kind
untold_reply cloud items user above (replies.Stored new) fits kind = absurd kind
untold_reply cloud items user above replies.Committed fits kind = absurd kind
untold_reply cloud items user above replies.Exists fits kind = absurd kind
untold_reply cloud items user above (replies.Lacking place) fits kind = absurd kind
untold_reply cloud items user above (replies.Recipe bytes) fits kind = absurd kind
untold_reply cloud items user above replies.Missing fits kind = absurd kind
untold_reply cloud items user above (replies.Shares shares) fits kind = absurd kind
untold_reply cloud items user above (replies.NotYours place) fits kind = absurd kind
untold_reply cloud items user above replies.Deleted fits kind = absurd kind
untold_reply cloud items user above (replies.Full room used need limit) fits kind = absurd kind
untold_reply cloud items user above (replies.Rotten named found) fits kind = absurd kind
untold_reply cloud items user above (replies.Malformed at) fits kind = absurd kind

list_reply : (shape : Shape) (told : Bool) (cloud : ℕ) (full : List Command → Command → Option FullRoom) (p q : Peer) (user : UserId) (above : Option (Tag × Version)) (reply : Reply) (bytes : List ℕ)
    → IsReply bytes reply → Exec shape told (served shape cloud full) p (requests.List user above) reply q → IsListReply cloud reply
list_reply shape told cloud full p q user above reply bytes is exec = by_told told exec.does
  where
    by_told : (b : Bool) → MatchBool b (ExecTold (served shape cloud full) p (requests.List user above) reply q) (ExecUntold shape p (requests.List user above) reply q) → IsListReply cloud reply
    by_told true (inl a) =
        let page = page_of (user_view shape a.before user).files above in
        let e : reply ≡ replies.Entries page = a.served in
        inl (page, e, (subst FitsReply e is.fits).0)
    by_told true (inr f) = inr (refusals.Fault (cloud_no cloud), ap (list_refusal cloud) f.reply_is)
    by_told false x = untold_reply cloud 0 user above reply is.fits x.kind

-- ---- one page

module _ {V : Type 0} (clouds : V → ℕ → Cloud) (s : Setting) (user : UserId) (cloud : ℕ) where
  -- the cloud was asked, and this came of its reply
  pub page_asked : (old new : LocalLink V) (peers : ℕ → Peer) (above : Option (Tag × Version)) (content bytes : List ℕ) (came : Result (List (Tag × Version)) NoPage) (u : Unit {0}) → LinkAt clouds s old peers → cloud < old.servers.shape.n
      → IsRequest content (requests.List user above) → PassesOn clouds old (record { cloud = cloud; content = content; reply = Some bytes }) new → LeavesOthers (telling clouds) cloud old new
      → ((r : Request) → asked_at old.servers.shape content ≡ Ok r → Asks {E = Lost} (telling clouds) cloud old r bytes (Ok u) new)
      → ((reply : Reply) → IsReply bytes reply → IsListReply cloud reply → TakesPage cloud reply came)
      → PageAsked clouds s user cloud above old new peers (λ reply. TakesPage cloud reply came)
  page_asked old new peers above content bytes came u is below request passes others asks takes =
      let r : Request = requests.List user above in
      let lt : cloud < s.shape.n = subst (λ (sh : Shape). cloud < sh.n) is.shape below in
      let asked : asked_at old.servers.shape content ≡ Ok r = (asked_law old.servers.shape content r passes.bytes).1 (record { asked = request; recipe = tt }) in
      let went = asks r asked (peers cloud) (is.stands cloud lt) in
      let reply = went.2.0 in
      let kind = list_reply old.servers.shape (clouds old.shelf.now cloud).told cloud (full_at old.servers cloud) (peers cloud) went.0 user above reply bytes went.2.1 went.2.2 in
      record {
        left = put peers cloud went.0;
        reply = reply;
        exec = executes clouds s old peers cloud r reply went.0 is lt went.2.2;
        link_at = moves clouds s old new peers cloud went.0 is others passes.rest passes.rooms passes.fate went.1;
        images = λ last. images_executed clouds s old new peers cloud r reply last is passes.rest (λ told. passes.images (peers cloud) r told (is.stands cloud lt) asked);
        kind = kind;
        so = takes reply went.2.1 kind;
      }

  pub with_so : (above : Option (Tag × Version)) (old new : LocalLink V) (peers : ℕ → Peer) (P Q : Reply → Type 0) → ((reply : Reply) → P reply → Q reply)
      → PageAsked clouds s user cloud above old new peers P → PageAsked clouds s user cloud above old new peers Q
  with_so above old new peers P Q less a = record { left = a.left; reply = a.reply; exec = a.exec; link_at = a.link_at; images = a.images; kind = a.kind; so = less a.reply a.so }

  -- ---- the pages so far

  pub record Pages (old now : LocalLink V) (peers : ℕ → Peer) (above : Option (Tag × Version)) : Type 0 where
    pub entries : List (Tag × Version)
    pub turns : List (LaneTurn (ℕ → Peer))
    pub at : ℕ → Peer
    pub link_at : LinkAt clouds s now at
    pub images : Images clouds s old now (map (moment_of cloud) turns) at
    -- however the listing goes on, all of it is a listing
    pub runs : (more : List (LaneTurn (ℕ → Peer))) (listed : Result (List (Tag × Version)) Refusal) (new : ℕ → Peer) → ListRun s user cloud above at more listed new
        → ListRun s user cloud None peers (turns ++ more) (behind_page entries listed) new

  none_behind : (listed : Result (List (Tag × Version)) Refusal) → behind_page [] listed ≡ listed
  none_behind (Ok entries) = refl
  none_behind (Err why) = refl

  both_behind : (one two : List (Tag × Version)) (listed : Result (List (Tag × Version)) Refusal) → behind_page one (behind_page two listed) ≡ behind_page (one ++ two) listed
  both_behind one two (Ok entries) = ap (λ (l : List (Tag × Version)). let r : Result (List (Tag × Version)) Refusal = Ok l in r) (sym (append_assoc one two entries))
  both_behind one two (Err why) = refl

  pub pages_none : (link : LocalLink V) (peers : ℕ → Peer) → LinkAt clouds s link peers → Pages link link peers None
  pages_none link peers is = record {
    entries = [];
    turns = [];
    at = peers;
    link_at = is;
    images = images_still clouds s link link peers [] is refl;
    runs = λ more listed new run. subst (λ (r : Result (List (Tag × Version)) Refusal). ListRun s user cloud None peers more r new) (sym (none_behind listed)) run;
  }

  module _ (old mid new : LocalLink V) (peers : ℕ → Peer) (above : Option (Tag × Version)) (p : Pages old mid peers above) (IsSo : Reply → Type 0)
      (a : PageAsked clouds s user cloud above mid new p.at IsSo) where
    abbrev turn : LaneTurn (ℕ → Peer)
    turn = record { before = p.at; request = requests.List user above; reply = a.reply }

    images_on : Images clouds s old new (map (moment_of cloud) (p.turns ++ turn ∷ [])) a.left
    images_on =
        subst (λ (l : List Moment). Images clouds s old new l a.left) (sym (map-append (moment_of cloud) p.turns (turn ∷ [])))
        (images_later clouds s 0 old mid new (map (moment_of cloud) p.turns) (moment_of cloud turn ∷ []) p.at a.left (inr (moment_of cloud turn, [], refl, refl)) p.images (a.images a.left))

    -- a full page more
    pub pages_more : (page : List (Tag × Version)) → a.reply ≡ replies.Entries page → length page ≡ key_limit → Pages old new peers (slice_get page (length page - 1))
    pages_more page e full = record {
      entries = p.entries ++ page;
      turns = p.turns ++ turn ∷ [];
      at = a.left;
      link_at = a.link_at;
      images = images_on;
      runs = λ more listed last run.
          subst (λ (r : Result (List (Tag × Version)) Refusal). ListRun s user cloud None peers ((p.turns ++ turn ∷ []) ++ more) r last) (both_behind p.entries page listed)
          (subst (λ (l : List (LaneTurn (ℕ → Peer))). ListRun s user cloud None peers l (behind_page p.entries (behind_page page listed)) last) (sym (append_assoc p.turns (turn ∷ []) more))
          (p.runs (turn ∷ more) (behind_page page listed) last (refl, refl, (a.left, a.exec, inr (page, listed, e, full, refl, run)))));
    }

    -- the last page, or a refusal
    pub pages_end : (listed : Result (List (Tag × Version)) Refusal) → EndsListing cloud a.reply listed → Listed clouds s user cloud old new peers (behind_page p.entries listed)
    pages_end listed ends = record {
      turns = p.turns ++ turn ∷ [];
      after = a.left;
      run = p.runs (turn ∷ []) listed a.left (refl, refl, (a.left, a.exec, inl (ends, refl, refl)));
      link_at = a.link_at;
      images = images_on;
    }

    pub refused_end : (why : Refusal) → list_refusal cloud a.reply ≡ Some why → Listed clouds s user cloud old new peers (Err why)
    refused_end why e = pages_end (Err why) (ends_refused cloud a.reply why e)

  -- ---- what a listing does to a vault

  pub list_goes : (old new : LocalLink V) (jobs : List (List LaneView)) (v : Vault) (listed : Result (List (Tag × Version)) Refusal) → IsAtVault clouds s old jobs v → Listed clouds s user cloud old new v.peers listed
      → Goes clouds s (events.List user (cloud_no cloud)) old new jobs v (list_lines user cloud listed)
  list_goes old new jobs v listed is l = record {
    moments = map (moment_of cloud) l.turns;
    after = record { peers = l.after; jobs = v.jobs };
    is_at = record { link_at = l.link_at; jobs_are = is.jobs_are };
    step = (l.turns, listed, l.run, refl, refl, refl);
    images = l.images;
  }

  -- cut between two pages: it goes on by a fault
  pub cut_between : (old now : LocalLink V) (v : Vault) (above : Option (Tag × Version)) → Pages old now v.peers above → IsLineCut clouds s (events.List user (cloud_no cloud)) old now v
  cut_between old now v above p =
      let why : Refusal = refusals.Fault (cloud_no cloud) in
      let request : Request = requests.List user above in
      let t : LaneTurn (ℕ → Peer) = record { before = p.at; request = request; reply = replies.Fault } in
      let broke = parts.put p.at cloud (fault_of (p.at cloud)) in
      record {
        moments = map (moment_of cloud) p.turns;
        last = p.at;
        part = (
          list_lines user cloud (Err why),
          moment_of cloud t ∷ [],
          record { peers = broke; jobs = v.jobs },
          (
            p.turns ++ t ∷ [],
            Err why,
            p.runs (t ∷ []) (Err why) broke (refl, refl, (broke, fails s cloud p.at request, inl ((why, refl, refl), refl, refl))),
            refl,
            sym (map-append (moment_of cloud) p.turns (t ∷ [])),
            refl,
          ),
          refl,
        );
        left = left_at clouds s now p.at p.link_at;
        images = p.images;
      }

  -- cut behind a reply
  pub cut_replied : (old mid new : LocalLink V) (jobs : List (List LaneView)) (v : Vault) (above : Option (Tag × Version)) (p : Pages old mid v.peers above) (IsSo : Reply → Type 0) → IsAtVault clouds s old jobs v
      → PageAsked clouds s user cloud above mid new p.at IsSo → IsLineCut clouds s (events.List user (cloud_no cloud)) old new v
  cut_replied old mid new jobs v above p IsSo is a = elim a.kind [
    | inl x ↦ elim (cases_eq (length x.0) key_limit) [
      | inl full ↦ cut_between old new v (slice_get x.0 (length x.0 - 1)) (pages_more old mid new v.peers above p IsSo a x.0 x.1 full)
      | inr less ↦ cut_behind clouds s (events.List user (cloud_no cloud)) old new jobs v (list_lines user cloud (Ok (p.entries ++ x.0)))
          (list_goes old new jobs v (Ok (p.entries ++ x.0)) is (pages_end old mid new v.peers above p IsSo a (Ok x.0) (ends_last cloud a.reply x.0 x.1 (below x.0 x.2 less))))
    ]
    | inr x ↦ cut_behind clouds s (events.List user (cloud_no cloud)) old new jobs v (list_lines user cloud (Err x.0))
        (list_goes old new jobs v (Err x.0) is (refused_end old mid new v.peers above p IsSo a x.0 x.1))
  ]
    where
      below : (page : List (Tag × Version)) → length page ≤ key_limit → (length page ≡ key_limit → ⊥) → length page < key_limit
      below page le ne = omega (arith, le, ne)

  -- ---- the loop over the pages

  pub record HasListed (old now : LocalLink V) (peers : ℕ → Peer) (listing : Listing) : Type 0 where
    pub above : Option (Tag × Version)
    pub above_is : listing.above ≡ above
    pub pages : Pages old now peers above
    pub count_is : listing.count ≡ length pages.entries
    pub lines_are : listing.lines ≡ text_of (map entry_line pages.entries)

  pub listed_none : (link : LocalLink V) (peers : ℕ → Peer) (listing : Listing) → listing.above ≡ None → listing.count ≡ 0 → listing.lines ≡ [] → LinkAt clouds s link peers → HasListed link link peers listing
  unfolding pages_none
  listed_none link peers listing none zero_count no_lines is = record { above = None; above_is = none; pages = pages_none link peers is; count_is = zero_count; lines_are = no_lines }

  lines_both : (one two : List (Tag × Version)) → text_of (map entry_line one) ++ text_of (map entry_line two) ≡ text_of (map entry_line (one ++ two))
  lines_both one two = sym (text_join (map entry_line one) (map entry_line two)) ∙ ap text_of (sym (map-append entry_line one two))

  module _ (old mid new : LocalLink V) (peers : ℕ → Peer) (before : Listing) (h : HasListed old mid peers before) where
    -- the page that was asked for, above the one at which the pages are
    asked_here : (P : Reply → Type 0) → PageAsked clouds s user cloud before.above mid new h.pages.at P → PageAsked clouds s user cloud h.above mid new h.pages.at P
    asked_here P a = subst (λ (above : Option (Tag × Version)). PageAsked clouds s user cloud above mid new h.pages.at P) h.above_is a

    count_on : (page : List (Tag × Version)) (after : Listing) → HasAddedPage before page after → after.count ≡ length (h.pages.entries ++ page)
    count_on page after adds = adds.count ∙ ap (λ (n : ℕ). n + length page) h.count_is ∙ sym (length-append h.pages.entries page)

    lines_on : (page : List (Tag × Version)) (after : Listing) → HasAddedPage before page after → after.lines ≡ text_of (map entry_line (h.pages.entries ++ page))
    lines_on page after adds = adds.lines ∙ ap (λ (l : List ℕ). l ++ text_of (map entry_line page)) h.lines_are ∙ lines_both h.pages.entries page

    pub listed_more : (after : Listing) → PageAsked clouds s user cloud before.above mid new h.pages.at (ListsByReply cloud before after (Ok true)) → HasListed old new peers after
    unfolding pages_more
    listed_more after asked =
        let a = asked_here (ListsByReply cloud before after (Ok true)) asked in
        let page = a.so.0 in
        let adds = a.so.4 in
        record {
          above = slice_get page (length page - 1);
          above_is = adds.above;
          pages = pages_more old mid new peers h.above h.pages (ListsByReply cloud before after (Ok true)) a page a.so.1 (eqb-true (length page) key_limit (sym a.so.3));
          count_is = count_on page after adds;
          lines_are = lines_on page after adds;
        }

    pub listed_done : (after : Listing) → PageAsked clouds s user cloud before.above mid new h.pages.at (ListsByReply cloud before after (Ok false))
        → (entries : List (Tag × Version)) × Listed clouds s user cloud old new peers (Ok entries) × (after.count ≡ length entries) × (after.lines ≡ text_of (map entry_line entries))
    listed_done after asked =
        let a = asked_here (ListsByReply cloud before after (Ok false)) asked in
        let page = a.so.0 in
        let adds = a.so.4 in
        let le : length page ≤ key_limit = a.so.2 in
        let ne : length page ≡ key_limit → ⊥ = eqb-false (length page) key_limit (sym a.so.3) in (
          h.pages.entries ++ page,
          pages_end old mid new peers h.above h.pages (ListsByReply cloud before after (Ok false)) a (Ok page) (ends_last cloud a.reply page a.so.1 (omega (arith, le, ne))),
          count_on page after adds,
          lines_on page after adds,
        )

    pub listed_refused : (after : Listing) (why : Refusal) → PageAsked clouds s user cloud before.above mid new h.pages.at (ListsByReply cloud before after (Err (no_pages.Refused why)))
        → Listed clouds s user cloud old new peers (Err why)
    listed_refused after why asked =
        let a = asked_here (ListsByReply cloud before after (Err (no_pages.Refused why))) asked in
        refused_end old mid new peers h.above h.pages (ListsByReply cloud before after (Err (no_pages.Refused why))) a why a.so

  pub listed_cut : (old mid new : LocalLink V) (jobs : List (List LaneView)) (v : Vault) (before after : Listing) → IsAtVault clouds s old jobs v → (h : HasListed old mid v.peers before)
      → (new ≡ mid) ⊎ PageAsked clouds s user cloud before.above mid new h.pages.at (ListsByReply cloud before after (Err no_pages.NoMemory)) → IsLineCut clouds s (events.List user (cloud_no cloud)) old new v
  listed_cut old mid new jobs v before after is h (inl same) =
      subst (λ (l : LocalLink V). IsLineCut clouds s (events.List user (cloud_no cloud)) old l v) (sym same) (cut_between old mid v h.above h.pages)
  listed_cut old mid new jobs v before after is h (inr asked) =
      cut_replied old mid new jobs v h.above h.pages (ListsByReply cloud before after (Err no_pages.NoMemory)) is (asked_here old mid new v.peers before h (ListsByReply cloud before after (Err no_pages.NoMemory)) asked)

  -- ---- what a page that came makes of a listing

  abbrev pub no_page : NoPage → Result (List (Tag × Version)) NoPage
  no_page why = Err why

  abbrev pub no_turn : NoPage → Result Bool NoPage
  no_turn why = Err why

  abbrev pub a_page : List (Tag × Version) → Result (List (Tag × Version)) NoPage
  a_page page = Ok page

  abbrev pub a_turn : Bool → Result Bool NoPage
  a_turn more = Ok more

  module _ (old new : LocalLink V) (peers : ℕ → Peer) (before : Listing) where
    -- no page came
    pub turns_err : (after : Listing) (why : NoPage) → ((no_page why ≡ no_page no_pages.NoMemory) × (new ≡ old)) ⊎ PageAsked clouds s user cloud before.above old new peers (λ reply. TakesPage cloud reply (no_page why))
        → ((no_turn why ≡ no_turn no_pages.NoMemory) × (new ≡ old)) ⊎ PageAsked clouds s user cloud before.above old new peers (ListsByReply cloud before after (no_turn why))
    turns_err after (no_pages.Refused w) (inl x) = absurd (let e : no_page (no_pages.Refused w) ≡ no_page no_pages.NoMemory = x.0 in cc)
    turns_err after (no_pages.Refused w) (inr a) = inr (with_so before.above old new peers (λ reply. TakesPage cloud reply (no_page (no_pages.Refused w))) (ListsByReply cloud before after (no_turn (no_pages.Refused w))) (λ reply so. so) a)
    turns_err after no_pages.NoMemory (inl x) = inl (refl, x.1)
    turns_err after no_pages.NoMemory (inr a) = inr (with_so before.above old new peers (λ reply. TakesPage cloud reply (no_page no_pages.NoMemory)) (ListsByReply cloud before after (no_turn no_pages.NoMemory)) (λ reply so. tt) a)

    -- a page was taken
    pub turns_page : (after : Listing) (page : List (Tag × Version)) (more : Bool) → length page ≤ key_limit → more ≡ (length page == key_limit) → HasAddedPage before page after
        → ((a_page page ≡ no_page no_pages.NoMemory) × (new ≡ old)) ⊎ PageAsked clouds s user cloud before.above old new peers (λ reply. TakesPage cloud reply (a_page page))
        → ((a_turn more ≡ no_turn no_pages.NoMemory) × (new ≡ old)) ⊎ PageAsked clouds s user cloud before.above old new peers (ListsByReply cloud before after (a_turn more))
    turns_page after page more few is adds (inl x) = absurd (let e : a_page page ≡ no_page no_pages.NoMemory = x.0 in cc)
    turns_page after page more few is adds (inr a) =
        inr (with_so before.above old new peers (λ reply. TakesPage cloud reply (a_page page)) (ListsByReply cloud before after (a_turn more)) (λ reply so. (page, so, few, is, adds)) a)

    -- a page came, and there was no memory for it
    pub turns_none : (after : Listing) (page : List (Tag × Version)) → ((a_page page ≡ no_page no_pages.NoMemory) × (new ≡ old)) ⊎ PageAsked clouds s user cloud before.above old new peers (λ reply. TakesPage cloud reply (a_page page))
        → ((no_turn no_pages.NoMemory ≡ no_turn no_pages.NoMemory) × (new ≡ old)) ⊎ PageAsked clouds s user cloud before.above old new peers (ListsByReply cloud before after (no_turn no_pages.NoMemory))
    turns_none after page (inl x) = inl (refl, x.1)
    turns_none after page (inr a) = inr (with_so before.above old new peers (λ reply. TakesPage cloud reply (a_page page)) (ListsByReply cloud before after (no_turn no_pages.NoMemory)) (λ reply so. tt) a)

  -- behind a full page, and behind the last one
  module _ (old mid new : LocalLink V) (peers : ℕ → Peer) (before after : Listing) (h : HasListed old mid peers before) where
    pub listed_on : (more : Bool) → more ≡ true → ((a_turn more ≡ no_turn no_pages.NoMemory) × (new ≡ mid)) ⊎ PageAsked clouds s user cloud before.above mid new h.pages.at (ListsByReply cloud before after (a_turn more)) → HasListed old new peers after
    listed_on more is (inl x) = absurd (let e : a_turn more ≡ no_turn no_pages.NoMemory = x.0 in cc)
    listed_on more is (inr a) = listed_more old mid new peers before h after (subst (λ (b : Bool). PageAsked clouds s user cloud before.above mid new h.pages.at (ListsByReply cloud before after (a_turn b))) is a)

    pub listed_last : (more : Bool) → more ≡ false → ((a_turn more ≡ no_turn no_pages.NoMemory) × (new ≡ mid)) ⊎ PageAsked clouds s user cloud before.above mid new h.pages.at (ListsByReply cloud before after (a_turn more))
        → (entries : List (Tag × Version)) × Listed clouds s user cloud old new peers (Ok entries) × (after.count ≡ length entries) × (after.lines ≡ text_of (map entry_line entries))
    listed_last more is (inl x) = absurd (let e : a_turn more ≡ no_turn no_pages.NoMemory = x.0 in cc)
    listed_last more is (inr a) = listed_done old mid new peers before h after (subst (λ (b : Bool). PageAsked clouds s user cloud before.above mid new h.pages.at (ListsByReply cloud before after (a_turn b))) is a)

-- where the listing comes to no end, or to a refusal
pub lists_err : {V : Type 0} (clouds : V → ℕ → Cloud) (user : UserId) (cloud : ℕ) (old mid new : LocalLink V) (jobs : List (List LaneView)) (before after : Listing) (why : NoPage)
    → ((s : Setting) (peers : ℕ → Peer) → LinkAt clouds s old peers → HasListed clouds s user cloud old mid peers before)
    → PageTurns clouds user cloud mid before new after (Err why) → ListsEntries clouds user cloud old jobs new (Err why)
lists_err clouds user cloud old mid new jobs before after (no_pages.Refused w) has turns = λ s v is.
    let h = has s v.peers is.link_at in
    elim (turns s h.pages.at h.pages.link_at) [
      | inl x ↦ absurd (let o : Result Bool NoPage = Err (no_pages.Refused w) in let n : Result Bool NoPage = Err no_pages.NoMemory in let e : o ≡ n = x.0 in cc)
      | inr a ↦ listed_refused clouds s user cloud old mid new v.peers before h after w a
    ]
lists_err clouds user cloud old mid new jobs before after no_pages.NoMemory has turns = λ s v is.
    let h = has s v.peers is.link_at in
    listed_cut clouds s user cloud old mid new jobs v before after is h (elim (turns s h.pages.at h.pages.link_at) [
      | inl x ↦ inl x.1
      | inr a ↦ inr a
    ])

-- the text of a listing to its end
pub list_text : (user : UserId) (cloud : CloudNo) (entries : List (Tag × Version)) (count : ℕ) (lines_of was text : List ℕ) → count ≡ length entries → lines_of ≡ text_of (map entry_line entries)
    → text ≡ was ++ text_of (lines.Entries user cloud count ∷ []) ++ lines_of → text ≡ was ++ text_of (list_lines user cloud.0 (Ok entries))
list_text user cloud entries count lines_of was text count_is lines_are said =
    said ∙ ap (λ (l : List ℕ). was ++ text_of (lines.Entries user cloud count ∷ []) ++ l) lines_are
    ∙ append_assoc was (text_of (lines.Entries user cloud count ∷ [])) (text_of (map entry_line entries))
    ∙ ap (λ (l : List ℕ). was ++ l) (sym (text_join (lines.Entries user cloud count ∷ []) (map entry_line entries)))
    ∙ ap (λ (n : ℕ). was ++ text_of (lines.Entries user cloud n ∷ map entry_line entries)) count_is

-- a listing that came to no end
pub no_page_does : {V : Type 0} (clouds : V → ℕ → Cloud) (user : UserId) (cloud : CloudNo) (old new : LocalLink V) (jobs : List (List LaneView)) (was text : List ℕ) (why : NoPage) → ListsEntries clouds user cloud.0 old jobs new (Err why)
    → SaysNoPage why was text → CarriesOut clouds (events.List user cloud) old jobs new jobs was text
no_page_does clouds user cloud old new jobs was text (no_pages.Refused w) lists said = λ s v is.
    (lines.Refused w ∷ [], list_goes clouds s user cloud.0 old new jobs v (Err w) is (lists s v is), said)
no_page_does clouds user cloud old new jobs was text no_pages.NoMemory lists said = absurd said

pub no_page_cut : {V : Type 0} (clouds : V → ℕ → Cloud) (user : UserId) (cloud : CloudNo) (old new : LocalLink V) (jobs : List (List LaneView)) (why : NoPage) → ListsEntries clouds user cloud.0 old jobs new (Err why)
    → IsCutOff clouds (events.List user cloud) old jobs new
no_page_cut clouds user cloud old new jobs (no_pages.Refused w) lists = λ s v is.
    cut_behind clouds s (events.List user cloud) old new jobs v (lines.Refused w ∷ []) (list_goes clouds s user cloud.0 old new jobs v (Err w) is (lists s v is))
no_page_cut clouds user cloud old new jobs no_pages.NoMemory lists = lists
