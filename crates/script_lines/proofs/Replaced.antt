-- A replacement over the servers of this process, as one over a vault's clouds.
use Rattle.std.proofs.Common.{◌≡◌, ℕ, ◌<◌, ◌≤◌, Bool, true, false, List, [], ◌∷◌, ◌++◌, Option, None, refl, sym, ap, ◌∙◌, subst, inl, inr, ◌⊎◌, arith}
use Rattle.std.specs.Prelude.{IsTrue, IsSomeAnd, Result, Ok, Err}
use Rattle.std.specs.List.{Contains}
use Rattle.std.proofs.lemmas.Bool.{cases_eq}
use Rattle.recipe.specs.CdBase.ids.CloudNo.{CloudNo}
use Rattle.recipe.specs.CdBase.shape.Shape.{Shape}
use Rattle.session_model.specs.CdEdges.area.Area.{Area}
use Rattle.session_model.specs.CdEdges.stream.Failed.{Failed}
use Rattle.session_model.specs.CdEdges.Causes.{Rose}
use Rattle.session_model.specs.CdEdges.Disk.{Cloud, Image, IsImage}
use Rattle.session_model.specs.CdEdges.Shelf.{IsCall, HasFailed, KeepsCounts, Refreshes}
use Rattle.session_model.specs.CdEdges.Shelf as shelves
use Rattle.session_model.proofs.CdEdges.Moments.{weaker, joined, stayed, left_alone, at_end}
use Rattle.session_model.specs.CommitJournal.errors.OpenErr.{OpenErr}
use Rattle.session_model.specs.CommitJournal.errors.OpenErr.TheVariants as errors
use Rattle.session_model.specs.JournalStart.start.Header.{Header}
use Rattle.session_model.specs.CommitJournal.Openings.{OnFault}
use Rattle.session_model.specs.UserDedup.command.Command.{Command}
use Rattle.session_model.specs.UserDedup.Exec.{Peer, MaySettleAs}
use Rattle.session_model.specs.UserDedup.Link.{LeavesOthers}
use Rattle.session_model.proofs.UserDedup.Owned.{contains_here, contains_cases, contains_nothing}
use Rattle.session_model.specs.CloudAreas.Peers.{StandsForSome, ImagesNow, ImagesSince}
use Rattle.session_model.specs.ShareServer.server.Server.{Server}
use Rattle.session_model.specs.ShareServer.Serving.{ReopensAs}
use Rattle.session_model.proofs.ShareServer.NoCommands.{empty_stands}
use Rattle.session_model.specs.UploadJob.Lanes.{LaneView}
use Rattle.session_model.specs.LocalLink.link.LocalLink.{LocalLink}
use Rattle.session_model.specs.LocalLink.Tells.{rooms_at, header_at, telling, StandsAt, LeavesRest}
use Rattle.session_model.specs.LocalLink.Calls.{Replaces}
use Rattle.session_model.proofs.OfLocalLink.Calling.{was_before}
use Rattle.session_model.proofs.Parts.{put, put_here, put_other}
use Rattle.session_model.specs.Session.event.Event.TheVariants as events
use Rattle.session_model.specs.Transcript.line.Line.{Line}
use Rattle.session_model.specs.Transcript.line.Line.TheVariants as lines
use Rattle.session_model.specs.Vault.{Setting, Vault}
use Rattle.session_model.specs.Steps.{Moment, quiet, cloud_no, IsReplaceLine, ReplaceStep}
use Rattle.session_model.specs.Run.{IsListIn}
use Rattle.session_model.specs.Headline.{IsPartOf}
use Rattle.script_lines.specs.At.{LinkAt, IsAtVault, header_in}
use Rattle.script_lines.specs.Does.{Goes}
use Rattle.script_lines.specs.Replacing.{IsNewStore, FailsFresh}
use Rattle.script_lines.proofs.Going.{now_by, moves, listed, images_weaker, images_one, header_is}
use Rattle.script_lines.proofs.Others.{Opened}

-- ---- small

settled_none : (p q : Peer) → p.list ≡ [] → p.pending ≡ None → MaySettleAs p q.list → q.list ≡ []
settled_none p q list none (inl same) = same ∙ list
settled_none p q list none (inr some) = absurd (subst (λ (o : Option Command). IsSomeAnd o (λ command. q.list ≡ p.list ++ command ∷ [])) none some)

-- the one list of a peer with no commands
only_none : (p : Peer) → p.list ≡ [] → p.pending ≡ None → (list : List Command) → MaySettleAs p list → list ≡ []
only_none p none open_none list (inl same) = same ∙ none
only_none p none open_none list (inr some) = absurd (subst (λ (o : Option Command). IsSomeAnd o (λ command. list ≡ p.list ++ command ∷ [])) open_none some)

pub rest_join : {V : Type 0} (clouds : V → ℕ → Cloud) (cloud : ℕ) (old mid new : LocalLink V) → LeavesRest clouds cloud old mid → LeavesRest clouds cloud mid new → LeavesRest clouds cloud old new
rest_join clouds cloud old mid new one two = record {
  clouds_stay = λ other ne. two.clouds_stay other ne ∙ one.clouds_stay other ne;
  servers_stay = λ other ne. two.servers_stay other ne ∙ one.servers_stay other ne;
  shape_stays = two.shape_stays ∙ one.shape_stays;
  told_stays = λ number. two.told_stays number ∙ one.told_stays number;
}

module _ (cloud : ℕ) (told : Bool) where
  line_is : (line other : Line) (before after : ℕ) → line ≡ other → IsReplaceLine told cloud before after other → IsReplaceLine told cloud before after line
  line_is line other before after e says = subst (IsReplaceLine told cloud before after) (sym e) says

  -- on a told cloud
  says_told : (result : Result ℕ OpenErr) (line : Line) (p q : Peer) → IsNewStore cloud result line → ReopensAs true p q result → IsReplaceLine told cloud p.faults q.faults line
  says_told (Ok commands) line p q is r = line_is line (lines.Replaced (cloud_no cloud)) p.faults q.faults is (refl, r.1)
  says_told (Err errors.Fault) line p q is r = line_is line (lines.Fault (cloud_no cloud)) p.faults q.faults is (refl, r.1)
  says_told (Err (errors.NotBegun len)) line p q is r = absurd (let f : true ≡ false = r.1 in cc)
  says_told (Err (errors.OtherStore found asked place)) line p q is r = absurd r
  says_told (Err (errors.Damaged at byte)) line p q is r = absurd r

  told_list : (result : Result ℕ OpenErr) (p q : Peer) → p.list ≡ [] → p.pending ≡ None → ReopensAs true p q result → (q.list ≡ []) × (q.pending ≡ None) × (q.armings ≡ p.armings)
  told_list (Ok commands) p q list none r = (settled_none p q list none r.0.list, r.0.pending, r.2)
  told_list (Err errors.Fault) p q list none r = (r.0.list ∙ list, r.0.pending ∙ none, r.2)
  told_list (Err (errors.NotBegun len)) p q list none r = absurd (let f : true ≡ false = r.1 in cc)
  told_list (Err (errors.OtherStore found asked place)) p q list none r = absurd r
  told_list (Err (errors.Damaged at byte)) p q list none r = absurd r

  -- and on one of which nothing is told, by the counts
  says_untold : (result : Result ℕ OpenErr) (line : Line) (old new : Cloud) (before now : ℕ) → told ≡ false → IsNewStore cloud result line
      → OnFault result (HasFailed old new before now) (KeepsCounts old new before now) → IsReplaceLine told cloud old.faults new.faults line
  says_untold (Ok commands) line old new before now untold is counts = line_is line (lines.Replaced (cloud_no cloud)) old.faults new.faults is (refl, counts.cloud)
  says_untold (Err errors.Fault) line old new before now untold is counts = line_is line (lines.Fault (cloud_no cloud)) old.faults new.faults is (refl, counts.cloud)
  says_untold (Err (errors.NotBegun len)) line old new before now untold is counts = line_is line (lines.Damaged (cloud_no cloud) is.0 is.1) old.faults new.faults is.2 (refl, untold, counts.cloud)
  says_untold (Err (errors.OtherStore found asked place)) line old new before now untold is counts = line_is line (lines.Damaged (cloud_no cloud) is.0 is.1) old.faults new.faults is.2 (refl, untold, counts.cloud)
  says_untold (Err (errors.Damaged at byte)) line old new before now untold is counts = line_is line (lines.Damaged (cloud_no cloud) is.0 is.1) old.faults new.faults is.2 (refl, untold, counts.cloud)

  says_from : (line : Line) (p q : Peer) (one two : ℕ) → one ≡ p.faults → two ≡ q.faults → IsReplaceLine told cloud one two line → IsReplaceLine told cloud p.faults q.faults line
  says_from line p q one two e f says = subst (λ (n : ℕ). IsReplaceLine told cloud p.faults n line) f (subst (λ (n : ℕ). IsReplaceLine told cloud n two line) e says)

-- the names of the settings of a failure
abbrev failed_so : Failed → Result (Unit {0}) Failed
failed_so e = Err e

abbrev replaced_so : Unit {0} → Result (Unit {0}) Failed
replaced_so u = Ok u

-- ---- the cloud is emptied, and a new store begun

module _ {V : Type 0} (clouds : V → ℕ → Cloud) (s : Setting) (old mid new : LocalLink V) (cloud : ℕ) (result : Result ℕ OpenErr) (line : Line) (u : Unit {0}) where
  -- what both calls ensure
  pub record Renewed (before now : ℕ) : Type 0 where
    pub below : cloud < old.servers.shape.n
    pub replaced : (p : Peer) → StandsAt clouds old cloud p → (q : Peer) × StandsAt clouds mid cloud q × Replaces p q (replaced_so u)
    pub refreshed : IsTrue (clouds old.shelf.now cloud).told → Refreshes (clouds old.shelf.now cloud) (clouds mid.shelf.now cloud) (replaced_so u)
    pub others : LeavesOthers (telling clouds) cloud old mid
    pub rest : LeavesRest clouds cloud old mid
    pub rooms : rooms_at mid.servers cloud ≡ rooms_at old.servers cloud
    pub fate : mid.fate ≡ old.fate
    pub opened : Opened clouds s mid new cloud result before now
    pub others_open : LeavesOthers (telling clouds) cloud mid new
    pub rest_open : LeavesRest clouds cloud mid new
    pub fate_open : new.fate ≡ mid.fate
    pub said : IsNewStore cloud result line

  module _ (before now : ℕ) (r : Renewed before now) where
    -- the cloud behind both calls
    stands_new : (p m : Peer) → StandsAt clouds mid cloud m → Replaces p m (replaced_so u) → ((clouds old.shelf.now cloud).told ≡ s.told cloud) → (q : Peer) × StandsAt clouds new cloud q × ReplaceStep s cloud line p q
    stands_new p m stands rep told = by_told (s.told cloud) refl
      where
        told_mid : (clouds mid.shelf.now cloud).told ≡ s.told cloud
        told_mid = r.rest.told_stays cloud ∙ told

        by_told : (b : Bool) → s.told cloud ≡ b → (q : Peer) × StandsAt clouds new cloud q × ReplaceStep s cloud line p q
        by_told true e =
            let went = r.opened.peer m (told_mid ∙ e) stands in
            let q = went.0 in
            let lists = told_list cloud (s.told cloud) result m q rep.0 rep.1 went.2 in (
              q,
              went.1,
              record {
                list = lists.0;
                pending = lists.1;
                armings = lists.2 ∙ rep.3;
                says = says_from cloud (s.told cloud) line p q m.faults q.faults rep.2 refl (says_told cloud (s.told cloud) result line m q r.said went.2);
              },
            )
        by_told false e =
            let went = r.opened.untold m (told_mid ∙ e) stands in
            let q = went.0 in (
              q,
              went.1,
              record {
                list = went.2.list ∙ rep.0;
                pending = went.2.pending ∙ rep.1;
                armings = went.3.armings ∙ rep.3;
                says = says_from cloud (s.told cloud) line p q (clouds mid.shelf.now cloud).faults (clouds new.shelf.now cloud).faults (sym stands.faults ∙ rep.2) (sym went.1.faults)
                    (says_untold cloud (s.told cloud) result line (clouds mid.shelf.now cloud) (clouds new.shelf.now cloud) before now e r.said r.opened.counts);
              },
            )

    module _ (v : Vault) (is : LinkAt clouds s old v.peers) where
      lt : cloud < s.shape.n
      lt = subst (λ (sh : Shape). cloud < sh.n) is.shape r.below

      mid_of : (q : Peer) × StandsAt clouds mid cloud q × Replaces (v.peers cloud) q (replaced_so u)
      mid_of = r.replaced (v.peers cloud) (is.stands cloud lt)

      abbrev peers_mid : ℕ → Peer
      peers_mid = put v.peers cloud mid_of.0

      at_mid : LinkAt clouds s mid peers_mid
      at_mid = moves clouds s old mid v.peers cloud mid_of.0 is r.others r.rest r.rooms (r.fate ∙ is.fate) mid_of.1

      new_of : (q : Peer) × StandsAt clouds new cloud q × ReplaceStep s cloud line (v.peers cloud) q
      new_of = stands_new (v.peers cloud) mid_of.0 mid_of.1 mid_of.2 (is.told cloud)

      abbrev peers_new : ℕ → Peer
      peers_new = put peers_mid cloud new_of.0

      none_new : (peers_new cloud).list ≡ []
      none_new = ap (λ (p : Peer). p.list) (put_here peers_mid cloud new_of.0) ∙ new_of.2.list

      -- no commands are the list of the cloud in the end
      none_listed : (moments : List Moment) → IsListIn s cloud moments peers_new []
      none_listed moments = inl (inl (sym none_new))

      abbrev m : Moment
      m = record { peers = v.peers; event = None }

      emptied : IsTrue (s.told cloud) → ImagesSince (clouds old.shelf.now cloud) (clouds mid.shelf.now cloud) (header_in s cloud) (IsListIn s cloud (m ∷ []) peers_new)
      emptied told =
          weaker (clouds old.shelf.now cloud) (clouds mid.shelf.now cloud) (λ (image : Image). IsImage (clouds old.shelf.now cloud).now image ⊎ ((area : Area) → image area ≡ []))
          (StandsForSome (header_in s cloud) (IsListIn s cloud (m ∷ []) peers_new))
          (was_before (clouds old.shelf.now cloud) (clouds mid.shelf.now cloud) (replaced_so u) (r.refreshed (is.told cloud ∙ told)))
          (λ image left. elim left [
            | inl was ↦ let x = now_by clouds s old v.peers is cloud lt told image was in (x.0, listed clouds s cloud m [] peers_new x.0 x.1, x.2)
            | inr empty ↦ ([], none_listed (m ∷ []), empty_stands image (header_in s cloud) empty)
          ])

      begun : IsTrue (s.told cloud) → ImagesSince (clouds mid.shelf.now cloud) (clouds new.shelf.now cloud) (header_in s cloud) (IsListIn s cloud (m ∷ []) peers_new)
      begun told =
          let lists : List (List Command) = [] ∷ [] in
          let run = r.opened.images (at_mid.told cloud ∙ told) lists in
          let by_header = subst (λ (h : Header). ImagesNow (clouds mid.shelf.now cloud) h (Contains lists) → ImagesSince (clouds mid.shelf.now cloud) (clouds new.shelf.now cloud) h (Contains lists))
          (header_is mid.servers s cloud at_mid.shape (at_mid.rooms cloud lt)) run in
          images_weaker clouds s mid new cloud (Contains lists) (IsListIn s cloud (m ∷ []) peers_new)
          (λ list has. subst (IsListIn s cloud (m ∷ []) peers_new) (is_none list has) (none_listed (m ∷ [])))
          (by_header (λ image at. let x = now_by clouds s mid peers_mid at_mid cloud lt told image at in (x.0, none_in x.0 x.1, x.2)))
        where
          is_none : (list : List Command) → Contains ([] ∷ []) list → [] ≡ list
          is_none list has = elim (contains_cases [] [] list has) [
            | inl same ↦ same
            | inr none ↦ absurd (contains_nothing list none)
          ]

          none_in : (list : List Command) → MaySettleAs (peers_mid cloud) list → Contains ([] ∷ []) list
          none_in list settles =
              let settled : MaySettleAs mid_of.0 list = subst (λ (p : Peer). MaySettleAs p list) (put_here v.peers cloud mid_of.0) settles in
              subst (λ (l : List Command). Contains ([] ∷ []) l) (sym (only_none mid_of.0 mid_of.2.0 mid_of.2.1 list settled)) (contains_here [] [])

      pub replace_goes : (jobs : List (List LaneView)) → IsAtVault clouds s old jobs v → Goes clouds s (events.Replace (cloud_no cloud)) old new jobs v (line ∷ [])
      replace_goes jobs at = record {
        moments = quiet v.peers;
        after = record { peers = peers_new; jobs = v.jobs };
        is_at = record {
          link_at = moves clouds s mid new peers_mid cloud new_of.0 at_mid r.others_open r.rest_open r.opened.rooms (r.fate_open ∙ at_mid.fate) new_of.1;
          jobs_are = at.jobs_are;
        };
        step = (
          line,
          record {
            goes = subst (ReplaceStep s cloud line (v.peers cloud)) (sym (put_here peers_mid cloud new_of.0)) new_of.2;
            others = λ other ne. put_other peers_mid cloud new_of.0 other ne ∙ put_other v.peers cloud mid_of.0 other ne;
          },
          refl,
          refl,
          refl,
        );
        images = images_one clouds s old new v.peers cloud m peers_new is refl (rest_join clouds cloud old mid new r.rest r.rest_open)
            (λ below told. joined (clouds old.shelf.now cloud) (clouds mid.shelf.now cloud) (clouds new.shelf.now cloud) (StandsForSome (header_in s cloud) (IsListIn s cloud (m ∷ []) peers_new)) (emptied told) (begun told));
      }

-- ---- the areas couldn't be made empty

module _ {V : Type 0} (clouds : V → ℕ → Cloud) (s : Setting) (old new : LocalLink V) (cloud : CloudNo) (e : Failed) (v : Vault) (is : LinkAt clouds s old v.peers) (below : cloud.0 < old.servers.shape.n)
    (before now : ℕ) (call : IsCall (clouds old.shelf.now) (clouds new.shelf.now) cloud.0 before now) (failed : HasFailed (clouds old.shelf.now cloud.0) (clouds new.shelf.now cloud.0) before now)
    (refreshed : IsTrue (clouds old.shelf.now cloud.0).told → Refreshes (clouds old.shelf.now cloud.0) (clouds new.shelf.now cloud.0) (failed_so e)) where
  kept_since : (c : ℕ) → c < s.shape.n → IsTrue (s.told c) → ImagesSince (clouds old.shelf.now c) (clouds new.shelf.now c) (header_in s c) (MaySettleAs (v.peers c))
  kept_since c lt told = elim (cases_eq c cloud.0) [
    | inl same ↦ stayed (clouds old.shelf.now c) (clouds new.shelf.now c) (StandsForSome (header_in s c) (MaySettleAs (v.peers c)))
        (subst (λ (n : ℕ). shelves.Stays (clouds old.shelf.now n) (clouds new.shelf.now n)) (sym same) (refreshed (is.told cloud.0 ∙ subst (λ (n : ℕ). IsTrue (s.told n)) same told)).err) (now_by clouds s old v.peers is c lt told)
    | inr ne ↦ left_alone (clouds old.shelf.now c) (clouds new.shelf.now c) (StandsForSome (header_in s c) (MaySettleAs (v.peers c))) (call.others c ne) (now_by clouds s old v.peers is c lt told)
  ]

  at_most : (c : ℕ) → (clouds old.shelf.now c).faults ≤ (clouds new.shelf.now c).faults
  at_most c = elim (cases_eq c cloud.0) [
    | inl same ↦ subst (λ (n : ℕ). (clouds old.shelf.now n).faults ≤ (clouds new.shelf.now n).faults) (sym same) call.later
    | inr ne ↦ subst (λ (x : Cloud). (clouds old.shelf.now c).faults ≤ x.faults) (sym (call.others c ne)) (same_le (clouds old.shelf.now c).faults)
  ]
    where
      same_le : (n : ℕ) → n ≤ n
      same_le n = omega arith

  armed_same : (c : ℕ) → (clouds new.shelf.now c).armings ≡ (clouds old.shelf.now c).armings
  armed_same c = elim (cases_eq c cloud.0) [
    | inl same ↦ subst (λ (n : ℕ). (clouds new.shelf.now n).armings ≡ (clouds old.shelf.now n).armings) (sym same) call.armings
    | inr ne ↦ ap (λ (x : Cloud). x.armings) (call.others c ne)
  ]

  pub fresh_fails : IsPartOf s v (record { event = events.Replace cloud; moments = [] }) v.peers → FailsFresh clouds s (events.Replace cloud) cloud old new v
  fresh_fails part = record {
    cut = record {
      moments = [];
      last = v.peers;
      part = part;
      left = record {
        faults = λ c lt. subst (λ (n : ℕ). n ≤ (clouds new.shelf.now c).faults) (sym (is.stands c lt).faults) (at_most c);
        armings = λ c lt. (is.stands c lt).armings ∙ sym (armed_same c);
        images = λ c lt told. at_end (clouds old.shelf.now c) (clouds new.shelf.now c) (StandsForSome (header_in s c) (MaySettleAs (v.peers c))) (kept_since c lt told);
      };
      images = λ c lt told. images_weaker clouds s old new c (MaySettleAs (v.peers c)) (IsListIn s c [] v.peers) (λ list settles. inl settles) (kept_since c lt told);
    };
    moments_are = refl;
    last_is = refl;
    rose = subst (λ (n : ℕ). Rose n (clouds new.shelf.now cloud.0).faults) (sym (is.stands cloud.0 (subst (λ (sh : Shape). cloud.0 < sh.n) is.shape below)).faults) failed.cloud;
  }
