-- What executing a request makes of a peer.
use Rattle.std.proofs.Common.{◌≡◌, ⊎_elim, inl, inr, ℕ, ◌≤◌, List, [], ◌∷◌, ◌++◌, Option, Some, None, Err, refl, sym, ◌∙◌, subst, arith}
use Rattle.std.specs.Prelude.{IsSomeAnd, option_to_list}
use Rattle.server_requests.specs.CdEdges.Causes.{Rose}
use Rattle.server_requests.specs.CdEdges.Disk.{Cloud, Image, LeavesOnly}
use Rattle.server_requests.proofs.CdEdges.Moments.{weaker, at_end, joined}
use Rattle.server_requests.specs.JournalStart.start.Header.{Header}
use Rattle.server_requests.specs.CommitJournal.errors.OpenErr.{OpenErr}
use Rattle.server_requests.specs.CommitJournal.errors.OpenErr.TheVariants as errors
use Rattle.server_requests.specs.Messages.request.Request.{Request}
use Rattle.server_requests.specs.Messages.reply.Reply.{Reply}
use Rattle.server_requests.specs.Messages.reply.Reply.TheVariants as replies
use Rattle.server_requests.specs.Messages.Replies.{IsReply, FitsReply}
use Rattle.server_requests.specs.UserDedup.command.Command.{Command}
use Rattle.server_requests.specs.UserDedup.Dedup.{Outcome}
use Rattle.server_requests.specs.UserDedup.Exec.{Peer, MaySettleAs, Settles, CountsOn, Answers, FailsTold}
use Rattle.server_requests.specs.UserDedup.Spending.{IsWithin}
use Rattle.server_requests.specs.UserDedup.Served.{served_by}
use Rattle.blob_copy.specs.CloudAreas.Peers.{StandsForSome, ImagesSince, MayBecome}
use Rattle.server_requests.specs.CloudStore.store.CloudStore.{CloudStore}
use Rattle.server_requests.specs.CloudStore.Store.{IsOpen}
use Rattle.server_requests.specs.ServerCommands.Serving.{serves, IsServedByList, IsServedOrNot}
use Rattle.share_server.specs.Refusals.{IsErrorReply}
use Rattle.share_server.specs.Serving.{ServesAs, ExecutesAs, settled_with}
use Rattle.share_server.specs.Steps.{OpensAs, Cuts, HasDoneRequest}
use Rattle.share_server.proofs.Peers.{within_more, open_serves, closed_serves}

-- ---- an open server

-- the list that it had, and the command that the request would add
cut_peer : CloudStore → Cloud → List Command → Request → Peer
cut_peer s cloud list request = record { list = list; pending = (serves s list request).adds; faults = cloud.faults; armings = cloud.armings }

module _ (old new : CloudStore) (before after : Cloud) (p : Peer) (r : Request) (content : List ℕ) (serving : ServesAs old before p) (same : new.header ≡ old.header)
    (later : before.faults ≤ after.faults) (armings : after.armings ≡ before.armings) where
  counts_are : (q : Peer) → q.faults ≡ after.faults → q.armings ≡ after.armings → CountsOn p q
  counts_are q faults armed = record {
    faults = let a = serving.stands.faults in omega (arith, a, faults, later);
    armings = armed ∙ armings ∙ sym serving.stands.armings;
  }

  pub served_does : IsOpen new → FitsReply (serves old p.list r).reply → IsServedByList old new after p.list r content → HasDoneRequest old new after p r content
  served_does opened fits served =
      let list = p.list ++ option_to_list (serves old p.list r).adds in
      record {
        left = settled_with list after;
        answer = (serves old p.list r).reply;
        stands = open_serves new after list served.next;
        content_is = record { fits = fits; spelled = served.reply };
        counts = counts_are (settled_with list after) refl refl;
        does = inl (record { before = p.list; settled = inl refl; served = refl; list = refl; pending = refl });
        opened = λ other. opened;
      }

  -- a list that the cut peer may settle as
  cut_from : (other : List Command) → IsServedOrNot old p.list r other → MaySettleAs (cut_peer old after p.list r) other
  unfolding cut_peer
  cut_from other (inl same) = inl same
  cut_from other (inr added) = inr (subst (λ (o : Option Command). IsSomeAnd o (λ command. other ≡ p.list ++ command ∷ [])) (sym added.1) added.2)

  cut_within_by : (other : List Command) (adds : Option Command) → (serves old p.list r).adds ≡ adds → IsSomeAnd adds (λ command. other ≡ p.list ++ command ∷ []) → IsWithin old.header.shape old.header.rooms other
  cut_within_by other None is some = absurd some
  cut_within_by other (Some command) is some =
      subst (IsWithin old.header.shape old.header.rooms) (sym some) (within_more old.header.rooms old.header.shape old.header.cloud.0 p.list r command (serving.within p.list (inl refl)) is)

  cut_within : (other : List Command) → MaySettleAs (cut_peer old after p.list r) other → IsWithin old.header.shape old.header.rooms other
  unfolding cut_peer
  cut_within other (inl is) = serving.within other (inl is)
  cut_within other (inr some) = cut_within_by other (serves old p.list r).adds refl some

  pub cut_does : ¬ (IsOpen new) → Rose before.faults after.faults → LeavesOnly before after (StandsForSome old.header (IsServedOrNot old p.list r))
      → IsReply content replies.Fault → HasDoneRequest old new after p r content
  unfolding cut_peer
  cut_does shut rose run is = record {
    left = cut_peer old after p.list r;
    answer = replies.Fault;
    stands = closed_serves new after (cut_peer old after p.list r)
        (λ image left.
        let s = at_end before after (StandsForSome old.header (IsServedOrNot old p.list r)) run image left in
        subst (λ (header : Header). StandsForSome header (MaySettleAs (cut_peer old after p.list r)) image) (sym same) (s.0, cut_from s.0 s.1, s.2))
        refl refl (λ list may. subst (λ (h : Header). IsWithin h.shape h.rooms list) (sym same) (cut_within list may)) shut;
    content_is = is;
    counts = counts_are (cut_peer old after p.list r) refl refl;
    does = inr (record { reply_is = refl; rose = subst (λ (n : ℕ). Rose n after.faults) (sym serving.stands.faults) rose; cut = record { list = inl refl; pending = refl } });
    opened = λ other. absurd (other refl);
  }

served_image : (old : CloudStore) (p : Peer) (r : Request) (image : Image) → StandsForSome old.header (IsServedOrNot old p.list r) image → StandsForSome old.header (MayBecome (serves old) p r) image
served_image old p r image (list, inl same, stands) = (list, inl (inl same), stands)
served_image old p r image (list, inr added, stands) = (list, inr (p.list, added.0, inl refl, added.1, added.2), stands)

pub served_images : (old : CloudStore) (before after : Cloud) (p : Peer) (r : Request) → LeavesOnly before after (StandsForSome old.header (IsServedOrNot old p.list r))
    → ImagesSince before after old.header (MayBecome (serves old) p r)
served_images old before after p r run = weaker before after (StandsForSome old.header (IsServedOrNot old p.list r)) (StandsForSome old.header (MayBecome (serves old) p r)) run (served_image old p r)

-- ---- a server that opened first

module _ (old mid new : CloudStore) (between after : Cloud) (p q : Peer) (r : Request) (content : List ℕ) (same : mid.header ≡ old.header) (settles : Settles p q) where
  settles_through : (list : List Command) → MaySettleAs q list → MaySettleAs p list
  settles_through list (inl is) = subst (MaySettleAs p) (sym is) settles.list
  settles_through list (inr some) = absurd (subst (λ (o : Option Command). IsSomeAnd o (λ command. list ≡ q.list ++ command ∷ [])) settles.pending some)

  -- by the same rooms, shape and cloud
  alike : (P : (List Command → Request → Outcome) → Type 0) → P (serves mid) → P (serves old)
  alike P by_mid = subst (λ (header : Header). P (served_by header.rooms header.shape header.cloud.0)) same by_mid

  answers_first : (answer : Reply) (left : Peer) → Answers (serves old) q r answer left → Answers (serves old) p r answer left
  answers_first answer left a = record { before = a.before; settled = settles_through a.before a.settled; served = a.served; list = a.list; pending = a.pending }

  cuts_first : (answer : Reply) (left : Peer) → q.faults ≡ p.faults → Cuts (serves old) q r answer left → FailsTold (serves old) p r answer left
  cuts_first answer left faults cuts = record {
    reply_is = cuts.reply_is;
    rose = subst (λ (n : ℕ). Rose n left.faults) faults cuts.rose;
    left = inr (record { list = settles_through left.list cuts.cut.list; pending = cuts.cut.pending });
  }

  pub opened_executes : q.faults ≡ p.faults → q.armings ≡ p.armings → HasDoneRequest mid new after q r content → ExecutesAs old new after p r content
  opened_executes faults armings d = (
    d.left,
    d.answer,
    d.stands,
    d.content_is,
    record {
      counts = record { faults = let a = d.counts.faults in omega (arith, a, faults); armings = d.counts.armings ∙ armings };
      does = ⊎_elim
          (λ a. inl (answers_first d.answer d.left (alike (λ (s : List Command → Request → Outcome). Answers s q r d.answer d.left) a)))
          (λ u. inr (cuts_first d.answer d.left faults (alike (λ (s : List Command → Request → Outcome). Cuts s q r d.answer d.left) u)))
          d.does;
    },
    d.opened,
  )

  becomes_first : (list : List Command) → MayBecome (serves mid) q r list → MayBecome (serves old) p r list
  becomes_first list (inl may) = inl (settles_through list may)
  becomes_first list (inr added) =
      inr (added.0, added.1, settles_through added.0 added.2, alike (λ (s : List Command → Request → Outcome). (s added.0 r).adds ≡ Some added.1) added.3, added.4)

  pub opened_images : (before : Cloud) → ImagesSince before between old.header (MaySettleAs p) → ImagesSince between after mid.header (MayBecome (serves mid) q r)
      → ImagesSince before after old.header (MayBecome (serves old) p r)
  opened_images before first second =
      joined before between after (StandsForSome old.header (MayBecome (serves old) p r))
      (weaker before between (StandsForSome old.header (MaySettleAs p)) (StandsForSome old.header (MayBecome (serves old) p r)) first (λ image s. (s.0, inl s.1, s.2)))
      (weaker between after (StandsForSome mid.header (MayBecome (serves mid) q r)) (StandsForSome old.header (MayBecome (serves old) p r)) second
      (λ image s. subst (λ (header : Header). StandsForSome header (MayBecome (serves old) p r) image) same (s.0, becomes_first s.0 s.1, s.2)))

pub shut_images : (old new : Cloud) (header : Header) (serve : List Command → Request → Outcome) (p : Peer) (r : Request) → ImagesSince old new header (MaySettleAs p)
    → ImagesSince old new header (MayBecome serve p r)
shut_images old new header serve p r kept =
    weaker old new (StandsForSome header (MaySettleAs p)) (StandsForSome header (MayBecome serve p r)) kept (λ image s. (s.0, inl s.1, s.2))

-- ---- a server that isn't opened

pub refused_executes : (error : OpenErr) (old new : CloudStore) (before after : Cloud) (p q : Peer) (r : Request) (content : List ℕ) → ServesAs old before p
    → before.faults ≤ after.faults → ServesAs new after q → OpensAs p q (Err error) → IsErrorReply error content → ExecutesAs old new after p r content
refused_executes errors.Fault old new before after p q r content stood later serving opens refuses = (
  q,
  replies.Fault,
  serving,
  subst (IsReply content) refuses.refusal refuses.is,
  record {
    counts = record { faults = let was = stood.stands.faults in let is = serving.stands.faults in omega (arith, was, is, later); armings = opens.2 };
    does = inr (record { reply_is = refl; rose = opens.1; left = inl opens.0 });
  },
  λ other. absurd (other refl),
)
refused_executes (errors.NotBegun len) old new before after p q r content stood later serving opens refuses = absurd opens
refused_executes (errors.Damaged at byte) old new before after p q r content stood later serving opens refuses = absurd opens
refused_executes (errors.OtherStore found asked at) old new before after p q r content stood later serving opens refuses = absurd opens
