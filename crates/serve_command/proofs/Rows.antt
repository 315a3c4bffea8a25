-- A row of a server's answers: as replies, as calls on its shelf, and as what becomes of a peer.
use Rattle.std.proofs.Common.{◌≡◌, inl, inr, ℕ, List, [], ◌∷◌, Result, Ok, Err, IsTrue, refl, sym, ◌∙◌, ap, subst, arith}
use Rattle.share_server.specs.JournalStart.start.Header.{Header}
use Rattle.share_server.specs.CdEdges.Disk.{Cloud}
use Rattle.share_server.specs.CdEdges.Ports.{Telling}
use Rattle.share_server.specs.CdEdges.Shelf.{IsCall}
use Rattle.share_server.proofs.CdEdges.Calls.{called_twice}
use Rattle.share_server.specs.Messages.request.Request.{Request}
use Rattle.share_server.specs.UserDedup.Exec.{Peer}
use Rattle.share_server.specs.UserDedup.Requests.{asked_at}
use Rattle.share_server.specs.CloudAreas.Peers as peers
use Rattle.share_server.specs.Serving.{IsServing, number_of}
use Rattle.share_server.specs.declared.server.Server.{Server}
use Rattle.serve_command.specs.declared.served.Served.{Served}
use Rattle.serve_command.specs.Connection.{Responds, ServesConnection}
use Rattle.serve_command.proofs.Carrying.{carried, mapped}
use Rattle.serve_command.specs.Serving.{HasAnsweredContent, HeldStore, ServingPlace, RepliesOne, ServesOne, Standing, held_of, standing}

-- two names of loans are two names
pub first_same : (a b c d : ℕ) → a ∷ b ∷ [] ≡ c ∷ d ∷ [] → a ≡ c
first_same a b c d e = cc

pub second_same : (a b c d : ℕ) → a ∷ b ∷ [] ≡ c ∷ d ∷ [] → b ≡ d
second_same a b c d e = cc

-- ---- one answer

-- the cloud of a place's server, which no answer changes to another
abbrev pub cloud_in : ServingPlace → ServingPlace → Cloud
cloud_in first place = place.clouds (number_of first.server)

-- It is the first place's server, its shelf was called since, and its cloud is told if it was.
pub record Since (first place : ServingPlace) : Type 0 where
  pub same : place.server.store.header ≡ first.server.store.header
  pub call : IsCall first.clouds place.clouds (number_of first.server) first.faults place.faults

pub since_none : (first : ServingPlace) → Since first first
since_none first = record {
  same = refl;
  call = record { others = λ other apart. refl; told = refl; armings = refl; later = omega arith; total_later = omega arith };
}

same_number : (first place : ServingPlace) → Since first place → number_of place.server ≡ number_of first.server
same_number first place since = ap (λ (h : Header). h.cloud.0) since.same

pub since_more : (first before after : ServingPlace) (content reply : List ℕ) → Since first before → HasAnsweredContent before after content reply → Since first after
since_more first before after content reply since answers = record {
  same = answers.same ∙ since.same;
  call = called_twice first.clouds before.clouds after.clouds (number_of first.server) first.faults before.faults after.faults since.call
      (subst (λ (n : ℕ). IsCall before.clouds after.clouds n before.faults after.faults) (same_number first before since) answers.call);
}

-- what is held of a place's server
abbrev pub held_in : ServingPlace → ServingPlace → HeldStore
held_in first place = held_of place.server.store (cloud_in first place) place.faults

pub replied_since : (first before after : ServingPlace) (content reply : List ℕ) → Since first before → HasAnsweredContent before after content reply
    → RepliesOne (held_in first before) content reply (held_in first after)
replied_since first before after content reply since answers =
    subst (λ (h : Header). RepliesOne (held_of before.server.store (before.clouds h.cloud.0) before.faults) content reply
    (held_of after.server.store (after.clouds h.cloud.0) after.faults)) since.same answers.replied

-- ---- what becomes of a peer

-- The cloud is told, and stands as the peer.
pub record StandsAs (first place : ServingPlace) (s : Standing) : Type 0 where
  pub since : Since first place
  pub told : IsTrue (cloud_in first place).told
  pub serving : IsServing place.server (cloud_in first place) s.peer
  pub cloud : s.cloud ≡ cloud_in first place

-- what an answer leaves of a peer
pub record Goes (first before after : ServingPlace) (p : Peer) (content reply : List ℕ) : Type 0 where
  pub left : Peer
  pub stands : StandsAs first after (standing left (cloud_in first after))
  pub does : ServesOne first.server.store.header (standing p (cloud_in first before)) content reply (standing left (cloud_in first after))

module _ (first before after : ServingPlace) (p : Standing) (content reply : List ℕ) (stands : StandsAs first before p) (answers : HasAnsweredContent before after content reply) where
  number : number_of before.server ≡ number_of first.server
  number = same_number first before stands.since

  since : Since first after
  since = since_more first before after content reply stands.since answers

  told_before : IsTrue (before.clouds (number_of before.server)).told
  told_before = subst (λ (n : ℕ). IsTrue (before.clouds n).told) (sym number) stands.told

  serving_before : IsServing before.server (before.clouds (number_of before.server)) p.peer
  serving_before = subst (λ (n : ℕ). IsServing before.server (before.clouds n) p.peer) (sym number) stands.serving

  told_after : IsTrue (cloud_in first after).told
  told_after = subst (λ (n : ℕ). IsTrue (after.clouds n).told) number (rw answers.call.told told_before)

  -- what the server before it serves, the first one serves
  from_first : (q : Peer) → ServesOne before.server.store.header (standing p.peer (before.clouds (number_of before.server))) content reply
      (standing q (after.clouds (number_of before.server)))
      → ServesOne first.server.store.header (standing p.peer (cloud_in first before)) content reply (standing q (cloud_in first after))
  from_first q one =
      subst (λ (h : Header). ServesOne h (standing p.peer (before.clouds h.cloud.0)) content reply (standing q (after.clouds h.cloud.0))) stands.since.same one

  pub goes : Goes first before after p.peer content reply
  goes = by_read (asked_at before.server.store.header.shape content) refl
    where
      by_read : (read : Result Request ℕ) → asked_at before.server.store.header.shape content ≡ read → Goes first before after p.peer content reply
      by_read (Ok r) e =
          let x = answers.exec p.peer r told_before serving_before e in
          record {
            left = x.0;
            stands = record {
              since = since;
              told = told_after;
              serving = subst (λ (n : ℕ). IsServing after.server (after.clouds n) x.0) number x.2;
              cloud = refl;
            };
            does = from_first x.0 (inl (
              r,
              e,
              record {
                answer = x.1;
                content_is = x.3;
                exec = x.4;
                images = answers.images p.peer r told_before serving_before e;
                stands = subst (λ (h : Header). peers.StandsAs (after.clouds (number_of before.server)) h x.0) answers.same x.2.stands;
              },
            ));
          }
      by_read (Err at) e =
          let m = answers.malformed at e in
          record {
            left = p.peer;
            stands = record {
              since = since;
              told = told_after;
              serving = subst (λ (c : ℕ → Cloud). IsServing after.server (c (number_of first.server)) p.peer) (sym m.2)
                  (subst (λ (s : Server). IsServing s (before.clouds (number_of first.server)) p.peer) (sym m.1) stands.serving);
              cloud = refl;
            };
            does = from_first p.peer (inr ((at, e, m.0), ap (λ (c : ℕ → Cloud). standing p.peer (c (number_of before.server))) m.2));
          }

  -- the same from what stands before it
  pub goes_on : ServesOne first.server.store.header p content reply (standing goes.left (cloud_in first after))
  goes_on = subst (λ (c : Cloud). ServesOne first.server.store.header (standing p.peer c) content reply (standing goes.left (cloud_in first after)))
      (sym stands.cloud) goes.does

-- ---- a row of answers

module _ {S : Type 0} (place : S → ServingPlace) where
  abbrev Step : S → List ℕ → List ℕ → S → Type 0
  Step before content reply after = HasAnsweredContent (place before) (place after) content reply

  module _ (old new : Telling) (port : ℕ) (first last : S) (ended : Served) (serves : ServesConnection Step old new port first last ended) where
    -- the same bytes, by another row with these requests and replies
    by_row : {T : Type 0} (does : T → List ℕ → List ℕ → T → Type 0) (t u : T) → Responds does t serves.requests serves.replies u → ServesConnection does old new port t u ended
    by_row does t u run = record { requests = serves.requests; replies = serves.replies; responds = run; bytes = serves.bytes }

    row : Since (place first) (place last) × Responds RepliesOne (held_in (place first) (place first)) serves.requests serves.replies (held_in (place first) (place last))
    row = mapped Step RepliesOne (λ s. held_in (place first) (place s)) (λ s. Since (place first) (place s))
        (λ before request reply after lawful answers since. (since_more (place first) (place before) (place after) request reply since answers, replied_since (place first) (place before) (place after) request reply since answers))
        first last serves.requests serves.replies (since_none (place first)) serves.responds

    pub was_called : Since (place first) (place last)
    was_called = row.0

    pub was_replied : ServesConnection RepliesOne old new port (held_in (place first) (place first)) (held_in (place first) (place last)) ended
    was_replied = by_row RepliesOne (held_in (place first) (place first)) (held_in (place first) (place last)) row.1

    pub was_served : (p : Peer) → IsTrue (cloud_in (place first) (place first)).told → IsServing (place first).server (cloud_in (place first) (place first)) p
        → (q : Peer) × IsServing (place last).server (cloud_in (place first) (place last)) q
        × ServesConnection (ServesOne (place first).server.store.header) old new port (standing p (cloud_in (place first) (place first))) (standing q (cloud_in (place first) (place last))) ended
    was_served p told serving =
        let start = standing p (cloud_in (place first) (place first)) in
        let does = ServesOne (place first).server.store.header in
        let ends = carried Step does (λ s t. StandsAs (place first) (place s) t)
        (λ before request reply after t lawful answers stands.
        let g = goes (place first) (place before) (place after) t request reply stands answers in (
          standing g.left (cloud_in (place first) (place after)),
          g.stands,
          goes_on (place first) (place before) (place after) t request reply stands answers,
        ))
        first last serves.requests serves.replies start
        (record { since = since_none (place first); told = told; serving = serving; cloud = refl }) serves.responds in (
          ends.left.peer,
          ends.stands.serving,
          subst (λ (c : Cloud). ServesConnection does old new port start (standing ends.left.peer c) ended) ends.stands.cloud
              (by_row does start ends.left ends.run),
        )
