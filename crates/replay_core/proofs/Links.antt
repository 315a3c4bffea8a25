-- The link at the first openings.
use Rattle.std.proofs.Common.{◌≡◌, ℕ, ◌+◌, ◌<◌, ◌≤◌, true, List, [], ◌∷◌, refl, sym, ◌∙◌, subst, inl, inr, ◌⊎◌, arith}
use Rattle.std.specs.Prelude.{◌≢◌, IsTrue, Option, None, Result}
use Rattle.std.specs.List.{Contains}
use Rattle.std.proofs.lemmas.Bool.{cases_eq, cases_lt}
use Rattle.share_server.specs.CdBase.shape.Shape.{Shape}
use Rattle.share_server.specs.CdEdges.area.Area.TheVariants.{Journal}
use Rattle.share_server.specs.CdEdges.Disk.{Cloud, reads}
use Rattle.share_server.specs.CdEdges.Shelf.{IsCall}
use Rattle.share_server.proofs.CdEdges.Moments.{weaker}
use Rattle.share_server.specs.CommitJournal.errors.OpenErr.{OpenErr}
use Rattle.share_server.specs.JournalStart.start.Header.{Header}
use Rattle.share_server.specs.CloudOpening.Spared.{IsOkOrFault, MayBegin}
use Rattle.share_server.specs.JournalStart.rooms.UserRooms.{UserRooms}
use Rattle.share_server.specs.UserDedup.Spending.{IsWithin}
use Rattle.share_server.specs.CloudAreas.Peers.{StandsForSome, ImagesNow, ImagesSince}
use Rattle.share_server.specs.CloudAreas.Standing.{StandsFor}
use Rattle.share_server.specs.declared.server.Server.{Server}
use Rattle.share_server.specs.Names.{header_of}
use Rattle.share_server.specs.Serving.{settled_with}
use Rattle.share_server.specs.UserDedup.command.Command.{Command}
use Rattle.share_server.proofs.UserDedup.Owned.{contains_here, contains_cases, contains_nothing}
use Rattle.script_lines.specs.LocalLink.link.LocalLink.{LocalLink}
use Rattle.script_lines.specs.LocalLink.Calls.{no_commands}
use Rattle.script_lines.specs.LocalLink.Tells.{server_at, rooms_at, header_at, IsPeer, StandsAt, LeavesRest}
use Rattle.script_lines.proofs.OfLocalLink.Standing.{peer_moves}
use Rattle.script_lines.proofs.Going.{rooms_kept}
use Rattle.replay_core.specs.Opening.{Prepares, PreparesAll, IsEmpty, OpensClouds}
use Rattle.replay_core.proofs.Clouds.{EmptyStands, prepares_same, prepares_from}

-- the one list of none
only_none : (list : List Command) → Contains ([] ∷ []) list → list ≡ []
only_none list has = elim (contains_cases [] [] list has) [ inl e ↦ sym e | inr none ↦ absurd (contains_nothing list none) ]

pub prepares_opened : EmptyStands → (header : Header) (old new : ℕ → Cloud) (cloud before now : ℕ) → IsCall old new cloud before now
    → (IsTrue (old cloud).told → (lists : List (List Command)) → ImagesNow (old cloud) header (Contains lists) → ImagesSince (old cloud) (new cloud) header (Contains lists))
    → Prepares header (old cloud) (new cloud)
prepares_opened law header old new cloud before now call images = record {
  told = call.told;
  later = call.later;
  armings = call.armings;
  images = λ told blank.
      weaker (old cloud) (new cloud) (StandsForSome header (Contains ([] ∷ []))) (StandsForSome header (λ list. list ≡ []))
      (images told ([] ∷ []) (λ image is. ([], contains_here [] [], law image header (λ area. blank image area is))))
      (λ image x. (x.0, only_none x.0 x.1, x.2));
}

pub opened_peer : (shape : Shape) (number : ℕ) (old new : Cloud) (server : Option Server) → new.told ≡ old.told → new.faults ≡ old.faults
    → new.armings ≡ old.armings → (IsTrue old.told → IsPeer shape number new server (settled_with [] new)) → IsPeer shape number new server (no_commands old)
opened_peer shape number old new server told faults armings loaded = record {
  faults = sym faults;
  armings = sym armings;
  serving = λ t. (at_old t).serving t;
  sound = λ t. (at_old t).sound t;
}
  where
    same_peer : settled_with [] new ≡ no_commands old
    same_peer = λ i. record { list = []; pending = None; faults = faults i; armings = armings i }

    at_old : IsTrue new.told → IsPeer shape number new server (no_commands old)
    at_old t = subst (IsPeer shape number new server) same_peer (loaded (sym told ∙ t))

-- a told cloud that reads as nothing is opened, unless its device failed
pub may_fail_only : EmptyStands → ((shape : Shape) (rooms : UserRooms) → IsWithin shape rooms []) → (header : Header) (shape : Shape) (rooms : UserRooms) (old : Cloud) (result : Result ℕ OpenErr)
    → IsEmpty old → (IsTrue old.told → (list : List Command) → StandsFor (reads old.now) header list → IsWithin shape rooms list
    → MayBegin (old.now Journal).read true → IsOkOrFault result)
    → IsTrue old.told → IsOkOrFault result
may_fail_only law within header shape rooms old result empty whole told =
    whole told [] (law (reads old.now) header (empty told)) (within shape rooms) (λ unbegun. refl)

-- ---- one after another

module _ {V : Type 0} (clouds : V → ℕ → Cloud) (law : EmptyStands) where
  pub none_opened : (link : LocalLink V) → OpensClouds clouds link link 0
  none_opened link = record {
    shape = refl;
    fate = refl;
    rooms = λ cloud. refl;
    stands = λ cloud lt. absurd (let l : cloud < 0 = lt in omega arith);
    prepares = λ cloud lt. absurd (let l : cloud < 0 = lt in omega arith);
    clouds_wait = λ cloud le. refl;
    servers_wait = λ cloud le. refl;
  }

  module _ (old mid new : LocalLink V) (number : ℕ) (to : OpensClouds clouds old mid number) (rest : LeavesRest clouds number mid new) where
    header_waits : (cloud : ℕ) → header_at mid.servers cloud ≡ header_at old.servers cloud
    header_waits cloud = λ i. header_of (to.shape i) (to.rooms cloud i) cloud

    prepares_here : Prepares (header_at mid.servers number) (clouds mid.shelf.now number) (clouds new.shelf.now number)
        → Prepares (header_at old.servers number) (clouds old.shelf.now number) (clouds new.shelf.now number)
    prepares_here is = subst (λ (h : Header). Prepares h (clouds old.shelf.now number) (clouds new.shelf.now number)) (header_waits number)
        (prepares_from (header_at mid.servers number) (clouds old.shelf.now number) (clouds mid.shelf.now number) (clouds new.shelf.now number) (to.clouds_wait number (same_le number)) is)
      where
        same_le : (n : ℕ) → n ≤ n
        same_le n = omega arith

    before_it : (cloud : ℕ) → cloud < number → Prepares (header_at old.servers cloud) (clouds old.shelf.now cloud) (clouds new.shelf.now cloud)
    before_it cloud lt = subst (λ (c : Cloud). Prepares (header_at old.servers cloud) (clouds old.shelf.now cloud) c) (sym (rest.clouds_stay cloud (other cloud lt))) (to.prepares cloud lt)
      where
        other : (cloud : ℕ) → cloud < number → cloud ≢ number
        other cloud lt e = omega arith

    pub one_opened : Prepares (header_at mid.servers number) (clouds mid.shelf.now number) (clouds new.shelf.now number)
        → StandsAt clouds new number (no_commands (clouds mid.shelf.now number))
        → rooms_at new.servers number ≡ rooms_at mid.servers number → new.fate ≡ mid.fate
        → OpensClouds clouds old new (number + 1)
    one_opened is stands rooms fate = record {
      shape = rest.shape_stays ∙ to.shape;
      fate = fate ∙ to.fate;
      rooms = λ cloud. rooms_kept clouds mid new number cloud rest rooms ∙ to.rooms cloud;
      stands = λ cloud lt. elim (cases_eq cloud number) [
        | inl e ↦ subst (λ (n : ℕ). StandsAt clouds new n (no_commands (clouds old.shelf.now n))) (sym e)
            (subst (λ (c : Cloud). StandsAt clouds new number (no_commands c)) (to.clouds_wait number (omega arith)) stands)
        | inr ne ↦ subst (λ (s : Shape). IsPeer s cloud (clouds new.shelf.now cloud) (server_at new.servers cloud) (no_commands (clouds old.shelf.now cloud))) (sym rest.shape_stays)
            (peer_moves mid.servers.shape cloud (clouds mid.shelf.now cloud) (clouds new.shelf.now cloud) (server_at mid.servers cloud) (server_at new.servers cloud)
            (no_commands (clouds old.shelf.now cloud)) (rest.clouds_stay cloud ne) (rest.servers_stay cloud ne) (to.stands cloud (omega arith)))
      ];
      prepares = λ cloud lt. elim (cases_eq cloud number) [
        | inl e ↦ subst (λ (n : ℕ). Prepares (header_at old.servers n) (clouds old.shelf.now n) (clouds new.shelf.now n)) (sym e) (prepares_here is)
        | inr ne ↦ before_it cloud (omega arith)
      ];
      clouds_wait = λ cloud le. rest.clouds_stay cloud (past cloud le) ∙ to.clouds_wait cloud (omega arith);
      servers_wait = λ cloud le. rest.servers_stay cloud (past cloud le) ∙ to.servers_wait cloud (omega arith);
    }
      where
        past : (cloud : ℕ) → number + 1 ≤ cloud → cloud ≢ number
        past cloud le e = omega arith

    pub stops_opening : number < old.servers.shape.n → Prepares (header_at mid.servers number) (clouds mid.shelf.now number) (clouds new.shelf.now number)
        → PreparesAll (header_at old.servers) old.servers.shape (clouds old.shelf.now) (clouds new.shelf.now)
    stops_opening below is = record {
      each = λ cloud lt. elim (cases_eq cloud number) [
        | inl e ↦ subst (λ (n : ℕ). Prepares (header_at old.servers n) (clouds old.shelf.now n) (clouds new.shelf.now n)) (sym e) (prepares_here is)
        | inr ne ↦ by_place cloud ne (where_is cloud)
      ];
      others = λ cloud le. rest.clouds_stay cloud (past cloud le) ∙ to.clouds_wait cloud (later cloud le);
    }
      where
        past : (cloud : ℕ) → old.servers.shape.n ≤ cloud → cloud ≢ number
        past cloud le e = omega arith

        later : (cloud : ℕ) → old.servers.shape.n ≤ cloud → number ≤ cloud
        later cloud le = omega arith

        where_is : (cloud : ℕ) → (cloud < number) ⊎ (number ≤ cloud)
        where_is cloud = cases_lt cloud number

        by_place : (cloud : ℕ) → cloud ≢ number → (cloud < number) ⊎ (number ≤ cloud)
            → Prepares (header_at old.servers cloud) (clouds old.shelf.now cloud) (clouds new.shelf.now cloud)
        by_place cloud ne (inl lt) = before_it cloud lt
        by_place cloud ne (inr le) = prepares_same law (header_at old.servers cloud) (clouds old.shelf.now cloud) (clouds new.shelf.now cloud) (rest.clouds_stay cloud ne ∙ to.clouds_wait cloud le)
