-- One server put in place of another.
use Rattle.std.proofs.Common.{◌≡◌, ℕ, ◌+◌, ◌<◌, List, [], ◌∷◌, ◌++◌, length, get_or, Option, Some, sym, ap, ◌∙◌, subst, arith, inl, inr, ◌⊎◌}
use Rattle.std.specs.Prelude.{◌≢◌, slice_get, slice_set}
use Rattle.std.proofs.lemmas.Bool.{cases_eq}
use Rattle.std.proofs.lemmas.List.{get_or-set_same, get_or-set_other, length-set, length-append, get_or_append_left, get_or_push}
use Rattle.std.proofs.lemmas.Option.{slice_get_within, slice_get_cases, slice_get_past, slice_get-get_or, get_or_from_slice_get}
use Rattle.share_server.specs.CdBase.ids.CloudNo.{CloudNo}
use Rattle.share_server.specs.CdBase.shape.Shape.{Shape}
use Rattle.share_server.specs.JournalStart.rooms.UserRooms.{UserRooms}
use Rattle.share_server.specs.JournalStart.start.Header.{Header}
use Rattle.share_server.specs.CloudStore.Store.{IsOpen}
use Rattle.share_server.specs.Names.{header_of}
use Rattle.share_server.specs.declared.server.Server.{Server}
use Rattle.local_link.specs.Members.{IsServerOf, AreServers}
use Rattle.local_link.specs.Steps.{IsClosedIn}

pub some_same : {A : Type 0} (a b : A) (o : Option A) → o ≡ Some a → o ≡ Some b → a ≡ b
some_same a b o p q = let e : Some a ≡ Some b = sym p ∙ q in cc

pub set_here : {A : Type 0} (xs : List A) (i : ℕ) (v : A) → i < length xs → slice_get (slice_set xs i v) i ≡ Some v
set_here xs i v lt = slice_get-get_or (slice_set xs i v) i v (omega (arith, length-set xs i v)) ∙ ap Some (get_or-set_same xs i v v lt)

pub set_there : {A : Type 0} (xs : List A) (i j : ℕ) (v : A) → j ≢ i → slice_get (slice_set xs i v) j ≡ slice_get xs j
set_there xs i j v ne = elim (slice_get_cases xs j).1 [
  | inl x ↦ slice_get-get_or (slice_set xs i v) j x.0 (omega (arith, length-set xs i v, x.1)) ∙ ap Some (get_or-set_other xs i j v x.0 ne ∙ x.3) ∙ sym x.2
  | inr x ↦ slice_get_past (slice_set xs i v) j (omega (arith, length-set xs i v, x.0)) ∙ sym x.1
]

-- a server of the same cloud in the same rooms
pub server_of_same : (shape : Shape) (number : ℕ) (before after : Server) → after.store.header ≡ before.store.header → IsServerOf shape number before → IsServerOf shape number after
server_of_same shape number before after same of = record {
  header_is = same ∙ of.header_is ∙ ap (λ (h : Header). header_of shape h.rooms number) (sym same);
}

-- another server of that cloud at its place
pub still_servers : (shape : Shape) (list : List Server) (cloud : ℕ) (after : Server) → AreServers shape list → cloud < shape.n → IsServerOf shape cloud after → AreServers shape (slice_set list cloud after)
still_servers shape list cloud after are lt of = record {
  count = length-set list cloud after ∙ are.count;
  each = λ number server e. by_place number server e (cases_eq number cloud);
}
  where
    here : slice_get (slice_set list cloud after) cloud ≡ Some after
    here = let n = are.count in set_here list cloud after (omega arith)

    by_place : (number : ℕ) (server : Server) → slice_get (slice_set list cloud after) number ≡ Some server → (number ≡ cloud) ⊎ (number ≡ cloud → ⊥) → IsServerOf shape number server
    by_place number server e (inl same) =
        let at_cloud = subst (λ (n : ℕ). slice_get (slice_set list cloud after) n ≡ Some server) same e in
        subst (λ (n : ℕ). IsServerOf shape n server) (sym same) (subst (IsServerOf shape cloud) (some_same after server _ here at_cloud) of)
    by_place number server e (inr other) = are.each number server (sym (set_there list cloud number after other) ∙ e)

-- the server that stands at a place
pub stands_at : (shape : Shape) (list : List Server) (cloud : ℕ) (server : Server) → AreServers shape list → cloud < shape.n → server ≡ get_or list cloud server → slice_get list cloud ≡ Some server
stands_at shape list cloud server are lt e = let n = are.count in slice_get-get_or list cloud server (omega arith) ∙ ap Some (sym e)

-- ---- servers that are made

pub server_made : (shape : Shape) (number : ℕ) (rooms : UserRooms) (server : Server) → server.store.header ≡ header_of shape rooms number → IsServerOf shape number server
server_made shape number rooms server of = record { header_is = of ∙ ap (λ (h : Header). header_of shape h.rooms number) (sym of) }

-- in its rooms, where it is closed
pub closed_made : (shape : Shape) (number : ℕ) (rooms : UserRooms) (server : Server) → server.store.header ≡ header_of shape rooms number → ¬ (IsOpen server.store) → IsClosedIn rooms server
closed_made shape number rooms server of shut = record { rooms_are = ap (λ (h : Header). h.rooms) of; shut = shut }

-- so many servers are made, each of its own number, and closed
pub record Made (shape : Shape) (rooms : UserRooms) (list : List Server) (count : ℕ) : Type 0 where
  pub long : length list ≡ count
  pub each : (number : ℕ) (server : Server) → slice_get list number ≡ Some server → IsServerOf shape number server × IsClosedIn rooms server

pub none_made : (shape : Shape) (rooms : UserRooms) (list : List Server) → list ≡ [] → Made shape rooms list 0
none_made shape rooms list e = record {
  long = ap length e;
  each = λ number server g. absurd (let n = slice_get_within list number server g in let l = ap length e in omega arith);
}

pub one_made : (shape : Shape) (rooms : UserRooms) (list : List Server) (count : ℕ) (cloud : CloudNo) (server : Server) → Made shape rooms list count → cloud.0 ≡ count
    → server.store.header ≡ header_of shape rooms cloud.0 → ¬ (IsOpen server.store) → Made shape rooms (list ++ server ∷ []) (count + 1)
one_made shape rooms list count cloud server made here of shut = record {
  long = omega (arith, length-append list (server ∷ []), made.long);
  each = λ number other g. by_place number other g (cases_eq number (length list));
}
  where
    by_place : (number : ℕ) (other : Server) → slice_get (list ++ server ∷ []) number ≡ Some other → (number ≡ length list) ⊎ (number ≡ length list → ⊥) → IsServerOf shape number other × IsClosedIn rooms other
    by_place number other g (inl last) =
        let is_last : slice_get (list ++ server ∷ []) number ≡ Some server = slice_get-get_or (list ++ server ∷ []) number server (omega (arith, length-append list (server ∷ []))) ∙ ap Some (get_or_push list server server number (sym last)) in
        let same : server ≡ other = some_same server other _ is_last g in
        let at : cloud.0 ≡ number = here ∙ sym made.long ∙ sym last in
        subst (λ (s : Server). IsServerOf shape number s × IsClosedIn rooms s) same (
          subst (λ (n : ℕ). IsServerOf shape n server) at (server_made shape cloud.0 rooms server of),
          closed_made shape cloud.0 rooms server of shut,
        )
    by_place number other g (inr not_last) =
        let within = slice_get_within (list ++ server ∷ []) number other g in
        let lt : number < length list = omega (arith, length-append list (server ∷ []), within) in
        made.each number other (slice_get-get_or list number other lt ∙ ap Some (sym (get_or_append_left list (server ∷ []) other number lt) ∙ get_or_from_slice_get (list ++ server ∷ []) number other other g))
