-- Areas that stand for no commands.
use Rattle.std.proofs.Common.{◌≡◌, ◌≢◌, inl, inr, ℕ, ◌≤◌, Bool, true, false, List, [], ◌++◌, length, None, Some, refl, sym, subst, arith, length-append}
use Rattle.std.specs.Prelude.{◌==◌, if◌then◌else◌}
use Rattle.std.specs.List.{Contains}
use Rattle.std.specs.Int.{w32, to_be_bytes}
use Rattle.std.proofs.lemmas.List.Elements.{All-nil}
use Rattle.user_dedup.specs.CdBase.shape.Shape.{Shape}
use Rattle.journal_halves.specs.CdEdges.area.Area.TheVariants.{Journal, Shares, Recipes}
use Rattle.journal_halves.specs.CdEdges.Disk.{Image}
use Rattle.journal_halves.specs.Records.{sized}
use Rattle.container_log.specs.Laying.{IsAt}
use Rattle.journal_halves.specs.Beginnings.{IsUnbegun}
use Rattle.journal_halves.specs.Beginnings.{new_of}
use Rattle.journal_halves.specs.Halves.{half_limit}
use Rattle.journal_halves.specs.Journals.{HasChain, used_by}
use Rattle.journal_halves.specs.JournalStart.start.Header.{Header}
use Rattle.journal_halves.specs.JournalStart.Spelling.{front_bytes, rooms_bytes, header_bytes, start_bytes}
use Rattle.record_body.specs.Spelling.{FitsBody}
use Rattle.user_dedup.specs.declared.command.Command.{Command}
use Rattle.user_dedup.specs.Cloud.{user_view}
use Rattle.user_dedup.specs.Dedup.{IsSound, Begun}
use Rattle.user_dedup.specs.Spending.{spent_of, nothing}
use Rattle.user_dedup.proofs.Owned.{contains_nothing}
use Rattle.cloud_areas.specs.Checkpoints.{AreDistinct, Lists, IsOwnerless, IsCheckpointOfList, SpentIs, HasEntry}
use Rattle.cloud_areas.specs.Chains.{Summed, LiesIn, DontOverlap, HaveRoom, least_shares, least_recipes}
use Rattle.cloud_areas.specs.Standing.{Chain, IsChain, Holds, StandsFor, new_chain}

-- ---- a checkpoint of no commands

pub apart_none : {X : Type 0} → AreDistinct {X = X} []
apart_none {X} i j x one two = absurd (let no : None ≡ Some x = one in cc)

lists_none : {X : Type 0} (P : X → Type 0) → ((x : X) → P x → ⊥) → Lists [] P
lists_none P none = record { each = λ x. (λ c. absurd (contains_nothing x c), λ p. absurd (none x p)); once = apart_none }

spent_none : (list : List Command) → list ≡ [] → (first : Bool) → SpentIs first list []
spent_none list is true = refl
spent_none list is false = record {
  users = lists_none (λ user. spent_of list user ≢ nothing) (λ user some. some (subst (λ l. spent_of l user ≡ nothing) (sym is) refl));
  numbers = λ s c. absurd (contains_nothing s c);
}

-- It has no records, so a start alone stands for them.
pub empty_checkpoint : (format : ℕ) (shape : Shape) → IsCheckpointOfList format shape [] [] []
empty_checkpoint format shape = record {
  puts = [];
  kept = [];
  commits = [];
  spents = [];
  whole = refl;
  owners = record {
    own = λ user. lists_none (Contains (user_view shape [] user).own) (λ fp c. contains_nothing fp c);
    full = λ user. tt;
    flags = tt;
  };
  ownerless = record { fps = lists_none (IsOwnerless shape []) (λ fp is. contains_nothing fp is.put); full = tt };
  entries = lists_none (HasEntry shape []) (λ key has. let no : false ≡ true = has in cc);
  laid = tt;
  spent = spent_none [] refl _;
}

-- ---- a start alone

pub no_places : DontOverlap []
no_places i j p q one two = absurd (let no : None ≡ Some p = one in cc)

pub no_room : (least spent : ℕ) → HaveRoom 0 least spent []
no_room least spent = record { each = All-nil (LiesIn 0); apart = no_places; bound = omega arith }

pub new_holds : (header : Header) (image : Image) → Holds header image [] (new_chain header)
new_holds header image = record {
  says = Summed [] [] [] (empty_checkpoint header.format header.shape) refl refl;
  long = All-nil _;
  shares = All-nil (IsAt (image Shares));
  recipes = All-nil (IsAt (image Recipes));
  rooms = record { shares = no_room least_shares _; recipes = no_room least_recipes _ };
}

header_len : (header : Header) → length (header_bytes header) ≤ 36
header_len header = by_format (header.format == 1)
  where
    by_format : (b : Bool) → length (if b then front_bytes header else front_bytes header ++ rooms_bytes header.rooms) ≤ 36
    by_format true = omega arith
    by_format false = omega arith

-- the start takes at most 42 places, with its gates and its length
pub new_used : (header : Header) → used_by (new_of header) ≤ 42
new_used header =
    let bytes = start_bytes (new_of header).start in
    omega (
      arith,
      header_len header,
      length-append (header_bytes header) [],
      length-append (sized bytes) [],
      length-append (to_be_bytes w32 (length bytes)) bytes,
    )

pub new_is_chain : (header : Header) (journal : List ℕ) → HasChain journal (new_of header) → IsChain header (half_limit header.rooms) journal (new_chain header)
new_is_chain header journal has = record {
  there = has;
  header_is = refl;
  within = (let used = new_used header in omega arith);
  fit = All-nil FitsBody;
}

pub new_stands : (header : Header) (image : Image) → HasChain (image Journal) (new_of header) → StandsFor image header []
unfolding StandsFor
new_stands header image has = (Begun, inl (record { chain_of = new_chain header; is_chain = new_is_chain header (image Journal) has; holds = new_holds header image }))

-- ---- no half is begun

pub unbegun_stands : (image : Image) (header : Header) → IsUnbegun (image Journal) → StandsFor image header []
unfolding StandsFor
unbegun_stands image header none = (Begun, inr (none, refl))

pub empty_unbegun : (journal : List ℕ) → journal ≡ [] → IsUnbegun journal
empty_unbegun journal is = subst IsUnbegun (sym is) (record { first = refl; second = refl })

pub empty_stands : (image : Image) (header : Header) → image Journal ≡ [] → StandsFor image header []
empty_stands image header is = unbegun_stands image header (empty_unbegun (image Journal) is)

-- ---- a chain that says the list

pub has_stands : (image : Image) (header : Header) (list : List Command) (c : Chain) → IsSound header.shape header.cloud.0 list
    → IsChain header (half_limit header.rooms) (image Journal) c → Holds header image list c → StandsFor image header list
unfolding StandsFor
has_stands image header list c sound is holds = (sound, inl (record { chain_of = c; is_chain = is; holds = holds }))

pub stands_sound : (image : Image) (header : Header) (list : List Command) → StandsFor image header list → IsSound header.shape header.cloud.0 list
unfolding StandsFor
stands_sound image header list stands = stands.0
