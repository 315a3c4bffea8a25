-- The words of rooms: what is read is spelled so, and what is spelled so is read.
use Rattle.std.proofs.Common.{◌≡◌, ℕ, zero, suc, ◌*◌, ◌/◌, ◌^◌, ◌<◌, ◌≤◌, List, [], ◌∷◌, ◌++◌, Option, Some, refl, subst, arith}
use Rattle.std.specs.Prelude.{decimal}
use Rattle.std.proofs.lemmas.Nat.{div-add-mod', le-div, mul-le}
use Rattle.std.proofs.lemmas.Option.{same_Some}
use Rattle.session.specs.JournalStart.Ranges.{AreRooms, most_shares, most_recipes, most_owners, most_files}
use Rattle.session.specs.JournalStart.rooms.UserRooms.{UserRooms}
use Rattle.session.specs.Grammar.Numerals.{number}
use Rattle.session.proofs.Grammar.NumeralLaws.{number_reads}
use Rattle.session.proofs.Headers.{numbers, parts_le}
use Rattle.session.specs.Reading.{make_rooms, each_room}
use Rattle.command_words.specs.Commands.{rooms_words}
use Rattle.command_words.specs.Reading.{◌>>=◌, ◌▷◌, ◌▷▷◌, word_at, rooms_at}
use Rattle.command_words.proofs.Readers.{Spells, spells_by, Lawful, bind_some, lawful_word, lawful_given, lawful_then}

abbrev UpTo : ℕ → ℕ → Type 0
UpTo high n = (0 ≤ n) × (n ≤ high)

-- a part of a number is no more than it
pub part_le : (most users : ℕ) → most / users ≤ most
part_le most zero = omega arith
part_le most (suc users) =
    let e = div-add-mod' most (suc users) in
    let m = mul-le (most / suc users) 1 (most / suc users) (suc users) (omega arith) (omega arith) in
    omega arith

users_spell : Spells (number 1 256) decimal (λ n. (1 ≤ n) × (n ≤ 256))
users_spell = spells_by (number_reads 1 256 (omega arith))

-- there are some users where their number was read
pub some_users : (words rest : List (List ℕ)) (users : ℕ) → word_at (number 1 256) words ≡ Some (users, rest) → 1 ≤ users
some_users words rest users e = ((lawful_word users_spell).takes words users rest e).1.0

each_spells : (most users : ℕ) → most < 2 ^ 64 → Spells (each_room most users) decimal (λ n. UpTo (most / users) n)
each_spells most users small =
    let le = part_le most users in
    spells_by (number_reads 0 (most / users) (omega arith))

abbrev number_words : ℕ × (ℕ × (ℕ × (ℕ × ℕ))) → List (List ℕ)
number_words x = (decimal x.0 ∷ []) ++ ((decimal x.1.0 ∷ []) ++ ((decimal x.1.1.0 ∷ []) ++ ((decimal x.1.1.1.0 ∷ []) ++ (decimal x.1.1.1.1 ∷ []))))

abbrev InRooms : ℕ × (ℕ × (ℕ × (ℕ × ℕ))) → Type 0
InRooms x = ((1 ≤ x.0) × (x.0 ≤ 256)) × (UpTo (most_shares / x.0) x.1.0
    × (UpTo (most_recipes / x.0) x.1.1.0 × (UpTo (most_owners / x.0) x.1.1.1.0 × UpTo (most_files / x.0) x.1.1.1.1)))

abbrev numbers_at : List (List ℕ) → Option ((ℕ × (ℕ × (ℕ × (ℕ × ℕ)))) × List (List ℕ))
numbers_at = word_at (number 1 256) ▷▷ λ users. word_at (each_room most_shares users) ▷ word_at (each_room most_recipes users)
    ▷ word_at (each_room most_owners users) ▷ word_at (each_room most_files users)

lawful_numbers : Lawful numbers_at number_words InRooms
lawful_numbers = lawful_given (lawful_word users_spell) (λ users. lawful_then (lawful_word (each_spells most_shares users (omega arith)))
    (lawful_then (lawful_word (each_spells most_recipes users (omega arith)))
    (lawful_then (lawful_word (each_spells most_owners users (omega arith))) (lawful_word (each_spells most_files users (omega arith))))))

part_of : (most users each : ℕ) → 1 ≤ users → users * each ≤ most → UpTo (most / users) each
part_of most users each some le = (omega arith, le-div each most users some (omega arith))

are_rooms : (x : ℕ × (ℕ × (ℕ × (ℕ × ℕ)))) → InRooms x → AreRooms (make_rooms x)
are_rooms x h = record {
  some = h.0.0;
  few = h.0.1;
  shares = parts_le most_shares x.0 x.1.0 h.1.0.1;
  recipes = parts_le most_recipes x.0 x.1.1.0 h.1.1.0.1;
  owners = parts_le most_owners x.0 x.1.1.1.0 h.1.1.1.0.1;
  files = parts_le most_files x.0 x.1.1.1.1 h.1.1.1.1.1;
}

in_rooms : (r : UserRooms) → AreRooms r → InRooms (numbers r)
in_rooms r h = (
  (h.some, h.few),
  (
    part_of most_shares r.users r.shares h.some h.shares,
    (
      part_of most_recipes r.users r.recipes h.some h.recipes,
      (part_of most_owners r.users r.owners h.some h.owners, part_of most_files r.users r.files h.some h.files),
    ),
  ),
)

rooms_take : (words : List (List ℕ)) (r : UserRooms) (rest : List (List ℕ)) → rooms_at words ≡ Some (r, rest)
    → (words ≡ rooms_words r ++ rest) × AreRooms r
unfolding rooms_at
rooms_take words r rest e =
    let a = bind_some (numbers_at words) (λ x. Some (make_rooms x.0, x.1)) (r, rest) e in
    let t = lawful_numbers.takes words a.0.0 a.0.1 a.1 in
    subst (λ (p : UserRooms × List (List ℕ)). (words ≡ rooms_words p.0 ++ p.1) × AreRooms p.0)
    (same_Some (make_rooms a.0.0, a.0.1) (r, rest) a.2) (t.0, are_rooms a.0.0 t.1)

rooms_again : (r : UserRooms) (rest : List (List ℕ)) → AreRooms r → rooms_at (rooms_words r ++ rest) ≡ Some (r, rest)
unfolding rooms_at
rooms_again r rest h = rw (lawful_numbers.again (numbers r) rest (in_rooms r h)) refl

pub lawful_rooms : Lawful rooms_at rooms_words AreRooms
lawful_rooms = record { takes = rooms_take; again = rooms_again }
