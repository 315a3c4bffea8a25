-- The parts of a start are read as they are spelled, and no other bytes are read as them.
use Rattle.std.proofs.Common.{◌≡◌, ℕ, zero, suc, ◌+◌, ◌*◌, ◌<◌, ◌≤◌, ◌^◌, Bool, true, false, leb, ltb, eqb, cond, List, [], ◌∷◌, ◌++◌, length, Option, Some, None, Result, Ok, Err, IsTrue, refl, sym, ap, subst, ◌∙◌, arith, inl, inr, eqb-true}
use Rattle.std.specs.Prelude.{⊤}
use Rattle.std.specs.Int.{w32, w64, to_be_bytes}
use Rattle.std.proofs.lemmas.Bool.{and_parts, leb-true, le-leb}
use Rattle.std.proofs.lemmas.Option.{same_Some}
use Rattle.message_fields.proofs.Grammar.Laws.{lawful_then, lawful_given}
use Rattle.message_fields.proofs.Grammar.FieldLaws.{IsBytes, Anything, LawfulBytes}
use Rattle.message_fields.specs.Parts.{kept}
use Rattle.message_fields.proofs.PartLaws.{lawful_made, lawful_kept, lawful_byte, lawful_u32, lawful_u64}
use Rattle.journal_start.specs.declared.rooms.UserRooms.{UserRooms}
use Rattle.journal_start.specs.declared.start.Checkpoint.{Checkpoint}
use Rattle.journal_start.specs.Ranges.{AreRooms, IsCheckpoint, is_users, is_within, most_shares, most_recipes, most_owners, most_files}
use Rattle.journal_start.specs.Spelling.{rooms_bytes, checkpoint_bytes}
use Rattle.journal_start.specs.Reading.{byte_at, letter_at, letters_at, is_format, is_shape, shape_at, cloud_at, Front, front_at, make_rooms, rooms_at, is_epoch, is_region, counts_at, make_first, make_second, first_checkpoint_at, second_checkpoint_at}

-- ---- what stands before the rooms

lawful_any : LawfulBytes byte_at (λ (x : ℕ). x ∷ []) (λ x. x < 256)
lawful_any = lawful_byte Some (λ x. x) (λ x. x < 256) (λ b x lt e. let same : b ≡ x = same_Some b x e in (sym same, omega arith)) (λ x fits. refl)

lawful_letter : (letter : ℕ) → LawfulBytes (letter_at letter) (λ x. x ∷ []) (λ x. (x < 256) × IsTrue (eqb x letter))
lawful_letter letter = lawful_kept (λ x. eqb x letter) lawful_any

lawful_letters : LawfulBytes letters_at (λ _. 67 ∷ 68 ∷ 83 ∷ 84 ∷ []) (λ _. ⊤)
lawful_letters =
    lawful_made (lawful_then IsBytes Anything (lawful_letter 67) (lawful_then IsBytes Anything (lawful_letter 68) (lawful_then IsBytes Anything (lawful_letter 83) (lawful_letter 84))))
    (λ _. tt) (λ _. (67, (68, (83, 84)))) (λ _. ⊤)
    (λ x fits.
    let c = eqb-true x.0 67 fits.0.1 in let d = eqb-true x.1.0 68 fits.1.0.1 in let s = eqb-true x.1.1.0 83 fits.1.1.0.1 in let t = eqb-true x.1.1.1 84 fits.1.1.1.1 in
    (λ i. (sym c i, (sym d i, (sym s i, sym t i))), tt))
    (λ _ _. (((omega arith, refl), ((omega arith, refl), ((omega arith, refl), (omega arith, refl)))), refl))

abbrev pub FitsFront : Front → Type 0
FitsFront x =
    ⊤ × (((x.1.0 < 256) × IsTrue (is_format x.1.0)) × (((x.1.1.0.0 < 256) × ((x.1.1.0.1 < 256) × IsTrue (is_shape x.1.1.0.0 x.1.1.0.1))) × ((x.1.1.1 < 256) × IsTrue (ltb x.1.1.1 x.1.1.0.0))))

abbrev pub spell_front : Front → List ℕ
spell_front x = 67 ∷ 68 ∷ 83 ∷ 84 ∷ x.1.0 ∷ x.1.1.0.0 ∷ x.1.1.0.1 ∷ x.1.1.1 ∷ []

pub lawful_front : LawfulBytes front_at spell_front FitsFront
unfolding front_at
lawful_front =
    lawful_then IsBytes Anything lawful_letters (lawful_then IsBytes Anything (lawful_kept is_format lawful_any)
    (lawful_given IsBytes Anything (lawful_given IsBytes Anything lawful_any (λ n. lawful_kept (is_shape n) lawful_any)) (λ shape. lawful_kept (λ cloud. ltb cloud shape.0) lawful_any)))

-- ---- rooms

-- what each of some users holds is no more than what all hold
no_more : (users each most : ℕ) → 1 ≤ users → users * each ≤ most → each ≤ most
no_more zero each most some le = absurd (omega arith)
no_more (suc users) each most some le = omega (arith, le)

abbrev unmake_rooms : UserRooms → ℕ × (ℕ × (ℕ × (ℕ × ℕ)))
unmake_rooms r = (r.users, (r.shares, (r.recipes, (r.owners, r.files))))

users_from : (n : ℕ) → IsTrue (is_users n) → (1 ≤ n) × (n ≤ 256)
users_from n e = let p = and_parts (leb 1 n) _ e in (leb-true _ _ p.0, leb-true _ _ p.1)

pub lawful_rooms : LawfulBytes rooms_at rooms_bytes AreRooms
unfolding rooms_at
lawful_rooms =
    lawful_made (lawful_given IsBytes Anything (lawful_kept is_users lawful_u32)
    (λ users. lawful_then IsBytes Anything (lawful_kept (is_within most_shares users) lawful_u64) (lawful_then IsBytes Anything (lawful_kept (is_within most_recipes users) lawful_u64)
    (lawful_then IsBytes Anything (lawful_kept (is_within most_owners users) lawful_u32) (lawful_kept (is_within most_files users) lawful_u32)))))
    make_rooms unmake_rooms AreRooms
    (λ x fits.
    let u = users_from x.0 fits.0.1 in
    (refl, record { some = u.0; few = u.1; shares = leb-true _ _ fits.1.0.1; recipes = leb-true _ _ fits.1.1.0.1; owners = leb-true _ _ fits.1.1.1.0.1; files = leb-true _ _ fits.1.1.1.1.1 }))
    (λ r are. (
      (
        ((omega (arith, are.few), rw (le-leb 1 r.users are.some, le-leb r.users 256 are.few) refl)),
        (
          ((omega (arith, no_more r.users r.shares most_shares are.some are.shares)), le-leb _ _ are.shares),
          (
            ((omega (arith, no_more r.users r.recipes most_recipes are.some are.recipes)), le-leb _ _ are.recipes),
            (
              ((omega (arith, no_more r.users r.owners most_owners are.some are.owners)), le-leb _ _ are.owners),
              ((omega (arith, no_more r.users r.files most_files are.some are.files)), le-leb _ _ are.files),
            ),
          ),
        ),
      ),
      refl,
    ))

-- ---- checkpoints

pub lawful_first : LawfulBytes first_checkpoint_at (checkpoint_bytes 1) (IsCheckpoint 1)
unfolding first_checkpoint_at
lawful_first =
    lawful_made (lawful_then IsBytes Anything (lawful_then IsBytes Anything (lawful_kept is_epoch lawful_u64) (lawful_then IsBytes Anything lawful_u64 lawful_u32)) lawful_u64)
    make_first (λ (c : Checkpoint). ((c.epoch, (c.commands, c.records)), c.recipes_end)) (IsCheckpoint 1)
    (λ x fits.
    (refl, record { epoch = leb-true _ _ fits.0.0.1; commands = fits.0.1.0; records = fits.0.1.1; region = omega arith; recipes_end = fits.1; without_region = λ _. refl; without_end = λ e. absurd (omega (arith, e)) }))
    (λ c is. (
      ((((omega (arith, is.epoch)), le-leb _ _ is.epoch), (is.commands, is.records)), is.recipes_end),
      λ i. record { epoch = c.epoch; commands = c.commands; records = c.records; region = sym (is.without_region refl) i; recipes_end = c.recipes_end },
    ))

pub lawful_second : LawfulBytes second_checkpoint_at (checkpoint_bytes 2) (IsCheckpoint 2)
unfolding second_checkpoint_at
lawful_second =
    lawful_made (lawful_then IsBytes Anything (lawful_then IsBytes Anything (lawful_kept is_epoch lawful_u64) (lawful_then IsBytes Anything lawful_u64 lawful_u32)) (lawful_kept is_region lawful_any))
    make_second (λ (c : Checkpoint). ((c.epoch, (c.commands, c.records)), c.region)) (IsCheckpoint 2)
    (λ x fits.
    (refl, record { epoch = leb-true _ _ fits.0.0.1; commands = fits.0.1.0; records = fits.0.1.1; region = leb-true _ _ fits.1.1; recipes_end = omega arith; without_region = λ e. absurd (omega (arith, e)); without_end = λ _. refl }))
    (λ c is. (
      ((((omega (arith, is.epoch)), le-leb _ _ is.epoch), (is.commands, is.records)), (omega (arith, is.region), le-leb _ _ is.region)),
      λ i. record { epoch = c.epoch; commands = c.commands; records = c.records; region = c.region; recipes_end = sym (is.without_end refl) i },
    ))
