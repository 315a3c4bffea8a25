-- Worked cases of the definitions. The bytes were computed apart, by the rule in a few lines of another language.
use Rattle.std.proofs.Common.{◌≡◌, ℕ, List, [], ◌∷◌, refl}
use Rattle.replay_core.specs.Session.event.Event.TheVariants as events
use Rattle.generated_session.specs.Drawn.{next_state, drawn, first_state, generation_in, file_of}
use Rattle.generated_session.specs.Lines.{file_path, generated_lines}

-- the state behind 2, and what is drawn from there
second_state : next_state 2 ≡ 2164539522
unfolding next_state
second_state = refl

first_drawn : drawn (first_state 1 0 0) 8 ≡ 130 ∷ 131 ∷ 18 ∷ 66 ∷ 162 ∷ 3 ∷ 167 ∷ 120 ∷ []
unfolding drawn next_state
first_drawn = refl

-- of a later piece in a later version
later_drawn : drawn (first_state 5 3 2) 8 ≡ 8 ∷ 12 ∷ 72 ∷ 56 ∷ 186 ∷ 167 ∷ 254 ∷ 169 ∷ []
unfolding drawn next_state
later_drawn = refl

-- the greatest seed comes round to 0, in whose place 1 stands
last_drawn : drawn (first_state 18446744073709551615 0 0) 8 ≡ 65 ∷ 65 ∷ 41 ∷ 37 ∷ 101 ∷ 1 ∷ 113 ∷ 13 ∷ []
unfolding drawn next_state
last_drawn = refl

-- the generations of the first pieces in version 9, and in version 1
ninth : (generation_in 9 0 ≡ 8) × (generation_in 9 1 ≡ 9) × (generation_in 9 2 ≡ 2) × (generation_in 9 7 ≡ 7) × (generation_in 9 9 ≡ 9)
unfolding generation_in
ninth = (refl, refl, refl, refl, refl)

first : (generation_in 1 0 ≡ 0) × (generation_in 1 1 ≡ 1) × (generation_in 1 2 ≡ 0) × (generation_in 1 9 ≡ 1)
unfolding generation_in
first = (refl, refl, refl, refl)

-- the lines of one file, and of two
one_file : (seed pieces : ℕ) → generated_lines seed 1 pieces ≡
    events.Upload (record { 0 = 1 }) file_path (record { 0 = 1 }) (file_of seed pieces 1) ∷ events.Finish 1
    ∷ events.Get (record { 0 = 1 }) file_path (record { 0 = 1 }) (0 ∷ 2 ∷ 3 ∷ []) ∷ []
one_file seed pieces = refl

two_files : (seed pieces : ℕ) → generated_lines seed 2 pieces ≡
    events.Upload (record { 0 = 1 }) file_path (record { 0 = 1 }) (file_of seed pieces 1) ∷ events.Finish 1
    ∷ events.Upload (record { 0 = 2 }) file_path (record { 0 = 1 }) (file_of seed pieces 1) ∷ events.Finish 2
    ∷ events.Get (record { 0 = 1 }) file_path (record { 0 = 1 }) (0 ∷ 2 ∷ 3 ∷ [])
    ∷ events.Get (record { 0 = 2 }) file_path (record { 0 = 1 }) (0 ∷ 1 ∷ 3 ∷ []) ∷ []
two_files seed pieces = refl
