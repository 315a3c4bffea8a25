-- A script is read to its end in one way.
use Rattle.std.proofs.Common.{◌≡◌, ℕ, ◌+◌, List, [], ◌∷◌, length, Option, Some, None, Result, Ok, Err, refl, sym, ap, subst, ◌∙◌}
use Rattle.std.proofs.lemmas.Option.{same_Some}
use Rattle.journal_start.specs.CdBase.shape.Shape.{Shape}
use Rattle.journal_start.specs.declared.rooms.UserRooms.{UserRooms}
use Rattle.session.specs.Fault.{Fault}
use Rattle.session.specs.Lines.{next_line, after_line}
use Rattle.session.specs.Reading.{header_at, event_at}
use Rattle.session.specs.Scripts.{ScriptPlace, behind, Says, LeadsThrough, Begins, Reaches, IsEnd}
use Rattle.session.specs.declared.event.Event.{Event}

same_ok : {A : Type 0} (r : Result A Fault) (x y : A) → r ≡ Ok x → r ≡ Ok y → x ≡ y
same_ok (Ok z) x y e f = cc (e, f)
same_ok (Err d) x y e f = absurd cc

abbrev nothing : Option (List ℕ)
nothing = None

not_nothing : (line : List ℕ) → nothing ≡ Some line → ⊥
not_nothing line e = cc

-- the next line says one thing, and one place follows it
one_next : (shape : Shape) (place : ScriptPlace) (a b : Event) (p q : ScriptPlace) → Says shape place a p → Says shape place b q → (a ≡ b) × (p ≡ q)
one_next shape place a b p q s t =
    let line : s.line ≡ t.line = same_Some s.line t.line (same_ok (next_line place.taken place.rest) (Some s.line) (Some t.line) s.here t.here) in
    let event : a ≡ b = same_ok (event_at shape place.jobs t.line) a b (subst (λ (l : List ℕ). event_at shape place.jobs l ≡ Ok a) line s.says) t.says in
    (event, s.next_is ∙ ap (λ (l : List ℕ). behind place l a) line ∙ ap (λ (e : Event). behind place t.line e) event ∙ sym t.next_is)

-- no line comes at the end
no_next : (shape : Shape) (place : ScriptPlace) (event : Event) (next : ScriptPlace) → IsEnd place → Says shape place event next → ⊥
no_next shape place event next end s = not_nothing s.line (same_ok (next_line place.taken place.rest) nothing (Some s.line) end s.here)

one_way : (shape : Shape) (place : ScriptPlace) (xs ys : List Event) (p q : ScriptPlace) → LeadsThrough shape place xs p → IsEnd p → LeadsThrough shape place ys q → IsEnd q → xs ≡ ys
one_way shape place [] [] p q h e k f = refl
one_way shape place [] (b ∷ ys) p q h e k f = absurd (no_next shape place b k.0 (subst IsEnd h e) k.1)
one_way shape place (a ∷ xs) [] p q h e k f = absurd (no_next shape place a h.0 (subst IsEnd k f) h.1)
one_way shape place (a ∷ xs) (b ∷ ys) p q h e k f =
    let one = one_next shape place a b h.0 k.0 h.1 k.1 in
    let more = one_way shape k.0 xs ys p q (subst (λ (n : ScriptPlace). LeadsThrough shape n xs p) one.1 h.2) e k.2 f in
    cc (one.0, more)

abbrev first_place : List ℕ → List ℕ → ScriptPlace
first_place script line = record { jobs = 0; taken = length line + 1; rest = after_line script }

one_first : (script : List ℕ) (s t : Shape) (q r : UserRooms) (x y : ScriptPlace) → Begins script s q x → Begins script t r y → (s ≡ t) × (q ≡ r) × (x ≡ y)
one_first script s t q r x y b c =
    let line : b.line ≡ c.line = same_Some b.line c.line (same_ok (next_line 0 script) (Some b.line) (Some c.line) b.here c.here) in
    let pair : (s, q) ≡ (t, r) = same_ok (header_at c.line) (s, q) (t, r) (subst (λ (l : List ℕ). header_at l ≡ Ok (s, q)) line b.says) c.says in (
      ap (λ (p : Shape × UserRooms). p.0) pair,
      ap (λ (p : Shape × UserRooms). p.1) pair,
      b.next_is ∙ ap (λ (l : List ℕ). first_place script l) line ∙ sym c.next_is,
    )

pub one_script : (script : List ℕ) (s t : Shape) (q r : UserRooms) (xs ys : List Event) (x y : ScriptPlace)
    → Reaches script s q xs x → IsEnd x → Reaches script t r ys y → IsEnd y → (s ≡ t) × (q ≡ r) × (xs ≡ ys)
one_script script s t q r xs ys x y h e k f =
    let first = one_first script s t q r h.0 k.0 h.1 k.1 in
    let here : LeadsThrough s k.0 xs x = subst (λ (n : ScriptPlace). LeadsThrough s n xs x) first.2 h.2 in
    (first.0, first.1, one_way t k.0 xs ys x y (subst (λ (z : Shape). LeadsThrough z k.0 xs x) first.0 here) e k.2 f)
