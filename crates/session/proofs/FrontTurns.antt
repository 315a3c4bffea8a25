-- Where the next line ends, by the front that is held and what is ahead.
use Rattle.std.proofs.Common.{◌≡◌, ◌≢◌, ℕ, ◌+◌, ◌-◌, ◌<◌, ◌≤◌, List, [], ◌++◌, length, take, drop, get_or, Option, Some, Ok, sym, refl, ap, ◌∙◌, append_assoc, arith, inl, inr}
use Rattle.std.proofs.lemmas.Bool.{cases_lt}
use Rattle.std.proofs.lemmas.List.{length-append, length-take, length-drop, take-append-drop, get_or-append-add}
use Rattle.std.proofs.Math.Seq.{take-append-add, drop-append-add, get_or-append_right}
use Rattle.session.specs.Front.{Moved}
use Rattle.transcript.specs.CdEdges.Held.{Follows}
use Rattle.session.specs.Lines.{line_length, script_limit, room_after, next_line, after_line}
use Rattle.session.proofs.Turns.{len_le, found_ahead, goes_on, end_behind, answers_room, answers_script, answers_line, place, next_is}

-- a front without a newline, so many bytes long
pub record Plain (front : List ℕ) (held : ℕ) : Type 0 where
  pub len : held ≡ length front
  pub none : line_length front ≡ length front

pub plain_none : Plain [] 0
plain_none = record { len = refl; none = refl }

pub front_room : (taken : ℕ) (front ahead unread rest : List ℕ) (held room end : ℕ) → Plain front held → (front ++ ahead) ++ unread ≡ rest → room ≡ room_after taken → held ≤ room → end ≡ line_length ahead → room - held < end
    → next_line taken rest ≡ place room (Some (get_or ahead (room - held) 0))
front_room taken front ahead unread rest held room end plain parts e le is lt =
    let len = plain.len in
    let at : room - length front ≡ room - held = omega arith in
    answers_room taken (front ++ ahead) unread rest room parts e (omega (arith, goes_on front ahead plain.none))
    ∙ ap (λ (n : ℕ). place room (Some n)) (get_or-append_right front ahead room 0 (omega arith) ∙ ap (λ (n : ℕ). get_or ahead n 0) at)

pub front_script : (taken : ℕ) (front ahead unread rest : List ℕ) (held end : ℕ) → Plain front held → (front ++ ahead) ++ unread ≡ rest → end ≡ line_length ahead → end < length ahead → held + end ≤ room_after taken → taken + (held + end) ≡ script_limit
    → next_line taken rest ≡ place (held + end) (Some (get_or ahead end 0))
front_script taken front ahead unread rest held end plain parts is lt le limit =
    answers_script taken (front ++ ahead) unread rest (held + end) parts (omega (arith, goes_on front ahead plain.none, plain.len)) (omega (arith, length-append front ahead, plain.len)) le limit
    ∙ ap (λ (n : ℕ). place (held + end) (Some n)) (ap (λ (n : ℕ). get_or (front ++ ahead) (n + end) 0) plain.len ∙ get_or-append-add front ahead end 0)

pub front_line : (taken : ℕ) (front ahead unread rest : List ℕ) (held end : ℕ) → Plain front held → (front ++ ahead) ++ unread ≡ rest → end ≡ line_length ahead → end < length ahead → held + end ≤ room_after taken → taken + (held + end) ≢ script_limit
    → (next_line taken rest ≡ Ok (Some (front ++ take end ahead))) × (drop (end + 1) ahead ++ unread ≡ after_line rest)
front_line taken front ahead unread rest held end plain parts is lt le limit =
    let a = answers_line taken (front ++ ahead) unread rest (held + end) parts (omega (arith, goes_on front ahead plain.none, plain.len)) (omega (arith, length-append front ahead, plain.len)) le limit in
    let len = plain.len in
    let behind : held + end + 1 ≡ length front + (end + 1) = omega arith in
    let line : take (held + end) (front ++ ahead) ≡ front ++ take end ahead = ap (λ (n : ℕ). take (n + end) (front ++ ahead)) len ∙ take-append-add front ahead end in
    let rest-is : drop (held + end + 1) (front ++ ahead) ≡ drop (end + 1) ahead = ap (λ (n : ℕ). drop n (front ++ ahead)) behind ∙ drop-append-add front ahead (end + 1) in
    (a.0 ∙ ap next_is line, ap (λ (x : List ℕ). x ++ unread) (sym rest-is) ∙ a.1)

-- the first bytes have no newline either
none_in_front : (n : ℕ) (xs : List ℕ) → line_length xs ≡ length xs → line_length (take n xs) ≡ length (take n xs)
none_in_front n xs none = elim (cases_lt (line_length (take n xs)) (length (take n xs))) [
  | inl lt ↦
      let f = found_ahead (take n xs) (drop n xs) lt in
      let parts : line_length (take n xs ++ drop n xs) ≡ line_length xs = ap line_length (take-append-drop n xs) in
      let short = length-take n xs in
      absurd (omega arith)
  | inr ge ↦ let le = len_le (take n xs) in omega arith
]

-- what is held and what is ahead, after some of it was moved
pub record After (n : ℕ) (front ahead front-now ahead-now : List ℕ) (held : ℕ) : Type 0 where
  pub plain : Plain front-now (held + n)
  pub none : line_length ahead-now ≡ length ahead-now
  pub len : length ahead-now + n ≡ length ahead
  pub same : front-now ++ ahead-now ≡ front ++ ahead

pub moved_on : (n : ℕ) (front ahead front-now ahead-now : List ℕ) (held : ℕ) → Moved n front ahead front-now ahead-now → Plain front held → line_length ahead ≡ length ahead → After n front ahead front-now ahead-now held
moved_on n front ahead front-now ahead-now held moved plain none =
    let within = moved.within in
    let old = plain.len in
    let took : length (take n ahead) ≡ n = omega (arith, length-take n ahead) in
    let longer = length-append front (take n ahead) in
    let len-now : length front-now ≡ length front + n = omega (arith, ap length moved.front_is) in
    let goes = goes_on front (take n ahead) plain.none in
    let first = none_in_front n ahead none in
    let line-now : line_length front-now ≡ line_length (front ++ take n ahead) = ap line_length moved.front_is in
    let left : length ahead-now ≡ length ahead - n = ap length moved.ahead_is ∙ length-drop n ahead in
    let behind = end_behind ahead n within (omega arith) in
    let rest-now : line_length ahead-now ≡ line_length (drop n ahead) = ap line_length moved.ahead_is in
    record {
      plain = record { len = omega arith; none = omega arith };
      none = omega arith;
      len = omega arith;
      same = ap (λ (x : List ℕ). x ++ ahead-now) moved.front_is ∙ ap (λ (x : List ℕ). (front ++ take n ahead) ++ x) moved.ahead_is
          ∙ append_assoc front (take n ahead) (drop n ahead) ∙ ap (λ (x : List ℕ). front ++ x) (take-append-drop n ahead);
    }

-- what is still to come, over a turn
pub front_follows : (before front ahead front-now ahead-now roomy read : List ℕ) (o p q : Option (List ℕ)) → Follows before o (front ++ ahead) p → front-now ++ ahead-now ≡ front ++ ahead → roomy ≡ ahead-now → Follows roomy p read q → Follows before o (front-now ++ read) q
front_follows before front ahead front-now ahead-now roomy read o p q first same roomy-is second all e =
    let f = first all e in
    let s = second f.0 f.1 in (
      s.0,
      s.1,
      append_assoc front-now read s.0 ∙ ap (λ (x : List ℕ). front-now ++ x) s.2 ∙ sym (append_assoc front-now roomy f.0)
          ∙ ap (λ (x : List ℕ). (front-now ++ x) ++ f.0) roomy-is ∙ ap (λ (x : List ℕ). x ++ f.0) same ∙ f.2,
    )

pub no_newline : (front read : List ℕ) (held : ℕ) → Plain front held → line_length read ≡ length read → line_length (front ++ read) ≡ length (front ++ read)
no_newline front read held plain none = omega (arith, goes_on front read plain.none, length-append front read)
