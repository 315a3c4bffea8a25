-- What was sent or came piece by piece.
use Rattle.std.proofs.Common.{◌≡◌, ℕ, ◌+◌, ◌-◌, ◌≤◌, List, [], ◌++◌, length, take, drop, refl, sym, ◌∙◌, ap, subst, append_assoc, append-nil, take-append-drop, take-add}
use Rattle.std.proofs.lemmas.List.{take_rest, length-take-le, take-append-le}
use Rattle.std.proofs.Math.Seq.{take-append-add}
use Rattle.cd_edges.specs.Ports.{Telling, Sent, SentPart, Received, Receives}

pub sent_none : (t : Telling) (number : ℕ) → Sent t t number []
sent_none t number = record {
  went = sym (append-nil (t.port number).sent);
  to_come = refl;
  opened = refl;
  others = λ other apart. refl;
}

pub sent_twice : (a b c : Telling) (number : ℕ) (xs ys : List ℕ) → Sent a b number xs → Sent b c number ys → Sent a c number (xs ++ ys)
sent_twice a b c number xs ys one two = record {
  went = two.went ∙ ap (λ (l : List ℕ). l ++ ys) one.went ∙ append_assoc (a.port number).sent xs ys;
  to_come = two.to_come ∙ one.to_come;
  opened = two.opened ∙ one.opened;
  others = λ other apart. two.others other apart ∙ one.others other apart;
}

-- what was sent of some bytes, and a piece of what is left
pub sent_more : (a b c : Telling) (number : ℕ) (bytes : List ℕ) (sent count : ℕ) → Sent a b number (take sent bytes) → Sent b c number (take count (take (length bytes - sent) (drop sent bytes))) → Sent a c number (take (sent + count) bytes)
sent_more a b c number bytes sent count one two =
    subst (λ (l : List ℕ). Sent a c number l)
    (ap (λ (l : List ℕ). take sent bytes ++ take count l) (take_rest bytes sent) ∙ sym (take-add sent count bytes))
    (sent_twice a b c number _ _ one two)

pub sent_part : (a b : Telling) (number : ℕ) (bytes : List ℕ) (sent : ℕ) → Sent a b number (take sent bytes) → SentPart a b number bytes
sent_part a b number bytes sent one = record {
  part = take sent bytes;
  rest = drop sent bytes;
  parted = sym (take-append-drop sent bytes);
  sent = one;
}

pub received_none : (t : Telling) (number : ℕ) → Received t t number []
received_none t number = record {
  came = refl;
  sent = refl;
  opened = refl;
  others = λ other apart. refl;
}

pub received_twice : (a b c : Telling) (number : ℕ) (xs ys : List ℕ) → Received a b number xs → Received b c number ys → Received a c number (xs ++ ys)
received_twice a b c number xs ys one two = record {
  came = one.came ∙ ap (λ (l : List ℕ). xs ++ l) two.came ∙ sym (append_assoc xs ys (c.port number).to_come);
  sent = two.sent ∙ one.sent;
  opened = two.opened ∙ one.opened;
  others = λ other apart. two.others other apart ∙ one.others other apart;
}

-- the front of a buffer into whose rest bytes came
front : (filled count : ℕ) (xs ys post : List ℕ) → filled ≤ length xs → count ≤ length ys → take (filled + count) (take filled xs ++ (ys ++ post)) ≡ take filled xs ++ take count ys
front filled count xs ys post within few =
    ap (λ (n : ℕ). take (n + count) (take filled xs ++ (ys ++ post))) (sym (length-take-le filled xs within))
    ∙ take-append-add (take filled xs) (ys ++ post) count
    ∙ ap (λ (l : List ℕ). take filled xs ++ l) (take-append-le count ys post few)

pub received_more : (a b c : Telling) (number filled count : ℕ) (xs ys post : List ℕ) → filled ≤ length xs → count ≤ length ys → Received a b number (take filled xs) → Receives b c number count ys → Received a c number (take (filled + count) (take filled xs ++ (ys ++ post)))
received_more a b c number filled count xs ys post within few one two =
    subst (λ (l : List ℕ). Received a c number l) (sym (front filled count xs ys post within few)) (received_twice a b c number _ _ one two.received)
