-- A reply that comes piece by piece.
use Rattle.std.proofs.Common.{◌≡◌, ℕ, ◌+◌, ◌^◌, ◌<◌, ◌≤◌, List, [], ◌++◌, length, take, drop, sym, ◌∙◌, ap, subst, append_assoc, append-nil, take-append-drop, arith, length-append, length-take, take_all}
use Rattle.std.proofs.lemmas.Nat.{from_be_bytes-to_be_bytes_4}
use Rattle.std.specs.Int.{w32, to_be_bytes}
use Rattle.user_dedup.specs.Frames.Frames.{IsContent, IsLength, frame, length_in}
use Rattle.user_dedup.proofs.Frames.FrameLaws.{length_in-frame, length-frame}
use Rattle.transcript.specs.CdEdges.Ports.{Telling, Sent, SentPart, Received, Receives, Fills}
use Rattle.transcript.proofs.CdEdges.Passing.{received_twice, sent_twice}
use Rattle.ports_link.specs.Exchange.{Broke, Came, CameNone, Cut, Ended, NoFrame, HasRepliedOnPort, Whole}

-- ---- a frame that goes out in two pieces

-- what stands in front of a buffer, and what is behind it, are a frame
framed : (n : ℕ) (content buffer : List ℕ) → take (4 + n) buffer ≡ to_be_bytes w32 (length content) ++ take n content → take (4 + n) buffer ++ drop n content ≡ frame content
framed n content buffer front =
    ap (λ (l : List ℕ). l ++ drop n content) front ∙ append_assoc (to_be_bytes w32 (length content)) (take n content) (drop n content)
    ∙ ap (λ (l : List ℕ). to_be_bytes w32 (length content) ++ l) (take-append-drop n content)

pub sent_framed : (a b c : Telling) (number n : ℕ) (content buffer : List ℕ) → take (4 + n) buffer ≡ to_be_bytes w32 (length content) ++ take n content
    → Sent a b number (take (4 + n) buffer) → Sent b c number (drop n content) → Sent a c number (frame content)
sent_framed a b c number n content buffer front one two =
    subst (λ (l : List ℕ). Sent a c number l) (framed n content buffer front) (sent_twice a b c number (take (4 + n) buffer) (drop n content) one two)

pub part_in_front : (a b : Telling) (number n : ℕ) (content buffer : List ℕ) → take (4 + n) buffer ≡ to_be_bytes w32 (length content) ++ take n content
    → SentPart a b number (take (4 + n) buffer) → SentPart a b number (frame content)
part_in_front a b number n content buffer front one = record {
  part = one.part;
  rest = one.rest ++ drop n content;
  parted = sym (framed n content buffer front) ∙ ap (λ (l : List ℕ). l ++ drop n content) one.parted ∙ append_assoc one.part one.rest (drop n content);
  sent = one.sent;
}

pub part_behind : (a b c : Telling) (number n : ℕ) (content buffer : List ℕ) → take (4 + n) buffer ≡ to_be_bytes w32 (length content) ++ take n content
    → Sent a b number (take (4 + n) buffer) → SentPart b c number (drop n content) → SentPart a c number (frame content)
part_behind a b c number n content buffer front one two = record {
  part = take (4 + n) buffer ++ two.part;
  rest = two.rest;
  parted = sym (framed n content buffer front) ∙ ap (λ (l : List ℕ). take (4 + n) buffer ++ l) two.parted ∙ sym (append_assoc (take (4 + n) buffer) two.part two.rest);
  sent = sent_twice a b c number (take (4 + n) buffer) two.part one two.sent;
}

-- ---- a reply that comes piece by piece

-- bytes came into a piece, and were appended
pub came_some : (a b : Telling) (number count : ℕ) (before after piece : List ℕ) → after ≡ before ++ take count piece → Receives a b number count piece → Came a b number before after
came_some a b number count before after piece appended receives = record {
  bytes = take count piece;
  appended = appended;
  received = receives.received;
}

-- none came
pub ended_none : (a b : Telling) (number count : ℕ) (piece : List ℕ) → 0 < length piece → count ≡ 0 → Receives a b number count piece → Ended a b number
ended_none a b number count piece some none receives =
    let nothing = subst (λ (n : ℕ). Received a b number (take n piece)) none receives.received in
    record {
      received = nothing;
      ended = sym nothing.came ∙ receives.ended some none;
    }

pub cut_ended : (a b c : Telling) (number count left : ℕ) (before : List ℕ) → length before + left ≡ count → 0 < left → Received a b number before → Ended b c number → Cut a c number count
cut_ended a b c number count left before long some one two = record {
  came = before ++ [];
  few = omega (arith, long, some, length-append before []);
  received = received_twice a b c number before [] one two.received;
  ended = two.ended;
}

pub came_more : (a b c : Telling) (number : ℕ) (before after : List ℕ) → Received a b number before → Came b c number before after → Received a c number after
came_more a b c number before after one two = subst (λ (l : List ℕ). Received a c number l) (sym two.appended) (received_twice a b c number before two.bytes one two.received)

none_short : (bytes : List ℕ) → length bytes < 4 → NoFrame bytes
none_short bytes few content behind lawful e = omega (arith, few, ap length e, length-append (frame content) behind, length-frame content)

-- the number in front of these bytes
in_front : (n : ℕ) (rest bytes : List ℕ) → n < 2 ^ 32 → bytes ≡ to_be_bytes w32 n ++ rest → length_in bytes ≡ n
in_front n rest bytes few e = ap length_in e ∙ from_be_bytes-to_be_bytes_4 n few

same_front : (n : ℕ) (rest bytes content behind : List ℕ) → n < 2 ^ 32 → bytes ≡ to_be_bytes w32 n ++ rest → IsContent content → bytes ≡ frame content ++ behind → length content ≡ n
same_front n rest bytes content behind few e lawful f = sym (ap length_in f ∙ length_in-frame content behind lawful) ∙ in_front n rest bytes few e

none_bad : (n : ℕ) (rest bytes : List ℕ) → n < 2 ^ 32 → bytes ≡ to_be_bytes w32 n ++ rest → (IsLength n → ⊥) → NoFrame bytes
none_bad n rest bytes few e wrong content behind lawful f = wrong (subst IsLength (same_front n rest bytes content behind few e lawful f) lawful)

none_cut : (n : ℕ) (rest bytes : List ℕ) → n < 2 ^ 32 → bytes ≡ to_be_bytes w32 n ++ rest → length rest < n → NoFrame bytes
none_cut n rest bytes few e cut content behind lawful f =
    omega (arith, cut, same_front n rest bytes content behind few e lawful f, ap length e, ap length f, length-append (to_be_bytes w32 n) rest, length-append (frame content) behind, length-frame content)

-- fewer than four bytes came, and no more are to come
pub short_none : (a b : Telling) (number count : ℕ) (front : List ℕ) → length front ≡ 4 → count < 4 → Fills a b number count front → CameNone a b number
short_none a b number count front four few fills =
    let ended = fills.ended (omega (arith, four, few)) in
    let all : (a.port number).to_come ≡ take count front = fills.received.came ∙ ap (λ (l : List ℕ). take count front ++ l) ended ∙ append-nil (take count front) in
    record {
      none = none_short (a.port number).to_come (omega (arith, ap length all, length-take count front, few));
      came = take count front;
      received = fills.received;
    }

-- the four bytes of a length
pub front_came : (a b : Telling) (number count : ℕ) (front : List ℕ) → length front ≡ 4 → 4 ≤ count → Fills a b number count front → Received a b number front
front_came a b number count front four all fills = subst (λ (l : List ℕ). Received a b number l) (take_all count front (omega (arith, four, all))) fills.received

pub bad_none : (a b : Telling) (number count n : ℕ) (front : List ℕ) → length front ≡ 4 → 4 ≤ count → n < 2 ^ 32 → to_be_bytes w32 n ≡ front → (IsLength n → ⊥) → Fills a b number count front → CameNone a b number
bad_none a b number count n front four all few is wrong fills =
    let came = front_came a b number count front four all fills in
    record {
      none = none_bad n (b.port number).to_come (a.port number).to_come few (came.came ∙ ap (λ (l : List ℕ). l ++ (b.port number).to_come) (sym is)) wrong;
      came = front;
      received = came;
    }

pub cut_none : (a b c : Telling) (number count n : ℕ) (front : List ℕ) → length front ≡ 4 → 4 ≤ count → n < 2 ^ 32 → to_be_bytes w32 n ≡ front → Fills a b number count front → Cut b c number n → CameNone a c number
cut_none a b c number count n front four all few is fills cut =
    let came = front_came a b number count front four all fills in
    let rest : (b.port number).to_come ≡ cut.came = cut.received.came ∙ ap (λ (l : List ℕ). cut.came ++ l) cut.ended ∙ append-nil cut.came in
    record {
      none = none_cut n (b.port number).to_come (a.port number).to_come few (came.came ∙ ap (λ (l : List ℕ). l ++ (b.port number).to_come) (sym is)) (omega (arith, ap length rest, cut.few));
      came = front ++ cut.came;
      received = received_twice a b c number front cut.came came cut.received;
    }

pub frame_came : (a b c : Telling) (number count n : ℕ) (front content : List ℕ) → length front ≡ 4 → 4 ≤ count → to_be_bytes w32 n ≡ front → IsLength n → Fills a b number count front → Whole b c number n content → IsContent content × Received a c number (frame content)
frame_came a b c number count n front content four all is lawful fills whole = (
  subst IsLength (sym whole.all) lawful,
  subst (λ (l : List ℕ). Received a c number (l ++ content)) (sym (ap (λ (m : ℕ). to_be_bytes w32 m) whole.all ∙ is))
      (received_twice a b c number front content (front_came a b number count front four all fills) whole.received),
)

-- ---- a request and its reply

pub replied : (a b c : Telling) (number : ℕ) (request reply : List ℕ) → Sent a b number (frame request) → IsContent reply × Received b c number (frame reply) → HasRepliedOnPort a c number request reply
replied a b c number request reply sent came = record { lawful = came.0; between = b; sent = sent; received = came.1 }

pub broke : (a b c : Telling) (number : ℕ) (request : List ℕ) → Sent a b number (frame request) → CameNone b c number → Broke a c number request
broke a b c number request sent none = record {
  none = subst NoFrame sent.to_come none.none;
  between = b;
  sent = sent;
  came = none.came;
  received = none.received;
}
