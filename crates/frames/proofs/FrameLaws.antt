-- What a frame's bytes say.
use Rattle.std.proofs.Common.{◌≡◌, ℕ, ◌+◌, ◌-◌, ◌≤◌, List, [], ◌++◌, length, take, drop, refl, sym, ◌∙◌, ap, arith, inl, inr}
use Rattle.std.proofs.lemmas.List.{take_at, drop_at, take-append-le, take-append-drop, length-append, length-take, length-take-le, length-drop, get_or-take, get_or_past}
use Rattle.std.proofs.Math.Seq.{take-length}
use Rattle.std.proofs.lemmas.Bool.{cases_lt}
use Rattle.std.proofs.lemmas.Nat.{be_bytes_4, from_be_bytes-to_be_bytes_4}
use Rattle.std.specs.Int.{w32, from_be_bytes, to_be_bytes}
use Rattle.frames.specs.Frames.{IsLength, IsContent, IsFrameOf, IsFrame, frame, length_in}
use Rattle.cd_base.specs.Reading.{AreBytes}

-- the length in front of a frame is its content's
pub length_in-frame : (content behind : List ℕ) → IsContent content → length_in (frame content ++ behind) ≡ length content
length_in-frame content behind lawful = from_be_bytes-to_be_bytes_4 (length content) (omega arith)

same_length : (a b one two : List ℕ) → IsContent a → IsContent b → frame a ++ one ≡ frame b ++ two → length a ≡ length b
same_length a b one two la lb e = sym (length_in-frame a one la) ∙ ap length_in e ∙ length_in-frame b two lb

-- frames that begin the same bytes have the same content
pub same_content : (a b one two : List ℕ) → IsContent a → IsContent b → frame a ++ one ≡ frame b ++ two → a ≡ b
same_content a b one two la lb e =
    sym (take_at a one (length a) refl) ∙ ap (λ (l : List ℕ). take (length a) (drop 4 l)) e ∙ ap (λ (n : ℕ). take n (b ++ two)) (same_length a b one two la lb e) ∙ take_at b two (length b) refl

-- and the same bytes follow them
pub same_behind : (a b one two : List ℕ) → IsContent a → IsContent b → frame a ++ one ≡ frame b ++ two → one ≡ two
same_behind a b one two la lb e =
    sym (drop_at a one (length a) refl) ∙ ap (λ (l : List ℕ). drop (length a) (drop 4 l)) e ∙ ap (λ (n : ℕ). drop n (b ++ two)) (same_length a b one two la lb e) ∙ drop_at b two (length b) refl

pub one_frame : (one two behind_one behind_two : List ℕ) → IsContent one → IsContent two → frame one ++ behind_one ≡ frame two ++ behind_two → (one ≡ two) × (behind_one ≡ behind_two)
one_frame one two behind_one behind_two la lb e = (same_content one two behind_one behind_two la lb e, same_behind one two behind_one behind_two la lb e)

-- a length is that of the first bytes, whatever follows
pub length_in-append : (a b : List ℕ) → 4 ≤ length a → length_in (a ++ b) ≡ length_in a
length_in-append a b long = ap (λ (l : List ℕ). from_be_bytes w32 l) (take-append-le 4 a b long)

-- what a frame of a content is long
pub length-frame : (content : List ℕ) → length (frame content) ≡ 4 + length content
length-frame content = omega (arith, length-append (to_be_bytes w32 (length content)) content)

-- a frame has its length in front
pub record Measured (bytes : List ℕ) : Type 0 where
  pub lawful : IsLength (length_in bytes)
  pub long : length bytes ≡ 4 + length_in bytes

pub measured : (bytes : List ℕ) → IsFrame bytes → Measured bytes
measured bytes (content, is) =
    let at : length_in bytes ≡ length content = rw (is.spelled) (length_in-frame content [] is.lawful) in
    let long : length bytes ≡ 4 + length content = ap length is.spelled ∙ length-frame content in
    record { lawful = rw at is.lawful; long = rw at long }

AreBytes-take : (n : ℕ) (bytes : List ℕ) → AreBytes bytes → AreBytes (take n bytes)
AreBytes-take n bytes fit i =
    elim (cases_lt i n) [
      | inl below ↦ rw (get_or-take n bytes i 0 below) (fit i)
      | inr past ↦ rw (get_or_past (take n bytes) i 0 (omega (arith, length-take n bytes))) (omega arith)
    ]

-- bytes that have their length in front are a frame
pub framed : (bytes : List ℕ) → AreBytes bytes → Measured bytes → IsFrameOf (drop 4 bytes) bytes
framed bytes fit m =
    let count : length (drop 4 bytes) ≡ length_in bytes = omega (arith, m.long, length-drop 4 bytes) in
    let front : to_be_bytes w32 (length_in bytes) ≡ take 4 bytes = be_bytes_4 (take 4 bytes) (length_in bytes) (length-take-le 4 bytes (omega (arith, m.long))) (AreBytes-take 4 bytes fit) refl in
    record {
      lawful = rw count m.lawful;
      spelled = sym (take-append-drop 4 bytes) ∙ ap (λ (l : List ℕ). l ++ drop 4 bytes) (sym front) ∙ ap (λ (n : ℕ). to_be_bytes w32 n ++ drop 4 bytes) (sym count);
    }

-- a slice to the end is what is left behind its start
pub rest_is : (n : ℕ) (l : List ℕ) → take (length l - n) (drop n l) ≡ drop n l
rest_is n l = ap (λ (m : ℕ). take m (drop n l)) (sym (length-drop n l)) ∙ take-length (drop n l)
