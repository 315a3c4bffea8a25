-- Pieces of frames that go out, one call after another.
use Rattle.std.proofs.Common.{◌≡◌, ◌⊎◌, inl, inr, ⊎_elim, ℕ, List, [], ◌++◌, sym, subst, append-nil}
use Rattle.std.proofs.lemmas.Bool.Decides.{eqb_tells}
use Rattle.std.specs.Prelude.{◌≢◌}
use Rattle.user_dedup.specs.Frames.Frames.{frame}
use Rattle.transcript.specs.CdEdges.Ports.{Telling, Port, OthersStay, HasOpenedPort}
use Rattle.ports_link.specs.Sending.{SendsPieces, SendsOnly, NoneSent, OneSent}

-- ---- pieces

pub pieces_twice : (Is : List ℕ → Type 0) (a b c : List ℕ) → SendsPieces Is a b → SendsPieces Is b c → SendsPieces Is a c
pieces_twice Is a b c one NoneSent = one
pieces_twice Is a b c one (OneSent sent content part rest before is parted) =
    OneSent sent content part rest (pieces_twice Is a b sent one before) is parted

pub pieces_weaker : (Is Js : List ℕ → Type 0) → ((content : List ℕ) → Is content → Js content) → (a b : List ℕ) → SendsPieces Is a b → SendsPieces Js a b
pieces_weaker Is Js less a b NoneSent = NoneSent
pieces_weaker Is Js less a b (OneSent sent content part rest before is parted) =
    OneSent sent content part rest (pieces_weaker Is Js less a sent before) (less content is) parted

-- ---- ports

pub sends_none : (Is : List ℕ → Type 0) (t : Telling) → SendsOnly Is t t
sends_none Is t port = inl NoneSent

pub sends_twice : (Is : List ℕ → Type 0) (t u v : Telling) → SendsOnly Is t u → SendsOnly Is u v → SendsOnly Is t v
sends_twice Is t u v one two port = ⊎_elim
    (λ more. ⊎_elim (λ first. inl (pieces_twice Is _ _ _ first more)) (λ first. inr (pieces_twice Is _ _ _ first more)) (one port))
    (λ fresh. inr fresh) (two port)

pub sends_weaker : (Is Js : List ℕ → Type 0) → ((content : List ℕ) → Is content → Js content) → (t u : Telling) → SendsOnly Is t u → SendsOnly Js t u
sends_weaker Is Js less t u sends port = ⊎_elim (λ more. inl (pieces_weaker Is Js less _ _ more)) (λ fresh. inr (pieces_weaker Is Js less _ _ fresh)) (sends port)

-- two numbers are one, or they aren't
one_or_other : (a b : ℕ) → (a ≡ b) ⊎ (a ≢ b)
one_or_other a b = ⊎_elim (λ same. inl same.1) (λ apart. inr apart.1) (eqb_tells a b)

-- on one port, the others stay
at_port : (Is : List ℕ → Type 0) (t u : Telling) (number : ℕ) → OthersStay t u number
    → SendsPieces Is (t.port number).sent (u.port number).sent ⊎ SendsPieces Is [] (u.port number).sent → SendsOnly Is t u
at_port Is t u number others here port = ⊎_elim
    (λ (same : port ≡ number). subst (λ (n : ℕ). SendsPieces Is (t.port n).sent (u.port n).sent ⊎ SendsPieces Is [] (u.port n).sent) (sym same) here)
    (λ (apart : port ≢ number). inl (subst (λ (p : Port). SendsPieces Is (t.port port).sent p.sent) (sym (others port apart)) NoneSent))
    (one_or_other port number)

-- a piece of a frame was sent on a port
pub sends_piece : (Is : List ℕ → Type 0) (t u : Telling) (number : ℕ) (content part rest : List ℕ) → OthersStay t u number → Is content
    → frame content ≡ part ++ rest → (u.port number).sent ≡ (t.port number).sent ++ part → SendsOnly Is t u
sends_piece Is t u number content part rest others is parted went =
    at_port Is t u number others (inl (subst (SendsPieces Is (t.port number).sent) (sym went) (OneSent (t.port number).sent content part rest NoneSent is parted)))

-- a whole frame was
pub sends_frame : (Is : List ℕ → Type 0) (t u : Telling) (number : ℕ) (content : List ℕ) → OthersStay t u number → Is content
    → (u.port number).sent ≡ (t.port number).sent ++ frame content → SendsOnly Is t u
sends_frame Is t u number content others is went = sends_piece Is t u number content (frame content) [] others is (sym (append-nil (frame content))) went

-- a port was opened
pub sends_opened : (Is : List ℕ → Type 0) (t u : Telling) (number : ℕ) → HasOpenedPort t u number → SendsOnly Is t u
sends_opened Is t u number opens = at_port Is t u number opens.others (inr (subst (SendsPieces Is []) (sym opens.fresh) NoneSent))
