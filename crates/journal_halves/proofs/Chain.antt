-- Areas of records, as lists.
use Rattle.std.proofs.Common.{◌≡◌, ◌≢◌, ◌⊎◌, inl, inr, ℕ, ◌+◌, ◌-◌, ◌≤◌, List, [], ◌∷◌, ◌++◌, length, get_or, take, drop, sym, ◌∙◌, ap, arith, append_assoc, length-append, take-append-drop}
use Rattle.std.specs.Prelude.{replicate}
use Rattle.std.proofs.lemmas.Bool.{cases_eq}
use Rattle.std.proofs.lemmas.List.{take_at, drop_at, drop_more, append-nil}
use Rattle.cd_edges.specs.Disk.{overwritten}
use Rattle.cd_edges.proofs.Torn.{Torn}
use Rattle.journal_halves.specs.Records.{IsJournalBody, sized, framed, chain, AreBodies, IsJournal}

pub chain-push : (bodies : List (List ℕ)) (body rest : List ℕ) → chain (bodies ++ body ∷ []) ++ rest ≡ chain bodies ++ 1 ∷ (sized body ++ rest)
chain-push [] body rest = ap (λ (l : List ℕ). 1 ∷ l) (ap (λ (l : List ℕ). l ++ rest) (append-nil (sized body)))
chain-push (b ∷ bodies) body rest =
    ap (λ (l : List ℕ). 1 ∷ l) (append_assoc (sized b) (chain (bodies ++ body ∷ [])) rest ∙ ap (λ (l : List ℕ). sized b ++ l) (chain-push bodies body rest) ∙ sym (append_assoc (sized b) (chain bodies) (1 ∷ (sized body ++ rest))))

pub length-chain-push : (bodies : List (List ℕ)) (body : List ℕ) → length (chain (bodies ++ body ∷ [])) ≡ length (chain bodies) + 5 + length body
length-chain-push bodies body =
    omega (arith, ap length (chain-push bodies body []), length-append (chain (bodies ++ body ∷ [])) [], length-append (chain bodies) (1 ∷ (sized body ++ [])), length-append body [])

pub bodies_more : (bodies : List (List ℕ)) (body : List ℕ) → AreBodies bodies → IsJournalBody body → AreBodies (bodies ++ body ∷ [])
bodies_more [] body all one = (one, tt)
bodies_more (b ∷ bodies) body all one = (all.0, bodies_more bodies body all.1 one)

-- a write that leaves no gap
pub overwritten_within : (old : List ℕ) (place : ℕ) (bytes : List ℕ) → place ≤ length old → overwritten old place bytes ≡ take place old ++ bytes ++ drop (place + length bytes) old
overwritten_within old place bytes within =
    let no_gap : place - length old ≡ 0 = omega arith in
    ap (λ (n : ℕ). take place (old ++ replicate n 0) ++ bytes ++ drop (place + length bytes) old) no_gap
    ∙ ap (λ (l : List ℕ). take place l ++ bytes ++ drop (place + length bytes) old) (append-nil old)

framed_tail : (body tail : List ℕ) → framed body ++ tail ≡ sized body ++ 0 ∷ tail
framed_tail body tail = append_assoc (sized body) (0 ∷ []) tail

module _ (bodies : List (List ℕ)) (sizes : AreBodies bodies) (place : ℕ) (at : place ≡ length (chain bodies)) where
  to_gate : (gate : ℕ) → length (chain bodies ++ gate ∷ []) ≡ place + 1
  to_gate gate = omega (arith, at, length-append (chain bodies) (gate ∷ []))

  front_gate : (gate : ℕ) (behind : List ℕ) → take (place + 1) (chain bodies ++ gate ∷ behind) ≡ chain bodies ++ gate ∷ []
  front_gate gate behind = ap (λ (l : List ℕ). take (place + 1) l) (sym (append_assoc (chain bodies) (gate ∷ []) behind)) ∙ take_at (chain bodies ++ gate ∷ []) behind (place + 1) (to_gate gate)

  back_gate : (gate : ℕ) (behind : List ℕ) → drop (place + 1) (chain bodies ++ gate ∷ behind) ≡ behind
  back_gate gate behind = ap (λ (l : List ℕ). drop (place + 1) l) (sym (append_assoc (chain bodies) (gate ∷ []) behind)) ∙ drop_at (chain bodies ++ gate ∷ []) behind (place + 1) (to_gate gate)

  pub long_enough : (gate : ℕ) (behind : List ℕ) → place + 1 ≤ length (chain bodies ++ gate ∷ behind)
  long_enough gate behind = omega (arith, at, length-append (chain bodies) (gate ∷ behind))

  -- behind a closed gate anything may stand
  pub behind_gate : (gate : ℕ) (behind : List ℕ) (end : ℕ) (image : List ℕ) → gate ≢ 1 → Torn (chain bodies ++ gate ∷ behind) (place + 1) end image → IsJournal bodies image
  behind_gate gate behind end image shut torn = record {
    gate = gate;
    behind = drop (place + 1) image;
    sizes = sizes;
    shut = shut;
    spelled = sym (take-append-drop (place + 1) image) ∙ ap (λ (l : List ℕ). l ++ drop (place + 1) image) (torn.before ∙ front_gate gate behind) ∙ append_assoc (chain bodies) (gate ∷ []) (drop (place + 1) image);
  }

  -- a whole record behind a gate counts or it doesn't
  pub at_gate : (gate : ℕ) (body behind image : List ℕ) → IsJournalBody body → Torn (chain bodies ++ gate ∷ (framed body ++ behind)) place (place + 1) image → IsJournal bodies image ⊎ IsJournal (bodies ++ body ∷ []) image
  at_gate gate body behind image one torn =
      let new_gate = get_or image place 0 in
      let rest : drop place image ≡ new_gate ∷ (framed body ++ behind) =
      drop_more image place 0 (omega (arith, torn.no_shorter, long_enough gate (framed body ++ behind))) ∙ ap (λ (l : List ℕ). new_gate ∷ l) (torn.after ∙ back_gate gate (framed body ++ behind)) in
      let front : take place image ≡ chain bodies = torn.before ∙ take_at (chain bodies) (gate ∷ (framed body ++ behind)) place (sym at) in
      let whole : image ≡ chain bodies ++ new_gate ∷ (framed body ++ behind) =
      sym (take-append-drop place image) ∙ ap (λ (l : List ℕ). l ++ drop place image) front ∙ ap (λ (l : List ℕ). chain bodies ++ l) rest in
      elim (cases_eq new_gate 1) [
        | inl opened ↦ inr (record {
          gate = 0;
          behind = behind;
          sizes = bodies_more bodies body sizes one;
          shut = omega arith;
          spelled = whole ∙ ap (λ (n : ℕ). chain bodies ++ n ∷ (framed body ++ behind)) opened ∙ ap (λ (l : List ℕ). chain bodies ++ 1 ∷ l) (framed_tail body behind) ∙ sym (chain-push bodies body (0 ∷ behind));
        })
        | inr shut ↦ inl (record { gate = new_gate; behind = framed body ++ behind; sizes = sizes; shut = shut; spelled = whole })
      ]

  -- what the two writes leave where they are whole
  pub wrote_behind : (gate : ℕ) (behind bytes : List ℕ) → overwritten (chain bodies ++ gate ∷ behind) (place + 1) bytes ≡ chain bodies ++ gate ∷ (bytes ++ drop (place + 1 + length bytes) (chain bodies ++ gate ∷ behind))
  wrote_behind gate behind bytes =
      let old = chain bodies ++ gate ∷ behind in
      overwritten_within old (place + 1) bytes (long_enough gate behind)
      ∙ ap (λ (l : List ℕ). l ++ bytes ++ drop (place + 1 + length bytes) old) (front_gate gate behind)
      ∙ append_assoc (chain bodies ++ gate ∷ []) bytes (drop (place + 1 + length bytes) old)
      ∙ append_assoc (chain bodies) (gate ∷ []) (bytes ++ drop (place + 1 + length bytes) old)

  pub wrote_gate : (gate : ℕ) (body behind : List ℕ) → overwritten (chain bodies ++ gate ∷ (framed body ++ behind)) place (1 ∷ []) ≡ chain (bodies ++ body ∷ []) ++ 0 ∷ behind
  wrote_gate gate body behind =
      let old = chain bodies ++ gate ∷ (framed body ++ behind) in
      overwritten_within old place (1 ∷ []) (omega (arith, long_enough gate (framed body ++ behind)))
      ∙ ap (λ (l : List ℕ). l ++ (1 ∷ []) ++ drop (place + 1) old) (take_at (chain bodies) (gate ∷ (framed body ++ behind)) place (sym at))
      ∙ ap (λ (l : List ℕ). chain bodies ++ (1 ∷ []) ++ l) (back_gate gate (framed body ++ behind))
      ∙ append_assoc (chain bodies) (1 ∷ []) (framed body ++ behind)
      ∙ ap (λ (l : List ℕ). chain bodies ++ 1 ∷ l) (framed_tail body behind)
      ∙ sym (chain-push bodies body (0 ∷ behind))
