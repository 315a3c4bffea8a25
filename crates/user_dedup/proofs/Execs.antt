-- What executing a request keeps.
use Rattle.std.proofs.Common.{◌≡◌, ℕ, true, List, [], ◌∷◌, ◌++◌, Option, Some, None, refl, sym, ◌∙◌, subst, inl, inr, ◌⊎◌, append-nil}
use Rattle.std.specs.Prelude.{IsSomeAnd, option_to_list}
use Rattle.journal_start.specs.CdBase.shape.Shape.{Shape}
use Rattle.messages.specs.declared.request.Request.{Request}
use Rattle.messages.specs.declared.reply.Reply.{Reply}
use Rattle.messages.specs.Requests.{FitsRequest}
use Rattle.user_dedup.specs.declared.command.Command.{Command}
use Rattle.user_dedup.specs.Requests.{HasRecipe}
use Rattle.user_dedup.specs.Dedup.{Outcome, answer_over, IsSound, Added, FullRoom, room_for, by_room}
use Rattle.user_dedup.specs.Exec.{Peer, Answers, IsCut, KeepsPeer, Exec, StandsSound, served}

adds_less : (outcome : Outcome) (r : Option FullRoom) → ((by_room outcome r).adds ≡ None) ⊎ ((by_room outcome r).adds ≡ outcome.adds)
adds_less outcome None = inr refl
adds_less outcome (Some full) = inl refl

served_adds : (shape : Shape) (cloud : ℕ) (full : List Command → Command → Option FullRoom) (list : List Command) (request : Request) (command : Command)
    → (served shape cloud full list request).adds ≡ Some command → (answer_over shape cloud list request).adds ≡ Some command
served_adds shape cloud full list request command e =
    let outcome = answer_over shape cloud list request in
    elim (adds_less outcome (room_for (full list) outcome.adds)) [
      | inl none ↦ absurd (let f : None ≡ Some command = sym none ∙ e in cc)
      | inr same ↦ sym same ∙ e
    ]

sound_next : (shape : Shape) (cloud : ℕ) (full : List Command → Command → Option FullRoom) (list : List Command) (request : Request) (adds : Option Command)
    → IsSound shape cloud list → FitsRequest request → HasRecipe shape request → (served shape cloud full list request).adds ≡ adds
    → IsSound shape cloud (list ++ option_to_list adds)
sound_next shape cloud full list request None sound fits has e = subst (IsSound shape cloud) (sym (append-nil list)) sound
sound_next shape cloud full list request (Some command) sound fits has e = Added list request command sound fits has (served_adds shape cloud full list request command e)

-- the list, or the list with what is pending
settled_sound : (shape : Shape) (cloud : ℕ) (q : Peer) (pending : Option Command) → q.pending ≡ pending → IsSound shape cloud q.list
    → IsSound shape cloud (q.list ++ option_to_list pending) → StandsSound shape cloud q
settled_sound shape cloud q pending e now next list (inl same) = subst (IsSound shape cloud) (sym same) now
settled_sound shape cloud q pending e now next list (inr some) = go pending next (subst (λ (o : Option Command). IsSomeAnd o (λ command. list ≡ q.list ++ command ∷ [])) e some)
  where
    go : (o : Option Command) → IsSound shape cloud (q.list ++ option_to_list o) → IsSomeAnd o (λ command. list ≡ q.list ++ command ∷ []) → IsSound shape cloud list
    go None next some = absurd some
    go (Some command) next some = subst (IsSound shape cloud) (sym some) next

answers_sound : (shape : Shape) (cloud : ℕ) (full : List Command → Command → Option FullRoom) (p q : Peer) (request : Request) (reply : Reply)
    → StandsSound shape cloud p → FitsRequest request → HasRecipe shape request → Answers (served shape cloud full) p request reply q → StandsSound shape cloud q
answers_sound shape cloud full p q request reply sound fits has a =
    let now = subst (IsSound shape cloud) (sym a.list) (sound_next shape cloud full a.before request _ (sound a.before a.settled) fits has refl) in
    settled_sound shape cloud q None a.pending now (subst (IsSound shape cloud) (sym (append-nil q.list)) now)

stays_sound : (shape : Shape) (cloud : ℕ) (p q : Peer) → StandsSound shape cloud p → KeepsPeer p q → StandsSound shape cloud q
stays_sound shape cloud p q sound stays list (inl same) = sound list (inl (same ∙ stays.list))
stays_sound shape cloud p q sound stays list (inr some) =
    sound list (inr (subst (λ (l : List Command). IsSomeAnd p.pending (λ command. list ≡ l ++ command ∷ [])) stays.list
    (subst (λ (o : Option Command). IsSomeAnd o (λ command. list ≡ q.list ++ command ∷ [])) stays.pending some)))

cut_sound : (shape : Shape) (cloud : ℕ) (full : List Command → Command → Option FullRoom) (p q : Peer) (request : Request)
    → StandsSound shape cloud p → FitsRequest request → HasRecipe shape request → IsCut (served shape cloud full) p request q → StandsSound shape cloud q
cut_sound shape cloud full p q request sound fits has cut =
    let now = sound q.list cut.list in
    settled_sound shape cloud q (served shape cloud full q.list request).adds cut.pending now (sound_next shape cloud full q.list request _ now fits has refl)

fails_sound : (shape : Shape) (cloud : ℕ) (full : List Command → Command → Option FullRoom) (p q : Peer) (request : Request)
    → StandsSound shape cloud p → FitsRequest request → HasRecipe shape request → KeepsPeer p q ⊎ IsCut (served shape cloud full) p request q → StandsSound shape cloud q
fails_sound shape cloud full p q request sound fits has (inl stays) = stays_sound shape cloud p q sound stays
fails_sound shape cloud full p q request sound fits has (inr cut) = cut_sound shape cloud full p q request sound fits has cut

pub keeps_sound : (shape : Shape) (cloud : ℕ) (full : List Command → Command → Option FullRoom) (p q : Peer) (request : Request) (reply : Reply)
    → StandsSound shape cloud p → FitsRequest request → HasRecipe shape request → Exec shape true (served shape cloud full) p request reply q → StandsSound shape cloud q
keeps_sound shape cloud full p q request reply sound fits has exec =
    elim exec.does [
      | inl a ↦ answers_sound shape cloud full p q request reply sound fits has a
      | inr f ↦ fails_sound shape cloud full p q request sound fits has f.left
    ]
