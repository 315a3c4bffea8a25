-- What was said with one cloud.
use Rattle.std.proofs.Common.{◌≡◌, ℕ, zero, suc, length, List, [], ◌∷◌, drop, append_assoc, refl, ◌∙◌}
use Rattle.ports_link.specs.UserDedup.Link.{Talk, first_reply, later_replies, said}
use Rattle.restore_command.specs.Talks.{HasHeard}

drop-later : (n : ℕ) (coming : List (List ℕ)) → drop n (later_replies coming) ≡ drop (suc n) coming
drop-later zero [] = refl
drop-later (suc n) [] = refl
drop-later zero (reply ∷ more) = refl
drop-later (suc n) (reply ∷ more) = refl

pub heard_more : (request reply : List ℕ) (before after : Talk) (sent received : List (List ℕ))
    → reply ≡ first_reply before.coming → HasHeard (said before request) after sent received
    → HasHeard before after (request ∷ sent) (reply ∷ received)
heard_more request reply before after sent received e h = record {
  asked = h.asked ∙ append_assoc before.asked (request ∷ []) sent;
  heard = λ i. e i ∷ h.heard i;
  left = h.left ∙ drop-later (length sent) before.coming;
}
