-- Texts that were written one after another.
use Rattle.std.proofs.Common.{◌≡◌, ℕ, List, ◌++◌, take, drop, Option, Some, None, ap, ◌∙◌, append_assoc}
use Rattle.std.specs.Io.KnownBytes.{Appends}
use Rattle.std.proofs.lemmas.List.{take-append-drop}
use Rattle.cd_top.specs.Replay.{WritesFront}

-- a text and then another
pub appends_both : (before middle after : Option (List ℕ)) (x y : List ℕ) → Appends before middle x → Appends middle after y → Appends before after (x ++ y)
appends_both None middle after x y first second = tt
appends_both (Some xs) None after x y first second = absurd first
appends_both (Some xs) (Some ys) None x y first second = absurd second
appends_both (Some xs) (Some ys) (Some zs) x y first second = second ∙ ap (λ l. l ++ y) first ∙ append_assoc xs x y

-- a sink took so many bytes of a text
pub front_at : (before after : Option (List ℕ)) (text read : List ℕ) (sent : ℕ) → read ≡ text → Appends before after (take sent read) → WritesFront text before after
front_at before after text read sent same appends = record {
  text = take sent read;
  more = drop sent read;
  front = take-append-drop sent read ∙ same;
  written = appends;
}
