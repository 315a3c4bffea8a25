-- What a cloud of these rooms adds has room.
use Rattle.std.proofs.Common.{◌≡◌, Option, Some, None, refl, sym, ◌∙◌, subst}
use Rattle.user_dedup.specs.declared.command.Command.{Command}
use Rattle.user_dedup.specs.Dedup.{Outcome, FullRoom, room_for, by_room, unless_full}

pub by_answer : (full : Command → Option FullRoom) (outcome : Outcome) (c command : Command) (room : Option FullRoom) → full c ≡ room → outcome.adds ≡ Some c
    → (by_room outcome room).adds ≡ Some command → full command ≡ None
by_answer full outcome c command None is adds e =
    let same : c ≡ command = (let both : Some c ≡ Some command = sym adds ∙ e in cc) in
    subst (λ (d : Command). full d ≡ None) same is
by_answer full outcome c command (Some room) is adds e = absurd (let no : None ≡ Some command = e in cc)

pub by_added : (full : Command → Option FullRoom) (outcome : Outcome) (command : Command) (added : Option Command) → outcome.adds ≡ added
    → (by_room outcome (room_for full added)).adds ≡ Some command → full command ≡ None
by_added full outcome command None is e = absurd (let no : None ≡ Some command = sym is ∙ e in cc)
by_added full outcome command (Some c) is e = by_answer full outcome c command (full c) refl is e

pub has_room : (full : Command → Option FullRoom) (outcome : Outcome) (command : Command) → (unless_full full outcome).adds ≡ Some command → full command ≡ None
has_room full outcome command e = by_added full outcome command outcome.adds refl e
