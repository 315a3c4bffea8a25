use Rattle.std.proofs.Common.{◌≡◌, true, false, refl, rules}
use Rattle.journal_halves.specs.Records.{is_begun}
use Rattle.journal_halves.specs.Findings.{part_of}
use Rattle.journal_halves.proofs.Looks.{half_unbegun, half_begun, part_begun, part_short, ahead_part, has_start}
use Rattle.journal_halves.proofs.finding.judge.Goals as goal

pub returns-then-not-begins-clause-looks : goal.returns-then-not-begins-clause-looks
returns-then-not-begins-clause-looks c journal is =
    let shut : is_begun c.args.ahead.now ≡ false = search rules in
    half_unbegun c.args.half journal c.args.ahead.now is shut

pub returns-in-Ok-clause-looks : goal.returns-in-Ok-clause-looks
returns-in-Ok-clause-looks c journal is =
    let half = c.args.half in let ahead = c.args.ahead.now in
    let opened : is_begun ahead ≡ true = search rules in
    let found = c.in-Ok.ensures.start (part_of half journal) (ahead_part half journal ahead is) (part_short half journal) (part_begun half journal ahead is opened) in
    has_start half journal c.in-Ok.start found.0 found.1

pub returns-in-Err-clause-looks : goal.returns-in-Err-clause-looks
returns-in-Err-clause-looks c journal is =
    let half = c.args.half in let ahead = c.args.ahead.now in
    let opened : is_begun ahead ≡ true = search rules in
    let damage = c.in-Err.ensures.start (part_of half journal) (ahead_part half journal ahead is) (part_short half journal) (part_begun half journal ahead is opened) in
    (half_begun half journal ahead is opened, c.in-Err.field-0.at, damage, refl)
