use Rattle.std.proofs.Common.{◌≡◌, ◌++◌, map, take}
use Rattle.backup_command.specs.Texts.{step_line, text_of}
use Rattle.backup_command.proofs.news.put_told.Given as goal

abbrev pub invariant-loop-news : goal.invariant-loop-news
invariant-loop-news l = l.text ≡ l.initial.text ++ text_of (map (step_line l.lane.0) (take l.news-index l.told))
