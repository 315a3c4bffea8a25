use Rattle.std.proofs.Common.{◌≡◌, ◌++◌, map, take}
use Rattle.session_model.specs.Steps.{step_line}
use Rattle.session_model.specs.Session.Texts.{text_of}
use Rattle.script_lines.proofs.finish.put_told.Given as goal

abbrev pub invariant-loop-news : goal.invariant-loop-news
invariant-loop-news l = l.text ≡ l.initial.text ++ text_of (map (step_line l.job l.lane.0) (take l.news-index l.told))
