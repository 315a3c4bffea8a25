-- What a link with prepared replies tells: nothing.
use Rattle.std.specs.Prelude.{true, false, None}
use Rattle.user_dedup.specs.Link.{LinkTelling, TellsSound}
use Rattle.tests_clients.specs.declared.script.Script.{Script}

-- it reaches every cloud, and stands for nothing
abbrev pub telling : LinkTelling Script
telling = record {
  reaches = λ link cloud. true;
  shape = λ link. link.shape;
  told = λ link cloud. false;
  stands = λ link cloud p. ⊥;
  full = λ link cloud list command. None;
  losses = λ link. link.losses;
  lossless = λ link. false;
  passes = λ old exchange new. Unit {0};
}

pub tells_sound : (link : Script) → TellsSound telling link
tells_sound link cloud p told none = absurd none
