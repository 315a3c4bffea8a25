use Rattle.std.proofs.Common.{refl}
use Rattle.reed_solomon.proofs.Shares.{byte_at}
use Rattle.caont_rs.specs.Opening.{opened}
use Rattle.caont_rs.proofs.Openings.{package_at_shares, united}
use Rattle.caont_rs.proofs.Opened.{gives_back, gives_bad_secret, gives_bad_pad, gives_text}
use Rattle.caont_rs.proofs.Exactly.{exactly}
use Rattle.caont_rs.proofs.laws.opening_laws.Goals as goal

pub returns : goal.returns
unfolding opened
returns c = record {
  gives_back = λ s text points given choice bt bg long rows. gives_back s text points given choice (byte_at text bt) (byte_at given bg) long rows;
  exactly = λ s len text points given choice bt bg long. exactly s len text points given choice (byte_at text bt) (byte_at given bg) long;
  has_shares = λ s points given choice bytes whole. package_at_shares s points given choice whole (byte_at given bytes);
  only_one = λ s points given p choice bg bp whole long rows. united s points given p choice whole long (byte_at given bg) (byte_at p bp) rows;
  by_package = λ s len points given. refl;
  bad_secret = λ len p e. gives_bad_secret len p e;
  bad_pad = λ len p at e le l other h. gives_bad_pad len p at e le l other h;
  whole = λ len p e h. gives_text len p e h;
}
