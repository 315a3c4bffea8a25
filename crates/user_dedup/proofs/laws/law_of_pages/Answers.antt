use Rattle.user_dedup.proofs.Pages.{is_page}
use Rattle.user_dedup.proofs.laws.law_of_pages.Goals as goal

pub returns : goal.returns
returns c = is_page
