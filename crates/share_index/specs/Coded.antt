-- Codes, by which proofs tell values apart.
use Rattle.std.specs.Prelude.{ℕ, List, Option, refl}
use Rattle.std.specs.Coded.{Coded, code_by, coded×, coded_ℕ, coded_list, coded_option}
use Rattle.std.specs.FinMap as map
use Rattle.share_index.specs.contracts.key.UserNumber as number
use Rattle.pool_map.specs.declared.accounts.Accounts.{Accounts}
use Rattle.pool_map.specs.contracts.accounts.Accounts as accounts
use Rattle.share_index.specs.declared.key.Owner.{Owner}
use Rattle.share_index.specs.contracts.key.Owner as owner
use Rattle.share_index.specs.Counts.{UserCounts, number_cmp}
use Rattle.share_index.specs.Order.{owner_cmp}
use Rattle.cd_base.specs.Order.{fp_cmp}
use Rattle.share_index.specs.Owning.{Owners}
use Rattle.share_index.specs.declared.key.Kept.{Kept}
use Rattle.share_index.specs.contracts.key.Kept as kept
use Rattle.cd_base.specs.declared.place.Place.{Place}
use Rattle.cd_base.specs.contracts.place.Place as place
use Rattle.share_index.specs.Placing.{Places}
use Rattle.share_index.specs.Shares.{Shares}

abbrev pub counts_code : Coded UserCounts
counts_code =
    code_by (map.FinMap number_cmp ℕ × ℕ) (coded× (map.code number.the_row.coded coded_ℕ) coded_ℕ)
    (λ c. (c.counts, c.room))
    (λ p. record { counts = p.0; room = p.1 })
    (λ _. refl)

abbrev pub owners_code : Coded Owners
owners_code =
    code_by (map.FinMap owner_cmp ℕ × (List (Option (Owner × ℕ)) × Accounts))
    (coded× (map.code owner.the_row.coded coded_ℕ) (coded× (coded_list (coded_option (coded× owner.the_row.coded coded_ℕ))) accounts.the_row.coded))
    (λ o. (o.owners, (o.slots, o.accounts)))
    (λ p. record { owners = p.0; slots = p.1.0; accounts = p.1.1 })
    (λ _. refl)

abbrev pub places_code : Coded Places
places_code =
    code_by (map.FinMap fp_cmp Kept × (List (Option (List ℕ × Kept)) × ℕ))
    (coded× (map.code (coded_list coded_ℕ) kept.the_row.coded) (coded× (coded_list (coded_option (coded× (coded_list coded_ℕ) kept.the_row.coded))) coded_ℕ))
    (λ o. (o.kept, (o.slots, o.room)))
    (λ p. record { kept = p.0; slots = p.1.0; room = p.1.1 })
    (λ _. refl)

abbrev pub shares_code : Coded Shares
shares_code =
    code_by (map.FinMap fp_cmp Place × (map.FinMap owner_cmp ℕ × (List (Option (List ℕ × Place)) × (List (Option (Owner × ℕ)) × (ℕ × Accounts)))))
    (coded× (map.code (coded_list coded_ℕ) place.the_row.coded) (coded× (map.code owner.the_row.coded coded_ℕ) (coded× (coded_list (coded_option (coded× (coded_list coded_ℕ) place.the_row.coded))) (coded× (coded_list (coded_option (coded× owner.the_row.coded coded_ℕ))) (coded× coded_ℕ accounts.the_row.coded)))))
    (λ s. (s.places, (s.owners, (s.place_slots, (s.owner_slots, (s.fps, s.accounts))))))
    (λ p. record { places = p.0; owners = p.1.0; place_slots = p.1.1.0; owner_slots = p.1.1.1.0; fps = p.1.1.1.1.0; accounts = p.1.1.1.1.1 })
    (λ _. refl)
