-- A code of the files, by which proofs tell them apart.
use Rattle.std.specs.Prelude.{List, Option, refl}
use Rattle.std.specs.Coded.{Coded, code_by, coded×, coded_list, coded_option}
use Rattle.std.specs.FinMap as map
use Rattle.pool_map.specs.declared.accounts.Accounts.{Accounts}
use Rattle.pool_map.specs.contracts.accounts.Accounts as accounts
use Rattle.file_index.specs.declared.key.FileKey.{FileKey}
use Rattle.file_index.specs.declared.key.Entry.{Entry}
use Rattle.file_index.specs.contracts.key.FileKey as key
use Rattle.file_index.specs.contracts.key.Entry as entry
use Rattle.file_index.specs.Order.{key_cmp}
use Rattle.file_index.specs.Files.{Files}

abbrev pub files_code : Coded Files
files_code =
    code_by (map.FinMap key_cmp Entry × (List (Option (FileKey × Entry)) × Accounts))
    (coded× (map.code key.the_row.coded entry.the_row.coded) (coded× (coded_list (coded_option (coded× key.the_row.coded entry.the_row.coded))) accounts.the_row.coded))
    (λ f. (f.files, (f.slots, f.accounts)))
    (λ p. record { files = p.0; slots = p.1.0; accounts = p.1.1 })
    (λ _. refl)
