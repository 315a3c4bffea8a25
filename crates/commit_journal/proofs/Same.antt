-- Headers whose fields are equal are equal.
use Rattle.std.proofs.Common.{◌≡◌, ℕ, Bool, true, false, eqb, None, refl, ap}
use Rattle.std.proofs.Math.Bool.{◌&&◌}
use Rattle.std.proofs.lemmas.Bool.{false≢true, eqb-true}
use Rattle.journal_halves.specs.JournalStart.start.Header.{Header}
use Rattle.journal_halves.specs.JournalStart.start.Start.{Start}
use Rattle.journal_halves.proofs.JournalStart.Whole.{same_start}

both : (a b : Bool) → (a && b) ≡ true → (a ≡ true) × (b ≡ true)
both true b e = (refl, e)
both false b e = absurd (false≢true e)

abbrev plain : Header → Start
plain header = record { header = header; checkpoint = None }

pub header_eq : (a b : Header)
    → (eqb a.format b.format && ((eqb a.shape.n b.shape.n && eqb a.shape.k b.shape.k) && (eqb a.cloud.0 b.cloud.0
    && (eqb a.rooms.users b.rooms.users && (eqb a.rooms.shares b.rooms.shares && (eqb a.rooms.recipes b.rooms.recipes
    && (eqb a.rooms.owners b.rooms.owners && eqb a.rooms.files b.rooms.files)))))))
    ≡ true → a ≡ b
header_eq a b e =
    let x1 = both _ _ e in let x2 = both _ _ x1.1 in let shape = both _ _ x2.0 in let x3 = both _ _ x2.1 in
    let x4 = both _ _ x3.1 in let x5 = both _ _ x4.1 in let x6 = both _ _ x5.1 in let x7 = both _ _ x6.1 in
    let format = eqb-true a.format b.format x1.0 in
    let n = eqb-true a.shape.n b.shape.n shape.0 in let k = eqb-true a.shape.k b.shape.k shape.1 in
    let cloud = eqb-true a.cloud.0 b.cloud.0 x3.0 in
    let users = eqb-true a.rooms.users b.rooms.users x4.0 in let shares = eqb-true a.rooms.shares b.rooms.shares x5.0 in
    let recipes = eqb-true a.rooms.recipes b.rooms.recipes x6.0 in
    let owners = eqb-true a.rooms.owners b.rooms.owners x7.0 in let files = eqb-true a.rooms.files b.rooms.files x7.1 in
    ap (λ (s : Start). s.header) (same_start (plain a) (plain b) (λ i. record {
      format = format i;
      n = n i;
      k = k i;
      cloud = cloud i;
      rooms = record { users = users i; shares = shares i; recipes = recipes i; owners = owners i; files = files i };
      checkpoint = None;
    }))
