use Rattle.std.proofs.Common.{◌≡◌, ◌*◌, ◌/◌, ◌<◌, length, arith, sym, ap, subst, ◌∙◌, ℕ}
use Rattle.reed_solomon.specs.CdBase.shape.Shape.{Shape}
use Rattle.reed_solomon.specs.Dispersal.{row, share_of}
use Rattle.reed_solomon.proofs.Recovery.{whole_rows}
use Rattle.caont_rs.proofs.Packages.{rows_shared, behind}
use Rattle.caont_rs.proofs.sealing.disperse_into.Goals as goal

pub encode-requires-clause-whole : goal.encode-requires-clause-whole
encode-requires-clause-whole c =
    let long : length c.seal.new.sealed ≡ c.args.shape.k * c.args.width =
    behind c.args.shape.n c.n.result c.args.shape.k c.args.width _ _ _ c.n.ensures c.split_at_mut-shares.ensures.back_len c.requires.room c.seal.auto.sealed in
    rw c.of.ensures ((whole_rows c.args.shape.k c.args.width (length c.seal.new.sealed) (omega (arith, c.args.shape.several)) long).1)

pub encode-requires-clause-room : goal.encode-requires-clause-room
encode-requires-clause-room c =
    let long : length c.seal.new.sealed ≡ c.args.shape.k * c.args.width =
    behind c.args.shape.n c.n.result c.args.shape.k c.args.width _ _ _ c.n.ensures c.split_at_mut-shares.ensures.back_len c.requires.room c.seal.auto.sealed in
    rw c.of.ensures (c.split_at_mut-shares.ensures.front_len ∙ ap (λ (v : ℕ). v * c.args.width) c.n.ensures
    ∙ ap (λ (v : ℕ). c.args.shape.n * v) (sym (whole_rows c.args.shape.k c.args.width (length c.seal.new.sealed) (omega (arith, c.args.shape.several)) long).0))

pub returns : goal.returns
returns c =
    let long : length c.seal.new.sealed ≡ c.args.shape.k * c.args.width =
    behind c.args.shape.n c.n.result c.args.shape.k c.args.width _ _ _ c.n.ensures c.split_at_mut-shares.ensures.back_len c.requires.room c.seal.auto.sealed in
    rows_shared c.args.shape c.args.secret.now c.seal.new.sealed c.encode.new.shares c.args.width c.seal.ensures long
    (c.encode.auto.shares ∙ c.split_at_mut-shares.ensures.front_len ∙ ap (λ (v : ℕ). v * c.args.width) c.n.ensures)
    (subst (λ (s : Shape). (j : ℕ) → j < s.n → row (length c.seal.new.sealed / s.k) j c.encode.new.shares ≡ share_of s c.seal.new.sealed j) c.of.ensures c.encode.ensures.rows)
