use Rattle.std.proofs.Common.{◌∙◌, sym, slice_index, ap, ℕ, List, refl}
use Rattle.std.proofs.lemmas.Simd.{put_chunk_whole}
use Rattle.gf256.proofs.Lanes.{chunk_whole}
use Rattle.gf256.proofs.multiple.add_sixteen.Goals as goal

pub returns : goal.returns
returns c = λ i h. ap (λ (z : List ℕ). slice_index z i) (put_chunk_whole c.args.target.now c.add_products.result (c.requires.into ∙ sym c.add_products.ensures.long))
    ∙ c.add_products.ensures.lanes i h
    ∙ rw (chunk_whole c.args.target.now c.requires.into, chunk_whole c.args.source.now c.requires.from) refl
