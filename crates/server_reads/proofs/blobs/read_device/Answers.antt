use Rattle.std.proofs.Common.{◌≡◌, ℕ, ◌≤◌, List, length, take, drop, IfErr, refl, sym, ap, ◌∙◌, subst, arith, length-take}
use Rattle.std.proofs.lemmas.List.{take_all}
use Rattle.cloud_memory.specs.CdBase.ids.Fp.{Fp}
use Rattle.cloud_memory.specs.UserDedup.Cloud.{fingerprint}
use Rattle.server_reads.specs.declared.blobs.BlobStop.{BlobStop}
use Rattle.server_reads.specs.declared.blobs.BlobStop.TheVariants as stops
use Rattle.server_reads.specs.Found.{IsOther}
use Rattle.server_reads.specs.Reading.{IfRotten}
use Rattle.server_reads.proofs.Calling.{rotten_as, not_rotten, when_ok, ok_both, compared, other_there, blob_there}
use Rattle.server_reads.proofs.blobs.read_device.Goals as goal

pub returns-in-Ok-clause-hashed : goal.returns-in-Ok-clause-hashed
returns-in-Ok-clause-hashed g c =
    let there = c.split_at.result.0.now in
    let out = c.read_alone.new.out in
    ok_both c.compare.result (length there ≡ length c.args.out.now) (fingerprint there ≡ c.args.fp.now) (fingerprint out ≡ c.args.fp.now) c.compare.ensures.ok c.compare.ensures.hashed
    (λ long same.
    let past : length out ≤ c.in-Ok.count = omega (arith, long, ap length c.split_at.ensures.front, length-take c.in-Ok.count out, c.read_alone.auto.out) in
    ap fingerprint (sym (take_all c.in-Ok.count out past) ∙ sym c.split_at.ensures.front) ∙ same)

pub returns-in-Ok-clause-named : goal.returns-in-Ok-clause-named
returns-in-Ok-clause-named g c =
    rotten_as c.compare.result c.args.fp.now (fingerprint c.split_at.result.0.now) (λ (named found : Fp). named ≡ c.args.fp.now) c.compare.ensures.err refl

pub returns-in-Ok-clause-found : goal.returns-in-Ok-clause-found
returns-in-Ok-clause-found g c = λ told.
    let area = ((g.V.Shelf.cloud_at c.args.shelf.now c.args.cloud.0).now c.args.log.now.area).read in
    let out = c.read_alone.new.out in
    let r = c.compare.result in
    let fp = c.args.fp.now in
    let front = c.split_at.ensures.front in
    subst (λ (n : ℕ). IfRotten r (λ (named found : Fp). IsOther area c.args.at n named found)) c.read_alone.auto.out
    (other_there r area c.args.at c.in-Ok.count out fp (c.in-Ok.ensures.bytes told)
    (subst (λ (l : List ℕ). IfErr r (λ (stop : BlobStop). stop ≡ stops.Rotten fp (fingerprint l))) front c.compare.ensures.err)
    (λ long same. c.compare.ensures.whole (ap length front ∙ long ∙ c.read_alone.auto.out) (ap fingerprint front ∙ same)))

pub returns-in-Ok-clause-whole : goal.returns-in-Ok-clause-whole
returns-in-Ok-clause-whole g c = λ told b place_is long same at.
    let area = ((g.V.Shelf.cloud_at c.args.shelf.now c.args.cloud.0).now c.args.log.now.area).read in
    let there : c.split_at.result.0.now ≡ b.blob =
    c.split_at.ensures.front ∙ blob_there area c.args.at c.in-Ok.count (length b.blob) c.read_alone.new.out b.blob (c.in-Ok.ensures.bytes told) (c.read_alone.auto.out ∙ sym long) refl
    (subst (λ (p : ℕ). take (length b.blob) (drop p area) ≡ b.blob) place_is at) in
    not_rotten c.compare.result (λ (named found : Fp). ⊥) (c.compare.ensures.whole (ap length there ∙ long) (ap fingerprint there ∙ same))

pub returns-in-Ok-clause-blob : goal.returns-in-Ok-clause-blob
returns-in-Ok-clause-blob g c = λ told b place_is long same at. when_ok c.compare.result (c.read_alone.new.out ≡ b.blob) (c.in-Ok.ensures.blob told b place_is long at)

pub returns-in-Ok-clause-reads : goal.returns-in-Ok-clause-reads
returns-in-Ok-clause-reads g c =
    compared (g.V.Shelf.cloud_at c.args.shelf.now) (g.V.Shelf.cloud_at c.read_alone.new.shelf) c.args.cloud.0 (g.V.Shelf.faults c.args.shelf.now) (g.V.Shelf.faults c.read_alone.new.shelf)
    c.compare.result c.args.fp.now (fingerprint c.split_at.result.0.now) c.compare.ensures.err c.read_alone.ensures.stays c.read_alone.ensures.call c.in-Ok.ensures.uncounted

pub returns-in-Err-clause-reads : goal.returns-in-Err-clause-reads
returns-in-Err-clause-reads g c = record { stays = c.read_alone.ensures.stays; call = c.read_alone.ensures.call; failed = c.in-Err.ensures.failed; counts = tt }
