use Rattle.cd_edges.specs.Disk.{Store, MayLeave}
use Rattle.cd_edges.specs.Shelf.{wrote}
use Rattle.std.proofs.Common.{subst}
use Rattle.cd_edges.proofs.Moments.{told_on}
use Rattle.cd_edges.proofs.Runs.{begin, writes, syncs}
use Rattle.cd_edges.proofs.Since.{image_of_wrote}
use Rattle.cd_edges.proofs.synced.write_synced.Goals as goal

pub returns-in_err-write-clause-any_moment : goal.returns-in_err-write-clause-any_moment
returns-in_err-write-clause-any_moment g c told =
    let number = c.args.cloud.0 in let area = c.args.area in let at = c.args.at in let bytes = c.args.bytes.now in
    let c0 = g.S.Shelf.cloud_at c.args.shelf.now number in let c1 = g.S.Shelf.cloud_at c.write.new.self number in
    let torn = wrote (c0.now area) at bytes in
    let r0 = begin area (MayLeave torn) c0 (image_of_wrote (c0.now area) at bytes) in
    (writes area (MayLeave torn) c.write.result c0 c0 c1 at bytes r0 (c.write.ensures.write told) (λ image left. left)).leaves

pub returns-in_err-sync-clause-any_moment : goal.returns-in_err-sync-clause-any_moment
returns-in_err-sync-clause-any_moment g c told =
    let number = c.args.cloud.0 in let area = c.args.area in let at = c.args.at in let bytes = c.args.bytes.now in
    let c0 = g.S.Shelf.cloud_at c.args.shelf.now number in let c1 = g.S.Shelf.cloud_at c.write.new.self number in let c2 = g.S.Shelf.cloud_at c.sync.new.self number in
    let torn = wrote (c0.now area) at bytes in
    let r0 = begin area (MayLeave torn) c0 (image_of_wrote (c0.now area) at bytes) in
    let r1 = writes area (MayLeave torn) c.write.result c0 c0 c1 at bytes r0 (c.write.ensures.write told) (λ image left. left) in
    let told1 = told_on c0 c1 c.write.ensures.call.told told in
    (syncs area (MayLeave torn) c.sync.result c0 c1 c2 r1 (g.met.S.Shelf.reads_image c.write.new.self number told1 area) (c.sync.ensures.sync told1)
    (λ image left. subst (λ (s : Store). MayLeave s image) (c.in_ok-write.ensures.write told).ok.area left)).leaves

pub returns-clause-any_moment : goal.returns-clause-any_moment
returns-clause-any_moment g c told =
    let number = c.args.cloud.0 in let area = c.args.area in let at = c.args.at in let bytes = c.args.bytes.now in
    let c0 = g.S.Shelf.cloud_at c.args.shelf.now number in let c1 = g.S.Shelf.cloud_at c.write.new.self number in let c2 = g.S.Shelf.cloud_at c.sync.new.self number in
    let torn = wrote (c0.now area) at bytes in
    let r0 = begin area (MayLeave torn) c0 (image_of_wrote (c0.now area) at bytes) in
    let r1 = writes area (MayLeave torn) c.write.result c0 c0 c1 at bytes r0 (c.write.ensures.write told) (λ image left. left) in
    let told1 = told_on c0 c1 c.write.ensures.call.told told in
    (syncs area (MayLeave torn) c.sync.result c0 c1 c2 r1 (g.met.S.Shelf.reads_image c.write.new.self number told1 area) (c.sync.ensures.sync told1)
    (λ image left. subst (λ (s : Store). MayLeave s image) (c.in_ok-write.ensures.write told).ok.area left)).leaves
