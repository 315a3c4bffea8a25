use Rattle.std.proofs.Common.{List, ℕ, Ok, Err, subst}
use Rattle.std.specs.List.{Contains}
use Rattle.caont_rs.specs.Package.{tag as tag_at}
use Rattle.user_dedup.specs.CdBase.ids.Tag.{Tag}
use Rattle.user_dedup.specs.CdBase.ids.Version.{Version}
use Rattle.user_dedup.specs.CdBase.shape.Shape.{Shape}
use Rattle.restore_job.specs.Asking.{Leads, LeadsAny, among}
use Rattle.restore_job.specs.Brought.{Brought}
use Rattle.restore_job.specs.Refusals.{CausesAmong, Names, Shows}
use Rattle.restore_job.specs.Reading.{Restores}
use Rattle.restore_job.proofs.Leading.{leads_to}
use Rattle.restore_job.proofs.Ending.{cut_back}
use Rattle.restore_job.proofs.Wrong.{causes_among}
use Rattle.std.proofs.Common.{refl}
use Rattle.restore_job.proofs.Speaking.{unlost_as}
use Rattle.restore_job.proofs.restoring.restore.Goals as goal

abbrev key : Shape → List ℕ → Version → Tag × Version
key shape path version = (record { 0 = tag_at shape path }, version)

pub returns-in-Ok-clause-restored : goal.returns-in-Ok-clause-restored
returns-in-Ok-clause-restored g c =
    subst (λ (l : List ℕ). LeadsAny g.L.Link.tells l c.args.link.now c.restore_into.new.link (λ these a b. Unit {0})
    (Restores c.args.shape c.args.user (key c.args.shape c.args.path.now c.args.version) l (Ok tt) c.args.out.now c.restore_into.new.out)) c.as_slice.ensures c.in-Ok.ensures.restored

pub returns-in-Err-clause-restored : goal.returns-in-Err-clause-restored
returns-in-Err-clause-restored g c these =
    let t = g.L.Link.tells in
    let k = key c.args.shape c.args.path.now c.args.version in
    let shows = Shows (among these t) c.args.link.now c.args.shape c.args.user k (Err c.in-Err.e) in
    leads_to (among these t) c.args.clouds.now c.args.clouds.now c.args.link.now c.restore_into.new.link shows
    (CausesAmong t c.args.link.now c.args.shape c.args.user k (Err c.in-Err.e) these)
    (Restores c.args.shape c.args.user k c.args.clouds.now (Err c.in-Err.e) c.args.out.now c.restore_into.new.out)
    (Restores c.args.shape c.args.user k c.args.clouds.now (Err c.in-Err.e) c.args.out.now c.truncate.new.self)
    (subst (λ (l : List ℕ). Leads (among these t) l c.args.link.now c.restore_into.new.link shows
    (Restores c.args.shape c.args.user k l (Err c.in-Err.e) c.args.out.now c.restore_into.new.out)) c.as_slice.ensures (c.in-Err.ensures.restored these))
    (λ x has. has)
    (λ a b one r known. causes_among t these c.args.link.now c.args.shape c.args.user k (Err c.in-Err.e) a b r)
    (λ a b one r. cut_back c.args.shape c.args.user k c.args.clouds.now c.in-Err.e c.args.out.now c.restore_into.new.out c.truncate.new.self a b r)

pub returns-in-Err-clause-named : goal.returns-in-Err-clause-named
returns-in-Err-clause-named g c = subst (λ (l : List ℕ). Names (Contains l) c.in-Err.e) c.as_slice.ensures c.in-Err.ensures.named

pub returns-in-Ok-clause-brought : goal.returns-in-Ok-clause-brought
returns-in-Ok-clause-brought g c = subst (λ (l : List ℕ). Brought c.args.shape l c.args.out.now c.restore_into.new.out) c.as_slice.ensures c.in-Ok.ensures.brought

pub returns-in-Ok-clause-passed : goal.returns-in-Ok-clause-passed
returns-in-Ok-clause-passed g c =
    let came = c.in-Ok.ensures.said in
    record {
      said = record {
        chosen = c.as_slice.result.now;
        chosen_are = c.as_slice.ensures;
        log = came.0;
        spoken = came.1.0;
        left = c.restore_into.new.out;
        run = came.2;
        stands = refl;
      };
      passed = came.1.1;
    }

pub returns-in-Ok-clause-said : goal.returns-in-Ok-clause-said
returns-in-Ok-clause-said g c = (returns-in-Ok-clause-passed g c).said

pub returns-in-Err-clause-passed : goal.returns-in-Err-clause-passed
returns-in-Err-clause-passed g c =
    unlost_as Unit Unit c.in-Err.e _ _
    (λ came. record {
      said = record {
        chosen = c.as_slice.result.now;
        chosen_are = c.as_slice.ensures;
        log = came.0;
        spoken = came.1.0;
        left = c.restore_into.new.out;
        run = came.2;
        stands = tt;
      };
      passed = came.1.1;
    }) c.in-Err.ensures.said

pub returns-in-Err-clause-said : goal.returns-in-Err-clause-said
returns-in-Err-clause-said g c =
    unlost_as Unit Unit c.in-Err.e _ _
    (λ came. record {
      chosen = c.as_slice.result.now;
      chosen_are = c.as_slice.ensures;
      log = came.0;
      spoken = came.1.0;
      left = c.restore_into.new.out;
      run = came.2;
      stands = tt;
    }) c.in-Err.ensures.said
