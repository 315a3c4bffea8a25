use Rattle.std.proofs.Common.{◌≡◌, Bool, [], ◌∷◌, ◌++◌, Option, cond, false, sym, ap, ◌∙◌, subst}
use Rattle.std.specs.Prelude.{is_some}
use Rattle.std.specs.FinMap.{get}
use Rattle.server_reads.specs.CdBase.ids.Fp.{Fp}
use Rattle.server_reads.specs.CdBase.place.Place.{Place}
use Rattle.server_reads.specs.ContainerLog.States.{HasStaged}
use Rattle.server_reads.proofs.ContainerLog.Staged.{staged_more}
use Rattle.server_reads.specs.UserDedup.Cloud.{fingerprint}
use Rattle.server_reads.specs.CloudMemory.Rooms.{memory_of}
use Rattle.cloud_store.specs.declared.store.CloudStore.{CloudStore}
use Rattle.server_commands.proofs.news.stage_one.Goals as goal

pub returns-in-Ok-clause-staged : goal.returns-in-Ok-clause-staged
returns-in-Ok-clause-staged c = λ blobs has.
    let store = c.args.store.now in let share = c.args.share.now in
    let free : is_some (get (memory_of store.memory).places (fingerprint share).0) ≡ false =
    ap (λ (f : Fp). is_some (get (memory_of store.memory).places f.0)) (sym c.requires.fp) ∙ ap (λ (o : Option Place). is_some o) (sym c.place_of.ensures.kept) ∙ c.if-is_none.ensures in
    subst (λ (b : Bool). HasStaged c.stage_share.new.self.disk.shares (cond b blobs (blobs ++ share ∷ []))) (sym free)
    (subst (λ (s : CloudStore). HasStaged s.disk.shares (blobs ++ share ∷ [])) (sym c.in-Ok.ensures.ok) (staged_more store.disk.shares blobs share has c.requires.room))
