use Rattle.std.proofs.Common.{List, Option, Ok, refl, sym, subst}
use Rattle.lane_steps.specs.CdBase.Numbers.{numbers_of}
use Rattle.lane_steps.specs.CdBase.ids.Tag.{Tag}
use Rattle.lane_steps.specs.CdBase.ids.Version.{Version}
use Rattle.lane_steps.specs.UserDedup.Link.{serves}
use Rattle.rebuild.specs.Several.{progress_of}
use Rattle.rebuild.specs.Rebuilding.{Progressed}
use Rattle.rebuild.specs.declared.error.SkipWhy.{SkipWhy}
use Rattle.rebuild.specs.declared.error.RebuildErr.TheVariants as errors
use Rattle.rebuild.proofs.Going.{KeysLeads, keys_done, keys_err, keys_failed, keys_full, keys_then}
use Rattle.rebuild.proofs.Going.{lost_as}
use Rattle.rebuild.proofs.Passing.{asked_as, asked_none, asked_on, own_none, own_on}
use Rattle.rebuild.proofs.keys.+rebuild_keys.Goals as goal

pub returns-in-None-clause-rebuilt : goal.returns-in-None-clause-rebuilt
returns-in-None-clause-rebuilt g t c =
    let tells = g.L.Link.tells in
    let talk = g.L.Link.talk in
    let target = c.args.refill.target.0 in
    let from = numbers_of c.args.clouds.now in
    let link = c.args.link.now in
    let r : Progressed = progress_of c.args.rebuilt.now in
    subst (λ (keys : List (Tag × Version)). KeysLeads tells talk target from c.args.refill.shape c.args.refill.user c.requires.apart (serves tells link target) link link keys r r (Ok (tt {0}))) (sym c.in-None.ensures)
    (keys_done tells talk target from c.args.refill.shape c.args.refill.user c.requires.apart link r)

pub returns-in-Ok-note-clause-rebuilt : goal.returns-in-Ok-note-clause-rebuilt
returns-in-Ok-note-clause-rebuilt g t c =
    let tells = g.L.Link.tells in
    let talk = g.L.Link.talk in
    let target = c.args.refill.target.0 in
    let from = numbers_of c.args.clouds.now in
    let old = c.args.link.now in
    let mid = c.rebuild_entry.new.link in
    let new = c.rebuild_keys.new.link in
    let key : Tag × Version = (c.in-Some.tag, c.in-Some.version) in
    let r : Progressed = progress_of c.args.rebuilt.now in
    let next : Progressed = progress_of c.rebuild_keys.new.rebuilt in
    let result = c.rebuild_keys.result in
    let more = c.in-Some.more.now in
    let apart = c.requires.apart in
    subst (λ (keys : List (Tag × Version)). KeysLeads tells talk target from c.args.refill.shape c.args.refill.user apart (serves tells old target) old new keys r next result) (sym c.in-Some.ensures)
    (keys_then tells talk target from c.args.refill.shape c.args.refill.user apart old mid new key more c.in-Ok.skip r next result c.in-Ok.ensures.rebuilt c.in-Ok.ensures.asked
    (subst (λ (at : Progressed). KeysLeads tells talk target from c.args.refill.shape c.args.refill.user apart (serves tells mid target) mid new more at next result) c.in-Ok-note.ensures.notes c.rebuild_keys.ensures.rebuilt))

pub returns-in-Err-note-clause-rebuilt : goal.returns-in-Err-note-clause-rebuilt
returns-in-Err-note-clause-rebuilt g t c =
    let tells = g.L.Link.tells in
    let talk = g.L.Link.talk in
    let target = c.args.refill.target.0 in
    let from = numbers_of c.args.clouds.now in
    let old = c.args.link.now in
    let new = c.rebuild_entry.new.link in
    let key : Tag × Version = (c.in-Some.tag, c.in-Some.version) in
    let r : Progressed = progress_of c.args.rebuilt.now in
    let next : Progressed = progress_of c.note.new.rebuilt in
    let apart = c.requires.apart in
    subst (λ (keys : List (Tag × Version)). KeysLeads tells talk target from c.args.refill.shape c.args.refill.user apart (serves tells old target) old new keys r next (keys_err errors.NoMemory)) (sym c.in-Some.ensures)
    (keys_full tells talk target from c.args.refill.shape c.args.refill.user apart old new key c.in-Some.more.now c.in-Ok.skip r next refl c.in-Ok.ensures.rebuilt)

pub returns-in-Err-clause-rebuilt : goal.returns-in-Err-clause-rebuilt
returns-in-Err-clause-rebuilt g t c =
    let tells = g.L.Link.tells in
    let talk = g.L.Link.talk in
    let target = c.args.refill.target.0 in
    let from = numbers_of c.args.clouds.now in
    let old = c.args.link.now in
    let new = c.rebuild_entry.new.link in
    let key : Tag × Version = (c.in-Some.tag, c.in-Some.version) in
    let r : Progressed = progress_of c.args.rebuilt.now in
    let apart = c.requires.apart in
    subst (λ (keys : List (Tag × Version)). KeysLeads tells talk target from c.args.refill.shape c.args.refill.user apart (serves tells old target) old new keys r r (keys_err c.in-Err.e)) (sym c.in-Some.ensures)
    (keys_failed tells talk target from c.args.refill.shape c.args.refill.user apart old new key c.in-Some.more.now r r c.in-Err.e refl c.in-Err.ensures.rebuilt)

pub returns-in-None-clause-asked : goal.returns-in-None-clause-asked
returns-in-None-clause-asked g t c = asked_none g.L.Link.tells c.args.refill.target.0 (numbers_of c.args.clouds.now) c.args.link.now

pub returns-in-Ok-note-clause-asked : goal.returns-in-Ok-note-clause-asked
returns-in-Ok-note-clause-asked g t c =
    asked_on g.L.Link.tells c.args.refill.target.0 (numbers_of c.args.clouds.now) c.args.link.now c.rebuild_entry.new.link c.rebuild_keys.new.link _ c.in-Ok.ensures.asked c.rebuild_keys.ensures.asked

pub returns-in-Err-note-clause-asked : goal.returns-in-Err-note-clause-asked
returns-in-Err-note-clause-asked g t c = c.in-Ok.ensures.asked

pub returns-in-Err-clause-asked : goal.returns-in-Err-clause-asked
returns-in-Err-clause-asked g t c =
    asked_as g.L.Link.tells c.args.refill.target.0 (numbers_of c.args.clouds.now) c.args.link.now c.rebuild_entry.new.link _ _ (lost_as (Option SkipWhy) (Unit {0}) c.in-Err.e) c.in-Err.ensures.asked

pub returns-in-None-clause-lanes : goal.returns-in-None-clause-lanes
returns-in-None-clause-lanes g t c = own_none g.L.Link.tells c.args.refill.shape c.args.refill.user c.args.refill.target.0 (numbers_of c.args.clouds.now) c.args.link.now

pub returns-in-Ok-note-clause-lanes : goal.returns-in-Ok-note-clause-lanes
returns-in-Ok-note-clause-lanes g t c =
    own_on g.L.Link.tells c.args.refill.shape c.args.refill.user c.args.refill.target.0 (numbers_of c.args.clouds.now) c.args.link.now c.rebuild_entry.new.link c.rebuild_keys.new.link c.in-Ok.ensures.lanes c.rebuild_keys.ensures.lanes

pub returns-in-Err-note-clause-lanes : goal.returns-in-Err-note-clause-lanes
returns-in-Err-note-clause-lanes g t c = c.in-Ok.ensures.lanes

pub returns-in-Err-clause-lanes : goal.returns-in-Err-clause-lanes
returns-in-Err-clause-lanes g t c = c.in-Err.ensures.lanes
