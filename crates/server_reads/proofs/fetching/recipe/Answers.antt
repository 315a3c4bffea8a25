use Rattle.std.proofs.Common.{◌≡◌, ◌≤◌, ℕ, List, [], length, Option, Some, None, refl, sym, ap, ◌∙◌, subst, arith}
use Rattle.cloud_memory.specs.CdBase.ids.Fp.{Fp}
use Rattle.cd_edges.specs.declared.area.Area.{Area}
use Rattle.cd_edges.specs.declared.area.Area.TheVariants.{Shares, Recipes}
use Rattle.cd_edges.specs.Disk.{reads}
use Rattle.cloud_memory.specs.ContainerLog.Laying.{Placed, IsAt}
use Rattle.messages.specs.declared.reply.Reply.TheVariants as replies
use Rattle.messages.specs.Replies.{reply_bytes}
use Rattle.cloud_memory.specs.UserDedup.file_list.FileEntry.{FileEntry}
use Rattle.cloud_memory.specs.UserDedup.Cloud.{fingerprint}
use Rattle.cloud_memory.specs.UserDedup.Dedup.{recipe_reply}
use Rattle.cloud_memory.specs.Rooms.{memory_of}
use Rattle.server_reads.specs.Found.{IsOther}
use Rattle.server_reads.proofs.Held.{entry_stands, none_there}
use Rattle.server_reads.proofs.Calling.{rotten_at, recipe_or_missing, rotten_or_missing}
use Rattle.server_reads.proofs.Spelled.{one_recipe, missing_or_recipe, rotten_or_recipe, rotten_is}
use Rattle.server_reads.proofs.fetching.recipe.Goals as goal

pub returns-in-Ok-clause-value : goal.returns-in-Ok-clause-value
returns-in-Ok-clause-value g c = λ told agreed shape list sound remembers stands.
    let cloud = g.V.Shelf.cloud_at c.args.shelf.now c.args.cloud.0 in
    let entry = c.in-Some.entry in
    let r = entry_stands (reads cloud.now Recipes) shape c.args.cloud.0 list (memory_of c.args.memory.now) c.args.key.user c.args.key.tag c.args.key.version entry
    (reads cloud.now Shares) sound remembers stands (sym c.entry.ensures.kept ∙ c.in-Some.is) in
    let b : Placed = record { place = entry.at; blob = r.file.recipe } in
    c.write_recipe.ensures.spelled
    ∙ ap (λ (l : List ℕ). reply_bytes (replies.Recipe l)) (c.split_at.ensures.front ∙ c.in-Ok.ensures.blob told agreed b refl r.long r.named (subst (λ (x : Area). IsAt (cloud.now x).read b) (sym c.requires.area) r.lies))
    ∙ ap (λ (o : Option FileEntry). reply_bytes (recipe_reply o)) (sym r.here)

pub returns-in-Ok-clause-kind : goal.returns-in-Ok-clause-kind
returns-in-Ok-clause-kind g c =
    let page = c.split_at.result.0.now in
    let some : 1 ≤ length page = omega (arith, c.split_at.ensures.front_len, c.in-Ok.ensures.fits.0) in
    record {
      reply = replies.Recipe page;
      is = c.write_recipe.ensures.is some;
      said = (c.in-Some.entry, sym c.entry.ensures.kept ∙ c.in-Some.is, ap fingerprint c.split_at.ensures.front ∙ c.in-Ok.ensures.hashed);
    }

pub returns-in-Ok-clause-hashed : goal.returns-in-Ok-clause-hashed
returns-in-Ok-clause-hashed g c = λ bytes is.
    let page = c.split_at.result.0.now in
    let some : 1 ≤ length page = omega (arith, c.split_at.ensures.front_len, c.in-Ok.ensures.fits.0) in
    let same = one_recipe c.write_recipe.new.out bytes page is (c.write_recipe.ensures.is some) in
    (c.in-Some.entry, sym c.entry.ensures.kept ∙ c.in-Some.is, ap fingerprint (same ∙ c.split_at.ensures.front) ∙ c.in-Ok.ensures.hashed)

pub returns-in-Ok-clause-untouched : goal.returns-in-Ok-clause-untouched
returns-in-Ok-clause-untouched g c = λ other.
    let page = c.split_at.result.0.now in
    let some : 1 ≤ length page = omega (arith, c.split_at.ensures.front_len, c.in-Ok.ensures.fits.0) in
    absurd (recipe_or_missing c.write_recipe.new.out page (c.write_recipe.ensures.is some) other)

pub returns-in-Err-Rotten-clause-untouched : goal.returns-in-Err-Rotten-clause-untouched
returns-in-Err-Rotten-clause-untouched g c = λ other.
    absurd (rotten_or_missing c.write_rotten.new.out c.in-Err-Rotten.named c.in-Err-Rotten.found
    (rotten_is c.write_rotten.new.out _ _ c.in-Err-Rotten.named c.in-Err-Rotten.found c.write_rotten.ensures c.in-Err-Rotten.named-is c.in-Err-Rotten.found-is) other)

pub returns-in-Err-Rotten-clause-hashed : goal.returns-in-Err-Rotten-clause-hashed
returns-in-Err-Rotten-clause-hashed g c = λ bytes other.
    absurd (rotten_or_recipe c.write_rotten.new.out c.in-Err-Rotten.named c.in-Err-Rotten.found bytes
    (rotten_is c.write_rotten.new.out _ _ c.in-Err-Rotten.named c.in-Err-Rotten.found c.write_rotten.ensures c.in-Err-Rotten.named-is c.in-Err-Rotten.found-is) other)

pub returns-in-Err-Rotten-clause-value : goal.returns-in-Err-Rotten-clause-value
returns-in-Err-Rotten-clause-value g c = λ told agreed shape list sound remembers stands.
    let cloud = g.V.Shelf.cloud_at c.args.shelf.now c.args.cloud.0 in
    let entry = c.in-Some.entry in
    let r = entry_stands (reads cloud.now Recipes) shape c.args.cloud.0 list (memory_of c.args.memory.now) c.args.key.user c.args.key.tag c.args.key.version entry
    (reads cloud.now Shares) sound remembers stands (sym c.entry.ensures.kept ∙ c.in-Some.is) in
    let b : Placed = record { place = entry.at; blob = r.file.recipe } in
    absurd (rotten_at c.in-Err-Rotten.field-0 _ _ (λ (named found : Fp). ⊥) c.in-Err-Rotten.field-0-is
    (c.in-Err-Rotten.ensures.whole told r.some r.few b refl r.long r.named (subst (λ (x : Area). IsAt (cloud.now x).read b) (sym c.requires.area) r.lies)))

pub returns-in-Err-Rotten-clause-kind : goal.returns-in-Err-Rotten-clause-kind
returns-in-Err-Rotten-clause-kind g c =
    let cloud = g.V.Shelf.cloud_at c.args.shelf.now c.args.cloud.0 in
    let entry = c.in-Some.entry in
    record {
      reply = replies.Rotten c.in-Err-Rotten.named c.in-Err-Rotten.found;
      is = rotten_is c.write_rotten.new.out _ _ c.in-Err-Rotten.named c.in-Err-Rotten.found c.write_rotten.ensures c.in-Err-Rotten.named-is c.in-Err-Rotten.found-is;
      said = record {
        entry = entry;
        kept = sym c.entry.ensures.kept ∙ c.in-Some.is;
        named_is = rotten_at c.in-Err-Rotten.field-0 _ _ (λ (named found : Fp). named ≡ entry.fp) c.in-Err-Rotten.field-0-is c.in-Err-Rotten.ensures.named;
        lies = λ told some few.
            subst (λ (x : Area). IsOther (cloud.now x).read entry.at entry.len c.in-Err-Rotten.named c.in-Err-Rotten.found) c.requires.area
            (rotten_at c.in-Err-Rotten.field-0 _ _ (λ (named found : Fp). IsOther (cloud.now c.args.log.now.area).read entry.at entry.len named found) c.in-Err-Rotten.field-0-is
            (c.in-Err-Rotten.ensures.found told some few));
        unfit = λ out. rotten_at c.in-Err-Rotten.field-0 _ _ (λ (named found : Fp). found ≡ fingerprint []) c.in-Err-Rotten.field-0-is (c.in-Err-Rotten.ensures.unfit out);
      };
    }

pub returns-in-None-clause-value : goal.returns-in-None-clause-value
returns-in-None-clause-value g c = λ told agreed shape list sound remembers stands.
    c.write_missing.ensures.spelled
    ∙ ap (λ (o : Option FileEntry). reply_bytes (recipe_reply o)) (sym (none_there shape list (memory_of c.args.memory.now) c.args.key.user c.args.key.tag c.args.key.version remembers (sym c.entry.ensures.kept ∙ c.in-None.is)))

pub returns-in-None-clause-kind : goal.returns-in-None-clause-kind
returns-in-None-clause-kind g c = record { reply = replies.Missing; is = c.write_missing.ensures; said = sym c.entry.ensures.kept ∙ c.in-None.is }

pub returns-in-None-clause-hashed : goal.returns-in-None-clause-hashed
returns-in-None-clause-hashed g c = λ bytes other. absurd (missing_or_recipe c.write_missing.new.out bytes c.write_missing.ensures other)

pub returns-in-None-clause-missing : goal.returns-in-None-clause-missing
returns-in-None-clause-missing g c = λ none. (refl, refl, refl, c.write_missing.ensures.spelled)

pub returns-in-Ok-clause-missing : goal.returns-in-Ok-clause-missing
returns-in-Ok-clause-missing g c = λ none. absurd (let no : Some c.in-Some.entry ≡ None = sym c.in-Some.is ∙ c.entry.ensures.kept ∙ none in cc)

pub returns-in-Err-Failed-clause-missing : goal.returns-in-Err-Failed-clause-missing
returns-in-Err-Failed-clause-missing g c = λ none. absurd (let no : Some c.in-Some.entry ≡ None = sym c.in-Some.is ∙ c.entry.ensures.kept ∙ none in cc)

pub returns-in-Err-Rotten-clause-missing : goal.returns-in-Err-Rotten-clause-missing
returns-in-Err-Rotten-clause-missing g c = λ none. absurd (let no : Some c.in-Some.entry ≡ None = sym c.in-Some.is ∙ c.entry.ensures.kept ∙ none in cc)

pub returns-in-None-clause-untouched : goal.returns-in-None-clause-untouched
returns-in-None-clause-untouched g c = λ missing. (sym c.entry.ensures.kept ∙ c.in-None.is, refl, refl)
