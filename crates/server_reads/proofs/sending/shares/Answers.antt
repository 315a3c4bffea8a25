use Rattle.std.proofs.Common.{◌≡◌, ℕ, Option, Some, None, refl, sym, ap, ◌∙◌}
use Rattle.cloud_memory.specs.CdBase.ids.Fp.{Fp}
use Rattle.messages.specs.declared.reply.Reply.TheVariants as replies
use Rattle.messages.specs.Replies.{reply_bytes}
use Rattle.cloud_memory.specs.UserDedup.Cloud.{user_view}
use Rattle.cloud_memory.specs.UserDedup.Owning.{first_lacking}
use Rattle.cloud_memory.specs.UserDedup.Dedup.{shares_reply}
use Rattle.server_reads.proofs.Along.{strings_for, all_owned}
use Rattle.server_reads.proofs.Calling.{rotten_at, shares_or_not_yours, rotten_or_not_yours}
use Rattle.server_reads.proofs.Spelled.{all_hashed, one_place, not_yours_or_shares, rotten_or_shares}
use Rattle.server_reads.proofs.sending.shares.Goals as goal

pub returns-in-Some-clause-value : goal.returns-in-Some-clause-value
returns-in-Some-clause-value g c = λ told agreed shape list sound remembers stands.
    c.write_not_yours.ensures.spelled
    ∙ ap (λ (o : Option ℕ). reply_bytes (shares_reply o (strings_for list c.args.fps.now))) (sym c.in-Some.is ∙ c.first_foreign.ensures.value shape list remembers)

pub returns-in-Some-clause-foreign : goal.returns-in-Some-clause-foreign
returns-in-Some-clause-foreign g c = λ place lack.
    let e : Some c.in-Some.place ≡ Some place = sym c.in-Some.is ∙ c.first_foreign.ensures.kept ∙ lack in
    let same : c.in-Some.place ≡ place = cc in
    (refl, refl, refl, c.write_not_yours.ensures.spelled ∙ ap (λ (n : ℕ). reply_bytes (replies.NotYours n)) same)

pub returns-in-Ok-clause-value : goal.returns-in-Ok-clause-value
returns-in-Ok-clause-value g c = λ told agreed shape list sound remembers stands.
    let own = (user_view shape list c.args.user).own in
    let none : None ≡ first_lacking own c.args.fps.now = sym c.in-None.is ∙ c.first_foreign.ensures.value shape list remembers in
    c.in-Ok.ensures.held told agreed shape c.args.cloud.0 list c.args.user (record { sound = sound; remembers = remembers; stands = stands }) (all_owned own c.args.fps.now none)
    ∙ ap (λ (o : Option ℕ). reply_bytes (shares_reply o (strings_for list c.args.fps.now))) none

pub returns-in-Ok-clause-foreign : goal.returns-in-Ok-clause-foreign
returns-in-Ok-clause-foreign g c = λ place lack.
    absurd (let e : None ≡ Some place = sym c.in-None.is ∙ c.first_foreign.ensures.kept ∙ lack in cc)

pub returns-in-Ok-clause-kind : goal.returns-in-Ok-clause-kind
returns-in-Ok-clause-kind g c =
    let sent = c.in-Ok.ensures.ok in
    record { reply = replies.Shares sent.shares; is = sent.is; said = sent.named }

pub returns-in-Ok-clause-untouched : goal.returns-in-Ok-clause-untouched
returns-in-Ok-clause-untouched g c = λ place other.
    let sent = c.in-Ok.ensures.ok in
    absurd (shares_or_not_yours c.put_shares.new.reply sent.shares place sent.is other)

pub returns-in-Err-Rotten-clause-untouched : goal.returns-in-Err-Rotten-clause-untouched
returns-in-Err-Rotten-clause-untouched g c = λ place other.
    absurd (rotten_or_not_yours c.write_rotten.new.out c.in-Err-Rotten.named c.in-Err-Rotten.found place c.write_rotten.ensures other)

pub returns-in-Err-Rotten-clause-value : goal.returns-in-Err-Rotten-clause-value
returns-in-Err-Rotten-clause-value g c = λ told agreed shape list sound remembers stands.
    let own = (user_view shape list c.args.user).own in
    let none : None ≡ first_lacking own c.args.fps.now = sym c.in-None.is ∙ c.first_foreign.ensures.value shape list remembers in
    absurd (rotten_at c.in-Err-Rotten.field-0 _ _ (λ (named found : Fp). ⊥) c.in-Err-Rotten.field-0-is
    (c.in-Err-Rotten.ensures.whole told shape c.args.cloud.0 list c.args.user (record { sound = sound; remembers = remembers; stands = stands }) (all_owned own c.args.fps.now none)))

pub returns-in-Err-Rotten-clause-foreign : goal.returns-in-Err-Rotten-clause-foreign
returns-in-Err-Rotten-clause-foreign g c = λ place lack.
    absurd (let e : None ≡ Some place = sym c.in-None.is ∙ c.first_foreign.ensures.kept ∙ lack in cc)

pub returns-in-Err-Failed-clause-foreign : goal.returns-in-Err-Failed-clause-foreign
returns-in-Err-Failed-clause-foreign g c = λ place lack.
    absurd (let e : None ≡ Some place = sym c.in-None.is ∙ c.first_foreign.ensures.kept ∙ lack in cc)

pub returns-in-Some-clause-hashed : goal.returns-in-Some-clause-hashed
returns-in-Some-clause-hashed g c = λ shares other. absurd (not_yours_or_shares c.write_not_yours.new.out c.in-Some.place shares c.write_not_yours.ensures other)

pub returns-in-Ok-clause-hashed : goal.returns-in-Ok-clause-hashed
returns-in-Ok-clause-hashed g c = λ shares is. all_hashed c.args.fps.now c.put_shares.new.reply shares c.in-Ok.ensures.ok is

pub returns-in-Err-Rotten-clause-hashed : goal.returns-in-Err-Rotten-clause-hashed
returns-in-Err-Rotten-clause-hashed g c = λ shares other.
    absurd (rotten_or_shares c.write_rotten.new.out c.in-Err-Rotten.named c.in-Err-Rotten.found shares c.write_rotten.ensures other)

pub returns-in-Some-clause-untouched : goal.returns-in-Some-clause-untouched
returns-in-Some-clause-untouched g c = λ place other.
    let same = one_place c.write_not_yours.new.out c.in-Some.place place c.write_not_yours.ensures other in
    (sym c.first_foreign.ensures.kept ∙ c.in-Some.is ∙ ap (λ (n : ℕ). Some n) same, refl, refl)
