use Rattle.std.proofs.Common.{ℕ, ◌≤◌, List, length, take, sym, ap, ◌∙◌, subst, arith}
use Rattle.cloud_memory.specs.CdBase.ids.Tag.{Tag}
use Rattle.cloud_memory.specs.CdBase.ids.Version.{Version}
use Rattle.messages.specs.MessageFields.Keys.{AreKeys}
use Rattle.messages.specs.declared.reply.Reply.TheVariants as replies
use Rattle.messages.specs.Replies.{reply_bytes}
use Rattle.cloud_memory.specs.UserDedup.Cloud.{user_view}
use Rattle.cloud_memory.specs.Memory.{keys_above}
use Rattle.server_reads.proofs.Keys.{keys_rise, keys_from_none}
use Rattle.server_reads.proofs.listing.put_keys.Goals as goal

pub returns-clause-value : goal.returns-clause-value
returns-clause-value c = λ shape cloud list is.
    c.write_entries.ensures ∙ ap (λ (l : List (Tag × Version)). reply_bytes (replies.Entries l))
    (c.split_at.ensures.front ∙ c.fill-count.ensures.value shape list is
    ∙ ap (λ (n : ℕ). take n (keys_above (user_view shape list c.args.user).files c.args.after)) c.requires)

pub returns-clause-kind : goal.returns-clause-kind
returns-clause-kind c =
    let page = c.split_at.result.0.now in
    let front = c.split_at.ensures.front in
    let keys : AreKeys c.args.after page = subst (AreKeys c.args.after) (sym front) c.fill-count.ensures.rising in
    let count = c.fill-count.ensures.count in
    let few : length page ≤ 256 = omega (arith, ap length front, c.split_at.ensures.front_len, c.requires) in
    record {
      reply = replies.Entries page;
      is = record { fits = (few, keys_from_none c.args.after page keys); spelled = c.write_entries.ensures };
      said = keys_rise c.args.after page keys;
    }
