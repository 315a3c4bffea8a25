use Rattle.std.proofs.Common.{◌≡◌, ◌++◌, take}
use Rattle.std.specs.List.{flat_map}
use Rattle.message_fields.specs.Shares.{share_bytes}
use Rattle.messages.proofs.request_writing.put_each_share.Given as goal

abbrev pub invariant-loop-share : goal.invariant-loop-share
invariant-loop-share l = l.out ≡ l.fn.out ++ flat_map share_bytes (take l.share-index l.shares)
