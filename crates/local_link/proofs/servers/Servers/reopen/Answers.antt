use Rattle.std.proofs.Common.{refl}
use Rattle.local_link.proofs.Placing.{stands_at}
use Rattle.local_link.proofs.servers.Servers.reopen.Goals as goal

pub returns : goal.returns
returns g c = (
  c.index_mut.result.now,
  c.reopen.new.self,
  record {
    here = stands_at c.args.self.now.shape c.args.self.now.list.items c.args.cloud.0 c.index_mut.result.now c.args.self.now.are_servers c.requires c.index_mut.ensures.value;
    list = refl;
    shape = refl;
  },
  record {
    same = c.reopen.ensures.same;
    opens = c.reopen.ensures.open;
    shut = c.reopen.ensures.shut;
    counts = c.reopen.ensures.counts;
    not_begun = c.reopen.ensures.not_begun;
    peer = c.reopen.ensures.peer;
    exact = c.reopen.ensures.exact;
    other_store = c.reopen.ensures.other_store;
    areas = c.reopen.ensures.areas;
    begins = c.reopen.ensures.begins;
    whole = c.reopen.ensures.whole;
    loaded = c.reopen.ensures.loaded;
    images = c.reopen.ensures.kept;
    call = c.reopen.ensures.call;
  },
)
