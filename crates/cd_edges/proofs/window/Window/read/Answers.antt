use Rattle.std.proofs.Common.{◌≡◌, ◌++◌, take, drop, length, ap, sym, ◌∙◌, arith}
use Rattle.cd_edges.specs.Held.{Held}
use Rattle.cd_edges.proofs.Windows.{Slices, given_back, read_follows, read_begins, none_follows, none_begins}
use Rattle.cd_edges.proofs.window.Window.read.Goals as goal

pub returns-in_err-count-clause-follows : goal.returns-in_err-count-clause-follows
returns-in_err-count-clause-follows g c =
    let items = c.self.inside.bytes.items in
    let new = c.read_behind.new.bytes in
    let same : length c.read_behind.new.bytes ≡ length c.self.inside.bytes.items = omega (arith, ap length c.deref_mut.ensures.value) in
    let back = given_back new items c.self.inside.bytes.len same (omega (arith, ap length c.deref_mut.ensures.value, c.deref_mut.ensures.len)) in
    let s : Slices items new (take c.self.inside.bytes.len (new ++ drop (length new) items)) c.args.self.now.ahead c.self.inside.from c.self.inside.filled = record {
      back_is = back;
      ahead_is = sym (ap (λ (h : Held). h.ahead) c.self.view_is);
      kept = c.read_behind.ensures.kept ∙ ap (take c.self.inside.filled) c.deref_mut.ensures.value;
      order = c.self.invariant.2;
      within = c.self.invariant.3;
      same = same;
    } in
    none_follows items new _ c.args.self.now.ahead c.self.inside.from c.self.inside.filled _ _ s c.in_err-count.ensures.none

pub returns-in_err-count-clause-begins : goal.returns-in_err-count-clause-begins
returns-in_err-count-clause-begins g c =
    let items = c.self.inside.bytes.items in
    let new = c.read_behind.new.bytes in
    let same : length c.read_behind.new.bytes ≡ length c.self.inside.bytes.items = omega (arith, ap length c.deref_mut.ensures.value) in
    let back = given_back new items c.self.inside.bytes.len same (omega (arith, ap length c.deref_mut.ensures.value, c.deref_mut.ensures.len)) in
    let s : Slices items new (take c.self.inside.bytes.len (new ++ drop (length new) items)) c.args.self.now.ahead c.self.inside.from c.self.inside.filled = record {
      back_is = back;
      ahead_is = sym (ap (λ (h : Held). h.ahead) c.self.view_is);
      kept = c.read_behind.ensures.kept ∙ ap (take c.self.inside.filled) c.deref_mut.ensures.value;
      order = c.self.invariant.2;
      within = c.self.invariant.3;
      same = same;
    } in
    none_begins items new _ c.args.self.now.ahead c.self.inside.from c.self.inside.filled s

pub returns-clause-follows : goal.returns-clause-follows
returns-clause-follows g c =
    let items = c.self.inside.bytes.items in
    let new = c.read_behind.new.bytes in
    let same : length c.read_behind.new.bytes ≡ length c.self.inside.bytes.items = omega (arith, ap length c.deref_mut.ensures.value) in
    let back = given_back new items c.self.inside.bytes.len same (omega (arith, ap length c.deref_mut.ensures.value, c.deref_mut.ensures.len)) in
    let s : Slices items new (take c.self.inside.bytes.len (new ++ drop (length new) items)) c.args.self.now.ahead c.self.inside.from c.self.inside.filled = record {
      back_is = back;
      ahead_is = sym (ap (λ (h : Held). h.ahead) c.self.view_is);
      kept = c.read_behind.ensures.kept ∙ ap (take c.self.inside.filled) c.deref_mut.ensures.value;
      order = c.self.invariant.2;
      within = c.self.invariant.3;
      same = same;
    } in
    read_follows items new _ c.args.self.now.ahead c.self.inside.from c.self.inside.filled c.in_ok-count.count _ _ s c.in_ok-count.ensures.got

pub returns-clause-begins : goal.returns-clause-begins
returns-clause-begins g c =
    let items = c.self.inside.bytes.items in
    let new = c.read_behind.new.bytes in
    let same : length c.read_behind.new.bytes ≡ length c.self.inside.bytes.items = omega (arith, ap length c.deref_mut.ensures.value) in
    let back = given_back new items c.self.inside.bytes.len same (omega (arith, ap length c.deref_mut.ensures.value, c.deref_mut.ensures.len)) in
    let s : Slices items new (take c.self.inside.bytes.len (new ++ drop (length new) items)) c.args.self.now.ahead c.self.inside.from c.self.inside.filled = record {
      back_is = back;
      ahead_is = sym (ap (λ (h : Held). h.ahead) c.self.view_is);
      kept = c.read_behind.ensures.kept ∙ ap (take c.self.inside.filled) c.deref_mut.ensures.value;
      order = c.self.invariant.2;
      within = c.self.invariant.3;
      same = same;
    } in
    read_begins items new _ c.args.self.now.ahead c.self.inside.from c.self.inside.filled c.in_ok-count.count s
