use Rattle.std.proofs.Common.{◌≡◌, ◌≤◌, ◌+◌, ◌-◌, ℕ, List, length, take, drop, refl, sym, ◌∙◌, ap, subst, arith}
use Rattle.journal_halves.specs.Records.{IsJournalBody}
use Rattle.journal_halves.specs.Frames.{IsRecordAhead}
use Rattle.journal_halves.proofs.Taken.{record_on, body_ahead, length_ahead, part_of, window_on, length_window}
use Rattle.journal_halves.proofs.records.HalfRecords.step.Goals as goal

pub invariant_of-self : goal.invariant_of-self
invariant_of-self c =
    let self = c.args.self.now in let buffer = self.buffer.items in
    let inside : self.filled ≤ length buffer = omega (arith, self.window, self.buffer.ok.0, self.filled_in) in
    let ahead : length (take (self.filled - self.from) (drop self.from buffer)) ≡ self.filled - self.from = length_window buffer self.from self.filled inside in
    let enough = length_ahead (take (self.filled - self.from) (drop self.from buffer)) c.requires.0 c.requires.1 in
    record {
      is_half = self.is_half;
      window = self.window;
      filled_in = self.filled_in;
      from_in = omega (arith, ahead, enough, c.requires.2, self.from_in);
      body_in = omega (arith, ahead, enough, c.requires.2, self.from_in, self.filled_in);
      gate_in = omega (arith, ahead, enough, c.requires.2, self.from_in, self.ahead_in);
      ahead_in = omega (arith, self.ahead_in);
    }

pub returns-clause-found : goal.returns-clause-found
returns-clause-found c rest window =
    let self = c.args.self.now in let buffer = self.buffer.items in let from = self.from in let filled = self.filled in let len = c.args.len in
    let ahead = take (filled - from) (drop from buffer) in
    let body = c.requires.0 in let r = c.requires.1 in
    let inside : filled ≤ length buffer = omega (arith, self.window, self.buffer.ok.0, self.filled_in) in
    let long : length ahead ≡ filled - from = length_window buffer from filled inside in
    let enough : length body + 6 ≤ length ahead = length_ahead ahead body r in
    let is : take len (drop (from + 5) buffer) ≡ body =
    part_of buffer from filled 5 len (omega (arith, long, enough, c.requires.2, self.from_in)) inside ∙ ap (λ (n : ℕ). take n (drop 5 ahead)) (sym c.requires.2) ∙ body_ahead ahead body r in
    let size : length (take len (drop (from + 5) buffer)) ≡ len = ap length is ∙ c.requires.2 in
    let further : from + (len + 5) ≤ filled = omega (arith, long, enough, c.requires.2, self.from_in) in
    let on = window_on buffer rest from filled (len + 5) further (window ∙ ap (λ (n : ℕ). take n rest) long) in
    let left : length (take (filled - (from + (len + 5))) (drop (from + (len + 5)) buffer)) ≡ filled - (from + (len + 5)) = length_window buffer (from + (len + 5)) filled inside in
    let k : len + 5 ≡ 5 + length (take len (drop (from + 5) buffer)) = omega (arith, size) in (
      subst (λ (b : List ℕ). IsRecordAhead rest b) (sym is) (record_on ahead rest window body r),
      on ∙ ap (λ (n : ℕ). take n (drop (len + 5) rest)) (sym left) ∙ ap (λ (n : ℕ). take (length (take (filled - (from + (len + 5))) (drop (from + (len + 5)) buffer))) (drop n rest)) k,
    )

pub returns-clause-over : goal.returns-clause-over
returns-clause-over c =
    let self = c.args.self.now in let buffer = self.buffer.items in let from = self.from in let filled = self.filled in let len = c.args.len in
    let ahead = take (filled - from) (drop from buffer) in
    let body = c.requires.0 in let r = c.requires.1 in
    let inside : filled ≤ length buffer = omega (arith, self.window, self.buffer.ok.0, self.filled_in) in
    let long : length ahead ≡ filled - from = length_window buffer from filled inside in
    let enough : length body + 6 ≤ length ahead = length_ahead ahead body r in
    let is : take len (drop (from + 5) buffer) ≡ body =
    part_of buffer from filled 5 len (omega (arith, long, enough, c.requires.2, self.from_in)) inside ∙ ap (λ (n : ℕ). take n (drop 5 ahead)) (sym c.requires.2) ∙ body_ahead ahead body r in
    record {
      is_body = subst IsJournalBody (sym is) r.is_body;
      half = refl;
      gate = omega (arith, ap length is, c.requires.2);
      body_at = ap (λ (n : ℕ). n + 5) c.gate_at-place.ensures.value;
    }
