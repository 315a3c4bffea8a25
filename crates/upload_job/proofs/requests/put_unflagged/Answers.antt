use Rattle.std.proofs.Common.{◌≡◌, ℕ, ◌<◌, List, length, refl, sym, arith, get_or, []}
use Rattle.std.proofs.lemmas.List.{get_or-map, length-map}
use Rattle.upload_job.specs.declared.wanted.WantedShare.{WantedShare}
use Rattle.upload_job.specs.Index.{share_in, shares_in}
use Rattle.upload_job.proofs.Sending.{sent_more, sent_all}
use Rattle.upload_job.proofs.requests.put_unflagged.Goals as goal

pub loop-i-preserved : goal.loop-i-preserved
loop-i-preserved c =
    let ss : List (List ℕ) = shares_in c.args.shares.now c.args.batch.now in
    let none : WantedShare = record { fp = record { 0 = [] }; start = 0; end = 0 } in
    let len : length ss ≡ length c.args.batch.now = length-map c.args.batch.now (share_in c.args.shares.now) in
    let within : c.loop-i.i < length c.args.batch.now = omega arith in
    let at : get_or ss c.loop-i.i [] ≡ share_in c.args.shares.now (get_or c.args.batch.now c.loop-i.i none) = get_or-map (share_in c.args.shares.now) c.args.batch.now c.loop-i.i none [] within in
    sent_more c.args.out.now c.loop-i.out c.put_if_lacking.new.out ss c.args.flags.now c.loop-i.i (share_in c.args.shares.now (get_or c.args.batch.now c.loop-i.i none)) (get_or c.args.flags.now c.loop-i.i 0)
    (omega arith) (omega arith) (sym at) refl c.loop-i.invariant c.in_ok-put_if_lacking.ensures

pub returns : goal.returns
returns c =
    let len : length (shares_in c.args.shares.now c.args.batch.now) ≡ length c.args.batch.now = length-map c.args.batch.now (share_in c.args.shares.now) in
    sent_all c.args.out.now c.loop-i.out (shares_in c.args.shares.now c.args.batch.now) c.args.flags.now c.loop-i.i (omega arith) c.loop-i.invariant
