use Rattle.std.proofs.Common.{ℕ, ◌≤◌, List, ◌++◌, ◌∷◌, [], take, length, sym, ap, ◌∙◌, arith, append-nil, append_assoc, length-append, length-take}
use Rattle.std.proofs.lemmas.Option.{slice_get_within}
use Rattle.std.proofs.lemmas.List.{take_all, length-map, map_push}
use Rattle.cloud_memory.specs.CdBase.ids.Fp.{Fp}
use Rattle.cloud_memory.specs.Rooms.{memory_of}
use Rattle.server_reads.specs.Owned.{owned_flag, owned_flags}
use Rattle.server_reads.proofs.Marks.{one_more}
use Rattle.server_reads.proofs.owning.put_marks.Goals as goal

pub loop-place-init : goal.loop-place-init
loop-place-init c = sym (append-nil c.args.reply.now)

pub put-requires : goal.put-requires
put-requires c =
    let fps = c.args.fps.now in
    let place = c.loop-place.place in
    let flag = owned_flag (memory_of c.args.memory.now) c.args.user in
    omega (
      arith,
      ap length c.loop-place.invariant,
      length-map (take place fps) flag,
      slice_get_within fps place c.fp_at-fp.result c.fp_at-fp.ensures,
      length-append c.args.reply.now (owned_flags (memory_of c.args.memory.now) c.args.user (take place fps)),
      length-take place fps,
    )

pub loop-place-preserved : goal.loop-place-preserved
loop-place-preserved c =
    let fps = c.args.fps.now in
    let place = c.loop-place.place in
    let fp = c.fp_at-fp.result in
    let flag = owned_flag (memory_of c.args.memory.now) c.args.user in
    let so_far = owned_flags (memory_of c.args.memory.now) c.args.user (take place fps) in
    c.put.ensures ∙ ap (λ (l : List ℕ). l ++ c.mark_of.result ∷ []) c.loop-place.invariant ∙ append_assoc c.args.reply.now so_far (c.mark_of.result ∷ [])
    ∙ ap (λ (k : ℕ). c.args.reply.now ++ (so_far ++ k ∷ [])) c.mark_of.ensures
    ∙ ap (λ (l : List ℕ). c.args.reply.now ++ l) (sym (map_push flag (take place fps) fp))
    ∙ ap (λ (l : List Fp). c.args.reply.now ++ owned_flags (memory_of c.args.memory.now) c.args.user l) (sym (one_more fps place fp c.fp_at-fp.ensures))

pub returns : goal.returns
returns c =
    let fps = c.args.fps.now in
    let past : length fps ≤ c.loop-place.place = omega arith in
    c.loop-place.invariant ∙ ap (λ (l : List Fp). c.args.reply.now ++ owned_flags (memory_of c.args.memory.now) c.args.user l) (take_all c.loop-place.place fps past)
