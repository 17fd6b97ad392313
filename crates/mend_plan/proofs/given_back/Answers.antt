-- `mend_plan::given_back`: the head of a file that goes names the file.
use mathlib.Core.Path.{◌≡◌, refl, ap, ◌∙◌}
use Prim.Native.Nat.{◌<◌}
use native.Mathlib.Omega.{arith}
use Rattle.base.specs.Count.{sum_to}
use Rattle.files_laws.specs.Laws.{own_count}
use Rattle.mending.specs.Room.{given_back_to}
use Rattle.mend_plan.proofs.Records.{ids-most}
use Rattle.mend_plan.proofs.Rooms.{blocks-most, back-yes, back-no, goes, head_in, gone-file}
use Rattle.mend_plan.proofs.given_back.Goals as goal
use Rattle.mend_plan.proofs.given_back.Goals.{then-work-id, else-work-id}

pub loop-id-init : goal.loop-id-init
unfolding given_back_to sum_to
loop-id-init c = (omega arith, refl)

pub offset_bounds-work-id : goal.offset_bounds-work-id
offset_bounds-work-id c = omega (arith, c.requires.1.0, ids-most c.args.arena.now c.requires.0)

pub bounds-work-id : goal.bounds-work-id
bounds-work-id c = omega (arith, c.requires.1.0, c.requires.1.1.size, ids-most c.args.arena.now c.requires.0)

pub overflow_add-id : goal.overflow_add-id
overflow_add-id c = omega (arith, c.requires.1.0, ids-most c.args.arena.now c.requires.0)

pub offset_bounds-work-id-then-work-id : goal.offset_bounds-work-id-then-work-id
offset_bounds-work-id-then-work-id c = omega (arith, c.requires.1.0, ids-most c.args.arena.now c.requires.0)

pub bounds-work-id-then-work-id : goal.bounds-work-id-then-work-id
bounds-work-id-then-work-id c = omega (arith, c.requires.1.0, c.requires.1.1.size, ids-most c.args.arena.now c.requires.0)

pub overflow_sub-from : goal.overflow_sub-from
overflow_sub-from c =
    (head_in c.args.arena.now c.args.work.now c.args.n c.loop-id.id c.requires.0 c.requires.1.1 (omega arith) c.if-work-id.true _ c.from.ensures).0

pub own_count-c-requires : goal.own_count-c-requires
own_count-c-requires c =
    (head_in c.args.arena.now c.args.work.now c.args.n c.loop-id.id c.requires.0 c.requires.1.1 (omega arith) c.if-work-id.true _ c.from.ensures).1

pub overflow_add-c : goal.overflow_add-c
overflow_add-c c =
    omega (arith, c.own_count-c.ensures.1, blocks-most c.args.arena.now c.requires.0, ids-most c.args.arena.now c.requires.0, c.requires.1.0, c.loop-id.invariant.0)

pub loop-id-preserved : goal.loop-id-preserved
loop-id-preserved c =
    let t : c.loop-id.id < c.args.n = omega arith in
    let a = c.args.arena.now in
    let F = c.requires.1.1 in
    let m = blocks-most a c.requires.0 in (
      elim c.if-work-id.branch [
        | then-work-id w ↦ omega (arith, w.own_count-c.ensures.1, w.c-is, m, c.loop-id.invariant.0)
        | else-work-id w ↦ omega (arith, w.c-is, c.loop-id.invariant.0)
      ],
      elim c.if-work-id.branch [
        | then-work-id w ↦
            back-yes a c.args.work.now c.args.n c.loop-id.id c.requires.0 F t c.loop-id.c c.if-work-id.c w.own_count-c.result c.loop-id.invariant.1 (goes a c.args.work.now c.args.n c.loop-id.id c.requires.0 F t w.if-work-id.true)
            (w.own_count-c.ensures.0 ∙ ap (own_count a) (gone-file a c.args.work.now c.args.n c.loop-id.id c.requires.0 F t w.if-work-id.true w.from.result w.from.ensures)) w.c-is
        | else-work-id w ↦ back-no a c.args.work.now c.args.n c.loop-id.id c.requires.0 F t c.loop-id.c c.if-work-id.c 0 c.loop-id.invariant.1 w.if-work-id.false w.c-is
      ],
    )

pub returns : goal.returns
returns c =
    let e : c.loop-id.id ≡ c.args.n = omega arith in
    c.loop-id.invariant.1 ∙ ap (given_back_to c.args.arena.now) e
