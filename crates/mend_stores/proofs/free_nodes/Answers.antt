-- `mend_stores::free_nodes`: after id turns, those that go of the first id nodes are gone.
use mathlib.Core.Path.{◌≡◌, ◌∙◌, subst}
use Prim.Native.Nat.{◌<◌}
use native.Mathlib.Omega.{arith}
use Rattle.rules.specs.Image.{ids_in}
use Rattle.mending.proofs.Fates.{lost-says}
use Rattle.mend_plan.proofs.Records.{can-mend}
use Rattle.mend_stores.specs.Stores.{FreedTo}
use Rattle.mend_stores.proofs.Frees.{ids-few, plan-goes, plan-stays, freed-none, groups-same, freed-skip, frees, gone-some, gone-below, freed-more}
use Rattle.mend_stores.proofs.free_nodes.Goals as goal
use Rattle.mend_stores.proofs.free_nodes.Goals.{then-work-id, else-work-id}

pub loop-id-init : goal.loop-id-init
loop-id-init c = freed-none c.args.arena.now (can-mend c.args.arena.now c.requires.arena_value.0) c.args.mem.now c.requires.loaded.0 c.requires.loaded.1

pub offset_bounds-work-id : goal.offset_bounds-work-id
offset_bounds-work-id c = omega (arith, ids-few c.args.arena.now c.args.n (can-mend c.args.arena.now c.requires.arena_value.0) c.requires.arena_value.1.0)

pub bounds-work-id : goal.bounds-work-id
bounds-work-id c = omega (arith, ids-few c.args.arena.now c.args.n (can-mend c.args.arena.now c.requires.arena_value.0) c.requires.arena_value.1.0, c.requires.arena_value.1.1.size)

pub overflow_add-id : goal.overflow_add-id
overflow_add-id c = omega (arith, ids-few c.args.arena.now c.args.n (can-mend c.args.arena.now c.requires.arena_value.0) c.requires.arena_value.1.0)

pub offset_bounds-work-id-then-work-id : goal.offset_bounds-work-id-then-work-id
offset_bounds-work-id-then-work-id c = omega (arith, ids-few c.args.arena.now c.args.n (can-mend c.args.arena.now c.requires.arena_value.0) c.requires.arena_value.1.0)

pub bounds-work-id-then-work-id : goal.bounds-work-id-then-work-id
bounds-work-id-then-work-id c = omega (arith, ids-few c.args.arena.now c.args.n (can-mend c.args.arena.now c.requires.arena_value.0) c.requires.arena_value.1.0, c.requires.arena_value.1.1.size)

pub overflow_sub-from : goal.overflow_sub-from
overflow_sub-from c =
    let a = c.args.arena.now in
    let M = can-mend a c.requires.arena_value.0 in
    let i = c.loop-id.id in
    let e = plan-goes a c.args.work.now c.args.n i M c.requires.arena_value.1.1 (omega arith) c.if-work-id.true in
    let k = c.from.ensures ∙ c.requires.arena_value.1.1.head i (omega arith) (lost-says a i e).0 in
    gone-some a M i c.loop-id.arena c.loop-id.mem c.loop-id.invariant (omega (arith, c.requires.arena_value.1.0)) e c.from.result k

pub free_node-requires : goal.free_node-requires
free_node-requires c =
    let a = c.args.arena.now in
    let M = can-mend a c.requires.arena_value.0 in
    let i = c.loop-id.id in
    let e = plan-goes a c.args.work.now c.args.n i M c.requires.arena_value.1.1 (omega arith) c.if-work-id.true in
    let k = c.from.ensures ∙ c.requires.arena_value.1.1.head i (omega arith) (lost-says a i e).0 in
    let b : i < ids_in a = omega (arith, c.requires.arena_value.1.0) in record { k_bound = (gone-below a M i c.loop-id.arena c.loop-id.mem c.loop-id.invariant b e c.from.result k, c.loop-id.invariant.loaded); id_bound = (omega (arith, groups-same a M i c.loop-id.arena c.loop-id.mem c.loop-id.invariant (omega arith)), (frees a M i c.loop-id.arena c.loop-id.mem c.loop-id.invariant b e).room) }

pub loop-id-preserved : goal.loop-id-preserved
loop-id-preserved c =
    let a = c.args.arena.now in
    let M = can-mend a c.requires.arena_value.0 in
    let i = c.loop-id.id in
    elim c.if-work-id.branch [
      | then-work-id w ↦
          let e = plan-goes a c.args.work.now c.args.n i M c.requires.arena_value.1.1 (omega arith) w.if-work-id.true in
          let k = w.from.ensures ∙ c.requires.arena_value.1.1.head i (omega arith) (lost-says a i e).0 in
          rw (w.arena-is, w.mem-is) (freed-more a M i c.loop-id.arena c.loop-id.mem c.loop-id.invariant (omega (arith, c.requires.arena_value.1.0)) e w.from.result k _ _ w.free_node.ensures.arena_after w.free_node.ensures.mapped)
      | else-work-id w ↦ rw (w.arena-is, w.mem-is) (freed-skip a M i c.loop-id.arena c.loop-id.mem c.loop-id.invariant (plan-stays a c.args.work.now c.args.n i M c.requires.arena_value.1.1 (omega arith) w.if-work-id.false))
    ]

pub returns : goal.returns
returns c =
    let e : c.loop-id.id ≡ c.args.n = omega arith in
    subst (FreedTo c.args.arena.now c.loop-id.arena c.loop-id.mem) e c.loop-id.invariant
