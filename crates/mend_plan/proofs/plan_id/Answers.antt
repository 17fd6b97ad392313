-- `mend_plan::plan_id`: what the first half has of the id becomes its fate.
use mathlib.Core.Path.{◌≡◌, refl, sym, ap, ◌∙◌}
use mathlib.Core.Bool.{true, false, not, ◌&&◌}
use Prim.Native.Nat.{◌+◌, ◌<◌}
use native.Mathlib.Omega.{arith}
use lib.Dec.{eqb}
use lib.ListN.{get_or, length-set}
use borrow.Author.Tests.{eq-eqb, ne_eqb}
use Rattle.base.proofs.Bools.{true-false, and_both, and-false}
use Rattle.structs.specs.declared.DiskINode.{DiskINode}
use Rattle.table.specs.declared.Table.{Table}
use Rattle.sefs.specs.Nodes.{node_file}
use Rattle.rules.specs.Image.{is_node, rec_of}
use Rattle.chains.specs.Led.{head_at}
use Rattle.mending.specs.Mendable.{rec_in}
use Rattle.mending.specs.Mend.{lost}
use Rattle.mend_plan.proofs.Records.{can-mend, ids-most}
use Rattle.mend_plan.proofs.Fates.{no_node, lost-asked, lost-fate, stays-fate, head-range, fate-put, node-put}
use Rattle.mend_plan.proofs.plan_id.Goals as goal
use Rattle.mend_plan.proofs.plan_id.Goals.{After-head_at-head, Joined-else-id-ne2, else-id-ne2-via-then-id-ne2+else-named-eq0, else-id-ne2-via-else-id-ne2}

-- ---- what is known of a node
node : (c : After-head_at-head) → is_node c.args.arena.now c.args.id ≡ true
node c = sym (c.is_node.ensures.by_index c.args.arena.now c.requires.loaded.0.1) ∙ c.if-not-is_node.false

small : (c : After-head_at-head) → c.args.id < 4096
small c = omega (arith, c.requires.loaded.1.1, ids-most c.args.arena.now c.requires.arena_value.0)

own : (c : After-head_at-head) → c.rec_of-rec.result ≡ rec_in c.args.arena.now c.args.id
own c = c.rec_of-rec.ensures ∙ ap (λ (t : Table). rec_of c.args.arena.now t c.args.id) c.requires.loaded.1.0

head : (c : After-head_at-head) → c.head_at-head.result ≡ head_at c.args.arena.now (node_file (rec_in c.args.arena.now c.args.id))
head c = c.head_at-head.ensures ∙ ap (λ (r : DiskINode). head_at c.args.arena.now (node_file r)) (own c)

told : (c : After-head_at-head) → (not (eqb c.args.id 2) && eqb (get_or c.args.work.now c.args.id 0) 0) ≡ lost c.args.arena.now c.args.id
told c = lost-asked c.args.arena.now c.args.id (node c) _ (c.requires.arena_value.1.named c.args.id (omega arith) (small c))

is-lost : (c : After-head_at-head) → (c.args.id ≡ 2 → ⊥) → get_or c.args.work.now c.args.id 0 ≡ 0 → lost c.args.arena.now c.args.id ≡ true
is-lost c d e = sym (told c) ∙ and_both (ap not (ne_eqb c.args.id 2 d)) (eq-eqb (get_or c.args.work.now c.args.id 0) 0 e)

not-both : (c : Joined-else-id-ne2) → (not (eqb c.args.id 2) && eqb (get_or c.args.work.now c.args.id 0) 0) ≡ false
not-both c =
    elim c.else-id-ne2.branch [
      | else-id-ne2-via-then-id-ne2+else-named-eq0 w ↦ rw (ne_eqb (get_or c.args.work.now c.args.id 0) 0 w.if-named-eq0.false) (and-false (not (eqb c.args.id 2)))
      | else-id-ne2-via-else-id-ne2 w ↦ rw (eq-eqb c.args.id 2 w.if-id-ne2.false) refl
    ]

pub offset_bounds-work-id : goal.offset_bounds-work-id
offset_bounds-work-id c = omega (arith, c.requires.loaded.1.1, ids-most c.args.arena.now c.requires.arena_value.0)

pub bounds-work-id : goal.bounds-work-id
bounds-work-id c = omega (arith, c.requires.loaded.1.1, c.requires.arena_value.1.size, ids-most c.args.arena.now c.requires.arena_value.0)

pub returns-then-not-is_node : goal.returns-then-not-is_node
returns-then-not-is_node c =
    let a = c.args.arena.now in
    let n : is_node a c.args.id ≡ false = sym (c.is_node.ensures.by_index a c.requires.loaded.0.1) ∙ c.if-not-is_node.true in
    fate-put a c.args.work.now c.args.id (omega (arith, c.requires.loaded.1.1, ids-most a c.requires.arena_value.0)) c.requires.arena_value.1 0 (sym (no_node a c.args.id n)) (λ y. absurd (true-false y n))

pub rec_of-rec-requires : goal.rec_of-rec-requires
rec_of-rec-requires c = record { led = c.requires.led; loaded = (c.requires.loaded.0.0, omega (arith, c.requires.loaded.1.1, ids-most c.args.arena.now c.requires.arena_value.0)) }

pub offset_bounds-work-id-2 : goal.offset_bounds-work-id-2
offset_bounds-work-id-2 c = omega (arith, c.requires.loaded.1.1, ids-most c.args.arena.now c.requires.arena_value.0)

pub bounds-work-id-2 : goal.bounds-work-id-2
bounds-work-id-2 c = omega (arith, c.requires.loaded.1.1, c.requires.arena_value.1.size, ids-most c.args.arena.now c.requires.arena_value.0)

pub overflow_cast-work : goal.overflow_cast-work
overflow_cast-work c =
    omega (arith, c.requires.led.most, (head-range c.args.arena.now (can-mend c.args.arena.now c.requires.arena_value.0) c.args.id (node (goal.at.overflow_cast-work c).After-head_at-head) c.rec_of-rec.result c.head_at-head.result (own (goal.at.overflow_cast-work c).After-head_at-head) c.head_at-head.ensures).1)

pub overflow_add-work : goal.overflow_add-work
overflow_add-work c = omega (arith, small (goal.at.overflow_add-work c).After-head_at-head)

pub offset_bounds-work-id-3 : goal.offset_bounds-work-id-3
offset_bounds-work-id-3 c = omega (arith, small (goal.at.offset_bounds-work-id-3 c).After-head_at-head)

pub bounds-work-id-3 : goal.bounds-work-id-3
bounds-work-id-3 c = omega (arith, small (goal.at.bounds-work-id-3 c).After-head_at-head, c.requires.arena_value.1.size)

pub offset_bounds-work-id-then-named-eq0 : goal.offset_bounds-work-id-then-named-eq0
offset_bounds-work-id-then-named-eq0 c = omega (arith, small (goal.at.offset_bounds-work-id-then-named-eq0 c).After-head_at-head)

pub bounds-work-id-then-named-eq0 : goal.bounds-work-id-then-named-eq0
bounds-work-id-then-named-eq0 c = omega (arith, small (goal.at.bounds-work-id-then-named-eq0 c).After-head_at-head, c.requires.arena_value.1.size, length-set c.args.work.now (4096 + c.args.id) c.head_at-head.result)

pub returns-then-named-eq0 : goal.returns-then-named-eq0
returns-then-named-eq0 c =
    node-put c.args.arena.now c.args.work.now c.args.id (small (goal.at.returns-then-named-eq0 c).After-head_at-head) c.requires.arena_value.1 _ 65535 (head (goal.at.returns-then-named-eq0 c).After-head_at-head) (sym (lost-fate c.args.arena.now c.args.id (is-lost (goal.at.returns-then-named-eq0 c).After-head_at-head c.if-id-ne2.true c.if-named-eq0.true)))

pub fate_of-requires : goal.fate_of-requires
fate_of-requires c = record { led = c.requires.led; arena_value = (c.requires.arena_value.0, (node (goal.at.fate_of-requires c).After-head_at-head, own (goal.at.fate_of-requires c).After-head_at-head)); id_value = (sym (told (goal.at.fate_of-requires c).After-head_at-head) ∙ not-both (goal.at.fate_of-requires c).Joined-else-id-ne2, (c.requires.arena_value.1.named c.args.id (omega arith) (small (goal.at.fate_of-requires c).After-head_at-head), c.head_at-head.ensures)) }

pub offset_bounds-work-id-4 : goal.offset_bounds-work-id-4
offset_bounds-work-id-4 c = omega (arith, small (goal.at.offset_bounds-work-id-4 c).After-head_at-head)

pub bounds-work-id-4 : goal.bounds-work-id-4
bounds-work-id-4 c = omega (arith, small (goal.at.bounds-work-id-4 c).After-head_at-head, c.requires.arena_value.1.size, length-set c.args.work.now (4096 + c.args.id) c.head_at-head.result)

pub returns : goal.returns
returns c =
    node-put c.args.arena.now c.args.work.now c.args.id (small (goal.at.returns c).After-head_at-head) c.requires.arena_value.1 _ c.fate_of.result (head (goal.at.returns c).After-head_at-head) (stays-fate c.args.arena.now c.args.id (sym (told (goal.at.returns c).After-head_at-head) ∙ not-both (goal.at.returns c).Joined-else-id-ne2) _ c.fate_of.ensures)
