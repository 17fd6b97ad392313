-- `mend_stores::store_records`: after id turns, those of the first id records that change are stored, whichever the arena was.
use mathlib.Core.Path.{◌≡◌, refl, subst}
use Prim.Native.Nat.{ℕ}
use native.Mathlib.Omega.{arith}
use Rattle.mend_plan.proofs.Records.{can-mend}
use Rattle.mend_stores.specs.Stores.{StoredTo}
use Rattle.mend_stores.proofs.Frees.{ids-few}
use Rattle.mend_stores.proofs.Records.{stored-none, plan-changed, plan-same, stored-skip, storable, place-some, place-below, stored_more}
use Rattle.mend_stores.proofs.store_records.Goals as goal
use Rattle.mend_stores.proofs.store_records.Goals.{then-work-id-ne0+then-work-id, else-work-id-ne0, else-work-id-ne0-via-then-work-id-ne0+else-work-id, else-work-id-ne0-via-else-work-id-ne0}

pub loop-id-init : goal.loop-id-init
loop-id-init c = λ a m G. stored-none a m c.args.arena.now c.args.work.now c.args.n c.args.places.now G

pub offset_bounds-work-id : goal.offset_bounds-work-id
offset_bounds-work-id c = omega (arith, ids-few c.requires.0 c.args.n (can-mend c.requires.0 c.requires.1.1.can) c.requires.1.1.all, c.requires.1.1.fated.size)

pub bounds-work-id : goal.bounds-work-id
bounds-work-id c = omega (arith, ids-few c.requires.0 c.args.n (can-mend c.requires.0 c.requires.1.1.can) c.requires.1.1.all, c.requires.1.1.fated.size)

pub offset_bounds-work-id-then-work-id-ne0 : goal.offset_bounds-work-id-then-work-id-ne0
offset_bounds-work-id-then-work-id-ne0 c = omega (arith, ids-few c.requires.0 c.args.n (can-mend c.requires.0 c.requires.1.1.can) c.requires.1.1.all, c.requires.1.1.fated.size)

pub bounds-work-id-then-work-id-ne0 : goal.bounds-work-id-then-work-id-ne0
bounds-work-id-then-work-id-ne0 c = omega (arith, ids-few c.requires.0 c.args.n (can-mend c.requires.0 c.requires.1.1.can) c.requires.1.1.all, c.requires.1.1.fated.size)

pub offset_bounds-work-id-then-work-id : goal.offset_bounds-work-id-then-work-id
offset_bounds-work-id-then-work-id c = omega (arith, ids-few c.requires.0 c.args.n (can-mend c.requires.0 c.requires.1.1.can) c.requires.1.1.all, c.requires.1.1.fated.size)

pub bounds-work-id-then-work-id : goal.bounds-work-id-then-work-id
bounds-work-id-then-work-id c = omega (arith, ids-few c.requires.0 c.args.n (can-mend c.requires.0 c.requires.1.1.can) c.requires.1.1.all, c.requires.1.1.fated.size)

pub overflow_add-id : goal.overflow_add-id
overflow_add-id c = omega (arith, ids-few c.requires.0 c.args.n (can-mend c.requires.0 c.requires.1.1.can) c.requires.1.1.all, c.requires.1.1.fated.size)

pub offset_bounds-work-id-then-work-id-2 : goal.offset_bounds-work-id-then-work-id-2
offset_bounds-work-id-then-work-id-2 c = omega (arith, ids-few c.requires.0 c.args.n (can-mend c.requires.0 c.requires.1.1.can) c.requires.1.1.all, c.requires.1.1.fated.size)

pub bounds-work-id-then-work-id-2 : goal.bounds-work-id-then-work-id-2
bounds-work-id-then-work-id-2 c = omega (arith, ids-few c.requires.0 c.args.n (can-mend c.requires.0 c.requires.1.1.can) c.requires.1.1.all, c.requires.1.1.fated.size)

pub overflow_sub-from : goal.overflow_sub-from
overflow_sub-from c =
    let a = c.requires.0 in
    let m = c.requires.1.0 in
    let G = c.requires.1.1 in
    let S = c.loop-id.invariant a m G in
    let i = c.loop-id.id in
    let e = plan-changed a m c.args.arena.now c.args.work.now c.args.n c.args.places.now G i c.loop-id.arena c.loop-id.places c.loop-id.from S (omega arith) c.if-work-id-ne0.true c.if-work-id.true in
    place-some a m c.args.arena.now c.args.work.now c.args.n c.args.places.now G i c.loop-id.arena c.loop-id.places c.loop-id.from S (omega arith) e c.from.result c.from.ensures

pub store_record-from-requires : goal.store_record-from-requires
store_record-from-requires c =
    let a = c.requires.0 in
    let m = c.requires.1.0 in
    let G = c.requires.1.1 in
    let S = c.loop-id.invariant a m G in
    let i = c.loop-id.id in
    let e = plan-changed a m c.args.arena.now c.args.work.now c.args.n c.args.places.now G i c.loop-id.arena c.loop-id.places c.loop-id.from S (omega arith) c.if-work-id-ne0.true c.if-work-id.true in (
      storable a m c.args.arena.now c.args.work.now c.args.n c.args.places.now G i c.loop-id.arena c.loop-id.places c.loop-id.from S (omega arith) e,
      (omega (arith, ids-few a c.args.n (can-mend a G.can) G.all), place-below a m c.args.arena.now c.args.work.now c.args.n c.args.places.now G i c.loop-id.arena c.loop-id.places c.loop-id.from S (omega arith) e c.from.result c.from.ensures),
    )

pub loop-id-preserved : goal.loop-id-preserved
loop-id-preserved c =
    let i = c.loop-id.id in
    λ a m G.
    let S = c.loop-id.invariant a m G in
    elim c.if-work-id-ne0.branch [
      | then-work-id-ne0+then-work-id w ↦
          let e = plan-changed a m c.args.arena.now c.args.work.now c.args.n c.args.places.now G i c.loop-id.arena c.loop-id.places c.loop-id.from S (omega arith) w.if-work-id-ne0.true w.if-work-id.true in
          rw (w.arena-is, w.places-is, w.from-is) (stored_more a m c.args.arena.now c.args.work.now c.args.n c.args.places.now G i c.loop-id.arena c.loop-id.places c.loop-id.from S (omega arith) e w.from.result w.from.ensures _ refl _ _ _ w.store_record-from.ensures)
      | else-work-id-ne0 w ↦ rw (w.arena-is, w.places-is, w.from-is) (stored-skip a m c.args.arena.now c.args.work.now c.args.n c.args.places.now G i c.loop-id.arena c.loop-id.places c.loop-id.from S (omega arith) (plan-same a m c.args.arena.now c.args.work.now c.args.n c.args.places.now G i c.loop-id.arena c.loop-id.places c.loop-id.from S (omega arith) (λ x y. elim w.else-work-id-ne0.branch [
        | else-work-id-ne0-via-then-work-id-ne0+else-work-id v ↦ y v.if-work-id.false
        | else-work-id-ne0-via-else-work-id-ne0 v ↦ x v.if-work-id-ne0.false
      ])))
    ]

pub returns : goal.returns
returns c =
    let e : c.loop-id.id ≡ c.args.n = omega arith in
    λ a m G. subst (λ (i : ℕ). StoredTo a c.loop-id.arena m c.loop-id.places i c.loop-id.from) e (c.loop-id.invariant a m G)
