-- `mend_plan::lacks`: a record has a second block where it touches two.
use mathlib.Core.Path.{sym, ap₂, ◌∙◌}
use mathlib.Core.Logic.{◌≢◌}
use Prim.Native.Nat.{ℕ, ◌+◌, ◌*◌, ◌/◌}
use native.Mathlib.Omega.{arith}
use lib.Dec.{eqb}
use lib.ListN.{get_or}
use Rattle.base.proofs.Counts.{bit_le}
use Rattle.files.specs.Store.{touched}
use Rattle.mend_plan.proofs.Rooms.{bit_of, one-or-two, second_below, lacks-one, lacks-two}
use Rattle.mend_plan.proofs.lacks.Goals as goal

pub returns-then-touched-eq1 : goal.returns-then-touched-eq1
returns-then-touched-eq1 c =
    let e = c.from-c.ensures ∙ bit_of _ in
    let l = c.requires.id_bound in
    (omega (arith, e, bit_le (eqb (get_or c.args.places.now (128 * c.args.id / 480) 0) 0)), λ a P. e ∙ lacks-one a c.args.places.now P c.args.id (omega arith) (sym c.touched.ensures ∙ c.if-touched-eq1.true))

pub bounds-places-q-2 : goal.bounds-places-q-2
bounds-places-q-2 c =
    omega (arith, c.requires.places_len, second_below c.args.id c.requires.id_bound (λ q. c.if-touched-eq1.false (c.touched.ensures ∙ q)))

pub returns : goal.returns
returns c =
    let d : touched (128 * c.args.id) 112 ≢ 1 = λ q. c.if-touched-eq1.false (c.touched.ensures ∙ q) in
    let e = c.from-c.ensures ∙ bit_of _ in
    let f = c.from.ensures ∙ bit_of _ in (
      omega (arith, e, f, bit_le (eqb (get_or c.args.places.now (128 * c.args.id / 480) 0) 0), bit_le (eqb (get_or c.args.places.now (128 * c.args.id / 480 + 1) 0) 0)),
      λ a P. ap₂ (λ (x y : ℕ). x + y) e f ∙ lacks-two a c.args.places.now P c.args.id (second_below c.args.id c.requires.id_bound d) (one-or-two c.args.id d),
    )
