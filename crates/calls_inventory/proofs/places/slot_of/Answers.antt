-- `calls_inventory::places::slot_of`: no slot before the one that it stops at names the id.
use mathlib.Core.Path.{◌≡◌, refl, sym, ap, ◌∙◌}
use mathlib.Core.Logic.{⊎_elim}
use Prim.Native.Nat.{ℕ, ◌≤◌}
use native.Mathlib.Omega.{arith}
use native.Mathlib.Nat.{eq-or-lt_of_le}
use Rattle.rules.specs.Image.{slot_in}
use Rattle.calls_inventory.proofs.places.slot_of.Goals as goal

pub loop-k-init : goal.loop-k-init
loop-k-init c = λ r e j x y q. omega (arith, x, y)

pub returns-then-id_in-id : goal.returns-then-id_in-id
returns-then-id_in-id c =
    λ k o. o.only c.loop-k.k c.loop-k.auto.k (omega arith) (sym (c.id_in.ensures c.args.rec refl) ∙ c.if-id_in-id.true)

pub loop-k-preserved : goal.loop-k-preserved
loop-k-preserved c =
    λ r e j x y q.
    ⊎_elim
    (λ (z : j ≡ c.loop-k.k). c.if-id_in-id.false (c.id_in.ensures r e ∙ sym (ap (λ (i : ℕ). (slot_in c.args.arena.now r i).id) z) ∙ q))
    (λ z. c.loop-k.invariant r e j x z q)
    (eq-or-lt_of_le (let z : j ≤ c.loop-k.k = omega (arith, y) in z))

pub returns : goal.returns
returns c =
    λ k o. absurd (c.loop-k.invariant c.args.rec refl k o.later (omega (arith, o.inside)) o.names)
