-- `mend_plan::due_links`: a folder has few subfolders.
use mathlib.Core.Path.{refl, ap}
use Prim.Native.Nat.{ℕ, ◌+◌}
use native.Mathlib.Omega.{arith}
use borrow.Author.Tests.{eq-eqb, ne_eqb}
use Rattle.mend_plan.proofs.due_links.Goals as goal

pub subfolders-requires : goal.subfolders-requires
subfolders-requires c = c.requires.led

pub overflow_add-result : goal.overflow_add-result
overflow_add-result c =
    omega (arith, c.subfolders.ensures, c.requires.rec_bound (eq-eqb c.args.rec.kind 2 c.if-rec-eq2.true))

pub overflow_cast-result : goal.overflow_cast-result
overflow_cast-result c =
    omega (arith, c.subfolders.ensures, c.requires.rec_bound (eq-eqb c.args.rec.kind 2 c.if-rec-eq2.true))

pub returns-then-rec-eq2 : goal.returns-then-rec-eq2
returns-then-rec-eq2 c = rw (eq-eqb c.args.rec.kind 2 c.if-rec-eq2.true) (ap (λ (x : ℕ). 2 + x) c.subfolders.ensures)

pub returns : goal.returns
returns c = rw (ne_eqb c.args.rec.kind 2 c.if-rec-eq2.false) refl
