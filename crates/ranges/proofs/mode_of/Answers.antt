-- `ranges::mode_of`: the definition's tests, in its order.
use borrow.Author.Tests.{ne_eqb}
use mathlib.Core.Path.{refl}
use Rattle.ranges.proofs.mode_of.Goals as goal

pub returns-then-mode-eq0 : goal.returns-then-mode-eq0
returns-then-mode-eq0 c = rw c.if-mode-eq0.true refl

pub returns-then-mode-eq1 : goal.returns-then-mode-eq1
returns-then-mode-eq1 c = rw c.if-mode-eq1.true refl

pub returns-then-mode-eq2 : goal.returns-then-mode-eq2
returns-then-mode-eq2 c = rw c.if-mode-eq2.true refl

pub returns-then-mode-eq3 : goal.returns-then-mode-eq3
returns-then-mode-eq3 c = rw c.if-mode-eq3.true refl

pub returns-then-mode-eq4 : goal.returns-then-mode-eq4
returns-then-mode-eq4 c = rw c.if-mode-eq4.true refl

pub returns-then-mode-eq5 : goal.returns-then-mode-eq5
returns-then-mode-eq5 c = rw c.if-mode-eq5.true refl

pub returns : goal.returns
returns c =
    rw (
      ne_eqb _ 0 c.if-mode-eq0.false,
      ne_eqb _ 1 c.if-mode-eq1.false,
      ne_eqb _ 2 c.if-mode-eq2.false,
      ne_eqb _ 3 c.if-mode-eq3.false,
      ne_eqb _ 4 c.if-mode-eq4.false,
      ne_eqb _ 5 c.if-mode-eq5.false,
    )
    refl
