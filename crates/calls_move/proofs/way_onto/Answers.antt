-- `calls_move::way_onto`: whether both are one.
use mathlib.Core.Path.{refl}
use borrow.Author.Tests.{eq-eqb, ne_eqb}
use Rattle.calls_move.proofs.way_onto.Goals as goal

pub returns-then-was-new : goal.returns-then-was-new
returns-then-was-new c = rw (eq-eqb c.args.was c.args.new c.if-was-new.true) refl

pub returns : goal.returns
returns c = rw (ne_eqb c.args.was c.args.new c.if-was-new.false) refl
