-- `nodes::is_new`: the definition's two tests.
use mathlib.Core.Path.{◌∙◌, sym}
use borrow.Author.Tests.{eq-eqb, ne_eqb}
use Rattle.nodes.proofs.is_new.Goals as goal

pub returns-then-id-eq0 : goal.returns-then-id-eq0
returns-then-id-eq0 c = rw (eq-eqb c.args.id 0 c.if-id-eq0.true)

pub returns-in-Some : goal.returns-in-Some
returns-in-Some c = rw (ne_eqb c.args.id 0 c.if-id-eq0.false, sym c.find_row-f.ensures ∙ c.in-Some.is)

pub returns-in-None : goal.returns-in-None
returns-in-None c = rw (ne_eqb c.args.id 0 c.if-id-eq0.false, sym c.find_row-f.ensures ∙ c.in-None.is)
