-- `calls::settle_held`: by what the steps answered.
use mathlib.Core.Path.{refl, sym, ◌∙◌}
use Rattle.base.proofs.Tells.{done-is}
use Rattle.calls.specs.Answers.{given_of}
use Rattle.calls.proofs.settle_held.Goals as goal

pub returns-then-is_ok : goal.returns-then-is_ok
unfolding given_of
returns-then-is_ok c = rw (c.table_at-table.ensures, sym (done-is c.args.r) ∙ sym c.is_ok.ensures.value ∙ c.if-is_ok.true) refl

pub returns-else-is_ok : goal.returns-else-is_ok
unfolding given_of
returns-else-is_ok c = rw (sym (done-is c.args.r) ∙ sym c.is_ok.ensures.value ∙ c.if-is_ok.false) refl
