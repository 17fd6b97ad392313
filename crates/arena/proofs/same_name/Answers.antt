-- `arena::same_name`: 16 bytes are the same where both halves are the same number.
use mathlib.Core.Path.{sym, ◌∙◌, ap₂}
use lib.Dec.{eqb}
use borrow.Author.Tests.{ne_eqb}
use Rattle.arena.proofs.Fields.{name-low, name-high}
use Rattle.arena.proofs.same_name.Goals as goal

pub returns-then-u64_at : goal.returns-then-u64_at
returns-then-u64_at c =
    let low = sym c.u64_at.ensures ∙ c.if-u64_at.true ∙ c.u64_at-2.ensures in
    ap₂ eqb c.u64_at-then-u64_at.ensures c.u64_at-then-u64_at-2.ensures
    ∙ name-high c.args.part.now c.args.name.now c.requires.0 c.requires.1 (λ j. (c.type_inv.part j).fits) (λ j. (c.type_inv.name j).fits) low

pub returns-else-u64_at : goal.returns-else-u64_at
returns-else-u64_at c =
    ne_eqb _ _ c.if-u64_at.false
    ∙ name-low c.args.part.now c.args.name.now c.requires.0 (λ e. c.if-u64_at.false (c.u64_at.ensures ∙ e ∙ sym c.u64_at-2.ensures))
