-- `utf8::is_named`: the empty name, and any other.
use mathlib.Core.Path.{sym, ◌∙◌}
use native.Mathlib.Omega.{arith}
use borrow.Author.Rules.{rules}
use lib.Seq.{length-take-le}
use Rattle.utf8.proofs.Names.{zero_at-le, named-empty, named_other}
use Rattle.utf8.proofs.is_named.Goals as goal

pub slice_bounds-stored-end : goal.slice_bounds-stored-end
slice_bounds-stored-end c =
    sym (length-take-le _ _ (omega (arith, c.first_zero.ensures, zero_at-le c.args.s.now)))

pub returns-then-is_empty : goal.returns-then-is_empty
returns-then-is_empty c = c.equal.ensures ∙ sym (named-empty _ _ _ c.first_zero.ensures (search rules))

pub returns : goal.returns
returns c = c.equal-2.ensures ∙ sym (named_other _ _ _ c.first_zero.ensures (search rules))
