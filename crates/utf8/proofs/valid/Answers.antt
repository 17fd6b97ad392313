-- `utf8::valid`: what is left to read, read from where the loop stands, gives what all of it gives from the start.
use native.Mathlib.Omega.{arith}
use mathlib.Core.Path.{sym, ap, ◌∙◌}
use Rattle.utf8.specs.Utf8.{is_whole, utf8}
use Rattle.utf8.proofs.Grammar.{after_more, after-all}
use Rattle.utf8.proofs.valid.Goals as goal

pub loop-b-preserved : goal.loop-b-preserved
loop-b-preserved c =
    rw c.step-at.ensures (sym (after_more c.loop-b.at c.args.s.now c.loop-b.b-index (omega arith)) ∙ c.loop-b.invariant)

pub returns : goal.returns
unfolding utf8
returns c =
    c.is_whole.ensures ∙ ap is_whole (sym (after-all c.loop-b.at c.args.s.now c.loop-b.b-index (omega arith)) ∙ c.loop-b.invariant)
