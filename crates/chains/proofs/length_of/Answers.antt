-- `chains::length_of`: the head that the chain leads to, or none.
use mathlib.Core.Path.{ap, ◌∙◌}
use Prim.Native.Nat.{ℕ, ◌+◌}
use native.Mathlib.Omega.{arith}
use Rattle.arena.specs.Blocks.{blk}
use Rattle.arena.specs.Fields.{file}
use Rattle.chains.proofs.Files.{length_found, length-missing}
use Rattle.chains.proofs.length_of.Goals as goal

pub returns-then-c-eq0 : goal.returns-then-c-eq0
returns-then-c-eq0 c =
    (length-missing c.args.arena.now c.requires.fine (file c.args.which c.args.name.now) c.find-c.result c.find-c.ensures.0 c.if-c-eq0.true, omega arith)

pub returns : goal.returns
unfolding blk
returns c = (
  ap (λ (x : ℕ). x + 1) (c.index.ensures ∙ c.u32_at.ensures)
      ∙ length_found c.args.arena.now c.requires.fine (file c.args.which c.args.name.now) c.find-c.result c.find-c.ensures.0 (omega (arith, c.if-c-eq0.false)),
  omega arith,
)
