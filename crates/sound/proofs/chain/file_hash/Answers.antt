-- `sound::chain::file_hash`: four words of the name, weighed; each product is below 2^61.
use mathlib.Core.Path.{◌∙◌}
use native.Mathlib.Omega.{arith}
use borrow.Author.Rules.{rules}
use Rattle.sound.specs.Chain.{file_hash}
use Rattle.sound.proofs.chain.file_hash.Goals as goal

pub returns : goal.returns
unfolding file_hash
returns c =
    let x0 = c.wide.ensures.0 ∙ c.u32_at.ensures in
    let x1 = c.wide-2.ensures.0 ∙ c.u32_at-2.ensures in
    let x2 = c.wide-3.ensures.0 ∙ c.u32_at-3.ensures in
    let x3 = c.wide-4.ensures.0 ∙ c.u32_at-4.ensures in
    (omega (arith, x0, x1, x2, x3), search rules)
