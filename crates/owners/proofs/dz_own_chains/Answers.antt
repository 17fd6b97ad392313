-- `owners::dz_own_chains`: 255 or 1 where a size is wrong; else the chains of all blocks.
use mathlib.Core.Path.{sym, ◌∙◌}
use Rattle.arena.proofs.Blocks.{legal-is}
use Rattle.owners.proofs.Laws.{built-size, built-not, built}
use Rattle.owners.proofs.dz_own_chains.Goals as goal

pub returns-then-chains-ne-CHAINS : goal.returns-then-chains-ne-CHAINS
returns-then-chains-ne-CHAINS c = built-size c.args.arena.now c.args.chains.now c.if-chains-ne-CHAINS.true

pub returns-then-not-legal : goal.returns-then-not-legal
returns-then-not-legal c =
    built-not c.args.arena.now c.args.chains.now c.if-chains-ne-CHAINS.false (sym c.legal.ensures ∙ c.if-not-legal.true)

pub chain_all-requires : goal.chain_all-requires
chain_all-requires c =
    ((legal-is c.args.arena.now (sym c.legal.ensures ∙ c.if-not-legal.false)).most, c.if-chains-ne-CHAINS.false)

pub returns : goal.returns
returns c =
    built c.args.arena.now c.args.chains.now c.chain_all.new.chains c.if-chains-ne-CHAINS.false (sym c.legal.ensures ∙ c.if-not-legal.false) c.chain_all.auto.chains c.chain_all.ensures
