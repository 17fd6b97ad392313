-- `sound::chain_all`: after k turns the first k blocks are in the chains.
use mathlib.Core.Path.{◌∙◌}
use Rattle.sound.proofs.Chains.{chains-none, get_or-firsts}
use Rattle.sound.proofs.chain_all.Goals as goal

pub loop-k-init : goal.loop-k-init
loop-k-init c = chains-none _ _ _ (λ h l. get_or-firsts c.unchain.new.chains h l ∙ c.unchain.ensures h l)
