-- `calls::admitted`: the chains' place is zero, and they are dropped.
use Rattle.base.proofs.Outs.{went-weaken}
use Rattle.calls.proofs.Asks.{blank}
use Rattle.calls.proofs.admitted.Goals as goal

pub admit-requires : goal.admit-requires
admit-requires c = (blank, c.requires)

pub returns : goal.returns
returns c = went-weaken (λ p. tt) c.admit.ensures
