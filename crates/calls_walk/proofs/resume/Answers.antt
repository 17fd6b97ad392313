-- `calls_walk::resume`: by the rests that are left.
use mathlib.Core.Path.{refl}
use Rattle.calls_walk.proofs.resume.Goals as goal

pub returns-then-g-eq0 : goal.returns-then-g-eq0
returns-then-g-eq0 c = (λ _. refl, λ n. absurd (n c.if-g-eq0.true))

pub returns : goal.returns
returns c = (λ z. absurd (c.if-g-eq0.false z), λ _. refl)
