-- `files::store::free_if`: the two cases.
use mathlib.Core.Path.{refl}
use Rattle.files.proofs.store.free_if.Goals as goal

pub returns-then-not-yes : goal.returns-then-not-yes
returns-then-not-yes c = rw c.if-not-yes.true refl

pub returns : goal.returns
returns c = rw c.if-not-yes.false c.free.ensures
