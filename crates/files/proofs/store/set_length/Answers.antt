-- `files::store::set_length`: four bytes of the head, edited.
use mathlib.Core.Path.{refl, ◌∙◌}
use lib.ListN.{replicate}
use Rattle.le.proofs.Laws.{le_put-whole}
use Rattle.le.specs.Le.{le_put}
use Rattle.files.proofs.store.set_length.Goals as goal

pub returns : goal.returns
unfolding le_put
returns c =
    rw (c.put_u32.ensures ∙ le_put-whole (replicate 4 0) 4 c.args.len refl) at c.edit.ensures
