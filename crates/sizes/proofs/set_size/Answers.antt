-- `sizes::set_size`: the file is cut, and the row has the size.
use mathlib.Core.Path.{sym, ap, ◌∙◌}
use Rattle.structs.specs.declared.DiskINode.{DiskINode}
use Rattle.arena.specs.Places.{head_of}
use Rattle.files.specs.Read.{there}
use Rattle.sefs.specs.Nodes.{node_file}
use Rattle.sizes.proofs.Sizes.{size-set}
use Rattle.sizes.proofs.set_size.Goals as goal

pub cut-requires : goal.cut-requires
cut-requires c =
    let R = c.requires.1 in
    let e = sym c.rec_at-rec.ensures in
    (R.fine, (R.head ∙ ap (λ (r : DiskINode). head_of c.args.arena.now (node_file r)) e, (ap (λ (r : DiskINode). there c.args.arena.now (node_file r)) (sym e) ∙ R.exists, R.range)))

pub returns : goal.returns
returns c =
    size-set c.args.arena.now _ c.args.mem.now _ c.args.i c.args.n _ c.rec_at-rec.ensures c.cut.ensures c.set_rec.ensures
