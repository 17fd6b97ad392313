-- `fsck_slots::has_name`: names of different hashes differ; others are compared.
use mathlib.Core.Path.{◌∙◌}
use Rattle.fsck_slots.proofs.Names.{bears-not, bears-same}
use Rattle.fsck_slots.proofs.has_name.Goals as goal

pub returns-then-can_be : goal.returns-then-can_be
returns-then-can_be c =
    bears-same c.args.arena.now c.args.name.now c.args.rec c.args.j c.same_name.result c.same_name.ensures

pub returns-else-can_be : goal.returns-else-can_be
returns-else-can_be c =
    c.if-can_be.false ∙ bears-not c.args.arena.now c.args.name.now c.args.rec c.args.j c.args.hashes.now c.args.h c.can_be.result c.requires.j_bound.1.1 c.requires.j_bound.1.0 c.can_be.ensures c.if-can_be.false
