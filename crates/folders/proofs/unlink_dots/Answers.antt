-- `folders::unlink_dots`: by the kind of node c.
use Rattle.sefs.specs.Folders.{unlink_folder}
use Rattle.folders.proofs.Folders.{dots-folder, dots-other}
use Rattle.folders.proofs.unlink_dots.Goals as goal

pub returns-then-kind_at-eq2 : goal.returns-then-kind_at-eq2
returns-then-kind_at-eq2 c =
    dots-folder _ _ c.args.c _ c.kind_at.result c.kind_at.ensures c.if-kind_at-eq2.true (λ t. unlink_folder t c.args.i c.args.c) c.unlink_folder.ensures

pub returns : goal.returns
returns c =
    dots-other _ c.args.c c.kind_at.result c.kind_at.ensures c.if-kind_at-eq2.false c.requires.0 (λ t. unlink_folder t c.args.i c.args.c)
