-- `births::birth`: by the kind.
use Rattle.folders.proofs.Folders.{id-of}
use Rattle.births.proofs.Births.{birth-folder, birth-still}
use Rattle.births.proofs.birth.Goals as goal

pub returns-then-kind-eq2 : goal.returns-then-kind-eq2
returns-then-kind-eq2 c =
    birth-folder _ c.args.i c.args.c c.args.kind c.if-kind-eq2.true (id-of _ _ _ c.args.i _ c.id_at-parent.ensures) c.dirent_init.ensures

pub returns : goal.returns
returns c =
    birth-still _ _ _ c.args.i c.args.c c.args.kind c.requires.0 c.if-kind-eq2.false
