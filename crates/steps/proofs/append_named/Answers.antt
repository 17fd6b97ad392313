-- `steps::append_named`: the slot that was made is the one that is appended.
use Rattle.folders.proofs.Folders.{id-of}
use Rattle.steps.proofs.Steps.{appended}
use borrow.Author.Rules.{rules}
use Rattle.steps.proofs.append_named.Goals as goal

pub returns : goal.returns
returns c =
    appended _ _ _ c.args.i c.args.c _ c.args.kind (λ j. search rules) c.requires.1.1.1.1 (search rules) (search rules) c.put_entry.ensures (id-of _ _ _ c.args.c _ c.id_at.ensures) c.dirent_append.ensures
