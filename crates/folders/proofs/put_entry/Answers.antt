-- `folders::put_entry`: three fields, one after another.
use Rattle.folders.proofs.Entries.{entry-laid}
use mathlib.Core.Path.{refl}
use Rattle.folders.proofs.put_entry.Goals as goal

pub returns : goal.returns
returns c =
    entry-laid _ _ _ _ _ c.args.id c.args.kind c.args.name.now c.requires.0 c.requires.1 c.put_u32.ensures c.put_name.ensures refl c.put_u32-2.ensures
