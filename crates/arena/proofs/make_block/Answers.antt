-- `arena::make_block`: its five stores are the definition's.
use Rattle.arena.proofs.Fresh.{make-is}
use Rattle.arena.proofs.make_block.Goals as goal

pub returns : goal.returns
returns c =
    make-is _ _ _ c.args.name.now _ c.args.tag c.args.which c.args.number c.requires.0 c.requires.1 (c.fill.ensures.after (λ y e. e)) c.copy.ensures c.put_u32.ensures
