-- `files::store::put`: the definition's cases.
use native.Mathlib.Omega.{arith}
use Rattle.arena.specs.Fields.{file}
use Rattle.files.proofs.Finds.{there-yes, there-no}
use Rattle.files.proofs.Puts.{did-missing, did-long, did-put}
use Rattle.files.proofs.store.put.Goals as goal

pub returns-then-k-arena : goal.returns-then-k-arena
returns-then-k-arena c =
    did-missing _ _ _ (file c.args.which c.args.name.now) c.args.pos c.args.src.now (there-no _ _ c.requires.fine.0 (file c.args.which c.args.name.now) _ c.find_head-k.ensures c.if-k-arena.true)

pub returns-then-pos-src : goal.returns-then-pos-src
returns-then-pos-src c =
    did-long _ _ _ (file c.args.which c.args.name.now) c.args.pos c.args.src.now (there-yes _ _ c.requires.fine.0 (file c.args.which c.args.name.now) _ c.find_head-k.ensures c.if-k-arena.false) (omega arith)

pub put_at-requires : goal.put_at-requires
put_at-requires c = record { fine = c.requires.fine; name_len = (c.requires.name_len.0, (omega arith, c.requires.name_len.1)); k_value = (c.find_head-k.ensures, c.if-k-arena.false) }

pub returns : goal.returns
returns c =
    did-put _ _ _ (file c.args.which c.args.name.now) c.args.pos c.args.src.now (there-yes _ _ c.requires.fine.0 (file c.args.which c.args.name.now) _ c.find_head-k.ensures c.if-k-arena.false) (omega arith) c.put_at.ensures
