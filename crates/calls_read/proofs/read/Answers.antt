-- `calls_read::read`: memory has the table.
use mathlib.Core.Path.{◌∙◌, ap}
use lib.ListN.{length}
use Rattle.table.specs.declared.Table.{Table}
use Rattle.sefs.specs.Contents.{call_read}
use Rattle.calls.specs.Answers.{taken_of, laid}
use Rattle.calls_read.proofs.read.Goals as goal

pub returns : goal.returns
returns c =
    let s = c.args in
    let r = c.read_on.ensures in
    let e = c.put_table.ensures.0 in (
      r.0 ∙ ap (λ (u : Table). taken_of (call_read s.arena.now u s.who s.h s.place (length s.out.now))) e,
      r.1 ∙ ap (λ (u : Table). laid s.out.now (call_read s.arena.now u s.who s.h s.place (length s.out.now))) e,
    )
