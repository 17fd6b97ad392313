-- `calls_path::path`: memory has the table.
use mathlib.Core.Path.{◌∙◌, ap}
use lib.ListN.{length}
use Rattle.table.specs.declared.Table.{Table}
use Rattle.paths.specs.Path.{call_path}
use Rattle.calls.specs.Answers.{taken_of, laid}
use Rattle.calls_path.proofs.path.Goals as goal

pub returns : goal.returns
returns c =
    let s = c.args in
    let r = c.path_on.ensures.lays in
    let e = c.put_table.ensures.0 in (
      r.0 ∙ ap (λ (u : Table). taken_of (call_path s.arena.now u s.who s.h (length s.out.now))) e,
      r.1 ∙ ap (λ (u : Table). laid s.out.now (call_path s.arena.now u s.who s.h (length s.out.now))) e,
    )
