-- `calls_entry::entry_in`: the questions, then the slot.
use Rattle.std.proofs.lemmas.Result.{err_from_is_err_and}
use Rattle.base.proofs.Tells.{number-ne}
use mathlib.Core.Path.{refl}
use native.Mathlib.Omega.{arith}
use lib.ListN.{length}
use Rattle.calls.proofs.Outputs.{laid_stop, laid_next}
use Rattle.calls_entry.specs.Entry.{entry_ask}
use Rattle.calls_entry.proofs.Entries.{asks-entry, entry-split, entry-fits}
use mir.Syntax.{w32}
use mir.Val.{Fits}
use borrow.Author.Rules.{rules}
use Rattle.calls_entry.proofs.entry_in.Goals as goal

pub returns-in_err-entry_ask : goal.returns-in_err-entry_ask
returns-in_err-entry_ask c =
    let p = err_from_is_err_and c.from_residual.result c.from_residual.ensures.1 in
    rw (p.1, p.2) (let s = c.args in
    rw (entry-split s.arena.now s.rec s.k (length s.out.now)) (laid_stop (entry_ask s.rec s.k (length s.out.now)) _ _ _ _ c.in_err-entry_ask.ensures (number-ne c.in_err-entry_ask.field-0.0)))

pub read_entry-requires : goal.read_entry-requires
read_entry-requires c =
    let h = entry-fits c.args.rec c.args.k (length c.args.out.now) _ c.in_ok-entry_ask.ensures refl in
    let b : Fits w32 c.args.rec.blocks = search rules in record { led = c.requires; k_bound = (omega (arith, h.0, b), h.1) }

pub returns : goal.returns
returns c =
    let s = c.args in
    rw (entry-split s.arena.now s.rec s.k (length s.out.now)) (laid_next (entry_ask s.rec s.k (length s.out.now)) _ _ (asks-entry s.rec s.k (length s.out.now)) c.in_ok-entry_ask.ensures refl c.read_entry.ensures)
