-- `owners_contents::dz_own_get_entry`: the call by the chains, on the table in memory.
use mathlib.Core.Path.{sym, ◌∙◌}
use lib.ListN.{length}
use Rattle.sefs.specs.Read.{call_entry}
use Rattle.calls.proofs.Answers.{told-code}
use Rattle.sound.proofs.Chains.{length-firsts}
use Rattle.owners_kept.proofs.Laws.{admitted}
use Rattle.owners_contents.proofs.Laws.{own-laid}
use Rattle.owners_contents.proofs.dz_own_get_entry.Goals as goal

pub slice_bounds-entry_led-end : goal.slice_bounds-entry_led-end
slice_bounds-entry_led-end c = sym (length-firsts c.args.chains.now c.requires.chained.size)

pub entry_led-r-requires : goal.entry_led-r-requires
entry_led-r-requires c = admitted c.requires c.begin.ensures.0 c.begin.ensures.1

pub returns : goal.returns
returns c =
    rw (c.number.ensures ∙ told-code _) (own-laid (λ x. call_entry c.args.arena.now (sym c.begin.ensures.0 x) c.args.owner (sym c.handle.ensures x) c.args.slot (length c.args.out.now)) c.entry_led-r.ensures)
