-- `owners_kept::close_kept`: a row that stores nothing leaves the arena as it was.
use mathlib.Core.Path.{sym, ◌∙◌, subst}
use mathlib.Core.List.{List}
use Prim.Native.Nat.{ℕ}
use Rattle.owners_kept.specs.Owned.{Chained}
use Rattle.owners_kept.proofs.Laws.{as_many, rechained, close-same}
use Rattle.owners_kept.proofs.close_kept.Goals as goal

pub chain_all-requires : goal.chain_all-requires
chain_all-requires c =
    (as_many c.args.arena.now c.close_row-r.new.arena c.requires.1.0 c.close_row-r.auto.arena, c.requires.0.size)

pub returns-then-again : goal.returns-then-again
returns-then-again c = record { ended = c.close_row-r.ensures; chained = rechained c.requires.0 c.chain_all.auto.chains c.chain_all.ensures }

pub returns-else-again : goal.returns-else-again
returns-else-again c =
    let e = close-same c.args.arena.now c.close_row-r.new.arena c.args.mem.now c.args.last c.args.i (sym c.stores-again.ensures ∙ c.if-again.false) c.close_row-r.ensures in record { ended = c.close_row-r.ensures; chained = subst (λ (b : List ℕ). Chained b c.args.chains.now) (sym e) c.requires.0 }
