-- `calls::has_contents`: the type, and then 21.
use mathlib.Core.Path.{sym, ap, ◌∙◌}
use mathlib.Core.Bool.{Bool, not, ◌&&◌}
use lib.Dec.{eqb}
use borrow.Author.Tests.{lt-leb, le-leb}
use Rattle.calls.proofs.Asks.{ensure-done, ensure-not, contents-stop, contents-next}
use Rattle.calls.proofs.has_contents.Goals as goal

pub returns-then-rec-gt4 : goal.returns-then-rec-gt4
returns-then-rec-gt4 c = contents-stop c.args.rec (lt-leb _ _ c.if-rec-gt4.true)

pub returns-then-is_type-rec : goal.returns-then-is_type-rec
returns-then-is_type-rec c =
    contents-next c.args.rec (le-leb _ _ c.if-rec-gt4.false) (ensure-done 21 (ap (λ (b : Bool). b && not (eqb c.args.rec.kind 2)) (sym c.is_type.ensures) ∙ c.if-is_type-rec.true))

pub returns : goal.returns
returns c =
    contents-next c.args.rec (le-leb _ _ c.if-rec-gt4.false) (ensure-not 21 (ap (λ (b : Bool). b && not (eqb c.args.rec.kind 2)) (sym c.is_type.ensures) ∙ c.if-is_type-rec.false))
