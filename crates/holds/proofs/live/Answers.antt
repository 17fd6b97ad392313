-- `holds::live`: the tests in turn.
use mathlib.Core.Path.{sym, ap, ◌∙◌}
use mathlib.Core.Bool.{not, ◌&&◌}
use lib.Dec.{eqb}
use Rattle.table.specs.declared.Hold.{Hold}
use Rattle.table.proofs.Holds.{live-found, live-not, live-past}
use Rattle.holds.proofs.live.Goals as goal

pub returns-then-n-ge32 : goal.returns-then-n-ge32
returns-then-n-ge32 c = live-past _ _ _ _ c.index-n.ensures c.if-n-ge32.true

pub returns-then-h-held : goal.returns-then-h-held
returns-then-h-held c =
    let e = c.hold_at-held.ensures in
    c.found_below.ensures
    ∙ live-found _ c.args.who c.args.h _ _ c.index-n.ensures c.if-n-ge32.false
    (ap (λ (k : Hold). (not (eqb c.args.h.stamp 0) && eqb k.stamp c.args.h.stamp) && eqb k.owner c.args.who) (sym e) ∙ c.if-h-held.true)
    (c.index.ensures ∙ ap (λ (k : Hold). k.row) e)

pub returns : goal.returns
returns c =
    live-not _ c.args.who c.args.h _ c.index-n.ensures c.if-n-ge32.false
    (ap (λ (k : Hold). (not (eqb c.args.h.stamp 0) && eqb k.stamp c.args.h.stamp) && eqb k.owner c.args.who) (sym c.hold_at-held.ensures) ∙ c.if-h-held.false)
