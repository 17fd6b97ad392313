-- `holds::add_hold`: the cases of its definition; the hold that was found is one of the 32.
use mathlib.Core.Path.{◌≡◌, sym, ◌∙◌}
use mathlib.Core.Bool.{true}
use Rattle.std.specs.Prelude.{Some, None}
use Rattle.table.specs.Table.{can_hold, free_hold}
use Rattle.table.proofs.Holds.{hold-below, can-next, add-full, add-found}
use Rattle.mem.specs.Mem.{table_in}
use Rattle.holds.proofs.add_hold.Goals as goal
use Rattle.holds.proofs.add_hold.Goals.{Else-not-can_hold, In-Some}

can : (c : Else-not-can_hold) → can_hold (table_in c.args.mem.now) c.args.who ≡ true
can c = sym c.can_hold.ensures ∙ c.if-not-can_hold.false

found : (c : In-Some) → free_hold (table_in c.args.mem.now) ≡ Some c.in-Some.n
found c = sym c.find_hold-f.ensures ∙ c.in-Some.is

pub returns-then-not-can_hold : goal.returns-then-not-can_hold
returns-then-not-can_hold c = sym (add-full _ _ _ (sym c.can_hold.ensures ∙ c.if-not-can_hold.true))

pub give_hold-requires : goal.give_hold-requires
give_hold-requires c =
    (c.requires, (hold-below _ _ _ (found (goal.at.give_hold-requires c).In-Some), can-next _ _ (can (goal.at.give_hold-requires c).Else-not-can_hold)))

pub returns-in-Some : goal.returns-in-Some
returns-in-Some c =
    sym (add-found _ _ _ (Some c.in-Some.n) (can (goal.at.returns-in-Some c).Else-not-can_hold) (found (goal.at.returns-in-Some c).In-Some)) ∙ c.give_hold.ensures

pub returns-in-None : goal.returns-in-None
returns-in-None c =
    sym (add-found _ _ _ None (can (goal.at.returns-in-None c).Else-not-can_hold) (sym c.find_hold-f.ensures ∙ c.in-None.is))
