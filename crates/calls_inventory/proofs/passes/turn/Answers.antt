-- `calls_inventory::passes::turn`: the line of a slot; at root's end nothing is left; else up.
use native.Mathlib.Omega.{arith}
use Rattle.calls_inventory.proofs.Stands.{root_ends}
use Rattle.calls_inventory.proofs.Turns.{up-turned, end-turned}
use Rattle.calls_inventory.proofs.passes.turn.Goals as goal

pub line-requires : goal.line-requires
line-requires c = record { led = c.requires.led; empty_table_value = c.requires.empty_table_value; under = (c.requires.under, omega (arith, c.if-p-index.true, c.index.ensures)) }

pub returns-then-p-eq-ROOT : goal.returns-then-p-eq-ROOT
returns-then-p-eq-ROOT c =
    λ o m.
    end-turned c.args.arena.now c.args.write o c.args.out.now c.args.s m
    (root_ends c.args.arena.now c.args.s.place m.path m.rest c.requires.empty_table_value.0 m.stands (omega (arith, c.if-p-index.false, c.index.ensures)) c.if-p-eq-ROOT.true)
    c.stopped.result
    c.stopped.ensures

pub go_up-requires : goal.go_up-requires
go_up-requires c =
    let m = c.requires.under.midst in record { led = c.requires.led; empty_table_value = c.requires.empty_table_value; somewhere = (record { path = m.path; rest = m.rest; stands = m.stands }, (omega (arith, c.if-p-index.false, c.index.ensures), c.if-p-eq-ROOT.false)) }

pub returns : goal.returns
returns c =
    λ o m. up-turned c.args.arena.now c.args.write o c.args.out.now c.args.s m c.go_up.result (c.go_up.ensures m.path m.rest m.stands) c.moved.result c.moved.ensures
