-- `calls::led::admit_arena`: the tests in turn; `sound_in` asks for no more than 4,096 blocks.
use mathlib.Core.Path.{sym, ◌∙◌}
use Rattle.arena.proofs.Blocks.{legal-is}
use Rattle.calls.proofs.Asks.{arena-illegal, arena-damaged, arena-led}
use Rattle.calls.proofs.led.admit_arena.Goals as goal

pub returns-then-not-legal : goal.returns-then-not-legal
returns-then-not-legal c = arena-illegal c.args.arena.now _ (sym c.legal.ensures ∙ c.if-not-legal.true)

pub sound_in-requires : goal.sound_in-requires
sound_in-requires c =
    let p = c.requires in record { arena_bound = ((legal-is c.args.arena.now (sym c.legal.ensures ∙ c.if-not-legal.false)).most, p.size); by_index = p.zeros }

pub returns-then-not-sound_in : goal.returns-then-not-sound_in
returns-then-not-sound_in c = arena-damaged c.args.arena.now (sym c.legal.ensures ∙ c.if-not-legal.false) _ (sym c.sound_in.ensures.value ∙ c.if-not-sound_in.true)

pub returns : goal.returns
returns c =
    let t = c.if-not-sound_in.false in
    arena-led c.args.arena.now (sym c.legal.ensures ∙ c.if-not-legal.false) c.sound_in.new.chains (c.sound_in.auto.chains ∙ c.requires.size) (sym c.sound_in.ensures.value ∙ t) (c.sound_in.ensures.chains t)
