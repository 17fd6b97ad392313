-- `sound::chain::is_key`: the two kinds of key.
use mathlib.Core.Path.{sym, ◌∙◌, ap}
use mathlib.Core.Bool.{Bool}
use Rattle.arena.specs.Fields.{file}
use Rattle.sound.specs.Chain.{is_key}
use Rattle.sound.proofs.chain.is_key.Goals as goal

pub returns-then-head : goal.returns-then-head
returns-then-head c =
    let a = c.args in
    c.is_head.ensures ∙ ap (λ (h : Bool). is_key h (file a.which a.name.now) a.number a.part.now) (sym c.if-head.true)

pub returns-else-head : goal.returns-else-head
returns-else-head c =
    let a = c.args in
    c.is_data.ensures ∙ ap (λ (h : Bool). is_key h (file a.which a.name.now) a.number a.part.now) (sym c.if-head.false)
