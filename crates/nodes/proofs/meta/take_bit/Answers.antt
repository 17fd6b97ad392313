-- `nodes::meta::take_bit`: the search finds the bit that there is.
use mathlib.Core.Path.{◌∙◌, sym}
use native.Mathlib.Omega.{arith}
use Rattle.nodes.proofs.Ids.{first-at, first-over}
use Rattle.nodes.proofs.meta.take_bit.Goals as goal

pub take_bit_at-requires : goal.take_bit_at-requires
take_bit_at-requires c =
    let f = first-at c.args.mem.now c.in-Some.i (sym c.first_bit-f.ensures ∙ c.in-Some.is) in record { whole = c.requires.whole; i_value = f }

pub returns-in-None : goal.returns-in-None
returns-in-None c = λ a w. absurd (omega (arith, first-over c.args.mem.now (sym c.first_bit-f.ensures ∙ c.in-None.is), c.requires.mem_bound))
