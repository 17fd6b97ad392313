-- `maps::lowest_set`: no bit that was passed is set, in each of the three loops; the search is left at the first that is, or past the last group.
use Prim.Native.Nat.{ℕ, ◌+◌, ◌*◌}
use mathlib.Core.Path.{◌≡◌, sym, ap, ◌∙◌}
use native.Mathlib.Omega.{arith}
use Rattle.base.specs.Search.{lowest, found_below}
use Rattle.base.proofs.Searches.{lowest-here, lowest-none}
use Rattle.maps.specs.Maps.{bit_at}
use Rattle.maps.proofs.Bits.{clear-upto, clear-more, bit_at-place}
use Rattle.maps.proofs.lowest_set.Goals as goal
use Rattle.maps.proofs.lowest_set.Goals.{then-loop-group-test+then-loop-byte-test+then-loop-k-test+then-bit_of, else-loop-group-test}

pub loop-k-preserved : goal.loop-k-preserved
loop-k-preserved c =
    clear-more c.args.maps.now c.loop-group.group c.loop-byte.byte c.loop-k.k c.loop-k-test.true (sym c.bit_of.ensures ∙ c.if-bit_of.false) c.loop-k.invariant

pub returns : goal.returns
returns c =
    let m = c.args.maps.now in
    let n = 1024 * c.args.groups in
    let g = c.loop-group.group in
    let found : c.loop-group-test.id ≡ lowest (bit_at m) n =
    elim c.loop-group-test.branch [
      | then-loop-group-test+then-loop-byte-test+then-loop-k-test+then-bit_of w ↦ w.id-is
          ∙ lowest-here (bit_at m) n (1024 * g + 8 * w.loop-byte.byte + w.loop-k.k) (omega arith) w.loop-k.invariant
          (bit_at-place m g w.loop-byte.byte w.loop-k.k w.loop-k-test.true ∙ sym w.bit_of.ensures ∙ w.if-bit_of.true)
      | else-loop-group-test w ↦ w.id-is ∙ lowest-none (bit_at m) n (clear-upto m (1024 * g) n (omega arith) c.loop-group.invariant)
    ] in
    c.found_below.ensures ∙ ap (λ (k : ℕ). found_below k n) found
