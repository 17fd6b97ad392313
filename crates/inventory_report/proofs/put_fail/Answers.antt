-- `inventory_report::put_fail`: the words, the rule's number behind them, and the newline.
use mathlib.Core.Path.{◌≡◌, refl, sym, ◌∙◌}
use Prim.Native.Nat.{◌≤◌}
use native.Mathlib.Omega.{arith}
use lib.ListN.{length, length-take, length-set}
use Rattle.inventory_report.proofs.Printed.{copied, length-copied, three-digits, fail_words, length-fail, fail-laid}
use Rattle.inventory_report.proofs.put_fail.Goals as goal
use Rattle.inventory_report.proofs.put_fail.Goals.{After-put_number-end}

pub slice_bounds-copy-end-2 : goal.slice_bounds-copy-end-2
slice_bounds-copy-end-2 c = omega (arith, length-take 10 c.args.out.now)

pub copy-requires : goal.copy-requires
copy-requires c = omega (arith, length-take 10 c.args.out.now)

pub put_number-end-requires : goal.put_number-end-requires
put_number-end-requires c =
    omega (arith, length-copied c.args.out.now _ fail_words 10 refl c.copy.ensures (omega arith), three-digits c.args.rule (omega arith))

-- where the digits end, and how long the output still is
ends : (c : After-put_number-end) → (c.put_number-end.result ≤ 13) × (length c.put_number-end.new.out ≡ 65536)
ends c =
    let r = length-copied c.args.out.now _ fail_words 10 refl c.copy.ensures (omega arith) in
    (omega (arith, c.put_number-end.ensures.0, three-digits c.args.rule (omega arith)), c.put_number-end.auto.out ∙ r ∙ c.requires)

pub bounds-out-end : goal.bounds-out-end
bounds-out-end c = omega (arith, (ends (goal.at.bounds-out-end c).After-put_number-end).0, (ends (goal.at.bounds-out-end c).After-put_number-end).1)

pub overflow_add-result : goal.overflow_add-result
overflow_add-result c = omega (arith, (ends (goal.at.overflow_add-result c).After-put_number-end).0, (ends (goal.at.overflow_add-result c).After-put_number-end).1)

pub shape_of-out : goal.shape_of-out
shape_of-out c = length-set c.put_number-end.new.out c.put_number-end.result 10 ∙ (ends (goal.at.shape_of-out c).After-put_number-end).1 ∙ sym c.requires

pub returns : goal.returns
returns c =
    let put = c.put_number-end.ensures in (
      omega (arith, put.0, length-fail c.args.rule),
      fail-laid c.args.out.now _ _ c.args.rule _ (omega (arith, length-fail c.args.rule, three-digits c.args.rule (omega arith)))
          (copied c.args.out.now _ fail_words 10 refl c.copy.ensures) put.0 put.1,
    )
