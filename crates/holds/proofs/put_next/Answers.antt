-- `holds::put_next`: the stamp's bytes are laid over its place.
use mathlib.Core.Path.{sym, subst}
use mathlib.Core.List.{List}
use Prim.Native.Nat.{ℕ}
use Rattle.mem.specs.Mem.{table_in, Tabled}
use Rattle.holds.specs.Holds.{with_next}
use Rattle.holds.proofs.Laws.{next-put}
use borrow.Author.Rules.{rules}
use Rattle.holds.proofs.put_next.Goals as goal

pub returns : goal.returns
returns c =
    let m = c.args.mem.now in
    subst (λ (l : List ℕ). Tabled m l (with_next (table_in m) c.args.next)) (sym c.put_u64.ensures) (next-put m c.args.next c.requires (search rules))
