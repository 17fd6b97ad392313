-- What the call leaves of the lent buffer.
use mathlib.Core.Path.{◌≡◌, sym, ap, ◌∙◌, subst}
use mathlib.Core.List.{List}
use Prim.Native.Nat.{ℕ, ◌+◌, ◌≤◌}
use native.Mathlib.Omega.{arith}
use lib.ListN.{length, get_or}
use borrow.Author.Tests.{leb-true}
use Rattle.base.specs.Out.{Out, done}
use Rattle.base.specs.Parts.{paste}
use Rattle.base.proofs.Lists.{length-paste, get_or-paste-in, get_or-paste-out}
use Rattle.table.specs.declared.Table.{Table}
use Rattle.table.specs.declared.Handle.{Handle}
use Rattle.calls.specs.Answers.{laid}
use Rattle.paths.specs.Path.{call_path}
use Rattle.paths.proofs.Paths.{path-shows}
use Rattle.calls_path.specs.Leaves.{Overlaid, PathLeaves}

overlaid : (a : List ℕ) (t : Table) (w : ℕ) (h : Handle) (out l : List ℕ) → call_path a t w h (length out) ≡ done l → Overlaid out l (paste out 0 l)
overlaid a t w h out l e =
    let le : 0 + length l ≤ length out = omega (arith, leb-true (length l) (length out) (path-shows a t w h (length out) l e).fits) in
    record {
      long = length-paste out 0 l le;
      path = λ k h. ap (λ (j : ℕ). get_or (paste out 0 l) j 0) (let z : k ≡ 0 + k = omega arith in z) ∙ get_or-paste-in out 0 l le k h;
      rest = λ k h. get_or-paste-out out 0 l le k (λ _. omega arith);
    }

pub path-leaves : PathLeaves
unfolding PathLeaves
path-leaves a t w h out =
    record {
      given = λ l e. subst (λ (o : Out (List ℕ)). Overlaid out l (laid out o)) (sym e) (overlaid a t w h out l e);
      refusal = λ n e. ap (laid out) e;
    }
