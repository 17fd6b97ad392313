-- What the call leaves of an output: the text at its start, and the other bytes as they were.
use mathlib.Core.Path.{ap, subst, sym, ◌∙◌}
use mathlib.Core.List.{List}
use Prim.Native.Nat.{ℕ, ◌+◌, ◌≤◌}
use native.Mathlib.Nat.{zero-add}
use native.Mathlib.Omega.{arith}
use lib.ListN.{length, get_or}
use Rattle.base.specs.Parts.{paste}
use Rattle.base.proofs.Lists.{length-paste, get_or-paste-in, get_or-paste-out}
use Rattle.calls.specs.Answers.{laid}
use Rattle.inventory.proofs.Calls.{call-done}
use Rattle.calls_inventory.specs.Outputs.{TextLaid, Stays}

text-written : (out t : List ℕ) → length t ≤ length out → TextLaid out t (paste out 0 t)
text-written out t f =
    let g : 0 + length t ≤ length out = omega (arith, f) in
    record {
      fits = f;
      long = length-paste out 0 t g;
      text = λ i l. ap (λ (j : ℕ). get_or (paste out 0 t) j 0) (sym (zero-add i)) ∙ get_or-paste-in out 0 t g i l;
      rest = λ i l. get_or-paste-out out 0 t g i (λ _. omega (arith, l));
    }

pub stays : Stays
unfolding Stays
stays a out now r L = record {
  given = λ t e. subst (TextLaid out t) (sym (L.1 ∙ ap (laid out) e)) (text-written out t (call-done a (length out) t e).fits);
  refusal = λ n e. L.1 ∙ ap (laid out) e;
}
