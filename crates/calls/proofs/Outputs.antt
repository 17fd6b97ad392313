-- What code laid over the start of an output.
use mathlib.Core.Path.{◌≡◌, refl, sym, ◌∙◌, ap}
use mathlib.Core.List.{List, ◌++◌}
use Prim.Native.Nat.{ℕ, ◌+◌, ◌-◌, ◌≤◌}
use native.Mathlib.Omega.{arith}
use lib.ListN.{length, drop}
use Rattle.base.specs.Out.{Out, done, refused, bind, answer}
use Rattle.base.specs.Parts.{paste}
use Rattle.base.proofs.Lists.{length-paste}
use Rattle.base.proofs.Outs.{above_zero}
use Rattle.std.specs.Prelude.{Result, Err}
use Rattle.base.specs.Told.{number, code}
use Rattle.base.specs.declared.reasons.Reason.{Reason}
use Rattle.calls.specs.Answers.{out_of, answer_of, taken_of, laid, Laid, lay, leave, Lays}
use Rattle.calls.proofs.Answers.{out-done, out-refused}
use Rattle.calls.proofs.Asks.{Asks, asked-not, asked-done}

-- what is at the output's start
pub laid-is : {o : Out (List ℕ)} {out now : List ℕ} {n r : ℕ} → Laid o out now n r → r ≡ 0 → (l : List ℕ) × ((o ≡ done l) × ((length l ≡ n) × (now ≡ paste out 0 l)))
laid-is (lay {l = l} e q p) z = (l, (e, (q, p)))
laid-is (leave l e p) z = absurd (omega arith)

pub laid-length : {o : Out (List ℕ)} {out now : List ℕ} {n r : ℕ} → n ≤ length out → Laid o out now n r → length now ≡ length out
laid-length {out = out} h (lay {l = l} e q p) = ap length p ∙ length-paste out 0 l (omega arith)
laid-length h (leave l e p) = ap length p

-- what its answer says
pub laid_out : {o : Out (List ℕ)} {out now : List ℕ} {n r : ℕ} → Laid o out now n r → now ≡ laid out o
laid_out {out = out} (lay e l p) = p ∙ sym (ap (laid out) e)
laid_out {out = out} (leave z e p) = p ∙ sym (ap (laid out) e)

-- what a reason says
pub laid-not : {o : Out (List ℕ)} {out now : List ℕ} {n r : ℕ} → Laid o out now n r → (r ≡ 0 → ⊥) → o ≡ refused r
laid-not (lay e l p) z = absurd (z refl)
laid-not (leave l e p) z = e

-- the answer of a call that gives nothing but the output
pub lays-answer : {o : Out (List ℕ)} {out now : List ℕ} {n : ℕ} (r : Result Unit Reason) → Laid o out now n (code r) → Lays answer_of o out now r
lays-answer {o = o} {out = out} {now = now} {n = n} r g = (go (code r) refl g, laid_out g)
  where
    go : (k : ℕ) → code r ≡ k → Laid o out now n k → out_of r ≡ answer_of o
    go k z (lay e l p) = out-done r z ∙ sym (ap answer_of e)
    go k z (leave l e p) = out-refused r k z (λ y. omega arith) ∙ sym (ap answer_of e)

-- a refusal lays nothing
pub lays-not : {o : Out (List ℕ)} (e : Reason) (out now : List ℕ) → o ≡ refused (number e) → now ≡ out → Lays taken_of o out now (Err e)
lays-not e out now k q = (sym (ap taken_of k), q ∙ sym (ap (laid out) k))

-- a question before it
pub laid_stop : (q : Out Unit) (o : Out (List ℕ)) (out : List ℕ) (n r : ℕ) → r ≡ answer q → (r ≡ 0 → ⊥) → Laid (bind q (λ _. o)) out out n r
laid_stop q o out n r e z = leave (above_zero r z) (rw (asked-not q r e z)) refl

pub laid_next : (q : Out Unit) (o : Out (List ℕ)) {out now : List ℕ} {n s : ℕ} (r : ℕ) → Asks q → r ≡ answer q → r ≡ 0 → Laid o out now n s → Laid (bind q (λ _. o)) out now n s
laid_next q o r a e z g = rw (asked-done q a r e z) g

-- a list over the start of another of the same length or longer
pub paste-front : (out s : List ℕ) (n : ℕ) → length s ≡ n → s ++ drop n out ≡ paste out 0 s
unfolding paste
paste-front out s n h = ap (λ (m : ℕ). s ++ drop m out) (let q : n ≡ 0 + length s - 0 = omega arith in q)
