-- What stands at the output's start, and how many bytes of it: the failing line, `too long`, or the list.
use mathlib.Core.Path.{◌≡◌, refl, sym, ap, ap₂, ◌∙◌}
use mathlib.Core.Bool.{Bool, true, false}
use mathlib.Core.List.{List, [], ◌∷◌, ◌++◌}
use mathlib.Core.Logic.{⊎_elim}
use Prim.Native.Nat.{ℕ, ◌+◌, ◌-◌, ◌/◌, ◌≤◌, ◌<◌}
use native.Mathlib.Omega.{arith}
use lib.Dec.{leb}
use lib.ListN.{length, drop, set, length-append}
use Rattle.base.specs.Out.{Out, done, refused, guard}
use Rattle.base.specs.Parts.{paste}
use Rattle.base.proofs.Numbers.{lt-or-le}
use Rattle.base.proofs.Lists.{length-paste}
use Rattle.table.specs.declared.Table.{Table}
use Rattle.table.specs.Table.{empty_table}
use Rattle.rules.specs.Tests.{checked}
use Rattle.calls.specs.Answers.{out_of, taken_of, laid, Lays}
use Rattle.std.specs.Prelude.{Result, Ok, Err}
use Rattle.base.specs.Told.{number}
use Rattle.base.specs.declared.reasons.Reason.{Reason}
use Rattle.fsck.specs.Verdicts.{verdict_of}
use Rattle.fsck.proofs.Verdicts.{verdict-passes, verdict-fails}
use Rattle.fsck.specs.declared.Verdict.{Verdict}
use Rattle.fsck.specs.declared.Verdict.TheVariants.{Pass, Fail}
use Rattle.inventory.specs.Text.{decimal, newline}
use Rattle.inventory.specs.Inventory.{text, call_inventory, fail_line, too_long, printed}
use Rattle.inventory.specs.Promises.{Prints, Program, Large, Exactly}
use Rattle.inventory.proofs.Calls.{exactly}
use Rattle.inventory.proofs.Prints.{program, large}
use Rattle.inventory_lines.proofs.Decimals.{length-low, length_high}
use Rattle.inventory_lines.proofs.Pastes.{lay-on, lay-byte}

-- bytes that a copy left at the output's start
pub copied : (a t b : List ℕ) (m : ℕ) → length b ≡ m → t ≡ b → t ++ drop m a ≡ paste a 0 b
unfolding paste
copied a t b m n e = ap₂ (λ (l : List ℕ) (k : ℕ). l ++ drop k a) e (let q : m ≡ 0 + length b - 0 = omega arith in q)

pub length-copied : (a t b : List ℕ) (m : ℕ) → length b ≡ m → t ≡ b → m ≤ length a → length (t ++ drop m a) ≡ length a
length-copied a t b m n e h = ap length (copied a t b m n e) ∙ length-paste a 0 b (omega arith)

-- what was laid at the start is no longer than the output
pub laid-fits : (a now b : List ℕ) → now ≡ paste a 0 b → length b ≤ length now
unfolding paste
laid-fits a now b e = omega (arith, ap length e ∙ length-append b (drop (0 + length b - 0) a))

-- ---- the failing line: a rule's number is a byte, and has three digits at most

two_digits : (n : ℕ) → n < 100 → length (decimal n) ≤ 2
two_digits n h =
    ⊎_elim (λ (l : n < 10). omega (arith, length-low n l)) (λ (l : 10 ≤ n). omega (arith, length_high n l, length-low (n / 10) (omega arith))) (lt-or-le n 10)

pub three-digits : (n : ℕ) → n < 1000 → length (decimal n) ≤ 3
three-digits n h =
    ⊎_elim (λ (l : n < 10). omega (arith, length-low n l)) (λ (l : 10 ≤ n). omega (arith, length_high n l, two_digits (n / 10) (omega arith))) (lt-or-le n 10)

-- `fail rule `
abbrev pub fail_words : List ℕ
fail_words = 102 ∷ 97 ∷ 105 ∷ 108 ∷ 32 ∷ 114 ∷ 117 ∷ 108 ∷ 101 ∷ 32 ∷ []

pub length-fail : (n : ℕ) → length (fail_line n) ≡ 11 + length (decimal n)
unfolding fail_line
length-fail n = omega (arith, length-append (decimal n) newline)

-- the words, the digits behind them, and the newline where they end
pub fail-laid : (a r q : List ℕ) (n e : ℕ) → length (fail_line n) ≤ length a → r ≡ paste a 0 fail_words → e ≡ 10 + length (decimal n) → q ≡ paste r 10 (decimal n) → set q e 10 ≡ paste a 0 (fail_line n)
unfolding fail_line
fail-laid a r q n e h x y z =
    let f = length-fail n in
    let l = length-append fail_words (decimal n) in
    lay-byte a q 0 e 10 (fail_words ++ decimal n) (lay-on a r q 0 10 fail_words (decimal n) x refl z (omega (arith, f, l))) (omega (arith, y, l)) (omega (arith, h))

-- ---- what an output begins with: b is laid over its start, and n is where that ends

abbrev pub Begins : List ℕ → List ℕ → ℕ → List ℕ → Type 0
Begins out now n b = (n ≡ length b) × (now ≡ paste out 0 b)

begins-same : (out now : List ℕ) (n : ℕ) (b c : List ℕ) → b ≡ c → Begins out now n c → Begins out now n b
begins-same out now n b c e B = (B.0 ∙ ap length (sym e), B.1 ∙ ap (paste out 0) (sym e))

prints : (a : List ℕ) → length a ≤ 65536 → Prints a
unfolding Program
prints a h = program a h

-- ---- an arena that passes: the list where the call wrote it, and `too long` where it did not

only-full : (b : Bool) (t : List ℕ) (k : ℕ) → guard b 20 (done t) ≡ refused k → guard b 20 (done t) ≡ refused 20
only-full true t k e = absurd (let w : ◌≡◌ {A = ℕ} 0 1 = cc in omega arith)
only-full false t k e = refl

module _ (a out : List ℕ) (h : length a ≤ 65536) where
  written : (now : List ℕ) (n : ℕ) (o : Out (List ℕ)) → call_inventory a 65536 ≡ o → ◌≡◌ {A = Out ℕ} (done n) (taken_of o) → now ≡ laid out o → Begins out now n (printed a)
  written now n (done t) e p q = begins-same out now n (printed a) t ((prints a h).list t e) (cc, q)
  written now n (refused k) e p q = absurd (let w : ◌≡◌ {A = ℕ} 0 1 = cc in omega arith)

  left : (now : List ℕ) (k : ℕ) (o : Out (List ℕ)) → checked a empty_table ≡ 0 → call_inventory a 65536 ≡ o → ◌≡◌ {A = Out ℕ} (refused k) (taken_of o) → now ≡ laid out o → (printed a ≡ too_long) × (now ≡ out)
  unfolding Exactly
  left now k (done t) c e p q = absurd (let w : ◌≡◌ {A = ℕ} 0 1 = cc in omega arith)
  left now k (refused j) c e p q =
      let E = (exactly a 65536).passes c in
      ((prints a h).long.1 (E ∙ only-full (leb (length (text a)) 65536) (text a) j (sym E ∙ e)), q)

module _ (a out now : List ℕ) (h : length a ≤ 65536) (z : length out ≡ 65536) (r : Result ℕ Reason) (L : Lays taken_of (call_inventory a (length out)) out now r) where
  pub list_written : (n : ℕ) → r ≡ Ok n → Begins out now n (printed a)
  list_written n e = written a out h now n (call_inventory a (length out)) (ap (call_inventory a) (sym z)) (sym (ap out_of e) ∙ L.0) L.1

  -- and then `too long` is laid
  pub list_left : (k : Reason) (m : ℕ) (last : List ℕ) → checked a empty_table ≡ 0 → r ≡ Err k → Begins now last m too_long → Begins out last m (printed a)
  list_left k m last c e B =
      let l = left a out h now (number k) (call_inventory a (length out)) c (ap (call_inventory a) (sym z)) (sym (ap out_of e) ∙ L.0) L.1 in
      begins-same out last m (printed a) too_long l.0 (B.0, B.1 ∙ ap (λ (x : List ℕ). paste x 0 too_long) l.1)

-- ---- the verdict with the empty table

module _ (a : List ℕ) (t : Table) (z : t ≡ empty_table) (v : Verdict) (m : v ≡ verdict_of a t) where
  pub check-passes : (x y w : ℕ) → v ≡ Pass x y w → checked a empty_table ≡ 0
  check-passes x y w p = verdict-passes a empty_table x y w (ap (verdict_of a) (sym z) ∙ sym m ∙ p)

  pub check-fails : (out now : List ℕ) (n k : ℕ) → length a ≤ 65536 → v ≡ Fail k → Begins out now n (fail_line k) → Begins out now n (printed a)
  check-fails out now n k h p B =
      let f = verdict-fails a empty_table k (ap (verdict_of a) (sym z) ∙ sym m ∙ p) in
      begins-same out now n (printed a) (fail_line k) (((prints a h).fails k f.0).1 f.1) B

pub large-fails : (a out now : List ℕ) (n : ℕ) → 65536 < length a → Begins out now n (fail_line 1) → Begins out now n (printed a)
unfolding Large
large-fails a out now n h B = begins-same out now n (printed a) (fail_line 1) (large a h) B
