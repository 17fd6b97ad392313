-- What the program prints, by what the call with room for 65,536 bytes answers.
use mathlib.Core.Path.{◌≡◌, refl, sym, ap, ◌∙◌}
use mathlib.Core.Bool.{Bool, true, false}
use mathlib.Core.List.{List, [], ◌∷◌, ◌++◌, head-eq_of_cons-eq}
use mathlib.Core.Logic.{◌≢◌, ⊎_elim}
use Prim.Native.Nat.{ℕ, ◌≤◌}
use native.Mathlib.Omega.{arith}
use lib.Dec.{eqb, leb}
use lib.ListN.{length, drop}
use borrow.Author.Tests.{lt-ltb, le-ltb, le-leb, eq-eqb, ne_eqb}
use Rattle.base.specs.Out.{done, refused, guard, answer}
use Rattle.base.specs.Search.{pick}
use Rattle.base.proofs.Bools.{bool_cases}
use Rattle.base.proofs.Finds.{eq-cases}
use Rattle.table.specs.Table.{empty_table}
use Rattle.arena.specs.Blocks.{legal}
use Rattle.sound.specs.Sound.{sound}
use Rattle.rules.specs.Tests.{checked}
use Rattle.inventory.specs.Text.{decimal, newline}
use Rattle.inventory.specs.Visits.{visits}
use Rattle.inventory.specs.Inventory.{stored_tree, text, call_inventory, fail_line, too_long, shown, printed}
use Rattle.inventory.specs.Promises.{Digit, Exactly, Program, Large}
use Rattle.inventory.proofs.Numbers.{decimal-one}
use Rattle.inventory.proofs.Escapes.{last-mark}
use Rattle.inventory.proofs.Calls.{call-done, exactly}
use Rattle.inventory.proofs.Readings.{lines-first}

-- ---- the three lines differ: a list begins with a digit, a failing line with `f`, `too long` with `t`

text-digit : (a : List ℕ) (c : ℕ) (r : List ℕ) → text a ≡ c ∷ r → Digit c
unfolding text
text-digit a = lines-first (stored_tree a) (visits (stored_tree a))

-- the rest of a failing line
abbrev fail_rest : ℕ → List ℕ
fail_rest n = 97 ∷ 105 ∷ 108 ∷ 32 ∷ 114 ∷ 117 ∷ 108 ∷ 101 ∷ 32 ∷ (decimal n ++ newline)

fail-is : (n : ℕ) → fail_line n ≡ 102 ∷ fail_rest n
unfolding fail_line
fail-is n = refl

long-fail : (n : ℕ) → too_long ≢ fail_line n
long-fail n e = omega (arith, head-eq_of_cons-eq (e ∙ fail-is n))

fail-one : (n m : ℕ) → fail_line n ≡ fail_line m → n ≡ m
fail-one n m e =
    let q : decimal n ++ (10 ∷ []) ≡ decimal m ++ (10 ∷ []) = ap (drop 10) (sym (fail-is n) ∙ e ∙ fail-is m) in
    decimal-one n m (last-mark 10 (decimal n) (decimal m) [] [] (λ j h z. omega arith) (λ j h z. omega arith) q).0

done-not : {A : Type 0} {x : A} {n : ℕ} → n ≢ 0 → done x ≡ refused n → ⊥
done-not d e = d (sym (ap answer e))

shown-fits : (t : List ℕ) → leb (length t) 65536 ≡ true → shown t ≡ t
unfolding shown
shown-fits t e = rw e

shown-long : (t : List ℕ) → leb (length t) 65536 ≡ false → shown t ≡ too_long
unfolding shown
shown-long t e = rw e

shown-fail : (a : List ℕ) (n : ℕ) → shown (text a) ≢ fail_line n
shown-fail a n e =
    ⊎_elim
    (λ f. let d = text-digit a 102 (fail_rest n) (sym (shown-fits (text a) f) ∙ e ∙ fail-is n) in omega (arith, d.1))
    (λ f. long-fail n (sym (shown-long (text a) f) ∙ e))
    (bool_cases (leb (length (text a)) 65536))

module _ (a : List ℕ) (h : length a ≤ 65536) where
  printed-is : printed a ≡ pick (eqb (checked a empty_table) 0) (shown (text a)) (fail_line (checked a empty_table))
  unfolding printed
  printed-is = rw (le-ltb 65536 (length a) h)

  printed-pass : checked a empty_table ≡ 0 → printed a ≡ shown (text a)
  printed-pass c = printed-is ∙ rw (eq-eqb (checked a empty_table) 0 c)

  printed-fail : checked a empty_table ≢ 0 → printed a ≡ fail_line (checked a empty_table)
  printed-fail c = printed-is ∙ rw (ne_eqb (checked a empty_table) 0 c)

  list : (t : List ℕ) → call_inventory a 65536 ≡ done t → printed a ≡ t
  list t e =
      let C = call-done a 65536 t e in
      printed-pass C.passes ∙ ap shown (sym C.is) ∙ shown-fits t (le-leb (length t) 65536 C.fits)

  fails-to : (n : ℕ) → printed a ≡ fail_line n → checked a empty_table ≡ n
  fails-to n e =
      ⊎_elim
      (λ c. absurd (shown-fail a n (sym (printed-pass c) ∙ e)))
      (λ c. fail-one (checked a empty_table) n (sym (printed-fail c) ∙ e))
      (eq-cases (checked a empty_table) 0)

  fails-from : (n : ℕ) → n ≢ 0 → checked a empty_table ≡ n → printed a ≡ fail_line n
  fails-from n d e = printed-fail (λ z. d (sym e ∙ z)) ∙ ap fail_line e

  call-pass : checked a empty_table ≡ 0 → call_inventory a 65536 ≡ guard (leb (length (text a)) 65536) 20 (done (text a))
  unfolding Exactly
  call-pass = (exactly a 65536).passes

  long-to : printed a ≡ too_long → call_inventory a 65536 ≡ refused 20
  long-to e =
      ⊎_elim
      (λ c. ⊎_elim
      (λ f. let d = text-digit a 116 _ (sym (shown-fits (text a) f) ∙ sym (printed-pass c) ∙ e) in absurd (omega (arith, d.1)))
      (λ f. call-pass c ∙ ap (λ (b : Bool). guard b 20 (done (text a))) f)
      (bool_cases (leb (length (text a)) 65536)))
      (λ c. absurd (long-fail (checked a empty_table) (sym e ∙ printed-fail c)))
      (eq-cases (checked a empty_table) 0)

  -- where the checker fails it, the reason is another
  call-fail : checked a empty_table ≢ 0 → call_inventory a 65536 ≢ refused 20
  unfolding Exactly
  call-fail c e =
      let E = exactly a 65536 in
      let other : (n : ℕ) → n ≢ 20 → call_inventory a 65536 ≢ refused n = λ n d q. d (ap answer (sym q ∙ e)) in
      ⊎_elim
      (λ l. ⊎_elim (λ s. other 18 (λ z. omega (arith, z)) (E.fails l s c)) (λ s. other 2 (λ z. omega (arith, z)) (E.not_sound l s)) (bool_cases (sound a)))
      (λ l. other 1 (λ z. omega (arith, z)) (E.not-legal l))
      (bool_cases (legal a))

  long-from : call_inventory a 65536 ≡ refused 20 → printed a ≡ too_long
  long-from e =
      ⊎_elim
      (λ c. ⊎_elim
      (λ f. absurd (done-not (λ z. omega (arith, z)) (ap (λ (b : Bool). guard b 20 (done (text a))) (sym f) ∙ sym (call-pass c) ∙ e)))
      (λ f. printed-pass c ∙ shown-long (text a) f)
      (bool_cases (leb (length (text a)) 65536)))
      (λ c. absurd (call-fail c e))
      (eq-cases (checked a empty_table) 0)

pub program : Program
unfolding Program
program a h = record {
  list = list a h;
  fails = λ n d. (fails-to a h n, fails-from a h n d);
  long = (long-to a h, long-from a h);
}

pub large : Large
unfolding Large printed
large a h = rw (lt-ltb 65536 (length a) h)
