-- What the call answers: by the check, and by what its two passes did.
use mathlib.Core.Path.{◌≡◌, refl, sym, ap, ◌∙◌}
use mathlib.Core.Bool.{Bool, true, false}
use mathlib.Core.List.{List}
use Prim.Native.Nat.{ℕ}
use native.Mathlib.Omega.{arith}
use lib.Dec.{leb}
use lib.ListN.{length}
use borrow.Author.Tests.{le-leb, lt-leb}
use Rattle.base.specs.Out.{Out, done, refused, guard}
use Rattle.base.specs.Parts.{paste}
use Rattle.base.proofs.Bools.{true-false}
use Rattle.table.specs.declared.Table.{Table}
use Rattle.table.specs.Table.{empty_table}
use Rattle.table_laws.proofs.Keeps.{empty-formed}
use Rattle.sefs.specs.Ask.{admit_arena}
use Rattle.chains.specs.Led.{Led}
use Rattle.rules.specs.Tests.{checked}
use Rattle.calls.specs.Answers.{taken_of, laid, Lays}
use Rattle.std.specs.Prelude.{Ok, Err}
use Rattle.base.specs.Told.{number}
use Rattle.base.specs.declared.reasons.Reason.{Reason}
use Rattle.base.specs.declared.reasons.Reason.TheVariants.{WrongFs, OutFull}
use Rattle.calls.proofs.Outputs.{lays-not}
use Rattle.fsck.specs.Verdicts.{verdict_of, meta_verdict}
use Rattle.fsck.specs.declared.Verdict.{Verdict}
use Rattle.fsck.specs.declared.Verdict.TheVariants.{Pass, Fail}
use Rattle.fsck.proofs.Verdicts.{verdict-on, verdict-passes, verdict-fails}
use Rattle.inventory.specs.Inventory.{text, call_inventory}
use Rattle.inventory.specs.Promises.{Answered, Exactly}
use Rattle.inventory.proofs.Calls.{exactly}
use Rattle.calls_inventory.specs.declared.passes.Progress.{Progress}
use Rattle.calls_inventory.specs.Passes.{laid_if, PassOver, ended, full}

lays-done : {o : Out (List ℕ)} (out now t : List ℕ) (n : ℕ) → o ≡ done t → n ≡ length t → now ≡ paste out 0 t → Lays taken_of o out now (Ok n)
lays-done out now t n e p q = (ap done p ∙ sym (ap taken_of e), q ∙ sym (ap (laid out) e))

answered : (a : List ℕ) (room : ℕ) → Answered a room
unfolding Exactly
answered a room = exactly a room

-- 1, 2
pub not-admitted : (a out : List ℕ) (r : Reason) → admit_arena a ≡ refused (number r) → Lays taken_of (call_inventory a (length out)) out out (Err r)
unfolding call_inventory
not-admitted a out r e = lays-not {o = call_inventory a (length out)} r out out (rw e) refl

-- ---- the check with the empty table, rules 3 to 8 by the chains

module _ (a first next : List ℕ) (led : Led a first next) (t : Table) (z : t ≡ empty_table) (v : Verdict) (m : v ≡ meta_verdict a t) where
  whole-verdict : verdict_of a empty_table ≡ v
  whole-verdict = verdict-on a empty_table led.whole led.fine empty-formed ∙ ap (meta_verdict a) (sym z) ∙ sym m

  pub check-passes : (x y w : ℕ) → v ≡ Pass x y w → checked a empty_table ≡ 0
  check-passes x y w p = verdict-passes a empty_table x y w (whole-verdict ∙ p)

  -- 18
  pub check-fails : (out : List ℕ) (k : ℕ) → v ≡ Fail k → Lays taken_of (call_inventory a (length out)) out out (Err WrongFs)
  check-fails out k p =
      let f = verdict-fails a empty_table k (whole-verdict ∙ p) in
      lays-not WrongFs out out ((answered a (length out)).fails led.whole led.fine (λ q. f.0 (sym f.1 ∙ q))) refl

-- ---- the two passes

module _ (a out : List ℕ) (c : checked a empty_table ≡ 0) where
  room-is : (b : Bool) → leb (length (text a)) (length out) ≡ b → call_inventory a (length out) ≡ guard b 20 (done (text a))
  room-is b e = (answered a (length out)).passes c ∙ ap (λ (x : Bool). guard x 20 (done (text a))) e

  -- 20
  pub too_long_lem : (now : List ℕ) (m : Progress) → PassOver a false out now m → m.full ≡ true → Lays taken_of (call_inventory a (length out)) out now (Err OutFull)
  too_long_lem now m (ended f p l w) e = absurd (true-false e f)
  too_long_lem now m (full f l w) e = lays-not OutFull out now (room-is false (lt-leb (length (text a)) (length out) l)) (w refl)

  -- measured, and then written
  pub written : (mid now : List ℕ) (m r : Progress) → PassOver a false out mid m → m.full ≡ false → PassOver a true mid now r → Lays taken_of (call_inventory a (length out)) out now (Ok m.at)
  unfolding laid_if
  written mid now m r (full f l w) e o = absurd (true-false f e)
  written mid now m r (ended f p l w) e (full g k x) = absurd (omega (arith, ap length w, k, l))
  written mid now m r (ended f p l w) e (ended g q k x) =
      lays-done out now (text a) m.at (room-is true (le-leb (length (text a)) (length out) l)) p (x ∙ ap (λ (y : List ℕ). paste y 0 (text a)) w)
