-- Before any store: each reason is the call's, and where there is none the steps are left. Afterwards: how the call ends.
use mathlib.Core.Path.{◌≡◌, refl, sym, ap, ◌∙◌}
use mathlib.Core.Bool.{true, false}
use mathlib.Core.List.{List}
use Prim.Native.Nat.{ℕ, ◌+◌, ◌≤◌, ◌<◌}
use native.Mathlib.Omega.{arith}
use Rattle.base.specs.Out.{Out, done, refused, bind, Ok}
use Rattle.base.specs.Out as outs
use Rattle.base.proofs.Outs.{above_zero}
use Rattle.table.specs.declared.Table.{Table}
use Rattle.arena.specs.Places.{free_count}
use Rattle.table.specs.Table.{no_holds}
use Rattle.sefs.specs.State.{Fs}
use Rattle.sefs.specs.Ask.{admit, start}
use Rattle.mending.specs.Mendable.{mendable}
use Rattle.mending.specs.Mend.{mend_steps, call_mend}
use Rattle.mending.specs.Room.{wanted, given_back}
use Rattle.mending.proofs.Steps.{Done, Fails, meta-loaded, steps-law}
use Rattle.mend_plan.specs.Plan.{Decided, can, unfit, full}
use Rattle.mend_plan.proofs.Records.{can-mend}
use Rattle.std.specs.Prelude.{Result}
use Rattle.base.specs.Told.{code}
use Rattle.base.specs.declared.reasons.Reason.{Reason}
use Rattle.calls.specs.Answers.{answer_of}
use Rattle.calls.proofs.Answers.{out-done, out-refused}
use Rattle.calls_mend.specs.Mends.{Mends, MendEnded, went, stopped, steps_on, Asked, clear, refuses}

-- ---- what refuses

-- the steps are refused by 17 where the blocks are not enough
steps-full : (a : List ℕ) (t : Table) → mendable a ≡ true → free_count a + given_back a < wanted a → steps_on a t ≡ refused 17
steps-full a t m l =
    let M = can-mend a m in
    ap (λ (o : Out Fs). bind o (λ s. done s.arena)) (go (mend_steps a (start a t)) (steps-law a M (start a t) (meta-loaded a M) refl))
  where
    go : (o : Out Fs) → Ok (Done a) (Fails a) o → o ≡ refused 17
    go _ (outs.went D) = absurd (let x = D.stored.free in let y = D.freed.free in omega (arith, x, y))
    go _ (outs.said F) = ap refused F.0

module _ (a : List ℕ) (t : Table) where
  pub asked-first : {P : Type 0} {r : ℕ} → (r ≡ 0 → ⊥) → admit a t ≡ refused r → Asked a t P r
  unfolding call_mend
  asked-first {P} {r} n e = refuses (above_zero r n) (rw e refl)

  module _ (e : admit a t ≡ done tt) where
    pub asked-held : {P : Type 0} → no_holds t ≡ false → Asked a t P 24
    unfolding call_mend
    asked-held h = refuses {r = 24} (omega arith) (rw (e, h) refl)

    module _ (none : no_holds t ≡ true) where
      steps-left : mendable a ≡ true → call_mend a t ≡ steps_on a t
      unfolding call_mend
      steps-left m = rw (e, none, m) refl

      unfit-call : mendable a ≡ false → call_mend a t ≡ refused 18
      unfolding call_mend
      unfit-call m = rw (e, none, m) refl

      pub asked_by : {P : Type 0} {r : ℕ} → Decided a P r → Asked a t P r
      asked_by (can m w p) = clear (steps-left m) m w p
      asked_by (unfit m) = refuses {r = 18} (omega arith) (unfit-call m)
      asked_by (full m l) = refuses {r = 17} (omega arith) (steps-left m ∙ steps-full a t m l)

-- ---- what was asked

module _ {a : List ℕ} {t : Table} {P : Type 0} where
  pub asked-stop : {r : ℕ} → Asked a t P r → (r ≡ 0 → ⊥) → call_mend a t ≡ refused r
  asked-stop (clear e m w p) n = absurd (n refl)
  asked-stop (refuses l e) n = e

  pub asked-call : {r : ℕ} → Asked a t P r → r ≡ 0 → call_mend a t ≡ steps_on a t
  asked-call (clear e m w p) z = e
  asked-call (refuses l e) z = absurd (omega arith)

  pub asked-room : {r : ℕ} → Asked a t P r → r ≡ 0 → (mendable a ≡ true) × (wanted a ≤ free_count a + given_back a)
  asked-room (clear e m w p) z = (m, w)
  asked-room (refuses l e) z = absurd (omega arith)

  pub asked-has : {r : ℕ} → Asked a t P r → r ≡ 0 → P
  asked-has (clear e m w p) z = p
  asked-has (refuses l e) z = absurd (omega arith)

-- ---- how the call ends; memory has had the table t

pub ended : {a b : List ℕ} {u t : Table} (q : u ≡ t) (r : Result Unit Reason) → MendEnded (call_mend a u) a b (code r) → Mends (call_mend a t) a b r
ended {a} {b} {u} {t} q r g = go (code r) refl g
  where
    go : (k : ℕ) → code r ≡ k → MendEnded (call_mend a u) a b k → Mends (call_mend a t) a b r
    go k z (went e) = let o = sym (ap (call_mend a) q) ∙ e in record { answer = out-done r z ∙ sym (ap answer_of o); arena = rw o refl }
    go k z (stopped l e h) = let o = sym (ap (call_mend a) q) ∙ e in record { answer = out-refused r k z (λ y. omega arith) ∙ sym (ap answer_of o); arena = rw o h }
