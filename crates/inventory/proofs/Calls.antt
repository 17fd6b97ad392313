-- The call: what it answers, and when.
use mathlib.Core.Path.{◌≡◌, refl, subst}
use mathlib.Core.List.{List}
use mathlib.Core.Logic.{◌⊎◌, inl, inr}
use Prim.Native.Nat.{ℕ, ◌≤◌}
use lib.Dec.{eqb, leb}
use lib.ListN.{length}
use borrow.Author.Tests.{eq-eqb, ne_eqb, eqb-true, leb-true}
use Rattle.base.specs.Out.{Out, done, answer, Ok, went, said}
use Rattle.base.proofs.Outs.{ok-bind, ensure-guard, ok-done}
use Rattle.table.specs.Table.{empty_table}
use Rattle.sound.specs.Sound.{sound}
use Rattle.sefs.specs.Ask.{admit_arena}
use Rattle.sefs_laws.proofs.Says.{ensure-asks, says-arena}
use Rattle.rules.specs.Tests.{checked}
use Rattle.rules.proofs.Check.{check-pass}
use Rattle.inventory.specs.Inventory.{text, call_inventory}
use Rattle.inventory.specs.Promises.{Refusals, Exactly}

-- what is known where it is done
pub record Called (a : List ℕ) (room : ℕ) (t : List ℕ) : Type 0 where
  pub passes : checked a empty_table ≡ 0
  pub fits : length t ≤ room
  pub is : t ≡ text a

abbrev Reason : ℕ → Type 0
Reason n = (n ≡ 1) ⊎ (n ≡ 2) ⊎ (n ≡ 18) ⊎ (n ≡ 20)

call-law : (a : List ℕ) (room : ℕ) → Ok (Called a room) Reason (call_inventory a room)
unfolding call_inventory
call-law a room =
    ok-bind (says-arena (inl refl) (inr (inl refl)) a) (λ _ _.
    ok-bind (ensure-asks (eqb (checked a empty_table) 0) 18 (inr (inr (inl refl)))) (λ _ c.
    ok-bind (ensure-asks (leb (length (text a)) room) 20 (inr (inr (inr refl)))) (λ _ f.
    went (record { passes = eqb-true (checked a empty_table) 0 c; fits = leb-true (length (text a)) room f; is = refl }))))

pub call-done : (a : List ℕ) (room : ℕ) (t : List ℕ) → call_inventory a room ≡ done t → Called a room t
call-done a room t e = ok-done (subst (Ok (Called a room) Reason) e (call-law a room))

answers_of : (Q : List ℕ → Type 0) (o : Out (List ℕ)) → Ok Q Reason o → (answer o ≡ 0) ⊎ Reason (answer o)
answers_of Q o (went q) = inl refl
answers_of Q o (said r) = inr r

pub refusals : Refusals
unfolding Refusals
refusals a room = answers_of (Called a room) (call_inventory a room) (call-law a room)

pub exactly : Exactly
unfolding Exactly call_inventory admit_arena
exactly a room = record {
  not-legal = λ l. rw l;
  not_sound = λ l s. rw (l, s);
  fails = λ l s c. rw (l, s, ne_eqb (checked a empty_table) 0 c);
  passes = λ c.
      let A = (check-pass a empty_table c).rule1 in
      rw (A.length, A.sound, eq-eqb (checked a empty_table) 0 c) (ensure-guard (leb (length (text a)) room) 20 (done (text a)));
}
