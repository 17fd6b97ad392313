-- Where names lead, one after another: to the same nodes where each lookup on the way is the same.
use mathlib.Core.Path.{◌≡◌, refl, ap, ◌∙◌}
use mathlib.Core.Bool.{true, false}
use mathlib.Core.List.{List, [], ◌∷◌}
use mathlib.Core.Logic.{⊎_elim}
use Prim.Native.Nat.{ℕ}
use Rattle.base.specs.Out.{Out, bind, ensure, Ok, went, said}
use Rattle.base.proofs.Bools.{bool_cases}
use Rattle.structs.specs.Types.{is_folder}
use Rattle.table.specs.declared.Table.{Table}
use Rattle.sefs.specs.Slots.{find_slot, Slot}
use Rattle.rules.specs.Image.{rec_of}
use Rattle.mending.specs.Promises.{way}

then_same : {A C : Type 0} {Q : A → Type 0} {R : ℕ → Type 0} {o : Out A} {f g : A → Out C} → Ok Q R o → ((x : A) → Q x → f x ≡ g x) → bind o f ≡ bind o g
then_same (went {a = x} q) h = h x q
then_same (said r) h = refl

-- Good nodes have the same type, in a folder among them each name is found alike, and what it names is good
module _ (a b : List ℕ) (t u : Table) (Good : ℕ → Type 0)
    (kinds : (id : ℕ) → Good id → (rec_of b u id).kind ≡ (rec_of a t id).kind)
    (finds : (id : ℕ) → Good id → is_folder (rec_of a t id).kind ≡ true → (name : List ℕ) → find_slot b (rec_of b u id) name ≡ find_slot a (rec_of a t id) name)
    (leads : (id : ℕ) → Good id → is_folder (rec_of a t id).kind ≡ true → (name : List ℕ) → Ok (λ (s : Slot). Good s.entry.id) (λ n. Unit) (find_slot a (rec_of a t id) name)) where
  pub way_same : (id : ℕ) → Good id → (l : List (List ℕ)) → way b u id l ≡ way a t id l
  unfolding way
  way_same id y [] = refl
  way_same id y (name ∷ l) =
      ap (λ (k : ℕ). bind (ensure (is_folder k) 7) (λ _. bind (find_slot b (rec_of b u id) name) (λ s. way b u s.entry.id l))) (kinds id y)
      ∙ ⊎_elim
      (λ (f : is_folder (rec_of a t id).kind ≡ true). rw f
      (ap (λ (o : Out Slot). bind o (λ s. way b u s.entry.id l)) (finds id y f name) ∙ then_same (leads id y f name) (λ s q. way_same s.entry.id q l)))
      (λ (f : is_folder (rec_of a t id).kind ≡ false). rw f refl)
      (bool_cases (is_folder (rec_of a t id).kind))
