-- The call move, in its parts.
use mathlib.Core.Path.{◌≡◌, refl, sym}
use mathlib.Core.List.{List}
use Prim.Native.Nat.{ℕ}
use lib.Dec.{eqb}
use Rattle.base.specs.Out.{Out, done, refused, bind}
use Rattle.base.specs.Search.{pick}
use Rattle.base.proofs.Outs.{bind_assoc}
use Rattle.table.specs.declared.Table.{Table}
use Rattle.table.specs.declared.Handle.{Handle}
use Rattle.sefs.specs.State.{Fs}
use Rattle.sefs.specs.Nodes.{rec_at, get_node}
use Rattle.sefs.specs.Slots.{slot_at, find_slot}
use Rattle.sefs.specs.Ask.{admit, by_handle, good_name, new_name, not_long, not_special, known, live_folder, start}
use Rattle.sefs.specs.Create.{After, after}
use Rattle.sefs.specs.Move.{move_onto, replace, call_move}
use Rattle.steps.proofs.Ends.{bind-same}
use Rattle.calls_move.specs.Parts.{both, open_two, known_two, replace_known, replace_node, replace_named, move_found, good_two, plain_two, short_two, late_asks, move_asks, move_work}

-- ---- the new name exists

-- two that are opened one after another, and then what comes after both
two_is : {A B C D : Type 0} (m : Out A) (f : A → Out B) (e : A → B → C) (g : A → B → Out D) (h : C → Out D) → ((x : A) (y : B) → g x y ≡ h (e x y))
    → bind m (λ x. bind (f x) (g x)) ≡ bind (bind m (λ x. bind (f x) (λ y. done (e x y)))) h
two_is (refused n) f e g h k = refl
two_is {A} {B} {C} {D} (done x) f e g h k = go (f x)
  where
    go : (o : Out B) → bind o (g x) ≡ bind (bind o (λ y. done (e x y))) h
    go (done y) = k x y
    go (refused n) = refl

node-is : (s : Fs) (i j : ℕ) (old name : List ℕ) (k new was : ℕ)
    → bind (get_node s new) (λ d. bind (get_node d.state was) (λ c. bind (known (rec_at c.state c.row)) (λ _. bind (known (rec_at c.state d.row)) (λ _. pick (eqb was new) (done (after s)) (move_onto c.state i j old name c.row d.row k))))) ≡ replace_node s i j old name k new was
unfolding replace_node replace_known open_two known_two
node-is s i j old name k new was =
    two_is (get_node s new) (λ d. get_node d.state was) (λ d c. both c.state d.row c.row) _ _ (λ d c.
    sym (bind_assoc (known (rec_at c.state c.row)) (λ _. known (rec_at c.state d.row)) (λ _. pick (eqb was new) (done (after s)) (move_onto c.state i j old name c.row d.row k))))

pub replace-is : (s : Fs) (i j : ℕ) (old name : List ℕ) (k : ℕ) → replace s i j old name k ≡ bind (slot_at s.arena (rec_at s j) k) (λ e. replace_named s i j old name k e.id)
unfolding replace replace_named
replace-is s i j old name k =
    bind-same (slot_at s.arena (rec_at s j) k) _ _ (λ e.
    bind-same (find_slot s.arena (rec_at s i) old) _ _ (λ f. node-is s i j old name k e.id f.entry.id))

-- ---- the questions first

asks-is : (g h l p q n o t : Out Unit) (r : Out After)
    → bind g (λ _. bind h (λ _. bind l (λ _. bind p (λ _. bind q (λ _. bind n (λ _. bind o (λ _. bind t (λ _. r)))))))) ≡ bind (bind (bind g (λ _. h)) (λ _. bind l (λ _. bind (bind p (λ _. q)) (λ _. bind (bind n (λ _. o)) (λ _. t))))) (λ _. r)
asks-is (refused x) h l p q n o t r = refl
asks-is (done v) (refused x) l p q n o t r = refl
asks-is (done v) (done a) (refused x) p q n o t r = refl
asks-is (done v) (done a) (done b) (refused x) q n o t r = refl
asks-is (done v) (done a) (done b) (done c) (refused x) n o t r = refl
asks-is (done v) (done a) (done b) (done c) (done d) (refused x) o t r = refl
asks-is (done v) (done a) (done b) (done c) (done d) (done e) (refused x) t r = refl
asks-is (done v) (done a) (done b) (done c) (done d) (done e) (done f) (refused x) r = refl
asks-is (done v) (done a) (done b) (done c) (done d) (done e) (done f) (done k) r = refl

work-is : (a : List ℕ) (t : Table) (i j : ℕ) (old name : List ℕ)
    → bind (good_name old) (λ _. bind (new_name name) (λ _. bind (live_folder (rec_at (start a t) i)) (λ _. bind (not_special old) (λ _. bind (not_special name) (λ _. bind (not_long old) (λ _. bind (not_long name) (λ _. bind (live_folder (rec_at (start a t) j)) (λ _. move_found (start a t) i j old name)))))))) ≡ move_work (start a t) i j old name
unfolding move_work move_asks late_asks good_two plain_two short_two
work-is a t i j old name =
    asks-is (good_name old) (new_name name) (live_folder (rec_at (start a t) i)) (not_special old) (not_special name) (not_long old) (not_long name) (live_folder (rec_at (start a t) j)) (move_found (start a t) i j old name)

pub move-is : (a : List ℕ) (t : Table) (who : ℕ) (h : Handle) (old : List ℕ) (target : Handle) (name : List ℕ) → call_move a t who h old target name ≡ bind (admit a t) (λ _. bind (by_handle t who h) (λ i. bind (by_handle t who target) (λ j. move_work (start a t) i j old name)))
unfolding call_move move_found
move-is a t who h old target name =
    bind-same (admit a t) _ _ (λ _.
    bind-same (by_handle t who h) _ _ (λ i.
    bind-same (by_handle t who target) _ _ (λ j. work-is a t i j old name)))
