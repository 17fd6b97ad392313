-- The two calls, in their parts.
use mathlib.Core.Path.{◌≡◌, refl, sym, ◌∙◌}
use mathlib.Core.Bool.{Bool, true}
use mathlib.Core.List.{List}
use Prim.Native.Nat.{ℕ, ◌<◌}
use Rattle.base.specs.Out.{Out, done, refused, bind, Went}
use Rattle.base.proofs.Outs.{went-is, went-has, went-not, bind_assoc}
use Rattle.arena.specs.Blocks.{legal}
use Rattle.table.specs.declared.Table.{Table}
use Rattle.table.specs.declared.Handle.{Handle}
use Rattle.sefs.specs.State.{Fs}
use Rattle.sefs.specs.Nodes.{rec_at, get_node, sync_row}
use Rattle.sefs.specs.Slots.{find_slot}
use Rattle.sefs.specs.Folders.{dirent_node_remove}
use Rattle.sefs.specs.Ask.{admit, by_handle, good_name, not_long, not_special, live_folder, start}
use Rattle.sefs.specs.Create.{After, after}
use Rattle.sefs.specs.Remove.{removable, remove_steps, call_remove}
use Rattle.mem.specs.Mem.{table_in}
use Rattle.steps.specs.Ends.{Begun, Rest, ending}
use Rattle.steps.proofs.Ends.{bind-same, begun-start, rest-off, rest-as, rest_then}
use Rattle.removals.specs.Removals.{name_asks, remove_asks, remove_node, remove_id}
use Rattle.calls_remove.specs.Steps.{remove_name, remove_from}
use Rattle.mem.specs.State.{fs_at}

-- the questions first
asks-is : (g l s n : Out Unit) (o : Out Fs) (r : Out After) → r ≡ ending o
    → bind g (λ _. bind l (λ _. bind s (λ _. bind n (λ _. r)))) ≡ ending (bind (bind g (λ _. bind l (λ _. bind s (λ _. n)))) (λ _. o))
asks-is (refused k) l s n o r e = refl
asks-is (done x) (refused k) s n o r e = refl
asks-is (done x) (done y) (refused k) n o r e = refl
asks-is (done x) (done y) (done z) (refused k) o r e = refl
asks-is (done x) (done y) (done z) (done v) o r e = e

node-is : (s : Fs) (i c k : ℕ) → remove_steps s i c k ≡ ending (remove_node s i c k)
unfolding remove_steps remove_node
node-is s i c k = sym (bind_assoc (dirent_node_remove s i c k) (λ d. sync_row d i) (λ d. done (after d)))

id-is : (dir : Bool) (s : Fs) (i id k : ℕ) → bind (get_node s id) (λ o. bind (removable dir (rec_at o.state o.row)) (λ _. remove_steps o.state i o.row k)) ≡ ending (remove_id dir s i id k)
unfolding remove_id
id-is dir s i id k =
    bind-same (get_node s id) _ _ (λ o. bind-same (removable dir (rec_at o.state o.row)) _ _ (λ _. node-is o.state i o.row k)
    ∙ sym (bind_assoc (removable dir (rec_at o.state o.row)) (λ _. remove_node o.state i o.row k) (λ d. done (after d))))
    ∙ sym (bind_assoc (get_node s id) (λ o. bind (removable dir (rec_at o.state o.row)) (λ _. remove_node o.state i o.row k)) (λ d. done (after d)))

name-is : (dir : Bool) (s : Fs) (i : ℕ) (name : List ℕ)
    → bind (find_slot s.arena (rec_at s i) name) (λ f. bind (get_node s f.entry.id) (λ o. bind (removable dir (rec_at o.state o.row)) (λ _. remove_steps o.state i o.row f.place))) ≡ ending (remove_name dir s i name)
unfolding remove_name
name-is dir s i name =
    bind-same (find_slot s.arena (rec_at s i) name) _ _ (λ f. id-is dir s i f.entry.id f.place)
    ∙ sym (bind_assoc (find_slot s.arena (rec_at s i) name) (λ f. remove_id dir s i f.entry.id f.place) (λ d. done (after d)))

row_is : (dir : Bool) (a : List ℕ) (t : Table) (i : ℕ) (name : List ℕ)
    → bind (good_name name) (λ _. bind (live_folder (rec_at (start a t) i)) (λ _. bind (not_special name) (λ _. bind (not_long name) (λ _. bind (find_slot a (rec_at (start a t) i) name) (λ f. bind (get_node (start a t) f.entry.id) (λ o. bind (removable dir (rec_at o.state o.row)) (λ _. remove_steps o.state i o.row f.place))))))) ≡ ending (remove_from dir (start a t) i name)
unfolding remove_from remove_asks name_asks
row_is dir a t i name = asks-is (good_name name) (live_folder (rec_at (start a t) i)) (not_special name) (not_long name) (remove_name dir (start a t) i name) _ (name-is dir (start a t) i name)

remove-is : (dir : Bool) (a : List ℕ) (t : Table) (who : ℕ) (h : Handle) (name : List ℕ) → call_remove dir a t who h name ≡ bind (admit a t) (λ _. bind (by_handle t who h) (λ i. ending (remove_from dir (start a t) i name)))
unfolding call_remove
remove-is dir a t who h name = bind-same (admit a t) _ _ (λ _. bind-same (by_handle t who h) _ _ (λ i. row_is dir a t i name))

pub remove-refused : (dir : Bool) (a : List ℕ) (t : Table) (who : ℕ) (h : Handle) (name : List ℕ) {n : ℕ} → admit a t ≡ refused n → call_remove dir a t who h name ≡ refused n
remove-refused dir a t who h name q = remove-is dir a t who h name ∙ rw q

-- once arena, table and handle are known
module _ (dir : Bool) (a first next m n : List ℕ) (who : ℕ) (h : Handle) (name : List ℕ) (q : admit a (table_in m) ≡ done tt) {i r : ℕ} (g : Went (by_handle (table_in m) who h) i (Begun a first next m n × (i < 34)) r) where
  pub remove-not : {e : Out After} {Q : Type 0} → (r ≡ 0 → ⊥) → Rest (call_remove dir a (table_in m) who h name) e Q r
  remove-not z = rest-off z (remove-is dir a (table_in m) who h name ∙ rw (q, went-not g z))

  pub remove-row : {e : Out Fs} {Q : Type 0} {x : ℕ} → r ≡ 0 → Rest (remove_from dir (fs_at a n) i name) e Q x → Rest (call_remove dir a (table_in m) who h name) (ending e) ((legal a ≡ true) × Q) x
  remove-row z f =
      let b = (went-has g z).0 in
      rest-as (remove-is dir a (table_in m) who h name ∙ rw (q, went-is g z, ← begun-start b)) (λ p. (b.led.whole, p)) (rest_then (λ s. done (after s)) f)
