-- The steps of move, in their parts.
use mathlib.Core.Path.{◌≡◌, refl}
use mathlib.Core.Bool.{Bool, true, false}
use mathlib.Core.List.{List}
use Prim.Native.Nat.{ℕ}
use lib.Dec.{eqb}
use Rattle.base.specs.Out.{Out, done, bind}
use Rattle.base.specs.Search.{pick}
use Rattle.structs.specs.Layout.{entry_bytes}
use Rattle.sefs.specs.State.{Fs}
use Rattle.sefs.specs.Nodes.{rec_at, id_at, get_node, sync_row, release}
use Rattle.sefs.specs.Slots.{Slot, find_slot}
use Rattle.sefs.specs.Folders.{put_slot, dirent_append, dirent_remove}
use Rattle.sefs.specs.Create.{After, after}
use Rattle.sefs.specs.Move.{node, renamed, move_links, move_parent, move_within, move_between, move_steps}
use Rattle.steps.specs.Ends.{ending}
use Rattle.steps.specs.Steps.{sync_two}
use Rattle.steps.proofs.Ends.{ending-bind, ending-both}
use Rattle.move_steps.specs.declared.Gone.{Gone}
use Rattle.move_steps.specs.declared.Gone.TheVariants.{Node}
use Rattle.move_steps.specs.Steps.{replaced_of, remove_gone, within_folder, end_folders, end_move, open_moved, rest_move, between_folders, move_slot, move_named, move_over}

-- ---- the steps

within-is : (s : Fs) (i : ℕ) (f : Slot) (name : List ℕ) (g : Gone) → move_within s i f name (replaced_of g) ≡ ending (within_folder s i f.place (renamed f.entry name) g)
unfolding move_within within_folder remove_gone
within-is s i f name g =
    ending-bind (put_slot s i f.place (entry_bytes (renamed f.entry name))) (λ s. bind (remove_gone s i g) (λ s. sync_row s i)) _ (λ s.
    ending-bind (remove_gone s i g) (λ s. sync_row s i) _ (λ s. refl))

rest-is : (s : Fs) (i j c : ℕ) → bind (sync_row s i) (λ s. bind (sync_row s j) (λ s. bind (release s c) (λ s. done (after s)))) ≡ ending (bind (sync_two s j i) (λ s. release s c))
unfolding sync_two
rest-is s i j c =
    ending-both (sync_row s i) (λ s. sync_row s j) (λ s. release s c) _ (λ s.
    ending-bind (sync_row s j) (λ s. release s c) _ (λ s. refl))

parent_is : (s : Fs) (i j c : ℕ) → bind (move_parent s j c) (λ s. bind (sync_row s i) (λ s. bind (sync_row s j) (λ s. bind (release s c) (λ s. done (after s))))) ≡ ending (bind (end_folders s i j c) (λ s. release s c))
unfolding end_folders
parent_is s i j c = ending-both (move_parent s j c) (λ s. sync_two s j i) (λ s. release s c) _ (λ s. rest-is s i j c)

between_is : (s : Fs) (i j : ℕ) (f : Slot) (name : List ℕ) (g : Gone) → move_between s i j f name (replaced_of g) ≡ ending (between_folders s i j f.place (renamed f.entry name) g)
unfolding move_between between_folders rest_move open_moved end_move remove_gone
between_is s i j f name g =
    ending-bind (dirent_append s j (renamed f.entry name)) (λ s. bind (dirent_remove s i f.place) (λ s. rest_move s i j f.entry.id g)) _ (λ s.
    ending-bind (dirent_remove s i f.place) (λ s. rest_move s i j f.entry.id g) _ (λ s.
    ending-bind (remove_gone s j g) (λ s. open_moved s i j f.entry.id) _ (λ s.
    ending-bind (get_node s f.entry.id) (λ o. end_move o.state i j o.row) _ (λ o.
    ending-bind (move_links o.state i j o.row) (λ s. bind (end_folders s i j o.row) (λ s. release s o.row)) _ (λ s. parent_is s i j o.row)))))

pick_is : (b : Bool) (x y : Out Fs) (p q : Out After) → p ≡ ending x → q ≡ ending y → pick b p q ≡ ending (pick b x y)
pick_is true x y p q e f = e
pick_is false x y p q e f = f

pub steps-is : (s : Fs) (i j : ℕ) (old name : List ℕ) (g : Gone) → move_steps s i j old name (replaced_of g) ≡ ending (move_named s i j old name g)
unfolding move_steps move_named move_slot
steps-is s i j old name g =
    ending-bind (find_slot s.arena (rec_at s i) old) (λ f. move_slot s i j f.place (renamed f.entry name) g) _ (λ f.
    pick_is (eqb (id_at s i) (id_at s j)) (within_folder s i f.place (renamed f.entry name) g) (between_folders s i j f.place (renamed f.entry name) g) _ _ (within-is s i f name g) (between_is s i j f name g))

-- ---- the new name exists

pub over-is : (s : Fs) (i j : ℕ) (old name : List ℕ) (c d k : ℕ) → bind (release s c) (λ s. move_steps s i j old name (node d k)) ≡ ending (move_over s i j old name c d k)
unfolding move_over
over-is s i j old name c d k =
    ending-bind (release s c) (λ s. move_named s i j old name (Node d k)) _ (λ s. steps-is s i j old name (Node d k))
