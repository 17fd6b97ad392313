-- Where finds lead, by the handle that a walk gives.
use mathlib.Core.Path.{◌≡◌, refl, sym, ap, ◌∙◌}
use mathlib.Core.Bool.{Bool, true, false}
use mathlib.Core.List.{List, ◌∷◌, ◌++◌}
use mathlib.Core.Logic.{◌≢◌, ◌⊎◌, inl, inr}
use Prim.Native.Nat.{ℕ}
use Rattle.base.specs.Out.{done, refused, bind, ensure}
use Rattle.base.specs.Reasons.{bad_name, table_full}
use Rattle.std.specs.Prelude.{Some}
use Rattle.base.proofs.Outs.{ok-does}
use Rattle.structs.specs.declared.DiskINode.{DiskINode}
use Rattle.table.specs.declared.Table.{Table}
use Rattle.table.specs.declared.Handle.{Handle}
use Rattle.table.specs.declared.Added.{Added}
use Rattle.table.specs.Table.{row_at, live_row, can_hold}
use Rattle.table_laws.proofs.Handles.{live-means, live-used}
use Rattle.sefs.specs.Ask.{start}
use Rattle.sefs.specs.Open.{hold_node, call_find}
use Rattle.rules.specs.Image.{rec_of}
use Rattle.rules.specs.Rules.{Allowed}
use Rattle.walk.specs.Walk.{from_root, good_text, parts_of, Spot, spot, call_walk}
use Rattle.walk.proofs.Ways.{walk_is}
use Rattle.sefs_laws.proofs.Handles.{Owns, live-owns, handle-done}
use Rattle.image.specs.Midway.{Used}
use Rattle.image.proofs.Handles.{admitted, formed, row-node, row-rec}
use Rattle.sequences.specs.Pairs.{pair, Passed}
use Rattle.sequences.specs.Promises.{On}
use Rattle.sequences.specs.Chains.{Finds, WalkAsFinds, HaltsAsFind}
use Rattle.sequences.proofs.Passing.{allowed}
use Rattle.sequences.proofs.Chains.{Follows, Gives, hold-gives, reaches, begins, walk-as-finds, halts-as-find}

module _ (a : List ℕ) (t : Table) (w : ℕ) (h : Handle) (i : ℕ) (path : List ℕ) (room : ℕ) (y : Passed (pair a t)) (l : live_row t w h ≡ Some i) (good : good_text path ≡ true)
    (rel : from_root path ≡ false) (u : Table) (g : Handle) where
  A : Allowed a t
  A = allowed (pair a t) y

  own : Owns t w h i
  own = live-owns t w h i (formed a t A) l

  module _ (j : ℕ) (m : live_row u w g ≡ Some j) (c : Finds a w t h (parts_of path) u g) where
    abbrev id : ℕ
    id = (row_at u j).id

    ends : (call_walk a t w h path room).end ≡ bind (ensure (can_hold t w) table_full) (λ _. hold_node (start a t) w id)
    unfolding WalkAsFinds
    ends = walk_is a t w h path room ∙ rw (admitted a t A, handle-done t w h i own, walk-as-finds a t u w h g i j path room y l m good rel c) refl

    -- g's row is a node's, and has its record
    follows : Follows a t w u
    follows = (reaches a t w y c (begins a t w y) i l).follows

    B : Allowed a u
    B = allowed (pair a u) follows.passes

    used : Used u j
    used = let k = (live-means u w g j).0 m in record { below = k.is_row; node = live-used u w g j (formed a u B) k }

    rec-is : rec_of a t id ≡ (row_at u j).rec
    rec-is = sym (follows.recs id (row-node a u B j used)) ∙ row-rec a u B j used

    -- what it gives, where it is done
    abbrev Held : Type 0
    Held = (x : Added) × ((call_walk a t w h path room).end ≡ done x) × On x.table w x.handle (row_at u j).id (row_at u j).rec.file

    gives : can_hold t w ≡ true → (x : Added) → hold_node (start a t) w id ≡ done x → Gives a t w x (spot id (rec_of a t id)) → Held
    gives e x d G = (
      x,
      ends ∙ rw (e, d) refl,
      record {
        row = G.row;
        live = G.live;
        node = ap (λ (s : Spot). s.id) G.is;
        file = ap (λ (s : Spot). s.rec.file) G.is ∙ ap (λ (r : DiskINode). r.file) rec-is;
      },
    )

    pub walked-finds : Held ⊎ ((call_walk a t w h path room).end ≡ refused table_full)
    walked-finds = by (can_hold t w) refl
      where
        by : (b : Bool) → can_hold t w ≡ b → Held ⊎ ((call_walk a t w h path room).end ≡ refused table_full)
        by false e = inr (ends ∙ rw e refl)
        by true e = let H = ok-does (hold-gives a t w t (begins a t w y) own.owner e id (row-node a u B j used)) (λ _ z. z) in inl (gives e H.0 H.1 H.2)

  pub walked-halts : (ps : List (List ℕ)) (p : List ℕ) (qs : List (List ℕ)) (n : ℕ) → parts_of path ≡ ps ++ (p ∷ qs) → Finds a w t h ps u g → call_find a u w g p ≡ refused n → n ≢ bad_name → n ≢ table_full
      → (call_walk a t w h path room).end ≡ refused n
  unfolding HaltsAsFind
  walked-halts ps p qs n parts c e b f =
      walk_is a t w h path room ∙ rw (admitted a t A, handle-done t w h i own, halts-as-find a t u w h g i path room ps p qs n y l good rel parts c e b f) refl
