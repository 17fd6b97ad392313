-- From a passed pair a path without links is a chain of finds.
use mathlib.Core.Path.{◌≡◌, refl, sym, ap, ap₂, ◌∙◌, subst}
use mathlib.Core.Bool.{Bool, true, false, not, ◌&&◌}
use mathlib.Core.List.{List, []}
use mathlib.Core.Logic.{◌≢◌}
use Prim.Native.Nat.{ℕ, ◌≤◌}
use native.Mathlib.Omega.{arith}
use lib.Dec.{eqb, leb}
use Rattle.base.specs.Out.{Out, done, refused, bind, ensure, answer, kept, Ok, went}
use Rattle.base.proofs.Outs.{ok-bind, ok-weaken, ok-done, ok-does}
use Rattle.base.proofs.Tests.{decides-leb}
use Rattle.base.proofs.Sames.{decided-yes}
use Rattle.std.specs.Prelude.{Some}
use Rattle.structs.specs.Types.{is_folder}
use Rattle.structs.specs.declared.DiskINode.{DiskINode}
use Rattle.utf8.specs.Names.{is_dots, name_verdict, early_reason}
use Rattle.table.specs.declared.Table.{Table}
use Rattle.table.specs.declared.Row.{Row}
use Rattle.table.specs.declared.Handle.{Handle}
use Rattle.table.specs.declared.Added.{Added}
use Rattle.table.specs.Table.{row_at, live_row, can_hold, add_hold}
use Rattle.table_laws.specs.Rules.{Owner}
use Rattle.table_laws.proofs.Handles.{live-means, live-used, add-live}
use Rattle.sefs.specs.Nodes.{Opened}
use Rattle.sefs.specs.Slots.{find_slot}
use Rattle.sefs.specs.Ask.{not_long, known, folder, start}
use Rattle.sefs.specs.Open.{hold_node, call_root, call_find}
use Rattle.rules.specs.Image.{is_node, rec_of}
use Rattle.rules.specs.Rules.{Allowed}
use Rattle.walk.specs.Walk.{parts_of, look_at, Spot, spot, at_root, part_in, enter, Walked, most_links, walk_on}
use Rattle.walk.specs.Laws.{Chain, here, on, Leads, Halts}
use Rattle.walk.specs.Symlinks.{root-front, text-front}
use Rattle.walk.proofs.Chains.{leads, halts, text-good}
use Rattle.sefs_laws.proofs.Says.{says_is, ensure-asks}
use Rattle.sefs_laws.proofs.Handles.{Owns, owner-asks, live-owns, handle-done}
use Rattle.image.specs.Midway.{Used}
use Rattle.image.proofs.Handles.{admitted, formed}
use Rattle.image.proofs.Images.{fair, root-node}
use Rattle.image.proofs.Takes.{get-law}
use Rattle.image.proofs.Drops.{mid-rec}
use Rattle.image.proofs.Holds.{hold-mid, rows_at, rows-rec, add-rows}
use Rattle.sequences.specs.Pairs.{pair, Passed}
use Rattle.sequences.specs.Chains.{Finds, none, next, row_spot, WalkAsFinds, HaltsAsFind}
use Rattle.sequences.specs.Symlinks.{FrontByFinds, FrontByRoot}
use Rattle.sequences.proofs.Passing.{allowed, spelled-any, spelled-midway, midway-spelled}
use Rattle.sequences.proofs.Finds.{not-both, row-find}
use Rattle.sequences.proofs.Walks.{look-law}

pub never : {A : Type 0} {x : A} {n : ℕ} → done x ≡ refused n → ⊥
never e = let z : ◌≡◌ {A = ℕ} 0 1 = cc in omega arith

-- a test that was passed
ensured : (b : Bool) (n : ℕ) → ensure b n ≡ done tt → b ≡ true
ensured true n e = refl
ensured false n e = absurd (never (sym e))

module _ (a : List ℕ) (t : Table) (w : ℕ) where
  -- a table that finds have led to: it passes, and each node has the record that it had
  pub record Follows (u : Table) : Type 0 where
    pub passes : Passed (pair a u)
    pub recs : (k : ℕ) → is_node a k ≡ true → rec_of a u k ≡ rec_of a t k

  -- a find has given a handle on the spot's node
  pub record Gives (x : Added) (n : Spot) : Type 0 where
    pub row : ℕ
    pub live : live_row x.table w x.handle ≡ Some row
    pub is : row_spot x.table row ≡ n
    pub follows : Follows x.table

  -- how a find and a part end
  pub data Alike : Out Added → Out Spot → Type 0 where
    both : {x : Added} {n : Spot} → Gives x n → Alike (done x) (done n)
    stop : {n : ℕ} → Alike (refused n) (refused n)
    bad : {m : Out Spot} → Alike (refused 5) m
    full : {m : Out Spot} → Alike (refused 16) m

  alike_then : {A : Type 0} {f : A → Out Added} {g : A → Out Spot} (m : Out A) → ((x : A) → m ≡ done x → Alike (f x) (g x)) → Alike (bind m f) (bind m g)
  alike_then (done x) k = k x refl
  alike_then (refused n) k = stop

  pub hold-gives : (u : Table) → Follows u → Owner w → can_hold u w ≡ true → (id : ℕ) → is_node a id ≡ true → Ok (λ (x : Added). Gives x (spot id (rec_of a t id))) (λ _. ⊥) (hold_node (start a u) w id)
  unfolding hold_node
  hold-gives u F who can id n =
      ok-bind (get-law a u (spelled-midway a u (spelled-any (pair a u) F.passes)) id n) λ o G.
      subst (λ (z : Opened). Ok (λ (x : Added). Gives x (spot id (rec_of a t id))) (λ _. ⊥) (done (add_hold z.state.table w z.row))) (sym G.is)
      (let v : Table = (add_hold G.table w G.row).table in
      let e : (add_hold G.table w G.row).table.rows ≡ G.table.rows = add-rows G.table w G.row in
      let q : row_at v G.row ≡ row_at G.table G.row = rows_at G.table v e G.row in
      went (record {
        row = G.row;
        live = (live-means v w (add_hold G.table w G.row).handle G.row).1 (add-live G.table w G.row G.mid.formed who (G.can w ∙ can) G.used.below);
        is = ap₂ spot (ap (λ (r : Row). r.id) q ∙ G.same)
            (ap (λ (r : Row). r.rec) q ∙ sym (mid-rec a G.table G.mid.formed G.row G.used) ∙ ap (rec_of a G.table) G.same ∙ G.recs id n ∙ F.recs id n);
        follows = record {
          passes = (midway-spelled a v (hold-mid a G.table w G.row G.mid who (G.can w ∙ can) G.used)).passes;
          recs = λ k m. rows-rec a G.table v e k ∙ G.recs k m ∙ F.recs k m;
        };
      }))

  module _ (y : Passed (pair a t)) (u : Table) (F : Follows u) where
    A : Allowed a u
    A = allowed (pair a u) F.passes

    -- what find opens, the part looks at
    alike-last : Owner w → (id : ℕ) → is_node a id ≡ true → (b : Bool) → can_hold u w ≡ b
        → Alike (bind (ensure b 16) (λ _. hold_node (start a u) w id)) (bind (look_at (start a t) id) (λ n. bind (ensure (leb n.kind 4) 19) (λ _. done (spot id n))))
    alike-last who id n false e = full
    alike-last who id n true e =
        let L = ok-does (look-law (pair a t) (spelled-any (pair a t) y) id n) (λ _ z. z) in
        let H = ok-does (hold-gives u F who e id n) (λ _ z. z) in
        let k : leb L.0.kind 4 ≡ true = decided-yes (decides-leb L.0.kind 4) (subst (λ (r : DiskINode). r.kind ≤ 4) L.2 ((allowed (pair a t) y).rule5.most id n)) in
        rw (L.1, H.1, k) (both (subst (λ (r : DiskINode). Gives H.0 (spot id r)) L.2 H.2))

    alike-good : {o : Out Added} {m : Out Spot} (b : Bool) → Alike o m → Alike (bind (ensure b 5) (λ _. o)) m
    alike-good true k = k
    alike-good false k = bad

    pub alike-find : (h : Handle) (i : ℕ) → live_row u w h ≡ Some i → (name : List ℕ) → Alike (call_find a u w h name) (part_in (start a t) (row_at u i).rec name)
    unfolding call_find part_in
    alike-find h i l name =
        let o : Owns u w h i = live-owns u w h i (formed a u A) l in
        let m = (live-means u w h i).0 l in
        let used : Used u i = record { below = m.is_row; node = live-used u w h i (formed a u A) m } in
        rw (admitted a u A, handle-done u w h i o)
        (alike-good (eqb (early_reason (name_verdict name)) 0)
        (alike_then (known (row_at u i).rec) λ _ _.
        alike_then (folder (row_at u i).rec) λ _ f.
        alike_then (not_long name) λ _ _.
        alike_then (ensure (not (is_dots name && eqb (row_at u i).rec.nlinks 0)) 8) λ _ d.
        alike_then (find_slot a (row_at u i).rec name) λ e q.
        alike-last o.owner e.entry.id
        (ok-done (subst (Ok _ _) q (row-find a u A F.passes.typed.bytes i used (ensured (is_folder (row_at u i).rec.kind) 7 f) name
        (not-both (is_dots name) (row_at u i).rec.nlinks (ensured (not (is_dots name && eqb (row_at u i).rec.nlinks 0)) 8 d)))))
        (can_hold u w) refl))

  -- ---- from one find to a chain of them

  pub by-done : {o : Out Added} {m : Out Spot} → Alike o m → (x : Added) → o ≡ done x → (n : Spot) × (m ≡ done n) × Gives x n
  by-done (both {x = z} {n = n} g) x e = (n, refl, subst (λ (z : Added). Gives z n) (ap (kept z) e) g)
  by-done stop x e = absurd (never (sym e))
  by-done bad x e = absurd (never (sym e))
  by-done full x e = absurd (never (sym e))

  by-refused : {o : Out Added} {m : Out Spot} → Alike o m → (n : ℕ) → o ≡ refused n → n ≢ 5 → n ≢ 16 → m ≡ refused n
  by-refused (both g) n e b f = absurd (never e)
  by-refused (stop {n = k}) n e b f = let q : k ≡ n = ap answer e in ap refused q
  by-refused bad n e b f = absurd (b (sym (ap answer e)))
  by-refused full n e b f = absurd (f (sym (ap answer e)))

  -- where a chain of finds has led
  pub record Reaches (at : Spot) (ps : List (List ℕ)) (v : Table) (g : Handle) : Type 0 where
    row : ℕ
    live : live_row v w g ≡ Some row
    chain : Chain (start a t) at ps (row_spot v row)
    pub follows : Follows v

  pub reaches : Passed (pair a t) → {u v : Table} {h g : Handle} {ps : List (List ℕ)} → Finds a w u h ps v g → Follows u → (i : ℕ) → live_row u w h ≡ Some i → Reaches (row_spot u i) ps v g
  reaches y none F i l = record { row = i; live = l; chain = here; follows = F }
  reaches y (next {t = u} {h = h} {x = x} {p = p} e k c) F i l =
      let B = by-done (alike-find y u F h i l p) x e in
      let G : Gives x B.0 = B.2 in
      let R = reaches y c G.follows G.row G.live in
      record { row = R.row; live = R.live; chain = on (B.1 ∙ ap done (sym G.is)) (k G.row G.live) R.chain; follows = R.follows }

  pub begins : Passed (pair a t) → Follows t
  begins y = record { passes = y; recs = λ k n. refl }

pub walk-as-finds : WalkAsFinds
unfolding WalkAsFinds Leads
walk-as-finds a t u w h g i j path room y l m good rel c =
    let R = reaches a t w y c (begins a t w y) i l in
    let q : R.row ≡ j = cc in
    ap (λ (x : Walked Spot). x.end) (text-good (start a t) (row_spot t i) path room good rel ∙ leads (start a t) room most_links [] (row_spot t i) (row_spot u R.row) (parts_of path) R.chain)
    ∙ ap (λ (k : ℕ). done (row_spot u k)) q

pub halts-as-find : HaltsAsFind
unfolding HaltsAsFind Halts
halts-as-find a t u w h g i path room ps p qs n y l good rel parts c e b f =
    let R = reaches a t w y c (begins a t w y) i l in
    ap (λ (x : Walked Spot). x.end)
    (text-good (start a t) (row_spot t i) path room good rel ∙ ap (walk_on (start a t) room most_links [] (row_spot t i)) parts
    ∙ halts (start a t) room most_links [] (row_spot t i) (row_spot u R.row) ps p qs n R.chain
    (by-refused a t w (alike-find a t w y u R.follows g R.row R.live p) n e b f))

-- ---- the front of a path

pub front-by-finds : FrontByFinds
unfolding FrontByFinds enter
front-by-finds a t u w h g i j d y l m good rel c =
    let R = reaches a t w y c (begins a t w y) i l in
    let q : R.row ≡ j = cc in
    text-front d {to = row_spot t i} (rw (good, rel) refl) (subst (λ (k : ℕ). Chain (start a t) (row_spot t i) (parts_of d) (row_spot u k)) q R.chain)

-- root is looked at as it is opened
root-gives : (a : List ℕ) (t : Table) (w : ℕ) → Passed (pair a t) → Ok (λ (x : Added). Gives a t w x (spot 2 (rec_of a t 2))) (λ _. Unit) (call_root a t w)
unfolding call_root
root-gives a t w y =
    let A = allowed (pair a t) y in
    ok-bind (says_is (admitted a t A)) λ _ _.
    ok-bind (owner-asks {R = λ _. Unit} tt w) λ _ who.
    ok-bind (ensure-asks {R = λ _. Unit} (can_hold t w) 16 tt) λ _ can.
    ok-weaken (λ _ g. g) (λ _ z. tt) (hold-gives a t w t (begins a t w y) who can 2 (root-node a t (fair a t A)))

pub front-by-root : FrontByRoot
unfolding FrontByRoot at_root
front-by-root a t w x i j y e l =
    let A = allowed (pair a t) y in
    let G = ok-done (subst (Ok (λ (z : Added). Gives a t w z (spot 2 (rec_of a t 2))) (λ _. Unit)) e (root-gives a t w y)) in
    let L = ok-does (look-law (pair a t) (spelled-any (pair a t) y) 2 (root-node a t (fair a t A))) (λ _ z. z) in
    let q : G.row ≡ j = cc in
    root-front {at = row_spot x.table j} (rw L.1 (ap (λ (r : DiskINode). done (spot 2 r)) (sym L.2) ∙ ap done (sym G.is) ∙ ap (λ (k : ℕ). done (row_spot x.table k)) q))
