-- A find of a name that a folder has gives a handle on the node that it names; so a drawing that rests is found and read.
use mathlib.Core.Path.{◌≡◌, refl, sym, ap, ◌∙◌, subst}
use mathlib.Core.Bool.{true}
use mathlib.Core.List.{List, [], ◌∷◌}
use mathlib.Core.Logic.{◌≢◌, ⊎_elim}
use Prim.Native.Nat.{ℕ, zero, suc, ◌<◌}
use native.Mathlib.Omega.{arith}
use lib.ListN.{length}
use Rattle.base.specs.Out.{Out, done, bind, kept, Ok}
use Rattle.std.specs.Prelude.{Some}
use Rattle.base.proofs.Outs.{ok-done}
use Rattle.base.proofs.Bools.{true-T, and_parts}
use Rattle.base.proofs.Numbers.{lt-or-le}
use Rattle.structs.specs.Types.{is_folder}
use Rattle.structs.specs.declared.DiskINode.{DiskINode}
use Rattle.structs.specs.declared.DiskEntry.{DiskEntry}
use Rattle.utf8.specs.Names.{name_of, is_named}
use Rattle.utf8.proofs.Names.{named-decides, asked-own}
use Rattle.table.specs.declared.Table.{Table}
use Rattle.table.specs.declared.Handle.{Handle}
use Rattle.table.specs.declared.Added.{Added}
use Rattle.table.specs.Table.{row_at, live_row}
use Rattle.sefs.specs.Slots.{Slot}
use Rattle.sefs.specs.Ask.{start}
use Rattle.sefs.specs.Open.{call_find}
use Rattle.walk.specs.Walk.{Spot}
use Rattle.rules.specs.Image.{is_node, rec_of, is_folder_at, slot_in}
use Rattle.rules.specs.Rules.{Allowed, Folder}
use Rattle.image.specs.Midway.{Used}
use Rattle.image.proofs.Handles.{row-rec}
use Rattle.image.proofs.Lookups.{Hit}
use Rattle.image.proofs.Hits.{row-hit}
use Rattle.sequences.specs.Pairs.{Pair, pair, Passed}
use Rattle.sequences.specs.Calls.{Call, find, does, next}
use Rattle.sequences.specs.Promises.{On, Through, writes, resizes, fallocates}
use Rattle.sequences.proofs.Passing.{allowed}
use Rattle.sequences.proofs.Corner.{on-used}
use Rattle.walk.proofs.Chains.{part-done}
use Rattle.sequences.proofs.Chains.{alike-find, by-done, begins}
use Rattle.sequences.proofs.Reading.{file-is}
use Rattle.drawings.specs.Saved.{led}
use Rattle.drawings.specs.Rests.{Rested, Named, NodeNamed, FoundAndKept}
use Rattle.drawings.proofs.Rests.{one_more_lem, along, node-named, saved-rests}

is-empty : (l : List ℕ) → length l ≡ 0 → l ≡ []
is-empty [] e = refl
is-empty (x ∷ l) e = absurd (omega arith)

-- a find is no write
no-through : {n : ℕ} {t : Table} {c : Call} {w : ℕ} {g : Handle} {name : List ℕ} → Through n t c → c ≡ find w g name → ⊥
no-through (writes l q) e = let z : ◌≡◌ {A = ℕ} 0 1 = cc in omega arith
no-through (resizes l q) e = let z : ◌≡◌ {A = ℕ} 0 1 = cc in omega arith
no-through (fallocates l q) e = let z : ◌≡◌ {A = ℕ} 0 1 = cc in omega arith

module _ (p : Pair) (y : Passed p) where
  abbrev a : List ℕ
  a = p.arena

  abbrev t : Table
  t = p.table

  A : Allowed p.arena p.table
  A = allowed p y

  module _ (d n : ℕ) (name : List ℕ) (N : Named d name n p) where
    abbrev k : ℕ
    k = N.slot

    G : Folder p.arena p.table d
    G = A.rule6.folder d N.at.folder

    -- the slot with the name is that one
    one-slot : (m : ℕ) → m < (rec_of p.arena p.table d).blocks → name_of (slot_in p.arena (rec_of p.arena p.table d) m).name ≡ name → m ≡ k
    one-slot zero l e = absurd ((G.later k N.at.later N.at.inside).no-dot (N.is ∙ sym e ∙ G.dot))
    one-slot (suc zero) l e = absurd ((G.later k N.at.later N.at.inside).no-dots (N.is ∙ sym e ∙ G.dots))
    one-slot (suc (suc m)) l e =
        ⊎_elim
        (λ b. absurd (G.distinct (suc (suc m)) k (omega arith) b N.at.inside (e ∙ sym N.is)))
        (λ b. ⊎_elim (λ c. absurd (G.distinct k (suc (suc m)) N.at.later c l (N.is ∙ sym e))) (λ c. omega arith) (lt-or-le k (suc (suc m))))
        (lt-or-le (suc (suc m)) k)

    pub some : length name ≢ 0
    some e = (G.later k N.at.later N.at.inside).some (N.is ∙ is-empty name e)

    hits : (s : Slot) → Hit p.arena (rec_of p.arena p.table d) name s → s.entry.id ≡ n
    hits s H =
        let e : name_of (slot_in a (rec_of a t d) s.place).name ≡ name =
        (named-decides (slot_in a (rec_of a t d) s.place).name name).right (true-T (is_named (slot_in a (rec_of a t d) s.place).name name) H.named) ∙ asked-own name some in
        ap (λ (x : DiskEntry). x.id) H.is ∙ ap (λ (m : ℕ). (slot_in a (rec_of a t d) m).id) (one-slot s.place H.inside e) ∙ N.at.names

    dir : is_folder (rec_of p.arena p.table d).kind ≡ true
    unfolding is_folder_at
    dir = (and_parts (is_node a d) (is_folder (rec_of a t d).kind) N.at.folder).1

    -- the handle that the find gives is on the node
    found-on : (v : ℕ) (g : Handle) (e : List ℕ) → On p.table v g d e → (x : Added) → call_find p.arena p.table v g name ≡ done x → On x.table v x.handle n (rec_of p.arena p.table n).file
    unfolding NodeNamed
    found-on v g e o x f =
        let i : ℕ = o.row in
        let u : Used t o.row = on-used a t A v g d e o in
        let r : rec_of a t d ≡ (row_at t o.row).rec = ap (rec_of a t) (sym o.node) ∙ row-rec a t A i u in
        let B = by-done a t v (alike-find a t v y t (begins a t v y) g i o.live name) x f in
        let G = B.2 in
        let S = part-done (start a t) (row_at t i).rec name B.0 B.1 in
        let H = ok-done (subst (Ok (Hit a (row_at t i).rec name) _) S.1 (row-hit a t A y.typed.bytes i u (ap (λ (z : DiskINode). is_folder z.kind) (sym r) ∙ dir) name)) in
        let q : B.0.id ≡ n = sym S.2 ∙ hits S.0 (subst (λ (z : DiskINode). Hit a z name S.0) (sym r) H) in
        let w : (row_at x.table G.row).id ≡ n = ap (λ (z : Spot). z.id) G.is ∙ q in
        let P = G.follows.passes in
        record {
          row = G.row;
          live = G.live;
          node = w;
          file = sym (file-is (pair a x.table) P (row_on x G.row G.live w)) ∙ ap (λ (z : DiskINode). z.file) (G.follows.recs n node);
        }
      where
        node : is_node p.arena n ≡ true
        node = node-named p d k n y N.at

        row_on : (x : Added) (row : ℕ) → live_row x.table v x.handle ≡ Some row → (row_at x.table row).id ≡ n → On x.table v x.handle n (row_at x.table row).rec.file
        row_on x row l q = record { row = row; live = l; node = q; file = refl }

pub found-and-kept : FoundAndKept
unfolding FoundAndKept NodeNamed does
found-and-kept p q l w v h g n d f e name place bytes x y S calls u N fv found =
    let E : does (find v g name) (led q l) ≡ done (pair (led q l).arena x.table) = ap (λ (z : Out Added). bind z (λ x. done (pair (led q l).arena x.table))) found in
    let M : next (find v g name) (led q l) ≡ pair (led q l).arena x.table = ap (kept (led q l)) E in
    saved-rests p q (pair (led q l).arena x.table) w v h x.handle n f (rec_of (led q l).arena (led q l).table n).file place bytes y S (λ z D.
    let R : Rested n q (led q l) = along n q l z D calls in (
      subst (Rested n q) M (one_more_lem n q (led q l) (find v g name) R (record {
        fits = fv;
        not_written = λ c. absurd (no-through c refl);
        stays-node = subst (λ (m : Pair). is_node m.arena n ≡ true) (sym M) R.drawing.node;
      })),
      found-on (led q l) R.passes d n name N v g e u x found,
    ))
