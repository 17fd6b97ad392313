-- From the questions to the steps: what the code's ways out show of a move.
use mathlib.Core.Path.{◌≡◌, refl, sym, ◌∙◌, subst}
use mathlib.Core.List.{List}
use Prim.Native.Nat.{ℕ, ◌≤◌, ◌<◌}
use native.Mathlib.Omega.{arith}
use lib.ListN.{length}
use borrow.Author.Tests.{eq-eqb, ne_eqb, le-leb, lt-leb}
use Rattle.base.specs.Out.{Out, done, refused, bind, Went, well, ill}
use lib.Dec.{eqb}
use Rattle.base.specs.Search.{pick, found_below}
use Rattle.base.proofs.Outs.{went-is, went-has, went-not, went-next, went-stop, went-weaken}
use Rattle.base.proofs.Searches.{found_at, found_nothing}
use Rattle.le.specs.Le.{le_at}
use Rattle.structs.specs.declared.DiskINode.{DiskINode}
use Rattle.structs.specs.declared.DiskEntry.{DiskEntry}
use Rattle.structs.specs.Layout.{entry_of}
use Rattle.table.specs.Table.{row_at}
use Rattle.table.specs.declared.Table.{Table}
use Rattle.table.specs.declared.Handle.{Handle}
use Rattle.sefs.specs.State.{Fs}
use Rattle.sefs.specs.Ask.{admit, by_handle, start}
use Rattle.sefs.specs.Nodes.{opened, get_node}
use Rattle.sefs.specs.Slots.{slot_at, look_to, lookup, find_slot}
use Rattle.sefs.specs.Create.{After, after}
use Rattle.sefs.specs.Move.{renamed, not_below, move_onto, move_free, call_move}
use Rattle.mem.specs.Mem.{table_in, Whole}
use Rattle.mem.specs.State.{Stepped, fs_at}
use Rattle.chains.proofs.Lookups.{lookup-is}
use Rattle.climbs.specs.Types.{judge_rows}
use Rattle.calls.specs.Asked.{by_two}
use Rattle.steps.specs.Ends.{Begun, Rest, on, off, ending}
use Rattle.steps.proofs.Ends.{begun-start, rest-off, rest-as}
use Rattle.move_steps.specs.declared.Gone.TheVariants.{Free}
use Rattle.move_steps.specs.Steps.{move_slot, move_named, move_over}
use Rattle.move_steps.proofs.Moves.{steps-is, over-is}
use Rattle.calls_move.specs.Parts.{Both, both, open_two, known_two, replace_known, replace_node, replace_named, move_found, move_asks, move_work, plan_steps, planned, Planned, Agreed}
use Rattle.calls_move.proofs.Moves.{replace-is, move-is}

-- ---- both nodes opened

went-map : {A B : Type 0} {o : Out A} {v : A} {P : Type 0} {r : ℕ} (f : A → B) → Went o v P r → Went (bind o (λ x. done (f x))) (f v) P r
went-map f (well e p) = well (rw e) p
went-map f (ill l e) = ill l (rw e)

module _ (a m n : List ℕ) (new was d : ℕ) {r : ℕ} (g : Went (get_node (fs_at a m) new) (opened (fs_at a n) d) (Whole n × (d < 34)) r) where
  pub two-stop : (v : Both) {Q : Type 0} → (r ≡ 0 → ⊥) → Went (open_two (fs_at a m) new was) v Q r
  unfolding open_two
  two-stop v z = went-stop _ v z g

  pub two-next : (q : List ℕ) (c : ℕ) {x : ℕ} → r ≡ 0 → Went (get_node (fs_at a n) was) (opened (fs_at a q) c) (Whole q × (c < 34)) x
      → Went (open_two (fs_at a m) new was) (both (fs_at a q) d c) (Whole q × ((d < 34) × (c < 34))) x
  unfolding open_two
  two-next q c z h =
      went-next (λ d. bind (get_node d.state was) (λ c. done (both c.state d.row c.row))) (went-is g z)
      (went-weaken (λ k. (k.0, ((went-has g z).1, k.1))) (went-map (λ c. both c.state d c.row) h))

-- ---- the ways of a plan

module _ (z s : Fs) (i j : ℕ) (old name : List ℕ) (e : DiskEntry) (k d c : ℕ) where
  pub plan-same : (way : ℕ) → way ≡ 0 → planned z s way i j old name e k d c ≡ done (after z)
  unfolding planned
  plan-same way q = rw (eq-eqb way 0 q)

  pub plan-goes : (way : ℕ) → (way ≡ 0 → ⊥) → planned z s way i j old name e k d c ≡ ending (plan_steps s way i j old name e k d c)
  unfolding planned
  plan-goes way q = rw (ne_eqb way 0 q)

  pub plan-free : (way : ℕ) → way ≡ 1 → plan_steps s way i j old name e k d c ≡ move_slot s i j k e Free
  unfolding plan_steps
  plan-free way q = rw (eq-eqb way 1 q)

  pub plan-onto : (way : ℕ) → (way ≡ 1 → ⊥) → plan_steps s way i j old name e k d c ≡ move_over s i j old name c d k
  unfolding plan_steps
  plan-onto way q = rw (ne_eqb way 1 q)

-- the moved slot takes fewer blocks than a node in another's place
pub slot-more : {o : Out Fs} {a w u m : List ℕ} {r : ℕ} → Stepped o a w u m 48 r → Stepped o a w u m 61 r
slot-more g = went-weaken (λ p. record { fine = p.fine; whole = p.whole; room = omega (arith, p.room) }) g

-- ---- the new name exists

-- node c in the place of node d
module _ (a m : List ℕ) (i j : ℕ) (old name : List ℕ) (c d k : ℕ) {r : ℕ} {P : Type 0} (g : Went (judge_rows (fs_at a m) c d) (fs_at a m) P r) where
  pub onto-judged : {e : Out After} {Q : Type 0} → (r ≡ 0 → ⊥) → Rest (move_onto (fs_at a m) i j old name c d k) e Q r
  unfolding move_onto judge_rows
  onto-judged z = rest-off z (rw (went-not g z))

  pub onto-below : {R : Type 0} {q : ℕ} → r ≡ 0 → Went (not_below (fs_at a m) i j c) tt R q → Rest (move_onto (fs_at a m) i j old name c d k) (ending (move_over (fs_at a m) i j old name c d k)) Unit q
  unfolding move_onto judge_rows
  onto-below z (well e p) = on (rw (went-is g z, e) (over-is (fs_at a m) i j old name c d k)) tt
  onto-below z (ill l e) = off l (rw (went-is g z, e))

-- both are known: x and y are their records
module _ (z : Fs) (a m : List ℕ) (i j : ℕ) (old name : List ℕ) (v : DiskEntry) (k new was d c : ℕ) (x y : DiskINode) (e : x ≡ (row_at (table_in m) c).rec) (f : y ≡ (row_at (table_in m) d).rec) {r : ℕ} {P : Type 0} (g : Went (known_two x y) tt P r) where
  known_at : Went (known_two (row_at (table_in m) c).rec (row_at (table_in m) d).rec) tt P r
  known_at = rw (e, f) at g

  pub two-unknown : {e : Out After} {Q : Type 0} → (r ≡ 0 → ⊥) → Rest (replace_known z (fs_at a m) i j old name k new was d c) e Q r
  unfolding replace_known
  two-unknown o = rest-off o (rw (went-not known_at o))

  pub two-same : r ≡ 0 → was ≡ new → Rest (replace_known z (fs_at a m) i j old name k new was d c) (planned z (fs_at a m) (pick (eqb was new) 0 2) i j old name v k d c) Unit 0
  unfolding replace_known planned
  two-same o l = on (rw (went-is known_at o, eq-eqb was new l)) tt

  pub two-onto : {q : ℕ} → r ≡ 0 → (was ≡ new → ⊥) → Rest (move_onto (fs_at a m) i j old name c d k) (ending (move_over (fs_at a m) i j old name c d k)) Unit q
      → Rest (replace_known z (fs_at a m) i j old name k new was d c) (planned z (fs_at a m) (pick (eqb was new) 0 2) i j old name v k d c) Unit q
  unfolding replace_known planned plan_steps
  two-onto o l h = rw (went-is known_at o, ne_eqb was new l) h

-- both are open
module _ (a m n : List ℕ) (i j : ℕ) (old name : List ℕ) (k new was d c : ℕ) {r : ℕ} {P : Type 0} (g : Went (open_two (fs_at a m) new was) (both (fs_at a n) d c) P r) where
  pub node-stop : {e : Out After} {Q : Type 0} → (r ≡ 0 → ⊥) → Rest (replace_node (fs_at a m) i j old name k new was) e Q r
  unfolding replace_node
  node-stop z = rest-off z (rw (went-not g z))

  pub node-goes : {Q : Type 0} {q : ℕ} (v : DiskEntry) (way : ℕ) → r ≡ 0 → way ≡ pick (eqb was new) 0 2 → Q
      → Rest (replace_known (fs_at a m) (fs_at a n) i j old name k new was d c) (planned (fs_at a m) (fs_at a n) (pick (eqb was new) 0 2) i j old name v k d c) Unit q
      → Rest (replace_node (fs_at a m) i j old name k new was) (planned (fs_at a m) (fs_at a n) way i j old name v k d c) Q q
  unfolding replace_node
  node-goes v way z w p h = rw w (rest-as (rw (went-is g z)) (λ _. p) h)

-- ---- the old name is found

module _ (a m : List ℕ) (i j : ℕ) (old name l : List ℕ) (p r : ℕ) {P : Type 0} (x : DiskINode) (e : x ≡ (row_at (table_in m) i).rec) (g : Went (find_slot a x old) (record { place = p; entry = entry_of l }) P r) where
  old-at : Went (find_slot a (row_at (table_in m) i).rec old) (record { place = p; entry = entry_of l }) P r
  old-at = rw e at g

  pub named-stop : {e : Out After} {Q : Type 0} (k new : ℕ) → (r ≡ 0 → ⊥) → Rest (replace_named (fs_at a m) i j old name k new) e Q r
  unfolding replace_named
  named-stop k new z = rest-off z (rw (went-not old-at z))

  pub named-next : {e : Out After} {Q : Type 0} {q : ℕ} (k new was : ℕ) → was ≡ le_at l 0 4 → r ≡ 0 → Rest (replace_node (fs_at a m) i j old name k new was) e Q q → Rest (replace_named (fs_at a m) i j old name k new) e Q q
  unfolding replace_named entry_of
  named-next k new was d z h = rest-as (rw (went-is old-at z, d)) (λ p. p) h

  -- and the new name is free
  pub free-stop : {e : Out After} {Q : Type 0} → (r ≡ 0 → ⊥) → Rest (ending (move_named (fs_at a m) i j old name Free)) e Q r
  unfolding move_named
  free-stop z = rest-off z (rw (went-not old-at z))

  pub free-next : {Q : Type 0} (t : Fs) (v : DiskEntry) (d c : ℕ) → r ≡ 0 → v ≡ renamed (entry_of l) name → Q → Rest (ending (move_named (fs_at a m) i j old name Free)) (planned t (fs_at a m) 1 i j old name v p d c) Q 0
  unfolding move_named planned plan_steps
  free-next t v d c z q h = on (rw (went-is old-at z, q)) h

-- ---- the new name is free: x and y are the folders' ids

module _ (a m : List ℕ) (i j : ℕ) (old name : List ℕ) (x y : ℕ) (p : x ≡ (row_at (table_in m) i).id) (q : y ≡ (row_at (table_in m) j).id) where
  pub free-within : {Q : Type 0} → x ≡ y → Q → Rest (move_free (fs_at a m) i j old name) (ending (move_named (fs_at a m) i j old name Free)) Q 0
  unfolding move_free
  free-within e h = on (rw (eq-eqb (row_at (table_in m) i).id (row_at (table_in m) j).id (sym p ∙ e ∙ q)) (steps-is (fs_at a m) i j old name Free)) h

  -- between two folders: the slot l of the old name
  module _ (u : x ≡ y → ⊥) (rec : DiskINode) (e : rec ≡ (row_at (table_in m) i).rec) (l : List ℕ) (k r : ℕ) {P : Type 0} (g : Went (find_slot a rec old) (record { place = k; entry = entry_of l }) P r) where
    apart : (row_at (table_in m) i).id ≡ (row_at (table_in m) j).id → ⊥
    apart o = u (p ∙ o ∙ sym q)

    slot-at : Went (find_slot a (row_at (table_in m) i).rec old) (record { place = k; entry = entry_of l }) P r
    slot-at = rw e at g

    pub free-missing : {e : Out After} {Q : Type 0} → (r ≡ 0 → ⊥) → Rest (move_free (fs_at a m) i j old name) e Q r
    unfolding move_free
    free-missing z = rest-off z (rw (ne_eqb (row_at (table_in m) i).id (row_at (table_in m) j).id apart, went-not slot-at z))

    -- node c, which it names
    module _ (z : r ≡ 0) (id : ℕ) (f : id ≡ le_at l 0 4) (n : List ℕ) (c : ℕ) {t : ℕ} {R : Type 0} (h : Went (get_node (fs_at a m) id) (opened (fs_at a n) c) R t) where
      moved_at : Went (get_node (fs_at a m) (le_at l 0 4)) (opened (fs_at a n) c) R t
      moved_at = rw f at h

      pub free-unopened : {e : Out After} {Q : Type 0} → (t ≡ 0 → ⊥) → Rest (move_free (fs_at a m) i j old name) e Q t
      unfolding move_free entry_of
      free-unopened o = rest-off o (rw (ne_eqb (row_at (table_in m) i).id (row_at (table_in m) j).id apart, went-is slot-at z, went-not moved_at o))

      -- and its type v
      module _ (o : t ≡ 0) (v : ℕ) (d : v ≡ (row_at (table_in n) c).rec.kind) where
        pub free-above : {e : Out After} {Q : Type 0} → 4 < v → Rest (move_free (fs_at a m) i j old name) e Q 19
        unfolding move_free entry_of
        free-above y = rest-off {r = 19} (omega arith) (rw (ne_eqb (row_at (table_in m) i).id (row_at (table_in m) j).id apart, went-is slot-at z, went-is moved_at o, ← d, lt-leb v 4 y))

        pub free-below : {Q S : Type 0} {w : ℕ} → v ≤ 4 → Went (not_below (fs_at a n) i j c) tt S w → Q → Rest (move_free (fs_at a m) i j old name) (ending (move_named (fs_at a n) i j old name Free)) Q w
        unfolding move_free entry_of
        free-below y (well b s) h =
            on (rw (ne_eqb (row_at (table_in m) i).id (row_at (table_in m) j).id apart, went-is slot-at z, went-is moved_at o, ← d, le-leb v 4 y, b) (steps-is (fs_at a n) i j old name Free)) h
        free-below y (ill b s) h = off b (rw (ne_eqb (row_at (table_in m) i).id (row_at (table_in m) j).id apart, went-is slot-at z, went-is moved_at o, ← d, le-leb v 4 y, s))

-- ---- the new name is looked for

module _ (a m : List ℕ) (i j : ℕ) (old name : List ℕ) {k r : ℕ} {P : Type 0} (x : DiskINode) (e : x ≡ (row_at (table_in m) j).rec) (g : Went (look_to a x name x.blocks) k P r) where
  look_at_lem : Went (lookup a (row_at (table_in m) j).rec name) (found_below k x.blocks) P r
  look_at_lem = subst (λ (y : DiskINode). Went (lookup a y name) (found_below k x.blocks) P r) e (lookup-is a x name g)

  pub found-stop : {e : Out After} {Q : Type 0} → (r ≡ 0 → ⊥) → Rest (move_found (fs_at a m) i j old name) e Q r
  unfolding move_found
  found-stop z = rest-off z (rw (went-not look_at_lem z))

  pub found-there : {e : Out After} {Q : Type 0} {q : ℕ} (l : List ℕ) (new : ℕ) → r ≡ 0 → k < x.blocks → slot_at a x k ≡ done (entry_of l) → new ≡ le_at l 0 4
      → Rest (replace_named (fs_at a m) i j old name k new) e Q q → Rest (move_found (fs_at a m) i j old name) e Q q
  unfolding move_found entry_of
  found-there l new z b f d h =
      rest-as
      (rw (went-is look_at_lem z, found_at k x.blocks b) (replace-is (fs_at a m) i j old name k
      ∙ rw (subst (λ (y : DiskINode). slot_at a y k ≡ done (entry_of l)) e f, d)))
      (λ p. p) h

  pub found-free : {e : Out After} {Q : Type 0} {q : ℕ} → r ≡ 0 → x.blocks ≤ k → Rest (move_free (fs_at a m) i j old name) e Q q → Rest (move_found (fs_at a m) i j old name) e Q q
  unfolding move_found
  found-free z b h = rest-as (rw (went-is look_at_lem z, found_nothing k x.blocks b)) (λ p. p) h

-- ---- the questions, then the rest

module _ (a m : List ℕ) (i j : ℕ) (old name : List ℕ) {r : ℕ} {P : Type 0} (x y : DiskINode) (e : x ≡ (row_at (table_in m) i).rec) (f : y ≡ (row_at (table_in m) j).rec) (g : Went (move_asks x y old name) tt P r) where
  asks_at : Went (move_asks (row_at (table_in m) i).rec (row_at (table_in m) j).rec old name) tt P r
  asks_at = rw (e, f) at g

  pub work-stop : {e : Out After} {Q : Type 0} → (r ≡ 0 → ⊥) → Rest (move_work (fs_at a m) i j old name) e Q r
  unfolding move_work
  work-stop z = rest-off z (rw (went-not asks_at z))

  pub work-next : {e : Out After} {Q : Type 0} {q : ℕ} → r ≡ 0 → Rest (move_found (fs_at a m) i j old name) e Q q → Rest (move_work (fs_at a m) i j old name) e (P × Q) q
  unfolding move_work
  work-next z h = rest-as (rw (went-is asks_at z)) (λ p. (went-has asks_at z, p)) h

-- the call, once arena and table are known, and its handles
pub move-refused : (a : List ℕ) (t : Table) (who : ℕ) (h : Handle) (old : List ℕ) (target : Handle) (name : List ℕ) {n : ℕ} → admit a t ≡ refused n → call_move a t who h old target name ≡ refused n
unfolding call_move
move-refused a t who h old target name q = rw q

module _ (a first next m n : List ℕ) (who : ℕ) (h target : Handle) (old name : List ℕ) (k : admit a (table_in m) ≡ done tt) {i j r : ℕ} (g : Went (by_two (table_in m) who h target) (i, j) (Begun a first next m n × ((i < 34) × (j < 34))) r) where
  move-two : call_move a (table_in m) who h old target name ≡ bind (by_two (table_in m) who h target) (λ p. move_work (start a (table_in m)) p.0 p.1 old name)
  unfolding by_two
  move-two = move-is a (table_in m) who h old target name ∙ rw k (go (by_handle (table_in m) who h) (by_handle (table_in m) who target))
    where
      go : (b d : Out ℕ) → bind b (λ i. bind d (λ j. move_work (start a (table_in m)) i j old name))
          ≡ bind {A = ℕ × ℕ} (bind {B = ℕ × ℕ} b (λ i. bind {B = ℕ × ℕ} d (λ j. done (i, j)))) (λ p. move_work (start a (table_in m)) p.0 p.1 old name)
      go (done i) (done c) = refl
      go (done i) (refused k) = refl
      go (refused k) d = refl

  pub move-not : {e : Out After} {Q : Type 0} → (r ≡ 0 → ⊥) → Rest (call_move a (table_in m) who h old target name) e Q r
  move-not z = rest-off z (move-two ∙ rw (went-not g z))

  pub move-rows : {y slot : List ℕ} {x w d c q : ℕ} (e : Fs → Out After) → r ≡ 0
      → Rest (move_work (fs_at a n) i j old name) (e (fs_at a n)) ((length name ≤ 255) × (Planned y x w d c × (length slot ≡ 264))) q
      → Rest (call_move a (table_in m) who h old target name) (e (start a (table_in m))) (Agreed a y name slot x w d c) q
  move-rows {y} {slot} {x} {w} {d} {c} {q} e z f =
      let b = (went-has g z).0 in
      subst (λ (t : Fs). Rest (call_move a (table_in m) who h old target name) (e t) (Agreed a y name slot x w d c) q) (begun-start b)
      (rest-as (move-two ∙ rw (went-is g z, ← begun-start b)) (λ p. record { legal = b.led.whole; plan = p.1.0; short = p.0; long = p.1.1 }) f)
