-- The definitions of folders, on the state that the three slices are.
use mathlib.Core.Path.{◌≡◌, refl, sym, ap, ◌∙◌, subst}
use mathlib.Core.List.{List, [], ◌∷◌}
use Prim.Native.Nat.{ℕ, ◌+◌, ◌*◌, ◌-◌, ◌≤◌, ◌<◌, min}
use native.Mathlib.Omega.{arith}
use lib.ListN.{length}
use lib.Dec.{eqb}
use borrow.Author.Tests.{eq-eqb, ne_eqb, lt-ltb, le-ltb}
use Rattle.base.specs.Out.{Out, done, refused, bind, Went, well, ill}
use Rattle.base.specs.Search.{pick}
use Rattle.base.proofs.Outs.{went-is, went-has, went-next, went-stop, bind-is-done, bind_assoc, above_zero}
use Rattle.le.specs.Le.{Bytes}
use Rattle.structs.specs.Layout.{entry_of, entry_bytes}
use Rattle.structs.specs.Constants.{type_dir}
use Rattle.structs.proofs.Layouts.{entry_bytes-entry_of}
use Rattle.arena.specs.Fields.{file}
use Rattle.overlay.specs.View.{view, Fine}
use Rattle.overlay.specs.Steps.{Did}
use Rattle.overlay.proofs.Chains.{did-well, did-ill, did_more}
use Rattle.files.specs.Store.{put_file, cut_file, longest, touched}
use Rattle.files.proofs.Puts.{touched-few}
use Rattle.table.specs.Table.{row_at}
use Rattle.sefs.specs.State.{Fs, with_arena}
use Rattle.sefs.specs.Records.{with_links, with_blocks}
use Rattle.sefs.specs.Nodes.{node_file, rec_at, id_at, set_rec, release}
use Rattle.sefs.specs.Slots.{slot_bytes}
use Rattle.sefs.specs.Folders.{entry, put_slot, dirent_init, dirent_append, dirent_remove, nlinks_inc, nlinks_dec, dirent_node_remove}
use Rattle.mem.specs.Mem.{table_in, Whole}
use Rattle.mem.specs.State.{fs_of, Stepped}
use Rattle.folders.specs.Steps.{Blocked, Linked, shortened, unlink_dots}
use Rattle.folders.proofs.Common.{put-held, put-short}
use Rattle.folders.proofs.States.{did-stepped}

-- ---- a slot written

pub put-slot-did : (a w u m : List ℕ) (i k p r : ℕ) (l name : List ℕ) → Whole m → length l ≡ 264 → name ≡ (row_at (table_in m) i).rec.file → p ≡ min k 16777216
    → Did (put_file (view a w) (file 1 name) (264 * p) l) a w u (1 + touched (264 * p) (length l)) r → Stepped (put_slot (fs_of a w m) i k l) a w u m 3 r
unfolding put_slot fs_of
put-slot-did a w u m i k p r l name h s c q d =
    let f = (row_at (table_in m) i).rec in
    let z : put_file (view a w) (file 1 name) (264 * p) l ≡ put_file (view a w) (node_file f) (264 * k) l = ap (λ (x : List ℕ). put_file (view a w) (file 1 x) (264 * p) l) c ∙ put-held (view a w) (node_file f) k p l s q in
    let n = touched-few (264 * p) (length l) (omega arith) in
    did-stepped m h (subst (λ (o : Out (List ℕ)). Did o a w u 3 r) z (did_more 3 (omega arith) d))

-- another name for its bytes
pub put-slot-as : {a w u m l t : List ℕ} {r : ℕ} (i k : ℕ) → l ≡ t → Stepped (put_slot (fs_of a w m) i k l) a w u m 3 r → Stepped (put_slot (fs_of a w m) i k t) a w u m 3 r
put-slot-as i k e g = rw (← e) g

-- its end is below the longest length, so the count of slots can rise
pub put-slot-short : (a w m : List ℕ) (i k : ℕ) (l : List ℕ) (s : Fs) → length l ≡ 264 → put_slot (fs_of a w m) i k l ≡ done s → 264 * k + 264 ≤ longest
unfolding put_slot fs_of
put-slot-short a w m i k l s h e =
    let f = (row_at (table_in m) i).rec in
    let d = bind-is-done (put_file (view a w) (node_file f) (264 * k) l) _ s e in
    omega (arith, put-short (view a w) (node_file f) (264 * k) l d.0 d.1)

-- ---- two slots made

pub init-is : (a w m n : List ℕ) (i parent : ℕ) → Blocked m n i 2
    → bind (put_slot (fs_of a w n) i 0 (entry_bytes (entry (id_at (fs_of a w n) i) (46 ∷ []) type_dir))) (λ s. put_slot s i 1 (entry_bytes (entry parent (46 ∷ 46 ∷ []) type_dir))) ≡ dirent_init (fs_of a w m) i parent
unfolding dirent_init
init-is a w m n i parent R =
    ap (λ (s : Fs). bind (put_slot s i 0 (entry_bytes (entry (id_at s i) (46 ∷ []) type_dir))) (λ s. put_slot s i 1 (entry_bytes (entry parent (46 ∷ 46 ∷ []) type_dir)))) (R.is a w)

-- the id that the code has
pub id-of : (a w m : List ℕ) (i x : ℕ) → x ≡ (row_at (table_in m) i).id → x ≡ id_at (fs_of a w m) i
unfolding fs_of
id-of a w m i x e = e

-- ---- a slot appended

-- the count after it
abbrev counted : Fs → ℕ → Out Fs
counted s i = done (set_rec s i (with_blocks (rec_at s i) ((rec_at s i).blocks + 1)))

append-is : (a w m : List ℕ) (i k : ℕ) (l : List ℕ) → Bytes l → length l ≡ 264 → k ≡ (row_at (table_in m) i).rec.blocks
    → bind (put_slot (fs_of a w m) i k l) (λ s. counted s i) ≡ dirent_append (fs_of a w m) i (entry_of l)
unfolding dirent_append fs_of
append-is a w m i k l b h q =
    ap (λ (x : ℕ). bind (put_slot (fs_of a w m) i x l) (λ s. counted s i)) q
    ∙ ap (λ (x : List ℕ). bind (put_slot (fs_of a w m) i (rec_at (fs_of a w m) i).blocks x) (λ s. counted s i)) (sym (entry_bytes-entry_of l b h))

pub append-stop : (a w u m n : List ℕ) (i k r : ℕ) (l : List ℕ) → Bytes l → length l ≡ 264 → k ≡ (row_at (table_in m) i).rec.blocks → (r ≡ 0 → ⊥)
    → Stepped (put_slot (fs_of a w m) i k l) a w u m 3 r → Stepped (dirent_append (fs_of a w m) i (entry_of l)) a w u n 3 r
append-stop a w u m n i k r l b h q z g = rw (← (append-is a w m i k l b h q)) (went-stop _ _ z g)

again : (a u m n : List ℕ) (i x : ℕ) → x ≡ (row_at (table_in m) i).rec.blocks → Blocked m n i (x + 1) → counted (fs_of a u m) i ≡ done (fs_of a u n)
unfolding fs_of
again a u m n i x e R =
    ap (λ (x : ℕ). done (set_rec (fs_of a u m) i (with_blocks (rec_at (fs_of a u m) i) (x + 1)))) (sym e) ∙ ap done (sym (R.is a u))

pub append-done : (a w u m n : List ℕ) (i k r x : ℕ) (l : List ℕ) → Bytes l → length l ≡ 264 → x ≡ (row_at (table_in m) i).rec.blocks → k ≡ x → r ≡ 0
    → Stepped (put_slot (fs_of a w m) i k l) a w u m 3 r → Blocked m n i (x + 1) → Stepped (dirent_append (fs_of a w m) i (entry_of l)) a w u n 3 0
append-done a w u m n i k r x l b h e q z g R =
    let s = went-has g z in
    rw (← (append-is a w m i k l b h (q ∙ e)))
    (went-next (λ s. counted s i) (went-is g z) (well (again a u m n i x e R) (record { fine = s.fine; whole = R.whole; room = s.room })))

-- ---- a slot removed

-- the last slot leaves no hole
pub hole-none : (a w m : List ℕ) (k last : ℕ) (o : Out Fs) → Fine a w → Whole m → k ≡ last → Stepped (pick (eqb k last) (done (fs_of a w m)) o) a w w m 3 0
hole-none a w m k last o f h e = rw (eq-eqb k last e) (well refl (record { fine = f; whole = h; room = omega arith }))

pub hole-filled : {o : Out Fs} (a w u m : List ℕ) (k last r : ℕ) → (k ≡ last → ⊥) → Stepped o a w u m 3 r → Stepped (pick (eqb k last) (done (fs_of a w m)) o) a w u m 3 r
hole-filled a w u m k last r e g = rw (ne_eqb k last e) g

short-is : (a w m : List ℕ) (i p : ℕ) (name : List ℕ) → name ≡ (row_at (table_in m) i).rec.file → p ≡ (row_at (table_in m) i).rec.blocks - 1
    → bind (cut_file (view a w) (file 1 name) (264 * p)) (λ x. done (set_rec (with_arena (fs_of a w m) x) i (with_blocks (rec_at (fs_of a w m) i) p))) ≡ shortened (fs_of a w m) i
unfolding fs_of
short-is a w m i p name c q =
    ap (λ (x : List ℕ). bind (cut_file (view a w) (file 1 x) (264 * p)) (λ y. done (set_rec (with_arena (fs_of a w m) y) i (with_blocks (rec_at (fs_of a w m) i) p)))) c
    ∙ ap (λ (x : ℕ). bind (cut_file (view a w) (node_file (row_at (table_in m) i).rec) (264 * x)) (λ y. done (set_rec (with_arena (fs_of a w m) y) i (with_blocks (rec_at (fs_of a w m) i) x)))) q

pub short-stop : (a w u m n : List ℕ) (i p r : ℕ) (name : List ℕ) → name ≡ (row_at (table_in m) i).rec.file → p ≡ (row_at (table_in m) i).rec.blocks - 1 → (r ≡ 0 → ⊥)
    → Did (cut_file (view a w) (file 1 name) (264 * p)) a w u 2 r → Stepped (shortened (fs_of a w m) i) a w u n 2 r
short-stop a w u m n i p r name c q z d = rw (← (short-is a w m i p name c q)) (ill (above_zero r z) (rw (did-ill d z)))

same : (a w u m : List ℕ) (i p : ℕ) → set_rec (with_arena (fs_of a w m) (view a u)) i (with_blocks (rec_at (fs_of a w m) i) p) ≡ set_rec (fs_of a u m) i (with_blocks (rec_at (fs_of a u m) i) p)
unfolding fs_of
same a w u m i p = refl

pub short-done : (a w u m n : List ℕ) (i p r x : ℕ) (name : List ℕ) → name ≡ (row_at (table_in m) i).rec.file → x ≡ (row_at (table_in m) i).rec.blocks - 1 → p ≡ x → r ≡ 0
    → Did (cut_file (view a w) (file 1 name) (264 * p)) a w u 2 r → Blocked m n i x → Stepped (shortened (fs_of a w m) i) a w u n 2 0
short-done a w u m n i p r x name c e q z d R =
    let g = did-well d z in
    rw (← (short-is a w m i p name c (q ∙ e))) (well (rw g.is (ap done (same a w u m i p ∙ sym ((subst (λ (x : ℕ). Blocked m n i x) (sym q) R).is a u)))) (record { fine = g.fine; whole = R.whole; room = g.room }))

-- a folder without slots
pub remove-empty : (a w u m n : List ℕ) (i k x : ℕ) → x ≡ (row_at (table_in m) i).rec.blocks → x ≡ 0 → Stepped (dirent_remove (fs_of a w m) i k) a w u n 5 19
unfolding dirent_remove fs_of
remove-empty a w u m n i k x e z = ill {r = 19} (omega arith) (rw (le-ltb 0 (row_at (table_in m) i).rec.blocks (omega (arith, e))))

remove-is : (a w m : List ℕ) (i k p x : ℕ) → x ≡ (row_at (table_in m) i).rec.blocks → (x ≡ 0 → ⊥) → p ≡ x - 1
    → bind (slot_bytes (view a w) (row_at (table_in m) i).rec p) (λ l. bind (pick (eqb k p) (done (fs_of a w m)) (put_slot (fs_of a w m) i k l)) (λ s. shortened s i)) ≡ dirent_remove (fs_of a w m) i k
unfolding dirent_remove fs_of
remove-is a w m i k p x e z q =
    let rec = (row_at (table_in m) i).rec in
    rw (lt-ltb 0 rec.blocks (omega (arith, e, above_zero x z)))
    (ap (λ (p : ℕ). bind (slot_bytes (view a w) rec p) (λ l. bind (pick (eqb k p) (done (fs_of a w m)) (put_slot (fs_of a w m) i k l)) (λ s. shortened s i))) (q ∙ ap (λ (n : ℕ). n - 1) e))

pub remove-stop : {l : List ℕ} {P : Type 0} (a w u m n : List ℕ) (i k p r x : ℕ) → x ≡ (row_at (table_in m) i).rec.blocks → (x ≡ 0 → ⊥) → p ≡ x - 1 → (r ≡ 0 → ⊥)
    → Went (slot_bytes (view a w) (row_at (table_in m) i).rec p) l P r → Stepped (dirent_remove (fs_of a w m) i k) a w u n 5 r
remove-stop a w u m n i k p r x e y q z g = rw (← (remove-is a w m i k p x e y q)) (went-stop _ _ z g)

pub remove-next : {l : List ℕ} {P : Type 0} (a w u m n : List ℕ) (i k p r x v : ℕ) → x ≡ (row_at (table_in m) i).rec.blocks → (x ≡ 0 → ⊥) → p ≡ x - 1 → r ≡ 0
    → Went (slot_bytes (view a w) (row_at (table_in m) i).rec p) l P r → Stepped (bind (pick (eqb k p) (done (fs_of a w m)) (put_slot (fs_of a w m) i k l)) (λ s. shortened s i)) a w u n 5 v → Stepped (dirent_remove (fs_of a w m) i k) a w u n 5 v
remove-next a w u m n i k p r x v e y q z g h = rw (← (remove-is a w m i k p x e y q)) (went-next _ (went-is g z) h)

-- ---- link counts

module _ (m : List ℕ) (i n : ℕ) (links : n ≡ (row_at (table_in m) i).rec.nlinks) where
  pub inc-top : (o : List ℕ) → n ≡ 65535 → (a w : List ℕ) → Went (nlinks_inc (fs_of a w m) i) (fs_of a w o) (Whole o) 15
  unfolding nlinks_inc fs_of
  inc-top o z a w = ill {r = 15} (omega arith) (rw (le-ltb (row_at (table_in m) i).rec.nlinks 65535 (omega (arith, links))))

  inc_is : (a w : List ℕ) → n < 65535 → nlinks_inc (fs_of a w m) i ≡ done (set_rec (fs_of a w m) i (with_links (rec_at (fs_of a w m) i) (n + 1)))
  unfolding nlinks_inc fs_of
  inc_is a w z = rw (lt-ltb (row_at (table_in m) i).rec.nlinks 65535 (omega (arith, links))) (ap (λ (x : ℕ). done (set_rec (fs_of a w m) i (with_links (rec_at (fs_of a w m) i) (x + 1)))) (sym links))

  pub inc-done : (o : List ℕ) → n < 65535 → Linked m o i (n + 1) → (a w : List ℕ) → Went (nlinks_inc (fs_of a w m) i) (fs_of a w o) (Whole o) 0
  inc-done o z R a w = well (inc_is a w z ∙ ap done (sym (R.is a w))) R.whole

  pub dec-none : (o : List ℕ) → n ≡ 0 → (a w : List ℕ) → Went (nlinks_dec (fs_of a w m) i) (fs_of a w o) (Whole o) 19
  unfolding nlinks_dec fs_of
  dec-none o z a w = ill {r = 19} (omega arith) (rw (le-ltb 0 (row_at (table_in m) i).rec.nlinks (omega (arith, links))))

  dec-is : (a w : List ℕ) → (n ≡ 0 → ⊥) → nlinks_dec (fs_of a w m) i ≡ done (set_rec (fs_of a w m) i (with_links (rec_at (fs_of a w m) i) (n - 1)))
  unfolding nlinks_dec fs_of
  dec-is a w z = rw (lt-ltb 0 (row_at (table_in m) i).rec.nlinks (omega (arith, links, above_zero n z))) (ap (λ (x : ℕ). done (set_rec (fs_of a w m) i (with_links (rec_at (fs_of a w m) i) (x - 1)))) (sym links))

  pub dec-done : (o : List ℕ) → (n ≡ 0 → ⊥) → Linked m o i (n - 1) → (a w : List ℕ) → Went (nlinks_dec (fs_of a w m) i) (fs_of a w o) (Whole o) 0
  dec-done o z R a w = well (dec-is a w z ∙ ap done (sym (R.is a w))) R.whole

kind : (a w m : List ℕ) (c : ℕ) → (rec_at (fs_of a w m) c).kind ≡ (row_at (table_in m) c).rec.kind
unfolding fs_of
kind a w m c = refl

-- where node c is a folder, and where it is not
pub dots-folder : (m o : List ℕ) (c r x : ℕ) → x ≡ (row_at (table_in m) c).rec.kind → x ≡ 2 → (f : Fs → Out Fs) → ((a w : List ℕ) → Went (f (fs_of a w m)) (fs_of a w o) (Whole o) r)
    → (a w : List ℕ) → Went (pick (eqb (rec_at (fs_of a w m) c).kind 2) (f (fs_of a w m)) (done (fs_of a w m))) (fs_of a w o) (Whole o) r
dots-folder m o c r x e z f g a w = rw (kind a w m c) (rw (eq-eqb (row_at (table_in m) c).rec.kind 2 (sym e ∙ z)) (g a w))

pub dots-other : (m : List ℕ) (c x : ℕ) → x ≡ (row_at (table_in m) c).rec.kind → (x ≡ 2 → ⊥) → Whole m → (f : Fs → Out Fs)
    → (a w : List ℕ) → Went (pick (eqb (rec_at (fs_of a w m) c).kind 2) (f (fs_of a w m)) (done (fs_of a w m))) (fs_of a w m) (Whole m) 0
dots-other m c x e z h f a w = rw (kind a w m c) (rw (ne_eqb (row_at (table_in m) c).rec.kind 2 (λ q. z (e ∙ q))) (well refl h))

-- ---- dirent_inode_remove: its two steps on links as one

pub node-remove-is : (s : Fs) (i c k : ℕ) → bind (dirent_remove s i k) (λ s. bind (bind (nlinks_dec s c) (λ s. unlink_dots s i c)) (λ s. release s c)) ≡ dirent_node_remove s i c k
unfolding dirent_node_remove
node-remove-is s i c k = bind-cong (dirent_remove s i k) _ _ (λ t. bind_assoc (nlinks_dec t c) (λ s. unlink_dots s i c) (λ s. release s c))
  where
    bind-cong : {A B : Type 0} (o : Out A) (f g : A → Out B) → ((x : A) → f x ≡ g x) → bind o f ≡ bind o g
    bind-cong (done x) f g h = h x
    bind-cong (refused n) f g h = refl
