-- The call link, in its parts.
use mathlib.Core.Path.{◌≡◌, refl, ◌∙◌, subst}
use mathlib.Core.Bool.{not}
use mathlib.Core.List.{List}
use Prim.Native.Nat.{ℕ, ◌≤◌, ◌<◌}
use native.Mathlib.Omega.{arith}
use lib.ListN.{length}
use lib.Dec.{ltb}
use borrow.Author.Tests.{lt-ltb, le-ltb, eq-eqb, ne_eqb}
use Rattle.base.specs.Out.{Out, done, refused, bind, ensure, answer, Went, well, ill}
use Rattle.base.proofs.Outs.{went-is, went-has, went-not, went-stop, went-next}
use Rattle.structs.specs.Types.{is_folder}
use Rattle.structs.specs.declared.DiskINode.{DiskINode}
use Rattle.folders.proofs.States.{stepped-next}
use Rattle.mem.specs.Mem.{table_in, Whole}
use Rattle.table.specs.declared.Table.{Table}
use Rattle.table.specs.declared.Handle.{Handle}
use Rattle.sefs.specs.State.{Fs}
use Rattle.sefs.specs.Nodes.{rec_at, id_at, sync_row}
use Rattle.sefs.specs.Slots.{lookup}
use Rattle.sefs.specs.Folders.{entry, dirent_append, nlinks_inc}
use Rattle.sefs.specs.Ask.{admit, by_handle, new_name, not_long, known, live_folder, or_exists, start}
use Rattle.sefs.specs.Create.{After, after, link_steps, call_link}
use Rattle.mem.specs.State.{fs_of, Stepped, fs_at}
use Rattle.calls.proofs.Asks.{asks-live, asked-done, asked-went}
use Rattle.calls.specs.Asked.{by_two}
use Rattle.steps.specs.Ends.{Begun, Rest, on, off, ending}
use Rattle.calls_link.specs.Link.{link_ask, link_child, link_moves, link_work, Asked}
use Rattle.steps.specs.Steps.{no_slot, sync_two}
use Rattle.steps.proofs.Ends.{ending-bind, ending-both, bind-same, begun-start, rest-off, rest-as, rest_then}
use Rattle.steps.proofs.Steps.{asks-new, asks-known, long}

-- ---- the call is its questions and its steps

moves-is : (s : Fs) (i : ℕ) (name : List ℕ) (c : ℕ) → link_steps s i name c ≡ ending (link_moves s i name c)
unfolding link_steps link_moves sync_two
moves-is s i name c =
    ending-bind (dirent_append s i (entry (id_at s c) name (rec_at s c).kind)) (λ s. bind (nlinks_inc s c) (λ s. bind (sync_row s c) (λ s. sync_row s i))) _ (λ s.
    ending-bind (nlinks_inc s c) (λ s. bind (sync_row s c) (λ s. sync_row s i)) _ (λ s.
    ending-bind (sync_row s c) (λ s. sync_row s i) _ (λ s. refl)))

work-is : (s : Fs) (i : ℕ) (name : List ℕ) (c : ℕ) → bind (new_name name) (λ _. bind (live_folder (rec_at s i)) (λ _. bind (not_long name) (λ _. bind (lookup s.arena (rec_at s i) name) (λ f. bind (or_exists f) (λ _. bind (known (rec_at s c)) (λ _. bind (ensure (not (is_folder (rec_at s c).kind)) 9) (λ _. bind (ensure (ltb (rec_at s c).nlinks 65535) 15) (λ _. link_steps s i name c)))))))) ≡ ending (link_work s i name c)
unfolding link_work link_ask no_slot link_child
work-is s i name c =
    let d = link_child (rec_at s c) in
    ending-both (new_name name) (λ _. bind (live_folder (rec_at s i)) (λ _. not_long name)) (λ _. bind (no_slot s.arena (rec_at s i) name) (λ _. bind d (λ _. link_moves s i name c))) _ (λ _.
    ending-both (live_folder (rec_at s i)) (λ _. not_long name) (λ _. bind (no_slot s.arena (rec_at s i) name) (λ _. bind d (λ _. link_moves s i name c))) _ (λ _.
    ending-bind (not_long name) (λ _. bind (no_slot s.arena (rec_at s i) name) (λ _. bind d (λ _. link_moves s i name c))) _ (λ _.
    ending-both (lookup s.arena (rec_at s i) name) or_exists (λ _. bind d (λ _. link_moves s i name c)) _ (λ f.
    ending-bind (or_exists f) (λ _. bind d (λ _. link_moves s i name c)) _ (λ _.
    ending-both (known (rec_at s c)) (λ _. bind (ensure (not (is_folder (rec_at s c).kind)) 9) (λ _. ensure (ltb (rec_at s c).nlinks 65535) 15)) (λ _. link_moves s i name c) _ (λ _.
    ending-both (ensure (not (is_folder (rec_at s c).kind)) 9) (λ _. ensure (ltb (rec_at s c).nlinks 65535) 15) (λ _. link_moves s i name c) _ (λ _.
    ending-bind (ensure (ltb (rec_at s c).nlinks 65535) 15) (λ _. link_moves s i name c) _ (λ _. moves-is s i name c))))))))

link-is : (a : List ℕ) (t : Table) (who : ℕ) (h : Handle) (name : List ℕ) (child : Handle) → call_link a t who h name child ≡ bind (admit a t) (λ _. bind (by_handle t who h) (λ i. bind (by_handle t who child) (λ c. ending (link_work (start a t) i name c))))
unfolding call_link
link-is a t who h name child =
    bind-same (admit a t) _ _ (λ _.
    bind-same (by_handle t who h) _ _ (λ i.
    bind-same (by_handle t who child) _ _ (λ c. work-is (start a t) i name c)))

-- ---- the folder and the name

module _ (r : DiskINode) (name : List ℕ) {m : ℕ} (e : m ≡ answer (new_name name)) where
  pub ask-name : (m ≡ 0 → ⊥) → Went (link_ask r name) tt (length name ≤ 255) m
  unfolding link_ask
  ask-name z = went-stop _ tt z (asked-went (new_name name) (asks-new name) m e)

  module _ {n : ℕ} (z : m ≡ 0) (f : n ≡ answer (live_folder r)) where
    pub ask-live : (n ≡ 0 → ⊥) → Went (link_ask r name) tt (length name ≤ 255) n
    unfolding link_ask
    ask-live y = went-next _ (asked-done (new_name name) (asks-new name) m e z) (went-stop _ tt y (asked-went (live_folder r) (asks-live r) n f))

    pub ask-long : {x : ℕ} → n ≡ 0 → x ≡ answer (not_long name) → Went (link_ask r name) tt (length name ≤ 255) x
    unfolding link_ask
    ask-long y d = went-next _ (asked-done (new_name name) (asks-new name) m e z) (went-next _ (asked-done (live_folder r) (asks-live r) n f y) (long name _ d))

-- ---- the child

module _ (r : DiskINode) {n : ℕ} (e : n ≡ answer (known r)) where
  pub child-stop : (n ≡ 0 → ⊥) → Went (link_child r) tt Unit n
  unfolding link_child
  child-stop z = went-stop _ tt z (asked-went (known r) (asks-known r) n e)

  is_known : n ≡ 0 → known r ≡ done tt
  is_known z = asked-done (known r) (asks-known r) n e z

  pub child-folder : n ≡ 0 → r.kind ≡ 2 → Went (link_child r) tt Unit 9
  unfolding link_child
  child-folder z k = ill {r = 9} (omega arith) (rw (is_known z, eq-eqb r.kind 2 k))

  pub child-full : n ≡ 0 → (r.kind ≡ 2 → ⊥) → 65535 ≤ r.nlinks → Went (link_child r) tt Unit 15
  unfolding link_child
  child-full z k l = ill {r = 15} (omega arith) (rw (is_known z, ne_eqb r.kind 2 k, le-ltb r.nlinks 65535 l))

  pub child-fine : n ≡ 0 → (r.kind ≡ 2 → ⊥) → r.nlinks < 65535 → Went (link_child r) tt Unit 0
  unfolding link_child
  child-fine z k l = well (rw (is_known z, ne_eqb r.kind 2 k, lt-ltb r.nlinks 65535 l)) tt

-- ---- the steps

module _ {a w u n : List ℕ} {r : ℕ} (m name : List ℕ) (i c : ℕ) (rec : DiskINode) (k : rec ≡ rec_at (fs_of a w m) c) (g : Stepped (dirent_append (fs_of a w m) i (entry (id_at (fs_of a w m) c) name rec.kind)) a w u n 3 r) where
  slotted : Stepped (dirent_append (fs_of a w m) i (entry (id_at (fs_of a w m) c) name (rec_at (fs_of a w m) c).kind)) a w u n 3 r
  slotted = subst (λ (x : DiskINode). Stepped (dirent_append (fs_of a w m) i (entry (id_at (fs_of a w m) c) name x.kind)) a w u n 3 r) k g

  pub moves-stop : (t l : List ℕ) → (r ≡ 0 → ⊥) → Stepped (link_moves (fs_of a w m) i name c) a w t l 9 r
  unfolding link_moves
  moves-stop t l z = went-stop _ _ z slotted

  module _ {x : ℕ} (p : List ℕ) (h : Went (nlinks_inc (fs_of a u n) c) (fs_of a u p) (Whole p) x) (z : r ≡ 0) where
    pub moves-inc : (t l : List ℕ) → (x ≡ 0 → ⊥) → Stepped (link_moves (fs_of a w m) i name c) a w t l 9 x
    unfolding link_moves
    moves-inc t l y = went-next _ (went-is slotted z) (went-stop _ _ y h)

    pub moves-done : {t l : List ℕ} {q : ℕ} → x ≡ 0 → Stepped (sync_two (fs_of a u p) i c) a u t l 6 q → Stepped (link_moves (fs_of a w m) i name c) a w t l 9 q
    unfolding link_moves
    moves-done y d = stepped-next (λ s. bind (nlinks_inc s c) (λ s. sync_two s i c)) 3 9 (went-is slotted z) (went-has g z) (went-next _ (went-is h y) d) (omega arith)

-- ---- the questions before the steps

module _ (s : Fs) (i c : ℕ) (name : List ℕ) (rec : DiskINode) (k : rec ≡ rec_at s i) {P : Type 0} {x : ℕ} (g : Went (link_ask rec name) tt P x) where
  pub work-ask : (x ≡ 0 → ⊥) → Rest (link_work s i name c) (link_moves s i name c) P x
  unfolding link_work
  work-ask z = rest-off z (rw (← k, went-not g z))

  module _ {y : ℕ} (z : x ≡ 0) (h : Went (no_slot s.arena rec name) tt Unit y) where
    pub work-slot : (y ≡ 0 → ⊥) → Rest (link_work s i name c) (link_moves s i name c) P y
    unfolding link_work
    work-slot o = rest-off o (rw (← k, went-is g z, went-not h o))

    pub work-child : {w : ℕ} (child : DiskINode) → child ≡ rec_at s c → y ≡ 0 → Went (link_child child) tt Unit w → Rest (link_work s i name c) (link_moves s i name c) P w
    unfolding link_work
    work-child child q o (well e u) = on (rw (← k, went-is g z, went-is h o, ← q, e)) (went-has g z)
    work-child child q o (ill l e) = off l (rw (← k, went-is g z, went-is h o, ← q, e))

pub link-refused : (a : List ℕ) (t : Table) (who : ℕ) (h : Handle) (name : List ℕ) (child : Handle) {n : ℕ} → admit a t ≡ refused n → call_link a t who h name child ≡ refused n
link-refused a t who h name child q = link-is a t who h name child ∙ rw q

-- the call, once arena, table and handles are known
module _ (a first next m n : List ℕ) (who : ℕ) (h child : Handle) (name : List ℕ) (q : admit a (table_in m) ≡ done tt) {i c r : ℕ} (g : Went (by_two (table_in m) who h child) (i, c) (Begun a first next m n × ((i < 34) × (c < 34))) r) where
  link-two : call_link a (table_in m) who h name child ≡ bind (by_two (table_in m) who h child) (λ p. ending (link_work (start a (table_in m)) p.0 name p.1))
  unfolding by_two
  link-two = link-is a (table_in m) who h name child ∙ rw q (go (by_handle (table_in m) who h) (by_handle (table_in m) who child))
    where
      go : (b d : Out ℕ) → bind b (λ i. bind d (λ c. ending (link_work (start a (table_in m)) i name c)))
          ≡ bind {A = ℕ × ℕ} (bind {B = ℕ × ℕ} b (λ i. bind {B = ℕ × ℕ} d (λ j. done (i, j)))) (λ p. ending (link_work (start a (table_in m)) p.0 name p.1))
      go (done i) (done c) = refl
      go (done i) (refused k) = refl
      go (refused k) d = refl

  pub link-not : {e : Out After} {Q : Type 0} → (r ≡ 0 → ⊥) → Rest (call_link a (table_in m) who h name child) e Q r
  link-not z = rest-off z (link-two ∙ rw (went-not g z))

  pub link-rows : {e : Out Fs} {q : ℕ} → r ≡ 0 → Rest (link_work (fs_at a n) i name c) e (length name ≤ 255) q → Rest (call_link a (table_in m) who h name child) (ending e) (Asked a n name i c) q
  link-rows z f =
      let p = went-has g z in
      rest-as (link-two ∙ rw (went-is g z, ← begun-start p.0)) (λ l. record { legal = p.0.led.whole; whole = p.0.whole; folder = p.1.0; child = p.1.1; short = l }) (rest_then (λ s. done (after s)) f)
