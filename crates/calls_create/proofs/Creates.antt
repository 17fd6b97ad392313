-- The call create, in its parts.
use mathlib.Core.Path.{◌≡◌, refl, ◌∙◌}
use mathlib.Core.Bool.{Bool, true, false, not, ◌&&◌}
use mathlib.Core.List.{List}
use Prim.Native.Nat.{ℕ, ◌≤◌, ◌<◌}
use native.Mathlib.Omega.{arith}
use lib.ListN.{length}
use lib.Dec.{eqb}
use borrow.Author.Tests.{eq-eqb, ne_eqb}
use Rattle.base.specs.Out.{Out, done, refused, bind, ensure, answer, Went, well, ill}
use Rattle.base.proofs.Outs.{went-is, went-has, went-not, went-stop, went-next, went-weaken}
use Rattle.structs.specs.Types.{is_folder}
use Rattle.structs.specs.declared.DiskINode.{DiskINode}
use Rattle.structs.specs.declared.Timespec.{Timespec}
use Rattle.arena.specs.Fields.{file}
use Rattle.files.specs.Read.{there}
use Rattle.table.specs.declared.Table.{Table}
use Rattle.table.specs.declared.Handle.{Handle}
use Rattle.table.specs.Table.{can_hold, add_hold}
use Rattle.sefs.specs.State.{Fs}
use Rattle.sefs.specs.Meta.{sync_meta}
use Rattle.sefs.specs.Nodes.{rec_at, id_at, new_node, sync_row, Opened, opened}
use Rattle.sefs.specs.Slots.{lookup}
use Rattle.sefs.specs.Folders.{entry, dirent_append, nlinks_inc}
use Rattle.sefs.specs.Ask.{admit, by_handle, new_name, not_long, live_folder, or_exists, start}
use Rattle.sefs.specs.Create.{Given, can_make, birth, name_folder, named, given, create_steps, call_create}
use Rattle.mem.specs.Mem.{table_in, Whole}
use Rattle.mem.specs.State.{fs_of, Still, Stepped, fs_at}
use Rattle.folders.proofs.States.{stepped-next}
use Rattle.calls.proofs.Asks.{asks-live, asked-done, asked-went, call-stop, call_next}
use Rattle.steps.specs.Steps.{no_slot, sync_two}
use Rattle.steps.proofs.Steps.{asks-new, long}
use Rattle.steps.specs.Ends.{Begun, Rest, on, off}
use Rattle.steps.proofs.Ends.{bind-same, begun-start, rest-off, rest-as, rest_then}
use Rattle.calls_create.specs.Create.{create_ask, create_free, create_sync, create_rest, create_moves, create_work, Asked}
use Rattle.calls_create.specs.Held.{holding}
use Rattle.calls_create.proofs.Held.{holding-bind, holding-both}

-- ---- the call is its questions and its steps

-- what comes after a chain comes after its last step
both : {A B C : Type 0} (m : Out A) (f : A → Out B) (k : B → Out C) (g : A → Out C) → ((x : A) → g x ≡ bind (f x) k) → bind m g ≡ bind (bind m f) k
both (done x) f k g h = h x
both (refused n) f k g h = refl

sync-is : {A : Type 0} (s : Fs) (i c : ℕ) (k : Fs → Out A) → bind (sync_meta s) (λ s. bind (sync_row s c) (λ s. bind (sync_row s i) k)) ≡ bind (create_sync s i c) k
unfolding create_sync sync_two
sync-is s i c k =
    both (sync_meta s) (λ s. bind (sync_row s c) (λ s. sync_row s i)) k _ (λ s.
    both (sync_row s c) (λ s. sync_row s i) k _ (λ s. refl))

after_is : {A : Type 0} (s : Fs) (i c : ℕ) (name : List ℕ) (kind : ℕ) (k : Fs → Out A)
    → bind (birth s i c kind) (λ s. bind (dirent_append s i (entry (id_at s c) name kind)) (λ s. bind (named s i c kind) (λ s. bind (sync_meta s) (λ s. bind (sync_row s c) (λ s. bind (sync_row s i) k))))) ≡ bind (create_rest s i c name kind) k
unfolding create_rest
after_is s i c name kind k =
    both (birth s i c kind) (λ s. bind (dirent_append s i (entry (id_at s c) name kind)) (λ s. bind (named s i c kind) (λ s. create_sync s i c))) k _ (λ s.
    both (dirent_append s i (entry (id_at s c) name kind)) (λ s. bind (named s i c kind) (λ s. create_sync s i c)) k _ (λ s.
    both (named s i c kind) (λ s. create_sync s i c) k _ (λ s. sync-is s i c k)))

moves-is : (s : Fs) (who i : ℕ) (name : List ℕ) (kind mode : ℕ) (time : Timespec) (uuid : List ℕ) → create_steps s who i name kind mode time uuid ≡ holding who (create_moves s i name kind mode time uuid)
unfolding create_steps create_moves
moves-is s who i name kind mode time uuid =
    holding-bind who (new_node s kind mode time uuid) (λ o. bind (create_rest o.state i o.row name kind) (λ s. done (opened s o.row))) _ (λ o.
    after_is o.state i o.row name kind (λ s. done (given s (add_hold s.table who o.row)))
    ∙ holding-bind who (create_rest o.state i o.row name kind) (λ s. done (opened s o.row)) (λ s. done (given s (add_hold s.table who o.row))) (λ s. refl))

work-is : (s : Fs) (who i : ℕ) (name : List ℕ) (kind mode : ℕ) (time : Timespec) (uuid : List ℕ) (room : Bool)
    → bind (new_name name) (λ _. bind (ensure (can_make kind) 6) (λ _. bind (live_folder (rec_at s i)) (λ _. bind (not_long name) (λ _. bind (lookup s.arena (rec_at s i) name) (λ f. bind (or_exists f) (λ _. bind (ensure (not (there s.arena (file 1 uuid))) 14) (λ _. bind (ensure (not (is_folder kind && eqb (rec_at s i).nlinks 65535)) 15) (λ _. bind (ensure room 16) (λ _. create_steps s who i name kind mode time uuid))))))))) ≡ holding who (create_work s i name kind mode time uuid room)
unfolding create_work create_ask create_free no_slot
work-is s who i name kind mode time uuid room =
    let k : Unit → Out Opened = λ _. create_moves s i name kind mode time uuid in
    let f : Unit → Out Opened = λ _. bind (create_free s.arena (rec_at s i) name kind uuid room) k in
    let links : Unit → Out Unit = λ _. bind (ensure (not (is_folder kind && eqb (rec_at s i).nlinks 65535)) 15) (λ _. ensure room 16) in
    let taken : Unit → Out Unit = λ _. bind (ensure (not (there s.arena (file 1 uuid))) 14) links in
    holding-both who (new_name name) (λ _. bind (ensure (can_make kind) 6) (λ _. bind (live_folder (rec_at s i)) (λ _. not_long name))) f _ (λ _.
    holding-both who (ensure (can_make kind) 6) (λ _. bind (live_folder (rec_at s i)) (λ _. not_long name)) f _ (λ _.
    holding-both who (live_folder (rec_at s i)) (λ _. not_long name) f _ (λ _.
    holding-bind who (not_long name) f _ (λ _.
    both (lookup s.arena (rec_at s i) name) or_exists _ _ (λ x. refl)
    ∙ holding-both who (no_slot s.arena (rec_at s i) name) taken k _ (λ _.
    holding-both who (ensure (not (there s.arena (file 1 uuid))) 14) links k _ (λ _.
    holding-both who (ensure (not (is_folder kind && eqb (rec_at s i).nlinks 65535)) 15) (λ _. ensure room 16) k _ (λ _.
    holding-bind who (ensure room 16) k _ (λ _. moves-is s who i name kind mode time uuid))))))))

create-is : (a : List ℕ) (t : Table) (who : ℕ) (h : Handle) (name : List ℕ) (kind mode : ℕ) (time : Timespec) (uuid : List ℕ)
    → call_create a t who h name kind mode time uuid ≡ bind (admit a t) (λ _. bind (by_handle t who h) (λ i. holding who (create_work (start a t) i name kind mode time uuid (can_hold t who))))
unfolding call_create
create-is a t who h name kind mode time uuid =
    bind-same (admit a t) _ _ (λ _. bind-same (by_handle t who h) _ _ (λ i. work-is (start a t) who i name kind mode time uuid (can_hold t who)))

pub create-refused : (a : List ℕ) (t : Table) (who : ℕ) (h : Handle) (name : List ℕ) (kind mode : ℕ) (time : Timespec) (uuid : List ℕ) {n : ℕ} → admit a t ≡ refused n → call_create a t who h name kind mode time uuid ≡ refused n
create-refused a t who h name kind mode time uuid q = create-is a t who h name kind mode time uuid ∙ rw q

-- once arena, table and handle are known
module _ (a first next m n : List ℕ) (who : ℕ) (h : Handle) (name : List ℕ) (kind mode : ℕ) (time : Timespec) (uuid : List ℕ) (x : admit a (table_in m) ≡ done tt) {i r : ℕ} (g : Went (by_handle (table_in m) who h) i (Begun a first next m n × (i < 34)) r) where
  pub create-not : {e : Out Given} {Q : Type 0} → (r ≡ 0 → ⊥) → Rest (call_create a (table_in m) who h name kind mode time uuid) e Q r
  create-not z = rest-off z (create-is a (table_in m) who h name kind mode time uuid ∙ call-stop a (table_in m) who h x (λ i. holding who (create_work (start a (table_in m)) i name kind mode time uuid (can_hold (table_in m) who))) i r g z)

  pub create-row : {e : Out Opened} {q : ℕ} → r ≡ 0 → Rest (create_work (fs_at a n) i name kind mode time uuid (can_hold (table_in n) who)) e (length name ≤ 255) q
      → Rest (call_create a (table_in m) who h name kind mode time uuid) (holding who e) (Asked a n name i) q
  create-row z f =
      let p = went-has g z in
      rest-as
      (create-is a (table_in m) who h name kind mode time uuid
      ∙ call_next a (table_in m) who h x (λ i. holding who (create_work (start a (table_in m)) i name kind mode time uuid (can_hold (table_in m) who))) i r g z
      ∙ rw (← begun-start p.0, ← p.0.table))
      (λ l. record { legal = p.0.led.whole; whole = p.0.whole; folder = p.1; short = l })
      (rest_then (λ x. done (given x.state (add_hold x.state.table who x.row))) f)

-- ---- the folder, the name and the type

module _ (r : DiskINode) (name : List ℕ) (kind : ℕ) {m : ℕ} (e : m ≡ answer (new_name name)) where
  pub ask-name : (m ≡ 0 → ⊥) → Went (create_ask r name kind) tt (length name ≤ 255) m
  unfolding create_ask
  ask-name z = went-stop _ tt z (asked-went (new_name name) (asks-new name) m e)

  module _ (z : m ≡ 0) (b : Bool) (k : b ≡ (can_make kind)) where
    pub ask-kind : b ≡ false → Went (create_ask r name kind) tt (length name ≤ 255) 6
    unfolding create_ask
    ask-kind q = ill {r = 6} (omega arith) (rw (asked-done (new_name name) (asks-new name) m e z, ← k, q))

    module _ {n : ℕ} (q : b ≡ true) (f : n ≡ answer (live_folder r)) where
      rest-is : create_ask r name kind ≡ bind (live_folder r) (λ _. not_long name)
      unfolding create_ask
      rest-is = rw (asked-done (new_name name) (asks-new name) m e z, ← k, q)

      pub ask-live : (n ≡ 0 → ⊥) → Went (create_ask r name kind) tt (length name ≤ 255) n
      ask-live y = rw rest-is (went-stop _ tt y (asked-went (live_folder r) (asks-live r) n f))

      pub ask-long : {x : ℕ} → n ≡ 0 → x ≡ answer (not_long name) → Went (create_ask r name kind) tt (length name ≤ 255) x
      ask-long y d = rw rest-is (went-next _ (asked-done (live_folder r) (asks-live r) n f y) (long name _ d))

-- ---- a folder's links

module _ {t : Fs} {P : Type 0} {r : ℕ} (s : Fs) (i c : ℕ) (g : Went (nlinks_inc s c) t P r) where
  pub folder-stop : (v : Fs) (Q : Type 0) → (r ≡ 0 → ⊥) → Went (name_folder s i c) v Q r
  unfolding name_folder
  folder-stop v Q z = went-stop _ v z g

  pub folder-done : {v : Fs} {Q : Type 0} {q : ℕ} → r ≡ 0 → Went (nlinks_inc t i) v Q q → Went (name_folder s i c) v Q q
  unfolding name_folder
  folder-done z h = went-next _ (went-is g z) h

  pub named-stop : (kind : ℕ) (v : Fs) (Q : Type 0) → (r ≡ 0 → ⊥) → Went (named s i c kind) v Q r
  unfolding named
  named-stop kind v Q z = went-stop _ v z g

  pub named-folder : {v : Fs} {Q : Type 0} {q : ℕ} (kind : ℕ) → r ≡ 0 → kind ≡ 2 → Went (name_folder t i c) v Q q → Went (named s i c kind) v Q q
  unfolding named
  named-folder kind z k h = went-next _ (went-is g z) (rw (eq-eqb kind 2 k) h)

  pub named_other : (kind : ℕ) → r ≡ 0 → (kind ≡ 2 → ⊥) → Went (named s i c kind) t P 0
  unfolding named
  named_other kind z k = went-next _ (went-is g z) (rw (ne_eqb kind 2 k) (well refl (went-has g z)))

-- ---- the stores

module _ {a w u : List ℕ} {r : ℕ} (m : List ℕ) (i c : ℕ) (g : Stepped (sync_meta (fs_of a w m)) a w u m 10 r) where
  pub all-stop : (t l : List ℕ) → (r ≡ 0 → ⊥) → Stepped (create_sync (fs_of a w m) i c) a w t l 16 r
  unfolding create_sync
  all-stop t l z = went-stop _ _ z g

  pub all_done : {t l : List ℕ} {q : ℕ} → r ≡ 0 → Stepped (sync_two (fs_of a u m) i c) a u t l 6 q → Stepped (create_sync (fs_of a w m) i c) a w t l 16 q
  unfolding create_sync
  all_done z h = stepped-next (λ s. sync_two s i c) 10 16 (went-is g z) (went-has g z) h (omega arith)

-- ---- what comes after the node is made

module _ {a w u n : List ℕ} {r : ℕ} (m name : List ℕ) (i c kind : ℕ) (g : Stepped (birth (fs_of a w m) i c kind) a w u n 6 r) where
  pub rest-birth : (t l : List ℕ) → (r ≡ 0 → ⊥) → Stepped (create_rest (fs_of a w m) i c name kind) a w t l 25 r
  unfolding create_rest
  rest-birth t l z = went-stop _ _ z g

  module _ {v p : List ℕ} {x : ℕ} (z : r ≡ 0) (h : Stepped (dirent_append (fs_of a u n) i (entry (id_at (fs_of a u n) c) name kind)) a u v p 3 x) where
    pub rest-slot : (t l : List ℕ) → (x ≡ 0 → ⊥) → Stepped (create_rest (fs_of a w m) i c name kind) a w t l 25 x
    unfolding create_rest
    rest-slot t l y = went-next _ (went-is g z) (went-stop _ _ y h)

    module _ {b : ℕ} (q : List ℕ) (y : x ≡ 0) (f : Went (named (fs_of a v p) i c kind) (fs_of a v q) (Whole q) b) where
      pub rest-named : (t l : List ℕ) → (b ≡ 0 → ⊥) → Stepped (create_rest (fs_of a w m) i c name kind) a w t l 25 b
      unfolding create_rest
      rest-named t l o = went-next _ (went-is g z) (went-next _ (went-is h y) (went-stop _ _ o f))

      pub rest-done : {t l : List ℕ} {d : ℕ} → b ≡ 0 → Stepped (create_sync (fs_of a v q) i c) a v t l 16 d → Stepped (create_rest (fs_of a w m) i c name kind) a w t l 25 d
      unfolding create_rest
      rest-done o k =
          stepped-next (λ s. bind (dirent_append s i (entry (id_at s c) name kind)) (λ s. bind (named s i c kind) (λ s. create_sync s i c))) 6 25 (went-is g z) (went-has g z)
          (stepped-next (λ s. bind (named s i c kind) (λ s. create_sync s i c)) 3 19 (went-is h y) (went-has h y) (went-next _ (went-is f o) k) (omega arith)) (omega arith)

-- ---- the name, the file, the links and the table are free

module _ (a : List ℕ) (r : DiskINode) (name : List ℕ) (kind : ℕ) (uuid : List ℕ) (room : Bool) {x : ℕ} (g : Went (no_slot a r name) tt Unit x) where
  pub free-slot : (x ≡ 0 → ⊥) → Went (create_free a r name kind uuid room) tt Unit x
  unfolding create_free
  free-slot z = went-stop _ tt z g

  module _ (z : x ≡ 0) (b : Bool) (k : b ≡ there a (file 1 uuid)) where
    pub free-taken : b ≡ true → Went (create_free a r name kind uuid room) tt Unit 14
    unfolding create_free
    free-taken q = ill {r = 14} (omega arith) (rw (went-is g z, ← k, q))

    module _ (q : b ≡ false) where
      pub free-links : (is_folder kind && eqb r.nlinks 65535) ≡ true → Went (create_free a r name kind uuid room) tt Unit 15
      unfolding create_free
      free-links l = ill {r = 15} (omega arith) (rw (went-is g z, ← k, q, l))

      module _ (l : (is_folder kind && eqb r.nlinks 65535) ≡ false) where
        pub free-full : room ≡ false → Went (create_free a r name kind uuid room) tt Unit 16
        unfolding create_free
        free-full f = ill {r = 16} (omega arith) (rw (went-is g z, ← k, q, l, f))

        pub free-done : room ≡ true → Went (create_free a r name kind uuid room) tt Unit 0
        unfolding create_free
        free-done f = well (rw (went-is g z, ← k, q, l, f)) tt

-- ---- the node, and what comes after it is made

module _ {a w u n : List ℕ} {c x : ℕ} (m name : List ℕ) (i kind mode : ℕ) (time : Timespec) (uuid : List ℕ) (g : Went (new_node (fs_of a w m) kind mode time uuid) (opened (fs_of a u n) c) (Still a w u n 3 × (c < 34)) x) where
  pub moves-stop : (v : Opened) (Q : Type 0) → (x ≡ 0 → ⊥) → Went (create_moves (fs_of a w m) i name kind mode time uuid) v Q x
  unfolding create_moves
  moves-stop v Q z = went-stop _ v z g

  rested : {t l : List ℕ} {y : ℕ} → Stepped (create_rest (fs_of a u n) i c name kind) a u t l 25 y → Went (bind (create_rest (fs_of a u n) i c name kind) (λ s. done (opened s c))) (opened (fs_of a t l) c) (Still a u t l 25) y
  rested (well e p) = well (rw e) p
  rested (ill l e) = ill l (rw e)

  pub moves-done : {t l : List ℕ} {y : ℕ} → x ≡ 0 → Stepped (create_rest (fs_of a u n) i c name kind) a u t l 25 y → Went (create_moves (fs_of a w m) i name kind mode time uuid) (opened (fs_of a t l) c) (Still a w t l 28 × (c < 34)) y
  unfolding create_moves
  moves-done z h =
      let p = went-has g z in
      went-next _ (went-is g z) (went-weaken (λ q. (record { fine = q.fine; whole = q.whole; room = omega (arith, q.room, p.0.room) }, p.1)) (rested h))

-- ---- the questions before the steps

module _ (s : Fs) (i : ℕ) (name : List ℕ) (kind mode : ℕ) (time : Timespec) (uuid : List ℕ) (rec : DiskINode) (k : rec ≡ rec_at s i) {P : Type 0} {x : ℕ} (g : Went (create_ask rec name kind) tt P x) where
  pub work-ask : (room : Bool) → (x ≡ 0 → ⊥) → Rest (create_work s i name kind mode time uuid room) (create_moves s i name kind mode time uuid) P x
  unfolding create_work
  work-ask room z = rest-off z (rw (← k, went-not g z))

  pub work-free : {room free : Bool} {y : ℕ} → x ≡ 0 → free ≡ room → Went (create_free s.arena rec name kind uuid free) tt Unit y → Rest (create_work s i name kind mode time uuid room) (create_moves s i name kind mode time uuid) P y
  unfolding create_work
  work-free z q (well e u) = on (rw (← k, went-is g z, ← q, e)) (went-has g z)
  work-free z q (ill l e) = off l (rw (← k, went-is g z, ← q, e))
