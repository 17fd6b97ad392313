-- TableFull exactly: a call is what it asks before the check, the check, and steps that give no 16.
use mathlib.Core.Path.{◌≡◌, refl, sym, ap, ◌∙◌, subst}
use mathlib.Core.Bool.{Bool, true, false, not, ◌&&◌}
use mathlib.Core.List.{List}
use mathlib.Core.Logic.{◌≢◌, inl, inr, ⊎_elim}
use Prim.Native.Nat.{ℕ, ◌≤◌, ◌<◌}
use native.Mathlib.Omega.{arith}
use lib.Dec.{T, eqb, ltb, leb}
use lib.ListN.{length}
use borrow.Author.Tests.{ltb-true, ltb-false, eqb-false}
use Rattle.base.specs.Out.{Out, done, refused, bind, ensure, answer, kept, went, said}
use Rattle.base.proofs.Bools.{T_true, bool_cases, and_both, and_parts, true-false}
use Rattle.structs.specs.Types.{is_folder, is_type}
use Rattle.structs.specs.declared.Timespec.{Timespec}
use Rattle.utf8.specs.Names.{name_verdict, early_reason, new_reason, is_dots}
use Rattle.arena.specs.Fields.{file}
use Rattle.files.specs.Read.{there}
use Rattle.table.specs.declared.Table.{Table}
use Rattle.table.specs.declared.Handle.{Handle}
use Rattle.table.specs.Table.{row_at, is_owner, own_holds, can_hold}
use Rattle.sefs.specs.Slots.{lookup, find_slot}
use Rattle.sefs.specs.Ask.{admit, an_owner, by_handle, good_name, new_name, not_long, known, folder, live_folder, or_exists, start}
use Rattle.sefs.specs.Open.{hold_node, call_root, call_find}
use Rattle.sefs.specs.Create.{can_make, create_steps, call_create}
use Rattle.walk.specs.Walk.{spot, walk_in, call_walk}
use Rattle.walk.proofs.Ways.{walk_is}
use Rattle.walk.proofs.Chains.{is, then_is, then-step}
use Rattle.sefs_laws.proofs.Says.{Says, says_then, says-ensure, says-done, says-meta, says-lookup, says-find, says-admit, says-live, says-exists}
use Rattle.sefs_laws.proofs.Handles.{says-handle}
use Rattle.image.proofs.Handles.{formed}
use Rattle.sequences.specs.Pairs.{Pair, pair}
use Rattle.sequences.specs.Calls.{Call, root, find, walk, create, link, remove_file, remove_folder, move, metadata, set_metadata, get_entry, listing, full_path, read, write, resize, fallocate, sync, close, check, inventory, mend, asker, does, reason_of, next}
use Rattle.sequences.specs.Reasons.{reasons_of, has, Reasons}
use Rattle.sequences.specs.Places.{Makes, by-root, by-find, by-walk, by-create}
use Rattle.sequences.specs.TableFull.{root_to, find_to, walk_to, create_to, AreUpToCheck, ReachesCheck, root-to, find-to, walk-to, create-to, most_holds, last_stamp, NoPlace, FullExactly, NoPlaceIs}
use Rattle.sequences.proofs.Passing.{allowed}
use Rattle.sequences.proofs.Reasons.{says-hold, says-way, says-create-steps, reasons}

-- ---- each call in its parts

module _ (a : List ℕ) (t : Table) (w : ℕ) where
  pub part-root : call_root a t w ≡ bind (root_to a t w) (λ id. bind (ensure (can_hold t w) 16) (λ _. hold_node (start a t) w id))
  unfolding call_root root_to
  part-root = then_is (then-step (admit a t) λ _ _. then-step (an_owner w) λ _ _. is refl)

  pub part-find : (h : Handle) (name : List ℕ) → call_find a t w h name ≡ bind (find_to a t w h name) (λ id. bind (ensure (can_hold t w) 16) (λ _. hold_node (start a t) w id))
  unfolding call_find find_to
  part-find h name =
      then_is
      (then-step (admit a t) λ _ _.
      then-step (by_handle t w h) λ i _.
      then-step (good_name name) λ _ _.
      then-step (known (row_at t i).rec) λ _ _.
      then-step (folder (row_at t i).rec) λ _ _.
      then-step (not_long name) λ _ _.
      then-step (ensure (not (is_dots name && eqb (row_at t i).rec.nlinks 0)) 8) λ _ _.
      then-step (find_slot a (row_at t i).rec name) λ s _. is refl)

  pub part-walk : (h : Handle) (path : List ℕ) (room : ℕ)
      → (call_walk a t w h path room).end ≡ bind (walk_to a t w h path room) (λ id. bind (ensure (can_hold t w) 16) (λ _. hold_node (start a t) w id))
  unfolding walk_to
  part-walk h path room =
      walk_is a t w h path room
      ∙ then_is
      (then-step (admit a t) λ _ _.
      then-step (by_handle t w h) λ i _.
      then-step (walk_in (start a t) (spot (row_at t i).id (row_at t i).rec) path room).end λ at _. is refl)

  pub part-create : (h : Handle) (name : List ℕ) (kind mode : ℕ) (time : Timespec) (uuid : List ℕ)
      → call_create a t w h name kind mode time uuid ≡ bind (create_to a t w h name kind uuid) (λ i. bind (ensure (can_hold t w) 16) (λ _. create_steps (start a t) w i name kind mode time uuid))
  unfolding call_create create_to
  part-create h name kind mode time uuid =
      then_is
      (then-step (admit a t) λ _ _.
      then-step (by_handle t w h) λ i _.
      then-step (new_name name) λ _ _.
      then-step (ensure (can_make kind) 6) λ _ _.
      then-step (live_folder (row_at t i).rec) λ _ _.
      then-step (not_long name) λ _ _.
      then-step (lookup a (row_at t i).rec name) λ f _.
      then-step (or_exists f) λ _ _.
      then-step (ensure (not (there a (file 1 uuid))) 14) λ _ _.
      then-step (ensure (not (is_folder kind && eqb (row_at t i).rec.nlinks 65535)) 15) λ _ _. is refl)

pub are-up-to-check : AreUpToCheck
unfolding AreUpToCheck
are-up-to-check a t w = record { of-root = part-root a t w; of-find = part-find a t w; of-walk = part-walk a t w; of-create = part-create a t w }

-- ---- what comes before the check gives no 16

abbrev Not16 : ℕ → Type 0
Not16 n = n ≢ 16

no : (n : ℕ) → eqb n 16 ≡ false → Not16 n
no n e = eqb-false n 16 e

module _ (a : List ℕ) (t : Table) (w : ℕ) where
  before_root : Says Not16 (root_to a t w)
  unfolding root_to
  before_root = says_then (says-admit (no 1 refl) (no 2 refl) (no 3 refl) a t) λ _. says_then (says-ensure (is_owner w) 6 (no 6 refl)) λ _. says-done

  before-find : (h : Handle) (name : List ℕ) → Says Not16 (find_to a t w h name)
  unfolding find_to
  before-find h name =
      says_then (says-admit (no 1 refl) (no 2 refl) (no 3 refl) a t) λ _.
      says_then (says-handle (no 6 refl) (no 4 refl) t w h) λ i.
      says_then (says-ensure (eqb (early_reason (name_verdict name)) 0) 5 (no 5 refl)) λ _.
      says_then (says-ensure (is_type (row_at t i).rec.kind) 19 (no 19 refl)) λ _.
      says_then (says-ensure (is_folder (row_at t i).rec.kind) 7 (no 7 refl)) λ _.
      says_then (says-ensure (leb (length name) 255) 10 (no 10 refl)) λ _.
      says_then (says-ensure (not (is_dots name && eqb (row_at t i).rec.nlinks 0)) 8 (no 8 refl)) λ _.
      says_then (says-find Not16 (no 19 refl) (no 11 refl) a (row_at t i).rec name) λ s. says-done

  before-walk : (h : Handle) (path : List ℕ) (room : ℕ) → Says Not16 (walk_to a t w h path room)
  unfolding walk_to
  before-walk h path room =
      says_then (says-admit (no 1 refl) (no 2 refl) (no 3 refl) a t) λ _.
      says_then (says-handle (no 6 refl) (no 4 refl) t w h) λ i.
      says_then (says-way (no 5 refl) (no 7 refl) (no 10 refl) (no 8 refl) (no 11 refl) (no 23 refl) (no 20 refl) (no 19 refl) a t _ path room) λ at. says-done

  before-create : (h : Handle) (name : List ℕ) (kind : ℕ) (uuid : List ℕ) → Says Not16 (create_to a t w h name kind uuid)
  unfolding create_to
  before-create h name kind uuid =
      says_then (says-admit (no 1 refl) (no 2 refl) (no 3 refl) a t) λ _.
      says_then (says-handle (no 6 refl) (no 4 refl) t w h) λ i.
      says_then (says-ensure (eqb (new_reason (name_verdict name)) 0) 5 (no 5 refl)) λ _.
      says_then (says-ensure (can_make kind) 6 (no 6 refl)) λ _.
      says_then (says-live (no 19 refl) (no 7 refl) (no 8 refl) (row_at t i).rec) λ _.
      says_then (says-ensure (leb (length name) 255) 10 (no 10 refl)) λ _.
      says_then (says-lookup Not16 (no 19 refl) a (row_at t i).rec name) λ f.
      says_then (says-exists (no 12 refl) f) λ _.
      says_then (says-ensure (not (there a (file 1 uuid))) 14 (no 14 refl)) λ _.
      says_then (says-ensure (not (is_folder kind && eqb (row_at t i).rec.nlinks 65535)) 15 (no 15 refl)) λ _. says-done

  -- nor does what comes after it
  after-hold : (id : ℕ) → Says Not16 (hold_node (start a t) w id)
  after-hold id = says-hold (no 19 refl) a t w id

  after-create : (i : ℕ) (name : List ℕ) (kind mode : ℕ) (time : Timespec) (uuid : List ℕ) → Says Not16 (create_steps (start a t) w i name kind mode time uuid)
  after-create i name kind mode time uuid = says-create-steps (no 15 refl) (no 17 refl) (no 19 refl) (start a t) w i name kind mode time uuid (says-meta Not16 (no 19 refl) a)

-- ---- the check

-- it fails exactly where there is no place left
pub no_place : (t : Table) (w : ℕ) → can_hold t w ≡ false → NoPlace t w
unfolding can_hold
no_place t w e =
    ⊎_elim
    (λ x. ⊎_elim (λ y. absurd (true-false (and_both x y) e)) (λ y. inr (ltb-false t.next last_stamp y)) (bool_cases (ltb t.next last_stamp)))
    (λ x. inl (ltb-false (own_holds t w) most_holds x))
    (bool_cases (ltb (own_holds t w) most_holds))

pub place_none : (t : Table) (w : ℕ) → NoPlace t w → can_hold t w ≡ false
unfolding can_hold
place_none t w n = go (ltb (own_holds t w) most_holds && ltb t.next last_stamp) refl
  where
    go : (b : Bool) → (ltb (own_holds t w) most_holds && ltb t.next last_stamp) ≡ b → (ltb (own_holds t w) most_holds && ltb t.next last_stamp) ≡ false
    go false e = e
    go true e =
        let x = and_parts (ltb (own_holds t w) most_holds) (ltb t.next last_stamp) e in
        absurd (⊎_elim (λ l. omega (arith, ltb-true (own_holds t w) most_holds x.0)) (λ l. omega (arith, ltb-true t.next last_stamp x.1)) n)

-- a call that is m, the check b, and steps: it answers 16 exactly where m is done and the check fails, and where the check fails it makes nothing
record Meets {A : Type 0} (o : Out Pair) (m : Out A) (b : Bool) : Type 0 where
  arrives : answer o ≡ 16 → (x : A) × (m ≡ done x)
  fails : answer o ≡ 16 → b ≡ false
  full : (x : A) → m ≡ done x → b ≡ false → answer o ≡ 16
  none_made : (p : Pair) → b ≡ false → kept p o ≡ p

-- steps that give no 16, and the pair that is made of their outcome
still : {A : Type 0} (g : A → Pair) {o : Out A} → Says Not16 o → answer (bind o (λ x. done (g x))) ≢ 16
still g (went _) e = omega arith
still g (said r) e = r e

meets : {A B : Type 0} (g : B → Pair) {c : Out B} (m : Out A) (b : Bool) (f : A → Out B) → c ≡ bind m (λ x. bind (ensure b 16) (λ _. f x)) → Says Not16 m → ((x : A) → Says Not16 (f x))
    → Meets (bind c (λ x. done (g x))) m b
meets {A = A} {B = B} g m b f e before after = subst (λ (o : Out B). Meets (bind o (λ x. done (g x))) m b) (sym e) (go m b before)
  where
    go : (m : Out A) (b : Bool) → Says Not16 m → Meets (bind (bind m (λ x. bind (ensure b 16) (λ _. f x))) (λ x. done (g x))) m b
    go (done x) true s = record {
      arrives = λ z. (x, refl);
      fails = λ z. absurd (still g (after x) z);
      full = λ y q n. absurd (true-false refl n);
      none_made = λ p n. absurd (true-false refl n);
    }
    go (done x) false s = record { arrives = λ z. (x, refl); fails = λ z. refl; full = λ y q n. refl; none_made = λ p n. refl }
    go (refused n) b (said r) = record {
      arrives = λ z. absurd (r z);
      fails = λ z. absurd (r z);
      full = λ y q k. absurd (let u : ◌≡◌ {A = ℕ} 0 1 = cc in omega arith);
      none_made = λ p k. refl;
    }

module _ (p : Pair) where
  abbrev a : List ℕ
  a = p.arena

  abbrev t : Table
  t = p.table

  meets-root : (w : ℕ) → Meets (does (root w) p) (root_to p.arena p.table w) (can_hold p.table w)
  unfolding does
  meets-root w = meets (λ x. pair a x.table) _ _ _ (part-root a t w) (before_root a t w) (after-hold a t w)

  meets-find : (w : ℕ) (h : Handle) (name : List ℕ) → Meets (does (find w h name) p) (find_to p.arena p.table w h name) (can_hold p.table w)
  unfolding does
  meets-find w h name = meets (λ x. pair a x.table) _ _ _ (part-find a t w h name) (before-find a t w h name) (after-hold a t w)

  meets-walk : (w : ℕ) (h : Handle) (path : List ℕ) (room : ℕ) → Meets (does (walk w h path room) p) (walk_to p.arena p.table w h path room) (can_hold p.table w)
  unfolding does
  meets-walk w h path room = meets (λ x. pair a x.table) _ _ _ (part-walk a t w h path room) (before-walk a t w h path room) (after-hold a t w)

  meets-create : (w : ℕ) (h : Handle) (name : List ℕ) (kind mode : ℕ) (time : Timespec) (uuid : List ℕ)
      → Meets (does (create w h name kind mode time uuid) p) (create_to p.arena p.table w h name kind uuid) (can_hold p.table w)
  unfolding does
  meets-create w h name kind mode time uuid =
      meets (λ x. pair x.arena x.table) _ _ _ (part-create a t w h name kind mode time uuid) (before-create a t w h name kind uuid) (λ i. after-create a t w i name kind mode time uuid)

  -- a call that gives no 16
  never : (c : Call) → has (reasons_of c) 16 ≡ false → reason_of c p ≢ 16
  unfolding Reasons
  never c e z =
      ⊎_elim (λ (q : reason_of c p ≡ 0). omega (arith, q)) (λ (q : T (has (reasons_of c) (reason_of c p))). true-false (T_true _ q) (ap (has (reasons_of c)) z ∙ e)) (reasons c p)

  full-says : (c : Call) → reason_of c p ≡ 16 → ReachesCheck p c × (can_hold p.table (asker c) ≡ false)
  full-says (root w) e = let m = meets-root w in (root-to (m.arrives e).1, m.fails e)
  full-says (find w h name) e = let m = meets-find w h name in (find-to (m.arrives e).1, m.fails e)
  full-says (walk w h path room) e = let m = meets-walk w h path room in (walk-to (m.arrives e).1, m.fails e)
  full-says (create w h name kind mode time uuid) e = let m = meets-create w h name kind mode time uuid in (create-to (m.arrives e).1, m.fails e)
  full-says (link w h name child) e = absurd (never (link w h name child) refl e)
  full-says (remove_file w h name) e = absurd (never (remove_file w h name) refl e)
  full-says (remove_folder w h name) e = absurd (never (remove_folder w h name) refl e)
  full-says (move w h old target name) e = absurd (never (move w h old target name) refl e)
  full-says (metadata w h) e = absurd (never (metadata w h) refl e)
  full-says (set_metadata w h mode uid gid at mt ct) e = absurd (never (set_metadata w h mode uid gid at mt ct) refl e)
  full-says (get_entry w h k room) e = absurd (never (get_entry w h k room) refl e)
  full-says (listing w h m room) e = absurd (never (listing w h m room) refl e)
  full-says (full_path w h room) e = absurd (never (full_path w h room) refl e)
  full-says (read w h place room) e = absurd (never (read w h place room) refl e)
  full-says (write w h place bytes) e = absurd (never (write w h place bytes) refl e)
  full-says (resize w h n) e = absurd (never (resize w h n) refl e)
  full-says (fallocate w h mode from len) e = absurd (never (fallocate w h mode from len) refl e)
  full-says sync e = absurd (never sync refl e)
  full-says (close w h) e = absurd (never (close w h) refl e)
  full-says check e = absurd (never check refl e)
  full-says (inventory room) e = absurd (never (inventory room) refl e)
  full-says mend e = absurd (never mend refl e)

  full_is : {c : Call} → ReachesCheck p c → can_hold p.table (asker c) ≡ false → reason_of c p ≡ 16
  full_is (root-to {w = w} {id = id} q) n = (meets-root w).full id q n
  full_is (find-to {w = w} {id = id} {h = h} {name = name} q) n = (meets-find w h name).full id q n
  full_is (walk-to {w = w} {room = room} {id = id} {h = h} {path = path} q) n = (meets-walk w h path room).full id q n
  full_is (create-to {w = w} {kind = kind} {mode = mode} {i = i} {h = h} {name = name} {uuid = uuid} {time = time} q) n = (meets-create w h name kind mode time uuid).full i q n

  pub makes_none : {c : Call} → Makes c → can_hold p.table (asker c) ≡ false → next c p ≡ p
  makes_none (by-root {w = w}) n = (meets-root w).none_made p n
  makes_none (by-find {w = w} {h = h} {name = name}) n = (meets-find w h name).none_made p n
  makes_none (by-walk {w = w} {h = h} {path = path} {room = room}) n = (meets-walk w h path room).none_made p n
  makes_none (by-create {w = w} {h = h} {name = name} {kind = kind} {mode = mode} {time = time} {file = uuid}) n = (meets-create w h name kind mode time uuid).none_made p n

pub full-exactly : FullExactly
unfolding FullExactly
full-exactly c p =
    (λ e. let x = full-says p c e in (x.0, no_place p.table (asker c) x.1), λ r. full_is p r.0 (place_none p.table (asker c) r.1))

pub no-place-is : NoPlaceIs
unfolding NoPlaceIs
no-place-is p w y o =
    let few : own_holds p.table w ≤ most_holds = (formed p.arena p.table (allowed p y)).few w o in
    let top : p.table.next < 18446744073709551616 = y.typed.fits.next in (
      ⊎_elim (λ l. inl (omega arith)) (λ l. inr (omega arith)),
      ⊎_elim (λ e. inl (omega arith)) (λ e. inr (omega arith)),
    )
