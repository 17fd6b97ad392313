-- Places reserved for each editor: TableFull goes by the asker's own holds, and a handle works for its owner alone.
use mathlib.Core.Path.{◌≡◌, refl, sym, ap, ap₂, ◌∙◌, subst}
use mathlib.Core.Bool.{true, ◌&&◌}
use mathlib.Core.List.{List}
use mathlib.Core.Logic.{◌≢◌}
use Prim.Native.Nat.{ℕ}
use lib.Dec.{ltb}
use Rattle.base.specs.Out.{Out, done, refused, bind, Ok}
use Rattle.base.proofs.Outs.{bind-is-done, ok-done}
use Rattle.std.specs.Prelude.{Option, Some, None}
use Rattle.table.specs.declared.Table.{Table}
use Rattle.table.specs.declared.Handle.{Handle}
use Rattle.table.specs.Table.{row_at, live_row, can_hold}
use Rattle.table.specs.Formed.{well_formed}
use Rattle.table_laws.specs.Rules.{Owner}
use Rattle.table_laws.proofs.Rules.{of_owner}
use Rattle.table_laws.proofs.Handles.{live-means}
use Rattle.sefs.specs.Ask.{admit, by_handle, start}
use Rattle.sefs.specs.Open.{call_find}
use Rattle.sefs.specs.Create.{call_create, call_link}
use Rattle.sefs.specs.Remove.{call_remove}
use Rattle.sefs.specs.Move.{call_move}
use Rattle.sefs.specs.Read.{call_metadata, call_set, call_entry, call_listing}
use Rattle.sefs.specs.Contents.{call_read, call_write, call_resize}
use Rattle.sefs.specs.Close.{call_close}
use Rattle.paths.specs.Path.{call_path}
use Rattle.ranges.specs.Ranges.{call_fallocate}
use Rattle.sefs_laws.proofs.Rows.{Any}
use Rattle.sefs_laws.proofs.Handles.{Owns, handle-asks, handle-done, handle-not}
use Rattle.walk.specs.Walk.{Spot, spot, walk_in, call_walk}
use Rattle.image.proofs.Handles.{admitted}
use Rattle.sequences.specs.Pairs.{Pair, pair, Passed}
use Rattle.sequences.specs.Calls.{Call, root, walk, link, move, Fits, asker, does, reason_of, next}
use Rattle.sequences.specs.Promises.{Along, ends, goes, Spares, Apart}
use Rattle.sequences.specs.Places
use Rattle.sequences.specs.TableFull.{root_to, find_to, walk_to, create_to, ReachesCheck, root-to, find-to, walk-to, create-to, most_holds, last_stamp, FullExactly}
use Rattle.sequences.specs.Places.{CountsOwn, FullMeans, RootFull, SameFor, Arrives, FullByOwn, Names, Refused, ApartByOwner}
use Rattle.sequences.proofs.Passing.{allowed}
use Rattle.sequences.proofs.TableFull.{no_place, place_none, makes_none, full-exactly}
use Rattle.sequences.proofs.Sequences.{apart}

pub counts-own : CountsOwn
unfolding CountsOwn can_hold
counts-own t u w e q = ap₂ (λ (m n : ℕ). ltb m most_holds && ltb n last_stamp) e q

-- ---- what TableFull means

enter : (p : Pair) → Passed p → admit p.arena p.table ≡ done tt
enter p y = admitted p.arena p.table (allowed p y)

pub full-means : FullMeans
unfolding FullMeans FullExactly
full-means c p = record { only = λ e. place_none p.table (asker c) ((full-exactly c p).0 e).1; none_made = makes_none p }

pub root-full : RootFull
unfolding RootFull FullMeans FullExactly root_to
root-full p w y o =
    ((full-means (root w) p).only, λ e. (full-exactly (root w) p).1 (root-to {id = 2} (rw (enter p y, of_owner w o) refl), no_place p.table w e))

-- ---- two tables that are the same for the asker

-- the same step, and then the same
same_then : {A B : Type 0} {f g : A → Out B} {m n : Out A} → m ≡ n → ((x : A) → m ≡ done x → f x ≡ g x) → bind m f ≡ bind n g
same_then {f = f} {g = g} {m = m} e k = go m k ∙ ap (λ (o : Out _). bind o g) e
  where
    go : (o : Out _) → ((x : _) → o ≡ done x → f x ≡ g x) → bind o f ≡ bind o g
    go (done x) k = k x refl
    go (refused n) k = refl

module _ (a : List ℕ) (t u : Table) (w : ℕ) (ft : well_formed t ≡ true) (fu : well_formed u ≡ true) (S : SameFor w t u) where
  same-admit : admit a t ≡ admit a u
  unfolding admit
  same-admit = rw (ft, fu) refl

  same-handle : (h : Handle) → by_handle t w h ≡ by_handle u w h
  unfolding by_handle
  same-handle h = rw (S.handles h) refl

  live-by : (h : Handle) (i : ℕ) → by_handle t w h ≡ done i → live_row t w h ≡ Some i
  live-by h i e = (ok-done (subst (Ok (Owns t w h) Any) e (handle-asks {R = Any} tt tt t w h))).live

  -- the row's record, of a handle that was taken
  same-rec : (h : Handle) (i : ℕ) → by_handle t w h ≡ done i → (row_at t i).rec ≡ (row_at u i).rec
  same-rec h i e = S.records h i (live-by h i e)

  same-root : root_to a t w ≡ root_to a u w
  unfolding root_to
  same-root = same_then same-admit λ _ _. refl

  same-find : (h : Handle) (name : List ℕ) → find_to a t w h name ≡ find_to a u w h name
  unfolding find_to
  same-find h name =
      same_then same-admit λ _ _.
      same_then (same-handle h) λ i l. rw (same-rec h i l) refl

  same-create : (h : Handle) (name : List ℕ) (kind : ℕ) (uuid : List ℕ) → create_to a t w h name kind uuid ≡ create_to a u w h name kind uuid
  unfolding create_to
  same-create h name kind uuid =
      same_then same-admit λ _ _.
      same_then (same-handle h) λ i l. rw (same-rec h i l) refl

  -- both come to the check, if on different ways
  also-walk : (h : Handle) (path : List ℕ) (room id : ℕ) → walk_to a t w h path room ≡ done id
      → ((i : ℕ) → live_row u w h ≡ Some i → (at : Spot) × ((walk_in (start a u) (spot (row_at u i).id (row_at u i).rec) path room).end ≡ done at))
      → ReachesCheck (pair a u) (walk w h path room)
  unfolding walk_to
  also-walk h path room id e arrives =
      let x = bind-is-done (admit a t) _ id e in
      let y = bind-is-done (by_handle t w h) _ id x.2 in
      let at = arrives y.0 (sym (S.handles h) ∙ live-by h y.0 y.1) in
      walk-to {w = w} {room = room} {id = at.0.id} {h = h} {path = path} (rw (sym same-admit ∙ x.1, sym (same-handle h) ∙ y.1, at.1) refl)

also-reaches : (a : List ℕ) (t u : Table) {c : Call} → well_formed t ≡ true → well_formed u ≡ true → SameFor (asker c) t u → Arrives a u c → ReachesCheck (pair a t) c → ReachesCheck (pair a u) c
also-reaches a t u ft fu S arrives (root-to {w = w} e) = root-to (sym (same-root a t u w ft fu S) ∙ e)
also-reaches a t u ft fu S arrives (find-to {w = w} {h = h} {name = name} e) = find-to (sym (same-find a t u w ft fu S h name) ∙ e)
also-reaches a t u ft fu S arrives (walk-to {w = w} {room = room} {id = id} {h = h} {path = path} e) = also-walk a t u w ft fu S h path room id e (λ i. arrives w h path room i refl)
also-reaches a t u ft fu S arrives (create-to {w = w} {kind = kind} {h = h} {name = name} {uuid = uuid} e) = create-to (sym (same-create a t u w ft fu S h name kind uuid) ∙ e)

pub full-by-own : FullByOwn
unfolding FullByOwn FullExactly CountsOwn
full-by-own a t u c ft fu S arrives e =
    let x = (full-exactly c (pair a t)).0 e in
    (full-exactly c (pair a u)).1
    (also-reaches a t u ft fu S arrives x.0, no_place u (asker c) (sym (counts-own t u (asker c) S.own S.supply) ∙ place_none t (asker c) x.1))

-- ---- a handle works for its owner alone

-- what is live for w is live for nobody else
not-his : (t : Table) (v w : ℕ) (h : Handle) (i : ℕ) → live_row t w h ≡ Some i → v ≢ w → live_row t v h ≡ None
not-his t v w h i e d = go (live_row t v h) refl
  where
    go : (f : Option ℕ) → live_row t v h ≡ f → live_row t v h ≡ None
    go (Some j) q = absurd (d (sym ((live-means t v h j).0 q).owner ∙ ((live-means t w h i).0 e).owner))
    go None q = q

module _ (p : Pair) (v w : ℕ) (h : Handle) (i : ℕ) (live : live_row p.table w h ≡ Some i) (o : Owner v) (d : v ≢ w) where
  his : by_handle p.table v h ≡ refused 4
  his = handle-not p.table v h o (not-his p.table v w h i live d)

  -- as the second handle: the first one may be refused, for the same reason
  link-refused : (g : Handle) (name : List ℕ) → Passed p → (f : Option ℕ) → live_row p.table v g ≡ f → reason_of (link v g name h) p ≡ 4
  unfolding does call_link
  link-refused g name y (Some j) e = rw (enter p y, handle-done p.table v g j (record { owner = o; live = e }), his) refl
  link-refused g name y None e = rw (enter p y, handle-not p.table v g o e) refl

  move-refused : (g : Handle) (old name : List ℕ) → Passed p → (f : Option ℕ) → live_row p.table v g ≡ f → reason_of (move v g old h name) p ≡ 4
  unfolding does call_move
  move-refused g old name y (Some j) e = rw (enter p y, handle-done p.table v g j (record { owner = o; live = e }), his) refl
  move-refused g old name y None e = rw (enter p y, handle-not p.table v g o e) refl

names-refused : (p : Pair) (c : Call) (w : ℕ) (h : Handle) (i : ℕ) → Passed p → live_row p.table w h ≡ Some i → Owner (asker c) → asker c ≢ w → Names h c → reason_of c p ≡ 4
unfolding does call_find call_walk call_create call_link call_remove call_move call_metadata call_set call_entry call_listing call_path call_read call_write call_resize call_fallocate call_close
names-refused p c w h i y l o d (Places.finds {v = v}) = rw (enter p y, his p v w h i l o d) refl
names-refused p c w h i y l o d (Places.walks {v = v}) = rw (enter p y, his p v w h i l o d) refl
names-refused p c w h i y l o d (Places.creates {v = v}) = rw (enter p y, his p v w h i l o d) refl
names-refused p c w h i y l o d (Places.links {v = v}) = rw (enter p y, his p v w h i l o d) refl
names-refused p c w h i y l o d (Places.removes-file {v = v}) = rw (enter p y, his p v w h i l o d) refl
names-refused p c w h i y l o d (Places.removes-folder {v = v}) = rw (enter p y, his p v w h i l o d) refl
names-refused p c w h i y l o d (Places.moves {v = v}) = rw (enter p y, his p v w h i l o d) refl
names-refused p c w h i y l o d (Places.asks {v = v}) = rw (enter p y, his p v w h i l o d) refl
names-refused p c w h i y l o d (Places.sets {v = v}) = rw (enter p y, his p v w h i l o d) refl
names-refused p c w h i y l o d (Places.entries {v = v}) = rw (enter p y, his p v w h i l o d) refl
names-refused p c w h i y l o d (Places.lists {v = v}) = rw (enter p y, his p v w h i l o d) refl
names-refused p c w h i y l o d (Places.paths {v = v}) = rw (enter p y, his p v w h i l o d) refl
names-refused p c w h i y l o d (Places.reads {v = v}) = rw (enter p y, his p v w h i l o d) refl
names-refused p c w h i y l o d (Places.writes {v = v}) = rw (enter p y, his p v w h i l o d) refl
names-refused p c w h i y l o d (Places.resizes {v = v}) = rw (enter p y, his p v w h i l o d) refl
names-refused p c w h i y l o d (Places.fallocates {v = v}) = rw (enter p y, his p v w h i l o d) refl
names-refused p c w h i y l o d (Places.closes {v = v}) = rw (enter p y, his p v w h i l o d) refl
names-refused p c w h i y l o d (Places.is-linked {v = v} {g = g} {name = name}) = link-refused p v w h i l o d g name y (live_row p.table v g) refl
names-refused p c w h i y l o d (Places.is-target {v = v} {g = g} {old = old} {name = name}) = move-refused p v w h i l o d g old name y (live_row p.table v g) refl

pub refused-others : Refused
unfolding Refused
refused-others = names-refused

-- who is not she does not close for her
spares-along : (w : ℕ) (h : Handle) (p : Pair) (l : List Call) → Along (λ c q. Fits c × (asker c ≢ w)) p l → Along (λ c q. Spares w h c) p l
spares-along w h p l ends = ends
spares-along w h p l (goes {c = c} {l = m} x r) = goes (record { fits = x.0; not-closed = λ e. x.1 (ap asker e) }) (spares-along w h (next c p) m r)

pub apart-by-owner : ApartByOwner
unfolding ApartByOwner Apart
apart-by-owner p l w h n f y o k = apart p l w h n f y o (spares-along w h p l k)
