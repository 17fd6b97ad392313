-- A path without links is a chain of finds.
use mathlib.Core.Path.{◌≡◌, refl, sym, ap, ◌∙◌, subst}
use mathlib.Core.Bool.{Bool, true, false, not, ◌&&◌, ◌||◌}
use mathlib.Core.List.{List, [], ◌∷◌, ◌++◌}
use mathlib.Core.Logic.{◌≢◌}
use Prim.Native.Nat.{ℕ, zero, suc, ◌<◌}
use native.Mathlib.Omega.{arith}
use lib.Dec.{eqb, leb}
use lib.ListN.{length, get_or}
use borrow.Author.Tests.{ne_eqb, lt-ltb}
use Rattle.base.specs.Out.{Out, done, refused, bind, ensure, answer, kept}
use Rattle.base.specs.Decides.{same}
use Rattle.base.proofs.Bools.{and_both, or-first, or-second}
use Rattle.base.proofs.Sames.{and-true}
use Rattle.base.proofs.Counts.{all_to-all}
use Rattle.base.proofs.Outs.{bind-is-done}
use Rattle.structs.specs.declared.DiskINode.{DiskINode}
use Rattle.utf8.specs.Names.{NoSlash, is_dots, name_verdict, early_reason}
use Rattle.table.specs.declared.Table.{Table}
use Rattle.table.specs.declared.Handle.{Handle}
use Rattle.table.specs.declared.Added.{Added}
use Rattle.table.specs.Table.{row_at, can_hold, add_hold}
use Rattle.sefs.specs.State.{Fs}
use Rattle.sefs.specs.Nodes.{Opened, get_node, rec_at}
use Rattle.sefs.specs.Slots.{Slot, find_slot}
use Rattle.sefs.specs.Ask.{admit, by_handle, not_long, known, folder, start}
use Rattle.sefs.specs.Open.{hold_node, call_find}
use Rattle.walk.specs.Walk.{slash, is_slash, from_root, part_at, split, good_text, cut, parts_of, Spot, spot, look_at, part_in, ended, along, enter, Walked, most_links, walk_on, walk_in}
use Rattle.walk.specs.Laws.{Chain, here, on, Leads, Halts, NoLink, PartFinds, WalkFinds}
use Rattle.walk.proofs.Ways.{walk_is}

-- ---- a chain

along-leads : (s : Fs) {at to : Spot} {ps : List (List ℕ)} → Chain s at ps to → along s at ps ≡ done (ended to)
unfolding along
along-leads s here = refl
along-leads s (on e f c) = rw (e, f) (along-leads s c)

along-halts : (s : Fs) {at to : Spot} {ps : List (List ℕ)} (p : List ℕ) (qs : List (List ℕ)) (n : ℕ) → Chain s at ps to → part_in s to.rec p ≡ refused n → along s at (ps ++ (p ∷ qs)) ≡ refused n
unfolding along
along-halts s p qs n here r = rw r
along-halts s p qs n (on e f c) r = rw (e, f) (along-halts s p qs n c r)

pub leads : Leads
unfolding Leads walk_on
leads s room zero b at to ps c = rw (along-leads s c) refl
leads s room (suc k) b at to ps c = rw (along-leads s c) refl

pub halts : Halts
unfolding Halts walk_on
halts s room zero b at to ps p qs n c r = rw (along-halts s p qs n c r) refl
halts s room (suc k) b at to ps p qs n c r = rw (along-halts s p qs n c r) refl

-- ---- a part is a find

-- the outcome o is m, and then k
pub data Then {B C : Type 0} (k : B → Out C) : Out C → Out B → Type 0 where
  is : {o : Out C} {m : Out B} → o ≡ bind m k → Then k o m

pub then_is : {B C : Type 0} {k : B → Out C} {o : Out C} {m : Out B} → Then k o m → o ≡ bind m k
then_is (is e) = e

-- a step of both
pub then-step : {A B C : Type 0} {f : A → Out C} {g : A → Out B} {k : B → Out C} (m : Out A) → ((x : A) → m ≡ done x → Then k (f x) (g x)) → Then k (bind m f) (bind m g)
then-step (done x) h = h x refl
then-step (refused n) h = is refl

-- a node that can't be looked at can't be opened with a hold
look-hold : (s : Fs) (w id n : ℕ) → look_at s id ≡ refused n → hold_node s w id ≡ refused n
unfolding look_at hold_node
look-hold s w id n = go (get_node s id)
  where
    go : (o : Out Opened) → bind o (λ x. done (rec_at x.state x.row)) ≡ refused n → bind o (λ x. done (add_hold x.state.table w x.row)) ≡ refused n
    go (done x) e = absurd (let z : ◌≡◌ {A = ℕ} 0 1 = cc in omega arith)
    go (refused m) e = let q : m ≡ n = ap answer e in ap refused q

-- and what can be is held where the part has led
look_then : (s : Fs) (w id : ℕ) (can : Bool) → can ≡ true → ((n : DiskINode) → look_at s id ≡ done n → leb n.kind 4 ≡ true)
    → bind (ensure can 16) (λ _. hold_node s w id) ≡ bind (bind (look_at s id) (λ n. bind (ensure (leb n.kind 4) 19) (λ _. done (spot id n)))) (λ n. hold_node s w n.id)
look_then s w id can e kinds = rw e (go (look_at s id) refl)
  where
    go : (o : Out DiskINode) → look_at s id ≡ o
        → hold_node s w id ≡ bind (bind o (λ n. bind (ensure (leb n.kind 4) 19) (λ _. done (spot id n)))) (λ n. hold_node s w n.id)
    go (done n) q = rw (kinds n q) refl
    go (refused n) q = look-hold s w id n q

pub part-finds : PartFinds
unfolding PartFinds call_find part_in
part-finds a t w h name i e l g can plain =
    rw (e, l, g)
    (then_is
    (then-step (known (row_at t i).rec) λ _ _.
    then-step (folder (row_at t i).rec) λ _ _.
    then-step (not_long name) λ _ _.
    then-step (ensure (not (is_dots name && eqb (row_at t i).rec.nlinks 0)) 8) λ _ _.
    then-step (find_slot a (row_at t i).rec name) λ x q.
    is (look_then (start a t) w x.entry.id (can_hold t w) can (λ n r. (plain x n q r).0))))

-- where a part has led, in the words of find; and it was looked at
pub part-done : (s : Fs) (r : DiskINode) (name : List ℕ) (n : Spot) → part_in s r name ≡ done n
    → (e : Slot) × (find_slot s.arena r name ≡ done e) × (e.entry.id ≡ n.id) × (look_at s n.id ≡ done n.rec)
unfolding part_in
part-done s r name n e =
    let x = bind-is-done (known r) _ n e in
    let y = bind-is-done (folder r) _ n x.2 in
    let z = bind-is-done (not_long name) _ n y.2 in
    let d = bind-is-done (ensure (not (is_dots name && eqb r.nlinks 0)) 8) _ n z.2 in
    let f = bind-is-done (find_slot s.arena r name) _ n d.2 in
    let g = bind-is-done (look_at s f.0.entry.id) _ n f.2 in
    let h = bind-is-done (ensure (leb g.0.kind 4) 19) _ n g.2 in
    let q : spot f.0.entry.id g.0 ≡ n = ap (kept n) h.2 in
    (f.0, f.1, ap (λ (x : Spot). x.id) q, subst (λ (x : Spot). look_at s x.id ≡ done x.rec) q g.1)

-- ---- a path that is a name

-- it is its own only part
pub plain-cut : (b : ℕ) (l : List ℕ) → NoSlash (b ∷ l) → cut (b ∷ l) ≡ (b ∷ l) ∷ []
unfolding cut
plain-cut b [] bare = rw (ne_eqb b slash (λ e. bare 0 (omega arith) e)) refl
plain-cut b (c ∷ l) bare = rw (ne_eqb b slash (λ e. bare 0 (omega arith) e), plain-cut c l (λ j h e. bare (suc j) (omega arith) e)) refl

pub plain-parts : (name : List ℕ) → name ≢ [] → NoSlash name → (from_root name ≡ false) × (parts_of name ≡ name ∷ [])
plain-parts [] some bare = absurd (some refl)
plain-parts (b ∷ l) some bare =
    let q : eqb b slash ≡ false = ne_eqb b slash (λ e. bare 0 (omega arith) e) in
    (q, rw q (plain-cut b l bare))

some-long : (name : List ℕ) → name ≢ [] → 0 < length name
some-long [] some = absurd (some refl)
some-long (b ∷ l) some = omega arith

plain-split : (name : List ℕ) → name ≢ [] → NoSlash name → split name ≡ true
unfolding split
plain-split name some bare =
    let off : (i : ℕ) → i < length name → not (is_slash (get_or name i 0)) ≡ true = λ i l. ap not (ne_eqb (get_or name i 0) slash (bare i l)) in
    and_both (and_both (lt-ltb 0 (length name) (some-long name some)) (off 0 (some-long name some)))
    (all_to-all (λ i. not (is_slash (get_or name i 0)) || part_at name (suc i)) (length name) (λ i l. or-first (part_at name (suc i)) (off i l)))

-- and good exactly where it is good as a name
plain-text : (name : List ℕ) → name ≢ [] → NoSlash name → good_text name ≡ eqb (early_reason (name_verdict name)) 0
unfolding good_text
plain-text name some bare = rw ((plain-parts name some bare).0, or-second (same name (slash ∷ [])) (plain-split name some bare)) (and-true (eqb (early_reason (name_verdict name)) 0))

text-bad : (s : Fs) (at : Spot) (l : List ℕ) (room : ℕ) → good_text l ≡ false → (walk_in s at l room).end ≡ refused 5
unfolding walk_in enter
text-bad s at l room e = rw e refl

pub text-good : (s : Fs) (at : Spot) (l : List ℕ) (room : ℕ) → good_text l ≡ true → from_root l ≡ false → walk_in s at l room ≡ walk_on s room most_links [] at (parts_of l)
unfolding walk_in enter
text-good s at l room e f = rw (e, f) refl

module _ (a : List ℕ) (t : Table) (w : ℕ) (h : Handle) (name : List ℕ) (room : ℕ) (some : name ≢ []) (bare : NoSlash name)
    (can : can_hold t w ≡ true) (plain : (i : ℕ) → by_handle t w h ≡ done i → NoLink (start a t) (row_at t i).rec name) where
  abbrev s : Fs
  s = start a t

  -- the walk from the handle's row, and the hold
  abbrev rest : ℕ → Out Added
  rest i = bind (walk_in s (spot (row_at t i).id (row_at t i).rec) name room).end (λ at. bind (ensure (can_hold t w) 16) (λ _. hold_node s w at.id))

  -- the path is its part
  rest-is : (i : ℕ) → by_handle t w h ≡ done i → eqb (early_reason (name_verdict name)) 0 ≡ true → (o : Out Spot) → part_in s (row_at t i).rec name ≡ o
      → (walk_in s (spot (row_at t i).id (row_at t i).rec) name room).end ≡ o
  unfolding Leads Halts
  rest-is i l g o q =
      let at : Spot = spot (row_at t i).id (row_at t i).rec in
      let way : walk_in s (spot (row_at t i).id (row_at t i).rec) name room ≡ walk_on s room most_links [] (spot (row_at t i).id (row_at t i).rec) (name ∷ []) =
      text-good s at name room (plain-text name some bare ∙ g) (plain-parts name some bare).0 ∙ ap (walk_on s room most_links [] at) (plain-parts name some bare).1 in
      ap (λ (x : Walked Spot). x.end) way ∙ go o q
    where
      go : (o : Out Spot) → part_in s (row_at t i).rec name ≡ o → (walk_on s room most_links [] (spot (row_at t i).id (row_at t i).rec) (name ∷ [])).end ≡ o
      go (done n) q =
          let x = part-done s (row_at t i).rec name n q in
          let l' : look_at s x.0.entry.id ≡ done n.rec = ap (look_at s) x.2 ∙ x.3 in
          ap (λ (x : Walked Spot). x.end) (leads s room most_links [] (spot (row_at t i).id (row_at t i).rec) n (name ∷ []) (on q (plain i l x.0 n.rec x.1 l').1 here))
      go (refused m) q = ap (λ (x : Walked Spot). x.end) (halts s room most_links [] (spot (row_at t i).id (row_at t i).rec) (spot (row_at t i).id (row_at t i).rec) [] name [] m here q)

  good-name : (i : ℕ) → admit a t ≡ done tt → by_handle t w h ≡ done i → eqb (early_reason (name_verdict name)) 0 ≡ true → rest i ≡ call_find a t w h name
  unfolding PartFinds
  good-name i e l g =
      rw (rest-is i l g (part_in s (row_at t i).rec name) refl, can)
      (sym (part-finds a t w h name i e l (ap (λ (b : Bool). ensure b 5) g) can (plain i l)))

  row-finds : (i : ℕ) → admit a t ≡ done tt → by_handle t w h ≡ done i → (b : Bool) → eqb (early_reason (name_verdict name)) 0 ≡ b → rest i ≡ call_find a t w h name
  unfolding call_find
  row-finds i e l true g = good-name i e l g
  row-finds i e l false g = rw (text-bad s (spot (row_at t i).id (row_at t i).rec) name room (plain-text name some bare ∙ g), e, l, g) refl

  name-finds : (m : Out Unit) → admit a t ≡ m → (o : Out ℕ) → by_handle t w h ≡ o → bind m (λ _. bind o rest) ≡ call_find a t w h name
  unfolding call_find
  name-finds (done u) e (done i) l = row-finds i e l (eqb (early_reason (name_verdict name)) 0) refl
  name-finds (done u) e (refused n) l = rw (e, l) refl
  name-finds (refused n) e o l = rw e refl

pub walk-finds : WalkFinds
unfolding WalkFinds
walk-finds a t w h name room some bare can plain =
    walk_is a t w h name room ∙ name-finds a t w h name room some bare can plain (admit a t) refl (by_handle t w h) refl
