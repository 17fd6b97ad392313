-- A name that a folder has is found by who has a handle on it, where he has a place for a hold.
use mathlib.Core.Path.{◌≡◌, refl, sym, ap, ◌∙◌, subst}
use mathlib.Core.Bool.{Bool, true, false, not, ◌&&◌}
use mathlib.Core.List.{List, [], ◌∷◌}
use mathlib.Core.Logic.{◌⊎◌, inl, inr}
use Prim.Native.Nat.{ℕ, ◌*◌, ◌≤◌, ◌<◌}
use native.Mathlib.Omega.{arith}
use lib.Dec.{eqb, ltb}
use lib.ListN.{length}
use lib.Seq.{length-take-le}
use Rattle.base.specs.Out.{Out, answer, Ok, went, said}
use Rattle.base.proofs.Outs.{ok-bind}
use Rattle.base.proofs.Bools.{true-false, and_parts}
use Rattle.base.proofs.Finds.{search-nothing, search-at}
use Rattle.base.proofs.Lists.{length-tab}
use Rattle.base.proofs.Sames.{decided-yes, decided-no}
use Rattle.base.proofs.Tests.{decides-leb, decides-same}
use Rattle.base.specs.Search.{pick, lowest, found_below}
use Rattle.base.specs.Decides.{same}
use Rattle.std.specs.Prelude.{Option, Some, None}
use Rattle.structs.specs.Types.{is_folder}
use Rattle.structs.proofs.Layouts.{entry_of-fits}
use Rattle.structs.specs.declared.DiskINode.{DiskINode}
use Rattle.structs.specs.declared.DiskEntry.{DiskEntry}
use Rattle.utf8.specs.Names.{zero_at, GoodName, has_slash, name_verdict, early_reason, is_named, is_dots}
use Rattle.utf8.specs.declared.NameVerdict.{NameVerdict}
use Rattle.utf8.specs.declared.NameVerdict.TheVariants.{Good, Slashed}
use Rattle.utf8.proofs.Names.{verdict-is, named-decides, asked-own}
use Rattle.arena.specs.Fields.{file}
use Rattle.files.specs.Read.{byte_at}
use Rattle.table.specs.declared.Table.{Table}
use Rattle.table.specs.declared.Handle.{Handle}
use Rattle.table.specs.declared.Added.{Added}
use Rattle.table.specs.Table.{row_at, can_hold}
use Rattle.sefs.specs.Slots.{Slot, or_not_found, find_slot}
use Rattle.sefs.specs.Ask.{start}
use Rattle.sefs.specs.Open.{hold_node, call_find}
use Rattle.rules.specs.Image.{run, is_node, rec_of, is_folder_at, slot_in}
use Rattle.rules.specs.Rules.{Allowed, Later}
use Rattle.sefs_laws.proofs.Says.{ok-is, says_is, ensure-yes, ensure-asks}
use Rattle.sefs_laws.proofs.Handles.{live-owns, handle-done}
use Rattle.image.specs.Midway.{Used}
use Rattle.image.proofs.Handles.{formed, admitted, row-rec, row_type}
use Rattle.image.proofs.Slots.{slot_is, run-bytes}
use Rattle.image.proofs.Lookups.{lookup-is, slot-node}
use Rattle.image.proofs.Takes.{get-law}
use Rattle.sequences.specs.Pairs.{Pair, Passed}
use Rattle.sequences.specs.Calls.{does}
use Rattle.sequences.specs.Promises.{On}
use Rattle.sequences.proofs.Passing.{allowed, spelled-any, spelled-midway}
use Rattle.sequences.proofs.Corner.{on-used}
use Rattle.drawings.specs.Rests.{Named}
use Rattle.drawings.specs.Names.{FindsIt}
use Rattle.drawings.proofs.Found.{some}

-- a good name is not refused
early : (l : List ℕ) → GoodName l → eqb (early_reason (name_verdict l)) 0 ≡ true
early l G = ap (λ (v : NameVerdict). eqb (early_reason v) 0) (verdict-is l G) ∙ go (has_slash l) (ltb 255 (length l))
  where
    go : (b long : Bool) → eqb (early_reason (pick b (Slashed long) (Good long))) 0 ≡ true
    go true long = refl
    go false long = refl

either : {A : Type 0} {o : Out A} → Ok (λ _. Unit) (λ n. n ≡ 16) o → (answer o ≡ 0) ⊎ (answer o ≡ 16)
either (went _) = inl refl
either (said e) = inr e

module _ (p : Pair) (y : Passed p) (d n : ℕ) (name : List ℕ) (N : Named d name n p) where
  abbrev a : List ℕ
  a = p.arena

  abbrev t : Table
  t = p.table

  abbrev s : List ℕ
  s = (slot_in p.arena (rec_of p.arena p.table d) N.slot).name

  A : Allowed p.arena p.table
  A = allowed p y

  L : Later p.arena p.table (slot_in p.arena (rec_of p.arena p.table d) N.slot)
  L = (A.rule6.folder d N.at.folder).later N.slot N.at.later N.at.inside

  good : GoodName name
  good = subst GoodName N.is L.ended.good

  short : length name ≤ 255
  unfolding slot_in
  short =
      let m : length s ≡ 256 = (entry_of-fits (run a (file 1 (rec_of a t d).file) (264 * N.slot) 264) (run-bytes a (file 1 (rec_of a t d).file) (264 * N.slot) 264 y.typed.bytes) (length-tab (byte_at a (file 1 (rec_of a t d).file)) (264 * N.slot) 264)).name in
      omega (arith, ap (λ (l : List ℕ). length l) N.is, length-take-le (zero_at s) s (let i = L.ended.inside in omega arith), L.ended.inside, m)

  no-dots : is_dots name ≡ false
  unfolding is_dots
  no-dots = decided-no (same name (46 ∷ 46 ∷ [])) (decides-same name (46 ∷ 46 ∷ [])) (λ e. L.no-dots (N.is ∙ e))

  asked-for : is_named s name ≡ true
  asked-for = decided-yes (named-decides s name) (N.is ∙ sym (asked-own name (some p y d n name N)))

  -- the lookup finds a slot with the name
  looks : Ok (λ (x : Slot). is_node p.arena x.entry.id ≡ true) (λ r. r ≡ 16) (find_slot p.arena (rec_of p.arena p.table d) name)
  unfolding find_slot
  looks =
      ok-bind (ok-is (lookup-is a t A y.typed.bytes d N.at.folder name)) λ x e.
      ok-bind (found x e) λ k h.
      ok-bind (ok-is (slot_is a t A y.typed.bytes d N.at.folder k h.0)) λ x q.
      went (ap (λ (x : DiskEntry). is_node a x.id) q ∙ slot-node a t A d N.at.folder name (λ z. absurd (true-false z no-dots)) k h.0 h.1)
    where
      found : (x : Option ℕ) → x ≡ found_below (lowest (λ k. is_named (slot_in p.arena (rec_of p.arena p.table d) k).name name) (rec_of p.arena p.table d).blocks) (rec_of p.arena p.table d).blocks
          → Ok (λ k. (k < (rec_of p.arena p.table d).blocks) × (is_named (slot_in p.arena (rec_of p.arena p.table d) k).name name ≡ true)) (λ r. r ≡ 16) (or_not_found x)
      found (Some k) e = went (search-at (λ k. is_named (slot_in a (rec_of a t d) k).name name) (rec_of a t d).blocks k (sym e))
      found None e = absurd (true-false asked-for (search-nothing (λ k. is_named (slot_in a (rec_of a t d) k).name name) (rec_of a t d).blocks (sym e) N.slot N.at.inside))

  holds : (w id : ℕ) → is_node p.arena id ≡ true → Ok (λ (x : Added). Unit) (λ r. r ≡ 16) (hold_node (start p.arena p.table) w id)
  unfolding hold_node
  holds w id m = ok-bind (get-law a t (spelled-midway a t (spelled-any p y)) id m) λ o G. went tt

  finds : (v : ℕ) (g : Handle) (e : List ℕ) → On p.table v g d e → Ok (λ (x : Added). Unit) (λ r. r ≡ 16) (call_find p.arena p.table v g name)
  unfolding call_find is_folder_at
  finds v g e o =
      ok-bind (says_is (admitted a t A)) λ _ _.
      ok-bind (ok-is (handle-done t v g o.row (live-owns t v g o.row (formed a t A) o.live))) λ i q.
      let u : Used t i = subst (Used t) (sym q) (on-used a t A v g d e o) in
      let r : rec_of a t d ≡ (row_at t i).rec = ap (rec_of a t) (sym (ap (λ (j : ℕ). (row_at t j).id) q ∙ o.node)) ∙ row-rec a t A i u in
      ok-bind (ensure-yes 5 (early name good)) λ _ _.
      ok-bind (ensure-yes 19 (row_type a t A i u)) λ _ _.
      ok-bind (ensure-yes 7 (ap (λ (x : DiskINode). is_folder x.kind) (sym r) ∙ (and_parts (is_node a d) (is_folder (rec_of a t d).kind) N.at.folder).1)) λ _ _.
      ok-bind (ensure-yes 10 (decided-yes (decides-leb (length name) 255) short)) λ _ _.
      ok-bind (ensure-yes 8 (ap (λ (b : Bool). not (b && eqb (row_at t i).rec.nlinks 0)) no-dots)) λ _ _.
      ok-bind (subst (λ (x : DiskINode). Ok (λ (x : Slot). is_node a x.entry.id ≡ true) (λ r. r ≡ 16) (find_slot a x name)) r looks) λ x m.
      ok-bind (ensure-asks (can_hold t v) 16 refl) λ _ _.
      holds v x.entry.id m

pub finds-it : FindsIt
unfolding FindsIt does
finds-it p v g n d e name y o N = either (ok-bind (finds p y d n name N v g e o) λ x _. went tt)
