-- How many stores there are: the parent's record is the last. After it the arena is the finished call's.
use mathlib.Core.Path.{◌≡◌, sym, ap, ◌∙◌, subst}
use mathlib.Core.Bool.{Bool, true, false}
use mathlib.Core.List.{List, [], ◌∷◌, ◌++◌}
use Prim.Native.Nat.{ℕ, ◌+◌, ◌*◌, ◌<◌}
use native.Mathlib.Omega.{arith}
use lib.ListN.{length, length-append}
use lib.Seq.{take_all}
use Rattle.base.specs.Out.{Out, done, bind, kept}
use Rattle.base.specs.Search.{pick}
use Rattle.structs.specs.Types.{is_folder}
use Rattle.sefs.specs.Meta.{meta_file}
use Rattle.sefs.specs.Nodes.{node_file}
use Rattle.sefs.specs.Folders.{dots_entry}
use Rattle.sefs.specs.Create.{Given}
use Rattle.sequences.specs.Pairs.{Pair, pair, Passed}
use Rattle.sequences.specs.Calls.{Call, create, does}
use Rattle.sequences.specs.Promises.{Keeps}
use Rattle.sequences.proofs.Sequences.{keeps}
use Rattle.cuts.specs.Stores.{Store, slot, long, after_stores, cut_after}
use Rattle.cuts.specs.Creates.{Birth, grows, group_stores, file_stores, dot_stores, slot_stores, meta_stores, map_stores, node_stores, parent_stores, create_stores, before_file, before_parent}
use Rattle.cuts.specs.Premise.{Creation}
use Rattle.cuts.specs.Orders.{WholeCreate}
use Rattle.cuts.specs.Cuts.{Complete}
use Rattle.cuts.proofs.Steps.{done-is, dot_entry}
use Rattle.cuts.proofs.Stores.{maps-count}
use Rattle.cuts.proofs.Orders.{whole-create}

pub count : (c : Birth) → length (create_stores c) ≡ before_parent c + 1
unfolding create_stores
count c =
    let l5 : List Store = node_stores c ++ parent_stores c in
    let l4 : List Store = meta_stores c ++ l5 in
    let l3 : List Store = slot_stores c ++ l4 in
    let l2 : List Store = dot_stores c ++ l3 in
    let l1 : List Store = file_stores c ++ l2 in
    let maps : List Store = map_stores c.after.maps c.after.super.groups in
    let e : length maps ≡ c.after.super.groups = maps-count c.after.maps c.after.super.groups in
    let e0 : length (group_stores c ++ l1) ≡ length (group_stores c) + length l1 = length-append (group_stores c) l1 in
    let e1 : length l2 ≡ length (dot_stores c) + length l3 = length-append (dot_stores c) l3 in
    let e2 : length (maps ++ l5) ≡ length maps + 2 = length-append maps l5 in
    omega (arith, e, e0, e1, e2)

-- a group's store is one, or none
pub one-group : (c : Birth) → grows c ≡ true → before_file c ≡ 1
one-group c e = ap (λ (b : Bool). length (pick b (long meta_file (131072 * c.after.super.groups) ∷ []) [])) e

pub no-group : (c : Birth) → grows c ≡ false → before_file c ≡ 0
no-group c e = ap (λ (b : Bool). length (pick b (long meta_file (131072 * c.after.super.groups) ∷ []) [])) e

-- a new folder's slots are two
pub two-dots : (c : Birth) → is_folder c.child.kind ≡ true → length (dot_stores c) ≡ 2
two-dots c e = ap (λ (b : Bool). length (pick b (slot (node_file c.child) 0 (dot_entry c.id) ∷ slot (node_file c.child) 1 (dots_entry c.up) ∷ []) [])) e

-- where all stores are done
pub all_done : (p : Pair) (c : Birth) (g : Given) → Creation p c g → (n : ℕ) → before_parent c < n → cut_after n (create_stores c) p.arena ≡ done g.arena
unfolding WholeCreate cut_after
all_done p c g B n l = ap (λ (k : List Store). after_stores k p.arena) (take_all n (create_stores c) (omega (arith, count c))) ∙ whole-create p c g B

pub complete : Complete
unfolding Complete Keeps does
complete p c g B n b h l =
    let e : b ≡ g.arena = done-is (sym h ∙ all_done p c g B n l) in
    let call : Call = create B.w B.h c.name B.kind B.mode B.time B.uuid in
    let passes : Passed (pair g.arena g.table) =
    subst (λ (o : Out Given). Passed (kept p (bind o (λ x. done (pair x.arena x.table))))) B.succeeds
    (keeps p call B.passed B.fits).passes in
    record { arena = e; passes = subst (λ (x : List ℕ). Passed (pair x g.table)) (sym e) passes }
