-- One law a function: whatever its contract allows did the call.
use mathlib.Core.Path.{◌≡◌, refl, sym, ap, ◌∙◌, subst}
use mathlib.Core.Bool.{Bool, true, false}
use mathlib.Core.List.{List, []}
use mathlib.Core.Logic.{◌≢◌}
use Prim.Native.Nat.{ℕ}
use native.Mathlib.Omega.{arith}
use lib.Dec.{eqb}
use lib.ListN.{length}
use borrow.Author.Tests.{eqb-true, eqb-false}
use Rattle.base.specs.Out.{Out, done, refused, bind, guard}
use Rattle.base.specs.Parts.{paste}
use Rattle.base.specs.Search.{pick}
use Rattle.table.specs.declared.Table.{Table}
use Rattle.table.specs.declared.Added.{Added}
use Rattle.table_bytes.specs.Layout.{table_of, bytes_of_table}
use Rattle.sefs.specs.Create.{After}
use Rattle.walk.specs.Walk.{Walked, walked, most_links}
use Rattle.mending.specs.Mend.{call_mend}
use Rattle.calls_walk.proofs.Runs.{nothing-laid}
use Rattle.fsck.specs.Verdicts.{verdict_of}
use Rattle.edge_words.specs.Words.{handle_words}
use Rattle.edge.specs.Edge.{sized, sized_walk, lent, Answers, left_of, held_of, Walks, counted, counts_of}
use Rattle.owners_kept.specs.Owned.{Chained, Owned}
use Rattle.rules.proofs.Check.{check-pass}
use Rattle.sequences.specs.Pairs.{Pair, pair}
use Rattle.sequences.specs.Calls.{Call, check, does}
use Rattle.linked.specs.Images.{Image, image, pair_of, Same, Trusted, Ready, Places, places, in_words, nowhere, handed, Has, written, unwritten, Did, did, denied, uncalled, reason_in}
use Rattle.linked.specs.Tested.{Ran}
use Rattle.linked.specs.Tested as tested
use Rattle.linked.specs.Owning.{Owns}
use Rattle.linked.specs.Owning as owning
use Rattle.linked.specs.Linked.{Does, OwnDoes}

-- ---- slices of a fixed size: the outcome is the call's, or a refusal with 255

data Guarded {A : Type 0} (o : Out A) : Out A → Type 0 where
  same : Guarded o o
  wrong : Guarded o (refused 255)

fixed : {A : Type 0} {o p : Out A} (k : ℕ) (l : List ℕ) → Guarded o p → Guarded o (sized k l p)
fixed {A} {o} {p} k l g = by (eqb (length l) k)
  where
    by : (b : Bool) → Guarded o (guard b 255 p)
    by true = g
    by false = wrong

data WalkGuarded {A : Type 0} (x : Walked A) : Walked A → Type 0 where
  same-walk : WalkGuarded x x
  wrong-walk : WalkGuarded x (walked [] most_links (refused 255))

fixed-walk : {A : Type 0} {x y : Walked A} (k : ℕ) (l : List ℕ) → WalkGuarded x y → WalkGuarded x (sized_walk k l y)
fixed-walk {A} {x} {y} k l g = by (eqb (length l) k)
  where
    by : (b : Bool) → WalkGuarded x (pick b y (walked [] most_links (refused 255)))
    by true = g
    by false = wrong-walk

-- ---- whatever `Answers` allows did the call: o is the call's own outcome, p with the sizes; `at` says which arena, table and places it is that the slices
-- it may write stand in. The chains k may become l

still : {a t k l : List ℕ} → Same (image a k t) (image a l t)
still = record { arena = refl; table = refl }

abbrev image_at : List ℕ × List ℕ × Places → List ℕ → Image
image_at x k = image x.0 k x.1

-- w is what these slices hold, and it is v
did_at : {P : Type 0} {c : Call} {s : Image} {x : Places} {n : ℕ} {l : List ℕ} (at : P → List ℕ × List ℕ × Places) {v w : P} → w ≡ v
    → Did c s x (image_at (at v) l) (at v).2 n → Did c s x (image_at (at w) l) (at w).2 n
did_at {P} {c} {s} {x} {n} {l} at e d = subst (λ (z : P). Did c s x (image_at (at z) l) (at z).2 n) (sym e) d

answers-did : {A P : Type 0} {c : Call} (at : P → List ℕ × List ℕ × Places) {leaves : A → P} {before after : P} {n : ℕ} {k l : List ℕ} {o p : Out A} {q : A → Pair}
    → Answers p leaves before after n → Guarded o p → handed c (pair_of (image_at (at before) k)) (at before).2 ≡ lent (λ z. (at (leaves z)).2) (at before).2 o
    → does c (pair_of (image_at (at before) k)) ≡ bind o (λ z. done (q z)) → ((z : A) → Has (image_at (at before) k) (image_at (at (leaves z)) l) (q z))
    → Did c (image_at (at before) k) (at before).2 (image_at (at after) l) (at after).2 n
answers-did at {o = done z} L same e d h = did_at at L.places (did d (h z) (sym e) L.number)
answers-did at {o = refused m} L same e d h = did_at at L.places (denied (d ∙ ap refused (sym L.number)) still (sym e))
answers-did at L wrong e d h = did_at at L.places (uncalled still refl L.number)

-- a call that has no places
lent_none : {A : Type 0} (o : Out A) → nowhere ≡ lent (λ (z : A). nowhere) nowhere o
lent_none (done z) = refl
lent_none (refused n) = refl

left-did : {c : Call} {a b t u k l : List ℕ} {n : ℕ} {o p : Out After} → Answers p left_of (a, t) (b, u) n → Guarded o p → handed c (pair a (table_of t)) nowhere ≡ nowhere
    → does c (pair a (table_of t)) ≡ bind o (λ z. done (pair z.arena z.table)) → Did c (image a k t) nowhere (image b l u) nowhere n
left-did {o = o} L g e d = answers-did (λ x. (x.0, x.1, nowhere)) L g (e ∙ lent_none o) d (λ _. written refl refl)

set-did : {c : Call} {a t u k : List ℕ} {n : ℕ} {o p : Out Table} → Answers p bytes_of_table t u n → Guarded o p → handed c (pair a (table_of t)) nowhere ≡ nowhere
    → does c (pair a (table_of t)) ≡ bind o (λ z. done (pair a z)) → Did c (image a k t) nowhere (image a k u) nowhere n
set-did {a = a} {o = o} L g e d = answers-did (λ x. (a, x, nowhere)) L g (e ∙ lent_none o) d (λ _. written refl refl)

-- walk: a refusal leaves the targets that it has read
module _ {c : Call} {a t u k w v p q : List ℕ} {n : ℕ} where
  walk-did : {x y : Walked Added} → Walks y p q (t, w) (u, v) n → WalkGuarded x y → does c (pair a (table_of t)) ≡ bind x.end (λ z. done (pair a z.table))
      → handed c (pair a (table_of t)) (places w [] p) ≡ places (lent (λ (z : Added). handle_words z.handle) w x.end) [] (paste p 0 x.links)
      → Did c (image a k t) (places w [] p) (image a k u) (places v [] q) n
  walk-did L wrong-walk d e =
      let f = L.answers.places in
      let g = L.links ∙ sym (nothing-laid p) in
      uncalled (record { arena = refl; table = λ i. (f i).0 }) (λ i. places (f i).1 [] (g i)) L.answers.number
  walk-did {x = x} L same-walk d e = by x.end L.answers d (e ∙ (λ i. places (lent (λ (z : Added). handle_words z.handle) w x.end) [] (sym L.links i)))
    where
      by : (o : Out Added) → Answers o held_of (t, w) (u, v) n → does c (pair a (table_of t)) ≡ bind o (λ z. done (pair a z.table))
          → handed c (pair a (table_of t)) (places w [] p) ≡ places (lent (λ (z : Added). handle_words z.handle) w o) [] q → Did c (image a k t) (places w [] p) (image a k u) (places v [] q) n
      by (done z) K d e = did d (written refl (λ i. (K.places i).0)) ((λ i. places (K.places i).1 [] q) ∙ sym e) K.number
      by (refused m) K d e = denied (d ∙ ap refused (sym K.number)) (record { arena = refl; table = λ i. (K.places i).0 }) ((λ i. places (K.places i).1 [] q) ∙ sym e)

-- check: a verdict
module _ {s : Image} {w v : List ℕ} {n : ℕ} where
  check-did : {p : Out (List ℕ)} → Answers p counts_of w v n → Guarded (counted (verdict_of s.arena (table_of s.table))) p → Did check s (in_words w) s (in_words v) (reason_in n)
  unfolding does handed
  check-did {p = p} L g = by (eqb n 255) refl
    where
      counts : {o p : Out (List ℕ)} → Answers p counts_of w v n → Guarded o p → n ≢ 255 → in_words v ≡ lent in_words (in_words w) o
      counts {o = done z} L same x = ap in_words L.places
      counts {o = refused m} L same x = ap in_words L.places
      counts L wrong x = absurd (x L.number)

      kept : (o : Out (List ℕ)) → Answers o counts_of w v n → n ≡ 255 → in_words v ≡ in_words w
      kept (done z) L e = let q : ◌≡◌ {A = ℕ} 255 0 = sym e ∙ L.number in absurd (omega (arith, q))
      kept (refused m) L e = ap in_words L.places

      by : (b : Bool) → eqb n 255 ≡ b → Did check s (in_words w) s (in_words v) (pick b 255 0)
      by true e = uncalled still (kept p L (eqb-true n 255 e)) refl
      by false e = did refl (unwritten refl refl refl) (counts L g (eqb-false n 255 e)) refl

-- ---- tested

ran-did : {c : Call} {s u : Image} {x y : Places} {n : ℕ} → Ran c s x u y n → Did c s x u y n
unfolding does handed
ran-did (tested.roots _ a t _ out _ _ _ L) = answers-did (λ x. (a.now, x.0, in_words x.1)) L (fixed 4402 t.now (fixed 2 out.now same)) refl refl (λ _. written refl refl)
ran-did (tested.finds _ a t _ _ out _ _ _ _ _ L) = answers-did (λ x. (a.now, x.0, in_words x.1)) L (fixed 4402 t.now (fixed 2 out.now same)) refl refl (λ _. written refl refl)
ran-did (tested.walks _ _ t _ _ _ _ out _ _ _ _ _ L) = walk-did L (fixed-walk 4402 t.now (fixed-walk 2 out.now same-walk)) refl refl
ran-did (tested.creates _ _ _ t _ _ file out _ _ _ _ _ _ _ _ _ L) =
    answers-did (λ x. (x.0, x.1, in_words x.2)) L (fixed 4402 t.now (fixed 16 file.now (fixed 2 out.now same))) refl refl (λ _. written refl refl)
ran-did (tested.links _ _ _ t _ _ _ _ _ _ _ _ L) = left-did L (fixed 4402 t.now same) refl refl
ran-did (tested.removes-file _ _ _ t _ _ _ _ _ _ L) = left-did L (fixed 4402 t.now same) refl refl
ran-did (tested.removes-folder _ _ _ t _ _ _ _ _ _ L) = left-did L (fixed 4402 t.now same) refl refl
ran-did (tested.moves _ _ _ t _ _ _ _ _ _ _ _ _ L) = left-did L (fixed 4402 t.now same) refl refl
ran-did (tested.tells _ a t out _ _ _ _ _ L) = answers-did (λ w. (a.now, t.now, in_words w)) L (fixed 4402 t.now (fixed 14 out.now same)) refl refl (λ _. unwritten refl refl refl)
ran-did (tested.sets _ _ t _ _ _ _ _ _ _ _ _ _ _ _ _ _ L) = set-did L (fixed 4402 t.now same) refl refl
ran-did (tested.enters _ a t _ _ _ _ _ _ _ L) = answers-did (λ o. (a.now, t.now, places [] o [])) L (fixed 4402 t.now same) refl refl (λ _. unwritten refl refl refl)
ran-did (tested.lists _ a t next _ _ _ _ _ _ _ _ L) = answers-did (λ x. (a.now, t.now, places x.0 x.1 [])) L (fixed 4402 t.now (fixed 1 next.now same)) refl refl (λ _. unwritten refl refl refl)
ran-did (tested.paths _ a t _ _ count _ _ _ _ _ L) = answers-did (λ x. (a.now, t.now, places x.1 x.0 [])) L (fixed 4402 t.now (fixed 1 count.now same)) refl refl (λ _. unwritten refl refl refl)
ran-did (tested.reads _ a t _ _ count _ _ _ _ _ _ L) = answers-did (λ x. (a.now, t.now, places x.1 x.0 [])) L (fixed 4402 t.now (fixed 1 count.now same)) refl refl (λ _. unwritten refl refl refl)
ran-did (tested.writes _ _ _ t _ _ _ _ _ _ _ L) = left-did L (fixed 4402 t.now same) refl refl
ran-did (tested.resizes _ _ _ t _ _ _ _ _ _ L) = left-did L (fixed 4402 t.now same) refl refl
ran-did (tested.fallocates _ _ _ t _ _ _ _ _ _ _ _ _ L) = left-did L (fixed 4402 t.now same) refl refl
ran-did (tested.syncs _ _ _ t _ _ L) = left-did L (fixed 4402 t.now same) refl refl
ran-did (tested.closes _ _ _ t _ _ _ _ _ L) = left-did L (fixed 4402 t.now same) refl refl
ran-did (tested.checks _ _ t out _ _ L) = check-did L (fixed 4402 t.now (fixed 3 out.now same))
ran-did (tested.inventories _ a _ _ count _ _ {t = t} L) = answers-did (λ x. (a.now, t, places x.1 x.0 [])) L (fixed 1 count.now same) refl refl (λ _. unwritten refl refl refl)
ran-did (tested.mends _ a _ t _ L) = answers-did (λ x. (x, t.now, nowhere)) L (fixed 4402 t.now same) (lent_none (call_mend a.now (table_of t.now))) refl (λ _. unwritten refl refl refl)

pub does-calls : Does
unfolding Does
does-calls c s u x y n r = ran-did r

-- ---- an owner's

-- what passes together is all that they ask for
pub owned : {a c t : List ℕ} → Trusted a t → Chained a c → Owned a c t
owned {a = a} {t = t} y k =
    let A = check-pass a (table_of t) y.passes.passes in
    record { whole = A.rule1.length; fine = A.rule1.sound; chained = k; size = y.size; formed = A.rule2.formed }

pub asked : {s : Image} → Ready s → Owned s.arena s.chains s.table
asked y = owned y.trusted y.chained

owns-did : {c : Call} {s u : Image} {x y : Places} {n : ℕ} → Ready s → Owns c s x u y n → Did c s x u y n × Chained u.arena u.chains
unfolding does handed
owns-did y (owning.roots _ a _ _ _ out _ _ _ L) = (answers-did (λ x. (a.now, x.0, in_words x.1)) (L (asked y)) (fixed 2 out.now same) refl refl (λ _. written refl refl), y.chained)
owns-did y (owning.finds _ a _ _ _ _ out _ _ _ _ _ L) = (answers-did (λ x. (a.now, x.0, in_words x.1)) (L (asked y)) (fixed 2 out.now same) refl refl (λ _. written refl refl), y.chained)
owns-did y (owning.walks _ _ _ _ _ _ _ _ out _ _ _ _ _ L) = (walk-did (L (asked y)) (fixed-walk 2 out.now same-walk) refl refl, y.chained)
owns-did y (owning.creates _ _ _ _ _ _ _ _ file out _ _ _ _ _ _ _ _ _ L) =
    (answers-did (λ x. (x.0, x.1, in_words x.2)) (L (asked y)).0 (fixed 16 file.now (fixed 2 out.now same)) refl refl (λ _. written refl refl), (L (asked y)).1)
owns-did y (owning.links _ _ _ _ _ _ _ _ _ _ _ _ _ _ L) = (left-did (L (asked y)).0 same refl refl, (L (asked y)).1)
owns-did y (owning.removes-file _ _ _ _ _ _ _ _ _ _ _ _ L) = (left-did (L (asked y)).0 same refl refl, (L (asked y)).1)
owns-did y (owning.removes-folder _ _ _ _ _ _ _ _ _ _ _ _ L) = (left-did (L (asked y)).0 same refl refl, (L (asked y)).1)
owns-did y (owning.moves _ _ _ _ _ _ _ _ _ _ _ _ _ _ _ L) = (left-did (L (asked y)).0 same refl refl, (L (asked y)).1)
owns-did y (owning.tells _ a _ t out _ _ _ _ _ L) = (answers-did (λ w. (a.now, t.now, in_words w)) (L (asked y)) (fixed 14 out.now same) refl refl (λ _. unwritten refl refl refl), y.chained)
owns-did y (owning.sets _ _ _ _ _ _ _ _ _ _ _ _ _ _ _ _ _ _ L) = (set-did (L (asked y)) same refl refl, y.chained)
owns-did y (owning.enters _ a _ t _ _ _ _ _ _ _ L) = (answers-did (λ o. (a.now, t.now, places [] o [])) (L (asked y)) same refl refl (λ _. unwritten refl refl refl), y.chained)
owns-did y (owning.lists _ a _ t next _ _ _ _ _ _ _ _ L) = (answers-did (λ x. (a.now, t.now, places x.0 x.1 [])) (L (asked y)) (fixed 1 next.now same) refl refl (λ _. unwritten refl refl refl), y.chained)
owns-did y (owning.paths _ a _ t _ _ count _ _ _ _ _ L) = (answers-did (λ x. (a.now, t.now, places x.1 x.0 [])) (L (asked y)) (fixed 1 count.now same) refl refl (λ _. unwritten refl refl refl), y.chained)
owns-did y (owning.reads _ a _ t _ _ count _ _ _ _ _ _ L) = (answers-did (λ x. (a.now, t.now, places x.1 x.0 [])) (L (asked y)) (fixed 1 count.now same) refl refl (λ _. unwritten refl refl refl), y.chained)
owns-did y (owning.writes _ _ _ _ _ _ _ _ _ _ _ _ _ L) = (left-did (L (asked y)).0 same refl refl, (L (asked y)).1)
owns-did y (owning.resizes _ _ _ _ _ _ _ _ _ _ _ _ L) = (left-did (L (asked y)).0 same refl refl, (L (asked y)).1)
owns-did y (owning.fallocates _ _ _ _ _ _ _ _ _ _ _ _ _ _ _ L) = (left-did (L (asked y)).0 same refl refl, (L (asked y)).1)
owns-did y (owning.syncs _ _ _ _ _ _ _ _ L) = (left-did (L (asked y)).0 same refl refl, (L (asked y)).1)
owns-did y (owning.closes _ _ _ _ _ _ _ _ _ _ _ L) = (left-did (L (asked y)).0 same refl refl, (L (asked y)).1)

pub own-does-calls : OwnDoes
unfolding OwnDoes
own-does-calls c s u x y n k r = owns-did k r
