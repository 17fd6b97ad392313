-- A line: as the text has it, as the code writes it, and whether it fits.
use mathlib.Core.Path.{◌≡◌, sym, ap, ◌∙◌}
use mathlib.Core.Bool.{Bool, true, false}
use mathlib.Core.List.{List, ◌∷◌, ◌++◌, append_assoc}
use Prim.Native.Nat.{ℕ, ◌+◌, ◌-◌, ◌≤◌, ◌<◌}
use native.Mathlib.Omega.{arith}
use lib.Dec.{leb}
use lib.ListN.{length, drop, length-append, length-take}
use borrow.Author.Tests.{leb-true, leb-false}
use Rattle.base.specs.Parts.{part, paste}
use Rattle.base.proofs.Lists.{length_part, part-paste-other, paste-paste}
use Rattle.le.specs.Le.{le_at}
use Rattle.structs.specs.Layout.{entry_of}
use Rattle.structs.specs.declared.DiskEntry.{DiskEntry}
use Rattle.structs.specs.declared.DiskINode.{DiskINode}
use Rattle.utf8.specs.Names.{name_of, zero_at}
use Rattle.inventory.specs.Text.{escape, newline, path_to, line}
use Rattle.inventory_lines.specs.Lines.{line_head, line_tail}
use Rattle.inventory_lines.proofs.Lines as lines
use Rattle.inventory_lines.proofs.Lines.{length-head-some, length-tail}
use Rattle.calls_inventory.specs.declared.passes.Progress.{Progress}
use Rattle.calls_inventory.specs.declared.places.Place.{Place}
use Rattle.calls_inventory.specs.Places.{past_line}
use Rattle.calls_inventory.specs.Passes.{laid_if, head_for, tail_for, line_for, line_end, behind_line}

-- ---- as the text has it

pub line-is : (e : DiskEntry) (node : DiskINode) (path : List ℕ) → line e.id node.kind node.nlinks (path_to path (name_of e.name)) ≡ line_for e node path
unfolding line_for
line-is e node path = lines.line-is e.id node.kind node.nlinks path (name_of e.name)

pub length-line : (e : DiskEntry) (node : DiskINode) (path : List ℕ) → length (line_for e node path) ≡ length (head_for e node) + (length path + length (tail_for e))
unfolding line_for
length-line e node path = length-append (head_for e node) (path ++ tail_for e) ∙ ap (λ (n : ℕ). length (head_for e node) + n) (length-append path (tail_for e))

pub head-some : (e : DiskEntry) (node : DiskINode) → 0 < length (head_for e node)
head-some e node = omega (arith, length-head-some e.id node.kind node.nlinks)

-- the newline aside, the tail is what a path grows by
pub tail-long : (e : DiskEntry) → length (tail_for e) - 1 ≡ 1 + length (escape (name_of e.name))
tail-long e = omega (arith, length-tail (name_of e.name))

pub path-tail : (path : List ℕ) (e : DiskEntry) → path ++ tail_for e ≡ path_to path (name_of e.name) ++ newline
unfolding path_to line_tail
path-tail path e = sym (append_assoc path (47 ∷ escape (name_of e.name)) newline)

-- ---- as the code writes it

-- two parts, and between them a copy of what stands before both
write-parts : (out h t mid now : List ℕ) (s at f n : ℕ) → f + n ≤ s → s + length h + n + length t ≤ length out → at ≡ s + length h → mid ≡ paste out s h
    → now ≡ paste mid at (part mid f (f + n) ++ t) → now ≡ paste out s (h ++ (part out f (f + n) ++ t))
write-parts out h t mid now s at f n b l p q w =
    let x : part mid f (f + n) ≡ part out f (f + n) = ap (λ (y : List ℕ). part y f (f + n)) q ∙ part-paste-other out s h (omega arith) f (f + n) (λ _. b) in
    let m : length (part out f (f + n)) ≡ n = length_part out f (f + n) (omega arith) (omega arith) ∙ omega arith in
    w
    ∙ ap (λ (y : List ℕ). paste mid at (y ++ t)) x
    ∙ ap (λ (y : List ℕ). paste y at (part out f (f + n) ++ t)) q
    ∙ ap (λ (k : ℕ). paste (paste out s h) k (part out f (f + n) ++ t)) p
    ∙ paste-paste out s h (part out f (f + n) ++ t) (omega (arith, m, length-append (part out f (f + n)) t))

pub tail_more : (name : List ℕ) (t : ℕ) → t ≡ length (line_tail name) → 1 ≤ t
tail_more name t y = omega (arith, y, length-tail name)

pub line-unwritten : (write : Bool) (out t : List ℕ) (at : ℕ) → write ≡ false → out ≡ laid_if write out at t
unfolding laid_if
line-unwritten write out t at e = ap (λ (b : Bool). laid_if b out at t) (sym e)

-- a name is no longer than its place
pub name-short : (slot name : List ℕ) → name ≡ name_of (entry_of slot).name → length name ≤ 256
unfolding entry_of
name-short slot name e = omega (arith, ap length e, length-take (zero_at (part slot 4 260)) (part slot 4 260), length-take (260 - 4) (drop 4 slot))

-- the test that a line fits, as the code makes it, and the sum that it is about
module _ (n at h path t : ℕ) {b : Bool} (r : b ≡ leb (path + (h + t)) (n - at)) (a : at ≤ n) where
  pub sum_fits : b ≡ true → at + h + path + t ≤ n
  sum_fits e = omega (arith, leb-true (path + (h + t)) (n - at) (sym r ∙ e), a)

  sum-not : b ≡ false → n < at + h + path + t
  sum-not e = omega (arith, leb-false (path + (h + t)) (n - at) (sym r ∙ e), a)

-- of a slot that was read: its id and its name
module _ (slot : List ℕ) (node : DiskINode) (s : Progress) (id : ℕ) (name : List ℕ) (i : id ≡ le_at slot 0 4) where
  head-is : line_head id node.kind node.nlinks ≡ head_for (entry_of slot) node
  unfolding entry_of
  head-is = ap (λ (x : ℕ). line_head x node.kind node.nlinks) i

  pub head-fits : (n : ℕ) → line_end s (entry_of slot) node ≤ n → s.at + length (line_head id node.kind node.nlinks) ≤ n
  unfolding line_end
  head-fits n l = omega (arith, l, ap length head-is)

  module _ (q : name ≡ name_of (entry_of slot).name) where
    tail-is : line_tail name ≡ tail_for (entry_of slot)
    tail-is = ap line_tail q

    pub tail-fits : (n at : ℕ) → line_end s (entry_of slot) node ≤ n → at ≡ s.at + length (line_head id node.kind node.nlinks) → at + s.place.path + length (line_tail name) ≤ n
    unfolding line_end
    tail-fits n at l p = omega (arith, l, p, ap length head-is, ap length tail-is)

    pub line-written : (write : Bool) (out mid now : List ℕ) (at : ℕ) → write ≡ true → s.from + s.place.path ≤ s.at → line_end s (entry_of slot) node ≤ length out
        → at ≡ s.at + length (line_head id node.kind node.nlinks) → mid ≡ paste out s.at (line_head id node.kind node.nlinks)
        → now ≡ paste mid at (part mid s.from (s.from + s.place.path) ++ line_tail name)
        → now ≡ laid_if write out s.at (line_for (entry_of slot) node (part out s.from (s.from + s.place.path)))
    unfolding laid_if line_for line_end
    line-written write out mid now at e b l p m w =
        write-parts out (head_for (entry_of slot) node) (tail_for (entry_of slot)) mid now s.at at s.from s.place.path b l
        (p ∙ ap (λ (h : List ℕ). s.at + length h) head-is)
        (m ∙ ap (λ (h : List ℕ). paste out s.at h) head-is)
        (w ∙ ap (λ (t : List ℕ). paste mid at (part mid s.from (s.from + s.place.path) ++ t)) tail-is)
        ∙ ap (λ (x : Bool). laid_if x out s.at (line_for (entry_of slot) node (part out s.from (s.from + s.place.path)))) (sym e)

    -- whether it fits: h and t are the lengths beside the path

    module _ (h t : ℕ) (x : h ≡ length (line_head id node.kind node.nlinks)) (y : t ≡ length (line_tail name)) where
      line-ends : s.at + h + s.place.path + t ≡ line_end s (entry_of slot) node
      unfolding line_end
      line-ends = omega (arith, x, y, ap length head-is, ap length tail-is)

      module _ (n : ℕ) {b : Bool} (r : b ≡ leb (s.place.path + (h + t)) (n - s.at)) (a : s.at ≤ n) where
        pub line_small : b ≡ true → line_end s (entry_of slot) node ≤ n
        line_small e = omega (arith, line-ends, sum_fits n s.at h s.place.path t r a e)

        pub line-large : b ≡ false → n < line_end s (entry_of slot) node
        line-large e = omega (arith, line-ends, sum-not n s.at h s.place.path t r a e)

      pub behind-is : (k : ℕ) (p : Place) → k ≡ id → p ≡ past_line s.place k node (t - 1)
          → record { over = false; full = false; at = s.at + h + s.place.path + t; from = s.at + h; place = p } ≡ behind_line s (entry_of slot) node
      unfolding behind_line entry_of
      behind-is k p e f =
          let g : s.at + h ≡ s.at + length (head_for (entry_of slot) node) = omega (arith, x, ap length head-is) in
          let o : p ≡ past_line s.place (le_at slot 0 4) node (length (tail_for (entry_of slot)) - 1) = f ∙ ap (λ (j : ℕ). past_line s.place j node (t - 1)) (e ∙ i) ∙ ap (λ (j : ℕ). past_line s.place (le_at slot 0 4) node (j - 1)) (y ∙ ap length tail-is) in
          λ z. record { over = false; full = false; at = line-ends z; from = g z; place = o z }
