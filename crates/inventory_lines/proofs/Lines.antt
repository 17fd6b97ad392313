-- A line is its head, the folder's path, and its tail.
use mathlib.Core.Path.{◌≡◌, ap, ◌∙◌}
use mathlib.Core.List.{List, ◌++◌, append_assoc}
use Prim.Native.Nat.{ℕ, ◌+◌, ◌≤◌}
use native.Mathlib.Omega.{arith}
use lib.ListN.{length, length-append}
use Rattle.structs.specs.Layout.{join}
use Rattle.inventory.specs.Text.{decimal, escape, space, newline, path_to, line}
use Rattle.inventory_lines.specs.Lines.{line_head, line_tail}
use Rattle.inventory_lines.proofs.Decimals.{length_some}

pub line-is : (id kind links : ℕ) (p name : List ℕ) → line id kind links (path_to p name) ≡ line_head id kind links ++ (p ++ line_tail name)
unfolding line path_to line_head line_tail join
line-is id kind links p name = simp append_assoc

-- ---- the head

-- a number and the space behind it, three times
pub head-words : (id kind links : ℕ) → line_head id kind links ≡ ((decimal id ++ space) ++ (decimal kind ++ space)) ++ (decimal links ++ space)
unfolding line_head join
head-words id kind links = simp append_assoc

pub length-word : (n : ℕ) → length (decimal n ++ space) ≡ length (decimal n) + 1
length-word n = length-append (decimal n) space

pub length-words : (id kind links : ℕ) → length (line_head id kind links) ≡ length (decimal id ++ space) + length (decimal kind ++ space) + length (decimal links ++ space)
length-words id kind links = ap length (head-words id kind links) ∙ simp length-append

pub length-head : (id kind links : ℕ) → length (line_head id kind links) ≡ length (decimal id) + length (decimal kind) + length (decimal links) + 3
length-head id kind links = omega (arith, length-words id kind links, length-word id, length-word kind, length-word links)

pub length-head-some : (id kind links : ℕ) → 6 ≤ length (line_head id kind links)
length-head-some id kind links = omega (arith, length-head id kind links, length_some id, length_some kind, length_some links)

-- ---- the tail

pub length-tail : (name : List ℕ) → length (line_tail name) ≡ 2 + length (escape name)
unfolding line_tail
length-tail name = omega (arith, length-append (escape name) newline)
