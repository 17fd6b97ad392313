-- The bytes of slots.
use mathlib.Core.Path.{◌≡◌, sym, ap, ◌∙◌}
use mathlib.Core.List.{List, [], ◌∷◌}
use Prim.Native.Nat.{ℕ, ◌+◌, ◌≤◌}
use native.Mathlib.Omega.{arith}
use lib.ListN.{length}
use Rattle.base.specs.Parts.{back, paste}
use Rattle.base.proofs.Lists.{length-paste}
use Rattle.le.specs.Le.{le_bytes, le_put}
use Rattle.le.proofs.Laws.{length-le_bytes, length-le_put}
use Rattle.structs.specs.Layout.{entry_fields, entry_bytes}
use Rattle.structs.proofs.Joins.{laid-first, laid_next, laid-last}
use Rattle.structs.proofs.Layouts.{length-entry_bytes}
use Rattle.utf8.specs.Names.{name_bytes}
use Rattle.utf8.proofs.Names.{length-name_bytes}
use Rattle.sefs.specs.Folders.{entry}
use Rattle.base.proofs.Parts.{paste-whole}

-- a part of 256 bytes that comes back as n
name_back : (a n : List ℕ) → length n ≡ 256 → back a 4 260 n ≡ paste a 4 n
unfolding paste
name_back a n h = ap (λ (j : ℕ). back a 4 j n) (let q : 260 ≡ 4 + length n = omega arith in q)

-- id, name and kind, laid one after another over 264 bytes
pub entry-laid : (l a b n z : List ℕ) (id kind : ℕ) (name : List ℕ) → length l ≡ 264 → length name ≤ 255
    → a ≡ le_put l 0 4 id → n ≡ name_bytes name → b ≡ back a 4 260 n → z ≡ le_put b 260 4 kind → z ≡ entry_bytes (entry id name kind)
unfolding entry_bytes entry_fields le_put
entry-laid l a b n z id kind name h s p q e g =
    let x : List ℕ = name_bytes name in
    let ln : length x ≡ 256 = length-name_bytes name (omega arith) in
    let la : length a ≡ length l = ap length p ∙ length-le_put l 0 4 id (omega arith) in
    let eb : b ≡ paste a 4 x = e ∙ ap (back a 4 260) q ∙ name_back a x ln in
    let lb : length b ≡ length a = ap length eb ∙ length-paste a 4 x (omega arith) in
    (laid-first 4 l a z 0 (le_bytes 4 id) (x ∷ le_bytes 4 kind ∷ []) (length-le_bytes 4 id) la p
    (laid_next 4 256 a b z 0 x (le_bytes 4 kind ∷ []) ln lb eb
    (laid-last b z 260 (le_bytes 4 kind) (omega (arith, length-le_bytes 4 kind)) g))).is
    ∙ paste-whole l (entry_bytes (entry id name kind)) (h ∙ sym (length-entry_bytes (entry id name kind) ln))
