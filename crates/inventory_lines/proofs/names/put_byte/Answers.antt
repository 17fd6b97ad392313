-- `inventory_lines::names::put_byte`: the byte itself, or a backslash and its two digits one after another.
use mathlib.Core.Path.{sym, ap, ap₂, ◌∙◌}
use mathlib.Core.List.{List, [], ◌∷◌}
use Prim.Native.Nat.{ℕ, ◌+◌}
use native.Mathlib.Omega.{arith}
use lib.ListN.{set, length-set}
use Rattle.base.specs.Parts.{paste}
use Rattle.base.proofs.Lists.{set-paste}
use Rattle.inventory_lines.proofs.Pastes.{lay-byte}
use Rattle.inventory_lines.proofs.Escaped.{byte-escaped, byte-kept, size-escaped, size-kept}
use Rattle.inventory_lines.proofs.names.put_byte.Goals as goal

pub bounds-out-at : goal.bounds-out-at
bounds-out-at c = omega (arith, size-kept c.args.b (sym c.is_escaped.ensures ∙ c.if-not-is_escaped.true))

pub returns-then-not-is_escaped : goal.returns-then-not-is_escaped
returns-then-not-is_escaped c =
    let s : List ℕ = c.args.out.now in
    let at : ℕ = c.args.at in
    let b : ℕ = c.args.b in
    let k = sym c.is_escaped.ensures ∙ c.if-not-is_escaped.true in
    (omega (arith, size-kept b k), set-paste s at b (omega (arith, size-kept b k)) ∙ ap (paste s at) (sym (byte-kept b k)))

pub bounds-out-at-2 : goal.bounds-out-at-2
bounds-out-at-2 c = omega (arith, size-escaped c.args.b (sym c.is_escaped.ensures ∙ c.if-not-is_escaped.false))

pub bounds-out-at-3 : goal.bounds-out-at-3
bounds-out-at-3 c = simp length-set (omega (arith, size-escaped c.args.b (sym c.is_escaped.ensures ∙ c.if-not-is_escaped.false)))

pub bounds-out-at-4 : goal.bounds-out-at-4
bounds-out-at-4 c = simp length-set (omega (arith, size-escaped c.args.b (sym c.is_escaped.ensures ∙ c.if-not-is_escaped.false)))

pub returns : goal.returns
returns c =
    let s : List ℕ = c.args.out.now in
    let at : ℕ = c.args.at in
    let b : ℕ = c.args.b in
    let x : ℕ = c.hex_digit.result in
    let y : ℕ = c.hex_digit-2.result in
    let k = sym c.is_escaped.ensures ∙ c.if-not-is_escaped.false in
    let n = size-escaped b k in
    let one = set-paste s at 92 (omega (arith, n)) in
    let two = lay-byte s (set s at 92) at (at + 1) x (92 ∷ []) one (omega arith) (omega (arith, n)) in
    let three = lay-byte s (set (set s at 92) (at + 1) x) at (at + 2) y (92 ∷ x ∷ []) two (omega arith) (omega (arith, n)) in
    (omega (arith, n), three ∙ ap₂ (λ (u v : ℕ). paste s at (92 ∷ u ∷ v ∷ [])) c.hex_digit.ensures c.hex_digit-2.ensures ∙ ap (paste s at) (sym (byte-escaped b k)))
