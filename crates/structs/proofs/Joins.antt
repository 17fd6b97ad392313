-- Fields one after another: where each stands, what a run of writes leaves, and bytes cut into fields.
use mathlib.Core.Path.{◌≡◌, refl, sym, ap, ap₂, ◌∙◌, subst}
use mathlib.Core.List.{List, [], ◌∷◌, ◌++◌, append-nil, append_assoc, map}
use mathlib.Core.Logic.{⊎_elim}
use Prim.Native.Nat.{ℕ, zero, suc, ◌+◌, ◌-◌, ◌≤◌, ◌<◌}
use native.Mathlib.Omega.{arith}
use lib.ListN.{length, get_or, take, drop, take-append-drop, length-append, get_or-append}
use lib.Seq.{take_at, take-nil, drop-nil, drop-append-add, get_or-append-add}
use Rattle.base.proofs.Parts.{part_join, part-all}
use Rattle.base.specs.Parts.{part, paste}
use Rattle.base.proofs.Numbers.{lt-or-le}
use Rattle.base.proofs.Lists.{length_part, paste-paste}
use Rattle.le.specs.Le.{Bytes, le_of, le_bytes, le_at}
use Rattle.le.proofs.Laws.{le_bytes-le_of}
use Rattle.structs.specs.Layout.{join}

-- the sum of the widths of fields
abbrev pub total : List ℕ → ℕ
total [] = 0
total (w ∷ ws) = w + total ws

pub join-append : (a b : List (List ℕ)) → join (a ++ b) ≡ join a ++ join b
unfolding join
join-append [] b = refl
join-append (x ∷ a) b = ap (λ (m : List ℕ). x ++ m) (join-append a b) ∙ sym (append_assoc x (join a) (join b))

-- the first k fields and the others
pub join-split : (k : ℕ) (bs : List (List ℕ)) → join (take k bs) ++ join (drop k bs) ≡ join bs
join-split k bs = sym (join-append (take k bs) (drop k bs)) ∙ ap join (take-append-drop k bs)

pub length-join : (bs : List (List ℕ)) → length (join bs) ≡ total (map length bs)
unfolding join
length-join [] = refl
length-join (b ∷ bs) = length-append b (join bs) ∙ ap (λ (n : ℕ). length b + n) (length-join bs)

-- ---- where a field stands

part-nil : (s e : ℕ) → part [] s e ≡ []
part-nil s e = ap (take (e - s)) (drop-nil s) ∙ take-nil (e - s)

part-skip : (b l : List ℕ) (s e : ℕ) → part (b ++ l) (length b + s) (length b + e) ≡ part l s e
part-skip b l s e = ap₂ (λ (n : ℕ) (m : List ℕ). take n m) (let q : length b + e - (length b + s) ≡ e - s = omega arith in q) (drop-append-add b l s)

-- field k starts where the widths before it end
pub field : (bs : List (List ℕ)) (k : ℕ) → let ws = map length bs in part (join bs) (total (take k ws)) (total (take k ws) + get_or ws k 0) ≡ get_or bs k []
unfolding join
field [] k = let ws : List ℕ = [] in part-nil (total (take k ws)) (total (take k ws) + get_or ws k 0)
field (b ∷ bs) zero = take_at b (join bs) (0 + length b - 0) (omega arith)
field (b ∷ bs) (suc k) =
    let ws : List ℕ = map length bs in
    let q : length b + total (take k ws) + get_or ws k 0 ≡ length b + (total (take k ws) + get_or ws k 0) = omega arith in
    ap (part (b ++ join bs) (length b + total (take k ws))) q ∙ part-skip b (join bs) (total (take k ws)) (total (take k ws) + get_or ws k 0) ∙ field bs k

pub field_of : (bs : List (List ℕ)) (ws : List ℕ) → map length bs ≡ ws → (k : ℕ) → part (join bs) (total (take k ws)) (total (take k ws) + get_or ws k 0) ≡ get_or bs k []
field_of bs ws e k = subst (λ (ws : List ℕ). part (join bs) (total (take k ws)) (total (take k ws) + get_or ws k 0) ≡ get_or bs k []) e (field bs k)

-- ---- bytes cut into fields of given widths

abbrev pub cut : List ℕ → ℕ → List ℕ → List (List ℕ)
cut l s [] = []
cut l s (w ∷ ws) = part l s (s + w) ∷ cut l (s + w) ws

pub join-cut : (l : List ℕ) (s : ℕ) (ws : List ℕ) → join (cut l s ws) ≡ part l s (s + total ws)
unfolding join
join-cut l s [] = ap (λ (n : ℕ). take n (drop s l)) (let q : 0 ≡ s + 0 - s = omega arith in q)
join-cut l s (w ∷ ws) = ap (λ (m : List ℕ). part l s (s + w) ++ m) (join-cut l (s + w) ws) ∙ sym (part_join l s w (total ws))

-- a number's bytes, where the number was read
pub bytes-at : (l : List ℕ) (s n : ℕ) → Bytes l → s + n ≤ length l → le_bytes n (le_at l s n) ≡ part l s (s + n)
unfolding le_at
bytes-at l s n h k =
    let e : length (part l s (s + n)) ≡ n = length_part l s (s + n) (omega arith) k ∙ omega arith in
    ap (λ (j : ℕ). le_bytes j (le_of (part l s (s + n)))) (sym e) ∙ le_bytes-le_of (part l s (s + n)) (part-all (λ x. x < 256) l (omega arith) h s (s + n))

-- ---- a run of writes

-- r is l with the fields bs laid over it from s on
pub record Laid (l : List ℕ) (s : ℕ) (bs : List (List ℕ)) (r : List ℕ) : Type 0 where
  pub room : s + length (join bs) ≤ length l
  pub is : r ≡ paste l s (join bs)

pub laid-last : (l r : List ℕ) (s : ℕ) (b : List ℕ) → s + length b ≤ length l → r ≡ paste l s b → Laid l s (b ∷ []) r
unfolding join
laid-last l r s b h e = record { room = omega (arith, length-append b []); is = e ∙ ap (paste l s) (sym (append-nil b)) }

-- a field, and then the others after it
laid_more :
    (n : ℕ) (l a r : List ℕ) (s t : ℕ) (b : List ℕ) (bs : List (List ℕ)) → length b ≡ n → t ≡ s + n → length a ≡ length l → a ≡ paste l s b → Laid a t bs r → Laid l s (b ∷ bs) r
unfolding join
laid_more n l a r s t b bs w q k e L =
    let z : s + length b ≡ t = omega arith in
    let y : length (b ++ join bs) ≡ length b + length (join bs) = length-append b (join bs) in
    let x = L.room in
    record {
      room = omega arith;
      is = L.is ∙ ap₂ (λ (d : List ℕ) (i : ℕ). paste d i (join bs)) e (sym z) ∙ paste-paste l s b (join bs) (omega arith);
    }

-- the first field, of n bytes
pub laid-first : (n : ℕ) (l a r : List ℕ) (s : ℕ) (b : List ℕ) (bs : List (List ℕ)) → length b ≡ n → length a ≡ length l → a ≡ paste l s b → Laid a (s + n) bs r → Laid l s (b ∷ bs) r
laid-first n l a r s b bs w k e L = laid_more n l a r s (s + n) b bs w refl k e L

-- a field of n bytes, k bytes after the first one's start
pub laid_next :
    (k n : ℕ) (l a r : List ℕ) (s : ℕ) (b : List ℕ) (bs : List (List ℕ)) → length b ≡ n → length a ≡ length l → a ≡ paste l (s + k) b → Laid a (s + (k + n)) bs r → Laid l (s + k) (b ∷ bs) r
laid_next k n l a r s b bs w q e L = laid_more n l a r (s + k) (s + (k + n)) b bs w (omega arith) q e L

-- ---- fields of bytes

pub bytes-append : (a b : List ℕ) → Bytes a → Bytes b → Bytes (a ++ b)
bytes-append a b p q i =
    ⊎_elim
    (λ l. rw (get_or-append a b 0 i l) (p i))
    (λ (g : length a ≤ i). let j : ℕ = i - length a in let e : length a + j ≡ i = omega arith in subst (λ (k : ℕ). get_or (a ++ b) k 0 < 256) e (rw (get_or-append-add a b j 0) (q j)))
    (lt-or-le i (length a))

pub bytes-nil : Bytes []
bytes-nil i = omega arith
