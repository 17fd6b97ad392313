-- Laws of parts and outcomes that know nothing of nodes.
use mathlib.Core.Path.{◌≡◌, refl, ap, ap₂, ◌∙◌, sym, subst}
use mathlib.Core.List.{List, ◌++◌}
use mathlib.Core.Logic.{⊎_elim}
use Prim.Native.Nat.{ℕ, zero, suc, ◌+◌, ◌-◌, ◌≤◌, ◌<◌}
use native.Mathlib.Nat.{eq-or-lt_of_le}
use native.Mathlib.Omega.{arith}
use lib.ListN.{length, drop, take}
use lib.Dec.{leb}
use Rattle.base.proofs.Parts.{part-part}
use Rattle.base.specs.Out.{Out, done, refused, bind, answer, kept, Ok, went, said, Went, well, ill}
use Rattle.base.specs.Parts.{part, back, paste}
use Rattle.base.proofs.Lists.{part-paste, part-paste-other}
use Rattle.base.proofs.Outs.{ok-guard}
use Rattle.arena.specs.Fields.{File}
use Rattle.files.specs.Read.{there, length_of, read_file}

-- ---- parts

-- a part of what two lists begin with alike
part-below : (l : List ℕ) (n s e : ℕ) → e ≤ n → part (part l 0 n) s e ≡ part l s e
part-below l n s e h =
    part-part l 0 n s e (omega arith) ∙ ap₂ (λ (x y : ℕ). part l x y) (let q : 0 + s ≡ s = omega arith in q) (let q : 0 + e ≡ e = omega arith in q)

pub part-agree : (a b : List ℕ) (n s e : ℕ) → e ≤ n → part a 0 n ≡ part b 0 n → part a s e ≡ part b s e
part-agree a b n s e l h = sym (part-below a n s e l) ∙ (ap (λ (x : List ℕ). part x s e) h ∙ part-below b n s e l)

-- a part that was lent and came back is laid over what it was taken from
pub back_is : (a : List ℕ) (s e : ℕ) (b : List ℕ) → s + length b ≡ e → back a s e b ≡ paste a s b
unfolding paste
back_is a s e b h = ap (λ (n : ℕ). take s a ++ (b ++ drop (n - s) (drop s a))) (sym h)

pub part-back : (a : List ℕ) (s e : ℕ) (b : List ℕ) → s + length b ≡ e → e ≤ length a → part (back a s e b) s e ≡ b
part-back a s e b h l =
    ap (λ (x : List ℕ). part x s e) (back_is a s e b h) ∙ (ap (part (paste a s b) s) (sym h) ∙ part-paste a s b (omega arith))

pub part-back-below : (a : List ℕ) (s e : ℕ) (b : List ℕ) → s + length b ≡ e → e ≤ length a → part (back a s e b) 0 s ≡ part a 0 s
part-back-below a s e b h l =
    ap (λ (x : List ℕ). part x 0 s) (back_is a s e b h) ∙ part-paste-other a s b (omega arith) 0 s (λ _. omega arith)

-- ---- outcomes

-- what is known of the number refused
pub ok-refused : {A : Type 0} {Q : A → Type 0} {R : ℕ → Type 0} {m : Out A} → Ok Q R m → (n : ℕ) → m ≡ refused n → R n
ok-refused (went h) n e = absurd (let z : ◌≡◌ {A = ℕ} 0 1 = cc in omega arith)
ok-refused {R = R} (said h) n e = subst R (ap answer e) h

-- an answer and what was kept, as one
pub went-answer : {A : Type 0} (o : Out A) (v x : A) (P : Type 0) (r : ℕ) → ((n : ℕ) → o ≡ refused n → 0 < n) → r ≡ answer o → v ≡ kept x o → P → Went o v P r
went-answer (done a) v x P r pos e k p = rw e (well (ap done (sym k)) p)
went-answer (refused n) v x P r pos e k p = rw e (ill (pos n refl) refl)

-- steps in a row, each after the one before: where one is refused, all are
pub row-stops : {A : Type 0} (f : ℕ → Out A) (g : ℕ → A → Out A) → ((n : ℕ) → f (suc n) ≡ bind (f n) (g n)) → (r k n : ℕ) → k ≤ n → f k ≡ refused r → f n ≡ refused r
row-stops f g h r k zero l e = let q : k ≡ 0 = omega arith in subst (λ (x : ℕ). f x ≡ refused r) q e
row-stops f g h r k (suc n) l e =
    ⊎_elim
    (λ (q : k ≡ suc n). subst (λ (x : ℕ). f x ≡ refused r) q e)
    (λ (q : k < suc n). h n ∙ ap (λ o. bind o (g n)) (row-stops f g h r k n (omega arith) e))
    (eq-or-lt_of_le l)

-- a read that is refused is refused with 19
pub read_ok : (a : List ℕ) (f : File) (p n : ℕ) → Ok (λ _. Unit) (λ n. n ≡ 19) (read_file a f p n)
unfolding read_file
read_ok a f p n = ok-guard (there a f) 19 refl (λ _. ok-guard (leb (p + n) (length_of a f)) 19 refl (λ _. went tt))
