-- The test decides the grammar: at each state the rest of the bytes is right exactly where reading it ends between two characters.
use mathlib.Core.Path.{◌≡◌, sym, subst}
use mathlib.Core.Logic.{◌⊎◌, inl, inr, ⊎_elim}
use mathlib.Core.Bool.{true, false}
use mathlib.Core.List.{List, [], ◌∷◌, ◌++◌}
use Prim.Native.Nat.{ℕ, zero, suc, ◌+◌, ◌-◌, ◌≤◌, ◌<◌}
use native.Mathlib.Numerals.{add-one}
use native.Mathlib.Omega.{arith}
use lib.Dec.{eqb-suc-zero}
use lib.ListN.{length, get_or, drop, drop_of_length-le}
use lib.Seq.{drop-cons}
use Rattle.base.specs.Decides.{Decides}
use Rattle.base.proofs.Tests.{decides-iff}
use Rattle.base.proofs.Numbers.{lt-or-le}
use Rattle.utf8.specs.declared.State.{State}
use Rattle.utf8.specs.declared.State.TheVariants.{Whole, Wants, Wrong}
use Rattle.utf8.specs.Grammar.{Range, Tail, utf8-tail, Char, utf8-1, utf8-2, utf8-3-E0, utf8-3-E1, utf8-3-ED, utf8-3-EE, utf8-4-F0, utf8-4-F1, utf8-4-F4, Octets, no_char, a-char}
use Rattle.utf8.specs.Utf8.{within, lead, tail, step, after, is_whole, utf8}
use Rattle.utf8.proofs.Leads.{within_in, within-under, within-over, lead-00, lead-80, lead-C2, lead-E0, lead-E1, lead-ED, lead-EE, lead-F0, lead-F1, lead-F4, lead-F5}

-- ---- a loop over the bytes

-- one turn: the byte at i, and then what comes after it
pub after_more : (s : State) (l : List ℕ) (i : ℕ) → i < length l → after s (drop i l) ≡ after (step s (get_or l i 0)) (drop (i + 1) l)
unfolding after
after_more s l i h = rw (add-one, drop-cons l i 0)

-- no byte is left
pub after-all : (s : State) (l : List ℕ) (i : ℕ) → length l ≤ i → after s (drop i l) ≡ s
unfolding after
after-all s l i h = rw (drop_of_length-le l h)

-- ---- what must come at each state

data Rest : State → List ℕ → Type 0 where
  between : {l : List ℕ} → Octets l → Rest Whole l
  at_last : {lo hi b : ℕ} {l : List ℕ} → Range lo hi b → Octets l → Rest (Wants lo hi 0) (b ∷ l)
  and-more : {lo hi b n : ℕ} {l : List ℕ} → Range lo hi b → Rest (Wants 0x80 0xBF n) l → Rest (Wants lo hi (suc n)) (b ∷ l)

-- at a state that an equation gives
rest-is : {s t : State} {l : List ℕ} → s ≡ t → Rest s l → Rest t l
rest-is {l = l} e r = subst (λ (u : State). Rest u l) e r

no-rest : {l : List ℕ} → Rest Wrong l → ⊥
no-rest = elim [ ]

not-ended : {lo hi n : ℕ} → Rest (Wants lo hi n) [] → ⊥
not-ended = elim [ ]

octets-of : {l : List ℕ} → Rest Whole l → Octets l
octets-of (between o) = o

-- ---- a byte inside a character

tail-out : (lo hi n b : ℕ) → within lo hi b ≡ false → tail lo hi n b ≡ Wrong
unfolding tail
tail-out lo hi n b e = rw e

tail-last : (lo hi b : ℕ) → within lo hi b ≡ true → tail lo hi 0 b ≡ Whole
unfolding tail
tail-last lo hi b e = rw e

tail_more : (lo hi n b : ℕ) → within lo hi b ≡ true → tail lo hi (suc n) b ≡ Wants 0x80 0xBF n
unfolding tail
tail_more lo hi n b e = let d : suc n - 1 ≡ n = omega arith in rw (e, eqb-suc-zero n, d)

in-range : {lo hi b : ℕ} → Range lo hi b → within lo hi b ≡ true
in-range {lo} {hi} {b} i = within_in lo hi b i.low i.high

-- in the range or out of it
ranged : (lo hi b : ℕ) → Range lo hi b ⊎ (within lo hi b ≡ false)
ranged lo hi b =
    ⊎_elim
    (λ under. inr (within-under lo hi b under))
    (λ low. ⊎_elim (λ over. inr (within-over lo hi b over)) (λ high. inl (record { low = low; high = high })) (lt-or-le hi b))
    (lt-or-le b lo)

inside-right : (lo hi n b : ℕ) {l : List ℕ} → Range lo hi b → Rest (tail lo hi n b) l → Rest (Wants lo hi n) (b ∷ l)
inside-right lo hi zero b i r = at_last i (octets-of (rest-is (tail-last lo hi b (in-range i)) r))
inside-right lo hi (suc n) b i r = and-more i (rest-is (tail_more lo hi n b (in-range i)) r)

tail-right : (lo hi n b : ℕ) {l : List ℕ} → Rest (tail lo hi n b) l → Rest (Wants lo hi n) (b ∷ l)
tail-right lo hi n b r = ⊎_elim (λ i. inside-right lo hi n b i r) (λ e. absurd (no-rest (rest-is (tail-out lo hi n b e) r))) (ranged lo hi b)

tail-left : (lo hi n b : ℕ) {l : List ℕ} → Rest (Wants lo hi n) (b ∷ l) → Rest (tail lo hi n b) l
tail-left lo hi zero b (at_last i o) = rest-is (sym (tail-last lo hi b (in-range i))) (between o)
tail-left lo hi (suc n) b (and-more i r) = rest-is (sym (tail_more lo hi n b (in-range i))) r

-- ---- a lead byte

-- where there is a first byte, what comes after it is what it asks
Started : List ℕ → Type 0
Started [] = Unit
Started (b ∷ l) = Rest (lead b) l

char-starts : {c l : List ℕ} → Char c → Octets l → Started (c ++ l)
unfolding Started
char-starts (utf8-1 {a} i) o = rest-is (sym (lead-00 a i.high)) (between o)
char-starts (utf8-2 {a} i (utf8-tail j)) o = rest-is (sym (lead-C2 a i.low i.high)) (at_last j o)
char-starts (utf8-3-E0 i (utf8-tail j)) o = rest-is (sym lead-E0) (and-more i (at_last j o))
char-starts (utf8-3-E1 {a} i (utf8-tail j) (utf8-tail k)) o = rest-is (sym (lead-E1 a i.low i.high)) (and-more j (at_last k o))
char-starts (utf8-3-ED i (utf8-tail j)) o = rest-is (sym lead-ED) (and-more i (at_last j o))
char-starts (utf8-3-EE {a} i (utf8-tail j) (utf8-tail k)) o = rest-is (sym (lead-EE a i.low i.high)) (and-more j (at_last k o))
char-starts (utf8-4-F0 i (utf8-tail j) (utf8-tail k)) o = rest-is (sym lead-F0) (and-more i (and-more j (at_last k o)))
char-starts (utf8-4-F1 {a} i (utf8-tail j) (utf8-tail k) (utf8-tail h)) o = rest-is (sym (lead-F1 a i.low i.high)) (and-more j (and-more k (at_last h o)))
char-starts (utf8-4-F4 i (utf8-tail j) (utf8-tail k)) o = rest-is (sym lead-F4) (and-more i (and-more j (at_last k o)))

octets-start : {l : List ℕ} → Octets l → Started l
unfolding Started
octets-start no_char = tt
octets-start (a-char c o) = char-starts c o

lead-left : (b : ℕ) (l : List ℕ) → Octets (b ∷ l) → Rest (lead b) l
unfolding Started
lead-left b l o = octets-start o

-- what is asked for came: with the lead byte it is a character of two, three or four bytes
two : {a lo hi : ℕ} {l : List ℕ} → ((b : ℕ) → Range lo hi b → Char (a ∷ b ∷ [])) → Rest (Wants lo hi 0) l → Octets (a ∷ l)
two f (at_last i o) = a-char (f _ i) o

three : {a lo hi : ℕ} {l : List ℕ} → ((b c : ℕ) → Range lo hi b → Tail c → Char (a ∷ b ∷ c ∷ [])) → Rest (Wants lo hi 1) l → Octets (a ∷ l)
three f (and-more i (at_last j o)) = a-char (f _ _ i (utf8-tail j)) o

four : {a lo hi : ℕ} {l : List ℕ} → ((b c d : ℕ) → Range lo hi b → Tail c → Tail d → Char (a ∷ b ∷ c ∷ d ∷ [])) → Rest (Wants lo hi 2) l → Octets (a ∷ l)
four f (and-more i (and-more j (at_last k o))) = a-char (f _ _ _ i (utf8-tail j) (utf8-tail k)) o

-- what is to be shown of a lead byte
Right : ℕ → Type 0
Right b = (l : List ℕ) → Rest (lead b) l → Octets (b ∷ l)

-- the ranges from the last to the first
module _ (b : ℕ) where
  none : lead b ≡ Wrong → Right b
  unfolding Right
  none e l r = absurd (no-rest (rest-is e r))

  only : (k : ℕ) → b ≡ k → Right k → Right b
  only k e h = subst Right (sym e) h

  from-F4 : 0xF4 ≤ b → Right b
  unfolding Right
  from-F4 h =
      ⊎_elim
      (λ over. none (lead-F5 b over))
      (λ k. only 0xF4 (omega arith) (λ l r. four (λ _ _ _. utf8-4-F4) (rest-is lead-F4 r)))
      (lt-or-le 0xF4 b)

  from-F1 : 0xF1 ≤ b → Right b
  unfolding Right
  from-F1 h =
      ⊎_elim
      (λ over. from-F4 over)
      (λ k l r. four (λ _ _ _ i. utf8-4-F1 (record { low = h; high = k }) (utf8-tail i)) (rest-is (lead-F1 b h k) r))
      (lt-or-le 0xF3 b)

  from-F0 : 0xF0 ≤ b → Right b
  unfolding Right
  from-F0 h = ⊎_elim (λ over. from-F1 over) (λ k. only 0xF0 (omega arith) (λ l r. four (λ _ _ _. utf8-4-F0) (rest-is lead-F0 r))) (lt-or-le 0xF0 b)

  from-EE : 0xEE ≤ b → Right b
  unfolding Right
  from-EE h =
      ⊎_elim
      (λ over. from-F0 over)
      (λ k l r. three (λ _ _ i. utf8-3-EE (record { low = h; high = k }) (utf8-tail i)) (rest-is (lead-EE b h k) r))
      (lt-or-le 0xEF b)

  from-ED : 0xED ≤ b → Right b
  unfolding Right
  from-ED h = ⊎_elim (λ over. from-EE over) (λ k. only 0xED (omega arith) (λ l r. three (λ _ _. utf8-3-ED) (rest-is lead-ED r))) (lt-or-le 0xED b)

  from-E1 : 0xE1 ≤ b → Right b
  unfolding Right
  from-E1 h =
      ⊎_elim
      (λ over. from-ED over)
      (λ k l r. three (λ _ _ i. utf8-3-E1 (record { low = h; high = k }) (utf8-tail i)) (rest-is (lead-E1 b h k) r))
      (lt-or-le 0xEC b)

  from-E0 : 0xE0 ≤ b → Right b
  unfolding Right
  from-E0 h = ⊎_elim (λ over. from-E1 over) (λ k. only 0xE0 (omega arith) (λ l r. three (λ _ _. utf8-3-E0) (rest-is lead-E0 r))) (lt-or-le 0xE0 b)

  from-C2 : 0xC2 ≤ b → Right b
  unfolding Right
  from-C2 h =
      ⊎_elim
      (λ over. from-E0 over)
      (λ k l r. two (λ _ i. utf8-2 (record { low = h; high = k }) (utf8-tail i)) (rest-is (lead-C2 b h k) r))
      (lt-or-le 0xDF b)

  from-80 : 0x80 ≤ b → Right b
  from-80 h = ⊎_elim (λ over. from-C2 over) (λ k. none (lead-80 b h k)) (lt-or-le 0xC1 b)

  lead-right : Right b
  unfolding Right
  lead-right =
      ⊎_elim
      (λ over. from-80 over)
      (λ k l r. a-char (utf8-1 (record { low = omega arith; high = k })) (octets-of (rest-is (lead-00 b k) r)))
      (lt-or-le 0x7F b)

-- ---- the theorem

-- one byte more: what is left before it is right where what is left after it is
step_right : (s : State) (b : ℕ) (l : List ℕ) → Rest (step s b) l → Rest s (b ∷ l)
unfolding step Right
step_right Whole b l r = between (lead-right b l r)
step_right (Wants lo hi n) b l r = tail-right lo hi n b r
step_right Wrong b l r = absurd (no-rest r)

step_left : (s : State) (b : ℕ) (l : List ℕ) → Rest s (b ∷ l) → Rest (step s b) l
unfolding step
step_left Whole b l r = lead-left b l (octets-of r)
step_left (Wants lo hi n) b l r = tail-left lo hi n b r
step_left Wrong b l r = absurd (no-rest r)

ended : (s : State) → Decides (is_whole s) (Rest s [])
ended Whole = record { right = λ t. between no_char; left = λ r. tt }
ended (Wants lo hi n) = record { right = λ t. absurd t; left = λ r. absurd (not-ended r) }
ended Wrong = record { right = λ t. absurd t; left = λ r. absurd (no-rest r) }

decides-rest : (l : List ℕ) (s : State) → Decides (is_whole (after s l)) (Rest s l)
unfolding after
decides-rest [] s = ended s
decides-rest (b ∷ l) s = decides-iff (step_right s b l) (step_left s b l) (decides-rest l (step s b))

-- the test passes exactly the sequences of RFC 3629's grammar
pub utf8-decides : (l : List ℕ) → Decides (utf8 l) (Octets l)
unfolding utf8
utf8-decides l = decides-iff octets-of between (decides-rest l Whole)
