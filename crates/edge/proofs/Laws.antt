-- From what a call leaves in memory and returns to what the C function leaves.
use mathlib.Core.Path.{◌≡◌, refl, sym, ◌∙◌, ap, ap₂, subst}
use mathlib.Core.Bool.{Bool}
use mathlib.Core.List.{List, [], ◌∷◌}
use Prim.Native.Nat.{ℕ, ◌+◌, ◌<◌}
use native.Mathlib.Omega.{arith}
use lib.Dec.{eqb}
use lib.ListN.{length}
use borrow.Author.Tests.{eq-eqb, ne_eqb}
use Rattle.base.specs.Out.{Out, done, refused, answer, Went, well, ill}
use Rattle.base.specs.Parts.{paste}
use Rattle.base.specs.Search.{pick}
use Rattle.le.specs.Le.{Bytes}
use Rattle.structs.specs.declared.Timespec.{Timespec}
use Rattle.table.specs.declared.Table.{Table}
use Rattle.table.specs.declared.Handle.{Handle}
use Rattle.table.specs.declared.Added.{Added}
use Rattle.table.specs.Table.{row_at}
use Rattle.table_bytes.specs.Layout.{table_of, bytes_of_table}
use Rattle.table_bytes.proofs.Fits.{table_fits}
use Rattle.sefs.specs.declared.Metadata.{Metadata}
use Rattle.sefs.specs.Create.{After, Given}
use Rattle.sefs.specs.Read.{call_listing}
use Rattle.mem.specs.Mem.{table_in}
use Rattle.std.specs.Prelude.{Result, Ok, Err}
use Rattle.std.specs.Result.{is_ok}
use Rattle.base.specs.Told.{number, code}
use Rattle.base.proofs.Tells.{done-is}
use Rattle.base.specs.declared.reasons.Reason.{Reason}
use Rattle.calls.specs.Answers.{added_as, out_of, told_by, answer_of, listed_of, taken_of, Lays}
use Rattle.calls.proofs.Answers.{code-out, told-code}
use Rattle.calls_list.proofs.Places.{listing-left, listed-slots}
use Rattle.steps.specs.Ends.{Ended, went, stopped}
use Rattle.calls_create.specs.Held.{EndedHeld}
use Rattle.calls_create.specs.Held as made
use Rattle.calls_create.specs.declared.New.{New}
use Rattle.calls_move.specs.declared.Course.{Course}
use Rattle.calls_move.specs.Courses.{EndedMove}
use Rattle.calls_move.specs.Courses as course
use Rattle.calls_mend.specs.Mends.{MendEnded}
use Rattle.calls_mend.specs.Mends as mends
use Rattle.walk.specs.Walk.{Walked, walked, most_links}
use Rattle.calls_walk.proofs.Runs.{nothing-laid}
use Rattle.fsck.specs.declared.Verdict.{Verdict}
use Rattle.fsck.specs.declared.Verdict.TheVariants.{Pass}
use Rattle.edge_words.specs.Words.{handle_words, metadata_words}
use Rattle.edge_ends.specs.Ends.{told_words_by, listed_words_by, taken_words_by}
use Rattle.edge_ends.proofs.Laws.{passed_over}
use Rattle.edge.specs.Edge.{sized, sized_walk, new_of, Answers, left_of, made_of, held_of, Walks, listed_in, read_in, counted, counts_of, mended_of, course_table_by}

-- ---- a slice of a fixed size

module _ {A : Type 0} (n : ℕ) (l : List ℕ) (o : Out A) where
  pub sized-is : length l ≡ n → sized n l o ≡ o
  sized-is e = rw (eq-eqb (length l) n e)

  pub sized-not : (length l ≡ n → ⊥) → sized n l o ≡ refused 255
  sized-not z = rw (ne_eqb (length l) n z)

module _ {A : Type 0} (n : ℕ) (l : List ℕ) (x : Walked A) where
  pub walk-sized : length l ≡ n → sized_walk n l x ≡ x
  walk-sized e = rw (eq-eqb (length l) n e)

  pub walk-not-sized : (length l ≡ n → ⊥) → sized_walk n l x ≡ walked [] most_links (refused 255)
  walk-not-sized z = rw (ne_eqb (length l) n z)

-- what a node is to be, from its parts
pub new_is : {n : New} {kind mode : ℕ} {t u : Timespec} {f g : List ℕ} → n ≡ new_of kind mode t f → t ≡ u → f ≡ g → n ≡ new_of kind mode u g
new_is {kind = kind} {mode = mode} e p q = e ∙ (λ x. new_of kind mode (p x) (q x))

-- ---- an answer, by its case

pub counts-pass : (w : List ℕ) {v : List ℕ} {x : Verdict} {a b c : ℕ} → x ≡ Pass a b c → v ≡ a ∷ b ∷ c ∷ [] → Answers (counted x) counts_of w v 0
counts-pass w e q = record { number = rw e; places = q ∙ rw e }

-- ---- a refusal leaves all as it was: so does a slice of a wrong size

pub answers-not : {A P : Type 0} {o : Out A} {leaves : A → P} {l : P} {n : ℕ} → o ≡ refused n → Answers o leaves l l n
answers-not e = record { number = rw e; places = rw e }

pub walks-not : {x : Walked Added} {n k : ℕ} {p : List ℕ} {l : List ℕ × List ℕ} → x ≡ walked [] k (refused n) → Walks x p p l l n
walks-not {p = p} e = rw e (record { answers = answers-not refl; links = nothing-laid p })

-- ---- what the call leaves, and what the end wrote. p is the outcome with its sizes, o without; u is the table in memory; the table's bytes were t
-- and are b, words for a result were w and are v

-- what an end tells and writes by a result, by the result's number
module _ {A : Type 0} (r : Result A Reason) (x y : List ℕ) {b : List ℕ} where
  pub words-code : b ≡ pick (is_ok r) x y → b ≡ pick (eqb (code r) 0) x y
  words-code e = e ∙ ap (λ (q : Bool). pick q x y) (done-is r)

  pub ended-code : {n : ℕ} → (n ≡ told_by number r) × (b ≡ pick (is_ok r) x y) → (n ≡ code r) × (b ≡ pick (eqb (code r) 0) x y)
  ended-code E = (E.0 ∙ told-code r, words-code E.1)

-- sync, close, link, the removals, write, resize, format
pub by_end : {o p : Out After} {u : Table} {a c t b : List ℕ} {r n : ℕ} → p ≡ o → Ended o a c u r
    → (n ≡ r) × (b ≡ pick (eqb r 0) (bytes_of_table u) t) → Answers p left_of (a, t) (c, b) n
by_end {c = c} e (went f) E = rw (e, f) (record { number = E.0; places = λ i. (c, E.1 i) })
by_end {u = u} {t = t} e (stopped {r = r} l f k) E =
    let q = E.1 ∙ sym (passed_over (bytes_of_table u) t r (λ q. omega arith)) in
    rw (e, f) (record { number = E.0; places = λ i. (k i, q i) })

-- mend: the table is not written
pub by-mend : {o p : Out (List ℕ)} {a c : List ℕ} {r n : ℕ} → p ≡ o → MendEnded o a c r → n ≡ r → Answers p mended_of a c n
by-mend e (mends.went f) E = rw (e, f) (record { number = E; places = refl })
by-mend e (mends.stopped l f k) E = rw (e, f) (record { number = E; places = k })

-- move: x is the table that it was given
pub by_move : {o p : Out After} {x u : Table} {a c t b : List ℕ} {n : ℕ} {k : Result Course Reason} → p ≡ o → x ≡ table_of t → EndedMove o x a c u k
    → (n ≡ told_by number k) × (b ≡ course_table_by t u k) → Answers p left_of (a, t) (c, b) n
by_move {c = c} e q (course.moves f) E = rw (e, f) (record { number = E.0; places = λ i. (c, E.1 i) })
by_move e q (course.rests f k) E = let z = E.1 ∙ ap bytes_of_table (sym q) in rw (e, f) (record { number = E.0; places = λ i. (k i, z i) })
by_move e q (course.denied l f k) E = rw (e, f) (record { number = E.0; places = λ i. (k i, E.1 i) })

-- create
pub by-made : {o p : Out Given} {h : Handle} {u : Table} {a c t b w v : List ℕ} {r n : ℕ} → p ≡ o → EndedHeld o a c (added_as h u) r
    → (n ≡ r) × (b ≡ pick (eqb r 0) (bytes_of_table u) t) → v ≡ pick (eqb r 0) (handle_words h) w → Answers p made_of (a, t, w) (c, b, v) n
by-made {c = c} e (made.held f) E k = rw (e, f) (record { number = E.0; places = λ i. (c, E.1 i, k i) })
by-made {h = h} {u = u} {t = t} {w = w} e (made.stopped {r = r} l f q) E k =
    let z : r ≡ 0 → ⊥ = λ q. omega arith in
    let x = E.1 ∙ sym (passed_over (bytes_of_table u) t r z) in
    let y = k ∙ sym (passed_over (handle_words h) w r z) in
    rw (e, f) (record { number = E.0; places = λ i. (q i, x i, y i) })

-- root, find
pub by-held : {o p : Out Added} {h : Handle} {u : Table} {t b w v : List ℕ} {P : Type 0} {r n : ℕ} → p ≡ o → Went o (added_as h u) P r
    → (n ≡ r) × (b ≡ pick (eqb r 0) (bytes_of_table u) t) → v ≡ pick (eqb r 0) (handle_words h) w → Answers p held_of (t, w) (b, v) n
by-held e (well f x) E k = rw (e, f) (record { number = E.0; places = λ i. (E.1 i, k i) })
by-held {h = h} {u = u} {t = t} {w = w} e (ill {r = r} l f) E k =
    let z : r ≡ 0 → ⊥ = λ q. omega arith in
    let x = E.1 ∙ sym (passed_over (bytes_of_table u) t r z) in
    let y = k ∙ sym (passed_over (handle_words h) w r z) in
    rw (e, f) (record { number = E.0; places = λ i. (x i, y i) })

-- walk: the link buffer was l and is q
pub by-walk : {x y : Walked Added} {h : Handle} {u : Table} {l q t b w v : List ℕ} {P : Type 0} {r n : ℕ} → y ≡ x → Went x.end (added_as h u) P r → q ≡ paste l 0 x.links
    → (n ≡ r) × (b ≡ pick (eqb r 0) (bytes_of_table u) t) → v ≡ pick (eqb r 0) (handle_words h) w → Walks y l q (t, w) (b, v) n
by-walk e W L E k = rw e (record { answers = by-held refl W E k; links = L })

-- set metadata, open
pub by-table : {o p : Out Table} {u : Table} {t b : List ℕ} {P : Type 0} {r n : ℕ} → p ≡ o → Went o u P r
    → (n ≡ r) × (b ≡ pick (eqb r 0) (bytes_of_table u) t) → Answers p bytes_of_table t b n
by-table e (well f x) E = rw (e, f) (record { number = E.0; places = E.1 })
by-table {u = u} {t = t} e (ill {r = r} l f) E = rw (e, f) (record { number = E.0; places = E.1 ∙ sym (passed_over (bytes_of_table u) t r (λ q. omega arith)) })

pub by-told : {o p : Out Metadata} {w v : List ℕ} {n : ℕ} (r : Result Metadata Reason) → p ≡ o → out_of r ≡ o → (n ≡ told_by number r) × (v ≡ told_words_by w r) → Answers p metadata_words w v n
by-told (Ok m) e G E = rw (e, ← G) (record { number = E.0; places = E.1 })
by-told (Err d) e G E = rw (e, ← G) (record { number = E.0; places = E.1 })

-- get entry
pub by-laid : {o p : Out (List ℕ)} {x y : List ℕ} {n : ℕ} (r : Result Unit Reason) → p ≡ o → Lays answer_of o x y r → n ≡ told_by number r → Answers p (paste x 0) x y n
by-laid {o = done l} r e G E = rw e (record { number = E ∙ told-code r ∙ code-out r ∙ ap answer G.0; places = G.1 })
by-laid {o = refused m} r e G E = rw e (record { number = E ∙ told-code r ∙ code-out r ∙ ap answer G.0; places = G.1 })

-- the words by the outcome that the result tells
abbrev listed_out : List ℕ → ℕ → Out ℕ → List ℕ
listed_out w from (done n) = (from + n) ∷ []
listed_out w from (refused n) = w

abbrev taken_out : List ℕ → Out ℕ → List ℕ
taken_out w (done n) = n ∷ []
taken_out w (refused n) = w

listed-out : (w : List ℕ) (from : ℕ) (r : Result ℕ Reason) → listed_words_by w from r ≡ listed_out w from (out_of r)
listed-out w from (Ok n) = refl
listed-out w from (Err e) = refl

taken-out : (w : List ℕ) (r : Result ℕ Reason) → taken_words_by w r ≡ taken_out w (out_of r)
taken-out w (Ok n) = refl
taken-out w (Err e) = refl

pub by-listed : {o p : Out (List ℕ)} {x y w v : List ℕ} {n : ℕ} (l : Result ℕ Reason) (f from : ℕ) → f ≡ from → p ≡ o → Lays listed_of o x y l
    → (n ≡ told_by number l) × (v ≡ listed_words_by w f l) → Answers p (listed_in from x) (w, x) (v, y) n
by-listed {o = done z} {w = w} {v = v} l f from q e G E =
    let k : v ≡ listed_out w from (listed_of (done z)) = E.1 ∙ listed-out w f l ∙ ap₂ (listed_out w) q G.0 in
    rw e (record { number = E.0 ∙ told-code l ∙ code-out l ∙ ap answer G.0; places = λ i. (k i, G.1 i) })
by-listed {o = refused m} {w = w} {v = v} l f from q e G E =
    let k : v ≡ listed_out w from (listed_of (refused m)) = E.1 ∙ listed-out w f l ∙ ap₂ (listed_out w) q G.0 in
    rw e (record { number = E.0 ∙ told-code l ∙ code-out l ∙ ap answer G.0; places = λ i. (k i, G.1 i) })

pub by-taken : {o p : Out (List ℕ)} {x y w v : List ℕ} {n : ℕ} (r : Result ℕ Reason) → p ≡ o → Lays taken_of o x y r → (n ≡ told_by number r) × (v ≡ taken_words_by w r) → Answers p (read_in x) (x, w) (y, v) n
by-taken {o = done l} {w = w} r e G E =
    let k = E.1 ∙ taken-out w r ∙ ap (taken_out w) G.0 in
    rw e (record { number = E.0 ∙ told-code r ∙ code-out r ∙ ap answer G.0; places = λ i. (G.1 i, k i) })
by-taken {o = refused m} {w = w} r e G E =
    let k = E.1 ∙ taken-out w r ∙ ap (taken_out w) G.0 in
    rw e (record { number = E.0 ∙ told-code r ∙ code-out r ∙ ap answer G.0; places = λ i. (G.1 i, k i) })

-- check
pub by-counts : {o p : Out (List ℕ)} {w v : List ℕ} {n : ℕ} → p ≡ o → Answers o counts_of w v n → Answers p counts_of w v n
by-counts e C = rw e C

-- ---- the listing's word

pub listed-room : (a t m : List ℕ) (w : ℕ) (h : Handle) (from room : ℕ) (l : Result ℕ Reason) → Bytes t → length t ≡ 4402 → table_in m ≡ table_of t → from < 18446744073709551616
    → out_of l ≡ listed_of (call_listing a (table_in m) w h from room) → (n : ℕ) → l ≡ Ok n → from + n < 18446744073709551616
listed-room a t m w h from room l B L e F q n k =
    let s = listed-slots n (call_listing a (table_in m) w h from room) (ap out_of (sym k) ∙ q) in
    let f = listing-left a (table_in m) w h from room s.0 s.1 in
    let b : (row_at (table_in m) f.0).rec.blocks < 4294967296 = subst (λ (x : Table). (row_at x f.0).rec.blocks < 4294967296) (sym e) ((table_fits t B L).rows f.0 f.1).rec.blocks in
    omega (arith, s.2, f.2, b, F)
