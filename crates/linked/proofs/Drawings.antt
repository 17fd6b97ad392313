-- What a designer was told of her drawings, of runs: a list of runs leads where its calls lead, and a read at its end gives what the call gives there.
use mathlib.Core.Path.{◌≡◌, refl, sym, ap, ◌∙◌, subst}
use mathlib.Core.List.{List, ◌∷◌}
use mathlib.Core.Logic.{◌≢◌, ◌⊎◌, ◌↔◌, inl, inr}
use Prim.Native.Nat.{ℕ}
use native.Mathlib.Omega.{arith}
use lib.Dec.{T}
use lib.ListN.{length, get_or}
use Rattle.base.specs.Out.{Out, done, refused, bind, answer, kept, Ok}
use Rattle.base.specs.Out as out
use Rattle.base.specs.Reasons.{table_full}
use Rattle.base.proofs.Outs.{bind-is-done}
use Rattle.table.specs.declared.Handle.{Handle}
use Rattle.table.specs.declared.Added.{Added}
use Rattle.table_bytes.specs.Layout.{table_of}
use Rattle.sefs.specs.Open.{call_find}
use Rattle.sefs.specs.Contents.{call_read}
use Rattle.edge_words.specs.Words.{handle_words}
use Rattle.sequences.specs.Pairs.{Pair, pair}
use Rattle.sequences.specs.Calls.{Call, find, read, write, fallocate, Fits, does, reason_of, next, asker}
use Rattle.sequences.specs.Promises.{On}
use Rattle.sequences.specs.TableFull.{ReachesCheck, NoPlace, FullExactly}
use Rattle.sequences.specs.Reasons.{has, OldOpen}
use Rattle.sequences.specs.Ranges.{reasons_in, ReasonsRanges, RangesFull}
use Rattle.sequences.proofs.TableFull.{full-exactly}
use Rattle.sequences.proofs.OpenCall.{old-open}
use Rattle.sequences.proofs.Ranges.{reasons-ranges, ranges-full}
use Rattle.drawings.specs.Saved.{led, Saves, Saved, BothSaved, ReadStays, LaidOver, ResizedTo}
use Rattle.drawings.specs.Rests.{Drawing, RestsAlong, Rested, ClosedAndKept, ReadRests, Named}
use Rattle.drawings.specs.Names.{NamesStay, FoundByName, FindsIt}
use Rattle.drawings.specs.Ranges.{ReadsText, ReadsNew}
use Rattle.drawings.proofs.Saved.{saved, both-saved, read_stays, laid-over, resized-to}
use Rattle.drawings.proofs.Rests.{rests-along, closed-and-kept, read-rests}
use Rattle.drawings.proofs.Names.{names-stay, found-by-name}
use Rattle.drawings.proofs.NameFinds.{finds-it}
use Rattle.drawings.proofs.Ranges.{reads-text, reads-new}
use Rattle.linked.specs.Images.{Image, pair_of, Passes, Ready, Places, handed}
use Rattle.linked.specs.Tested.{Ran}
use Rattle.linked.specs.Owning.{Owns}
use Rattle.linked.specs.Linked.{Does, Functions, Runs, none, ran, Goes, Transports, Linked, OwnLinked, Mixed, MixedLinked, CheckSays, OpenDoes}
use Rattle.linked.specs.Drawings.{GaveBytes, GaveSame, both-gave, both-refused, SavesRun, RunsSaved, RunsBothSaved, RunsReadStays, RunsRest, RunsKept, RunsReadRests, RunsNamesStay, RunsFound, RunsFindsIt, RunsLaidOver, RunsResized, RunsReadNew, RunsReadText, RunsRangesFull, Drawings, NumberFull, NumberRanges, OldOpens}
use Rattle.linked.proofs.Functions.{does-calls}
use Rattle.linked.proofs.Transport.{zero-done, not_255, number_is}
use Rattle.linked.proofs.Runs.{Free, joined, one, goes_after, led-after, passes-after}
use Rattle.linked.proofs.Linked.{linked, own-linked, mixed-linked}
use Rattle.linked.proofs.Starts.{check-says, open-does}

-- a read changes nothing
read_next : (p : Pair) (w : ℕ) (h : Handle) (at room : ℕ) → next (read w h at room) p ≡ p
unfolding does
read_next p w h at room = by (call_read p.arena p.table w h at room)
  where
    by : (o : Out (List ℕ)) → kept p (bind o (λ _. done p)) ≡ p
    by (done l) = refl
    by (refused n) = refl

-- what a read leaves: those bytes, or what was there
module _ (p : Pair) (w : ℕ) (h : Handle) (at room : ℕ) where
  read_done : (bytes : List ℕ) → call_read p.arena p.table w h at room ≡ done bytes → {x y : Places} {k : ℕ} → k ≡ reason_of (read w h at room) p → y ≡ handed (read w h at room) p x
      → GaveBytes bytes x y k
  unfolding does handed
  read_done bytes d n e = record {
    number = n ∙ rw d refl;
    output = ap (λ (a : Places). a.output) e ∙ rw d refl;
    count = ap (λ (a : Places). a.words) e ∙ rw d refl;
  }

  read-refused : (m : ℕ) → call_read p.arena p.table w h at room ≡ refused m → {x y : Places} {k : ℕ} → k ≡ reason_of (read w h at room) p → y ≡ handed (read w h at room) p x
      → (k ≢ 0) × (k ≡ m) × (y ≡ x)
  unfolding does handed
  read-refused m d n e = (
    λ z.
        let is : does (read w h at room) p ≡ refused m = rw d refl in
        let q = sym (zero-done (read w h at room) p (sym z ∙ n)) ∙ is in
        absurd (let u : ◌≡◌ {A = ℕ} 0 1 = cc in omega arith),
    n ∙ rw d refl,
    e ∙ rw d refl,
  )

-- reads of one outcome, on v by h and on i by g
reads-alike : {v z i j : Image} {x y p q : Places} {k m : ℕ} (w o : ℕ) (h g : Handle) (at room : ℕ) → Goes Free (read w h at room) v x z y k → Goes Free (read o g at room) i p j q m
    → call_read i.arena (pair_of i).table o g at room ≡ call_read v.arena (pair_of v).table w h at room → GaveSame x y k p q m
reads-alike {v} {z} {i} {j} {x} {y} {p} {q} {k} {m} w o h g at room G H e = by (call_read v.arena (pair_of v).table w h at room) refl
  where
    by : (a : Out (List ℕ)) → call_read v.arena (pair_of v).table w h at room ≡ a → GaveSame x y k p q m
    by (done l) d = both-gave l (read_done (pair_of v) w h at room l d G.number G.given) (read_done (pair_of i) o g at room l (e ∙ d) H.number H.given)
    by (refused n) d =
        let A = read-refused (pair_of v) w h at room n d G.number G.given in
        let B = read-refused (pair_of i) o g at room n (e ∙ d) H.number H.given in
        both-refused A.0 (B.1 ∙ sym A.1) A.2 B.2

-- a find that is done leaves the pair with what it gives, and its handle's words
module _ (p : Pair) (w : ℕ) (h : Handle) (name : List ℕ) (g : Added) (d : call_find p.arena p.table w h name ≡ done g) where
  find-next : next (find w h name) p ≡ pair p.arena g.table
  unfolding does
  find-next = rw d refl

  find-words : (x : Places) → (handed (find w h name) p x).words ≡ handle_words g.handle
  unfolding handed
  find-words x = rw d refl

-- words are one handle's
words-one : (g h : Handle) → handle_words g ≡ handle_words h → g ≡ h
words-one g h e = λ i. record { hold = get_or (e i) 0 0; stamp = get_or (e i) 1 0 }

-- what is so where an outcome is done, and what of its reason, so of its number
ok-number : {A P Q : Type 0} {m k : ℕ} {o : Out A} → k ≡ answer o → Ok (λ (_ : A). P) (λ (r : ℕ). (r ≡ m) × Q) o → ((k ≡ 0) × P) ⊎ ((k ≡ m) × Q)
ok-number e (out.went p) = inl (e, p)
ok-number e (out.said p) = inr (e ∙ p.0, p.1)

module _ {R : Functions} {I : Image → Type 0} (T : Transports R I) (trusted : (s : Image) → I s → Passes s) where
  -- a read after a list of runs, where the definitions say what it gives there
  gave : {s v z : Image} {l : List Call} {x y : Places} {k : ℕ} (w : ℕ) (h : Handle) (at room : ℕ) (bytes : List ℕ) → I s → Runs R s l v → Fits (read w h at room) → R (read w h at room) v x z y k → k ≢ 255
      → call_read (pair_of v).arena (pair_of v).table w h at room ≡ done bytes → GaveBytes bytes x y k
  gave {v = v} w h at room bytes i m F r q d = let G = goes_after T i m F r q in read_done (pair_of v) w h at room bytes d G.number G.given

  -- a run that answers 0, after others, is done, and leaves the pair that the call is done with
  went : {s v u : Image} {l : List Call} {c : Call} {x y : Places} → I s → Runs R s l v → Fits c → R c v x u y 0 → does c (pair_of v) ≡ done (pair_of u)
  went {v = v} {c = c} i m F r = let G = goes_after T i m F r not_255 in zero-done c (pair_of v) G.number ∙ ap done (sym G.left)

  module _ {w : ℕ} {h : Handle} {n : ℕ} {f : List ℕ} {place : ℕ} {bytes : List ℕ} where
    saves : {s v u : Image} {l : List Call} → I s → Runs R s l v → SavesRun R w h n f place bytes v u → Saves w h n f place bytes (pair_of v) (pair_of u)
    saves i m S = record { on = S.on; fits = S.fits; leads = went i m S.fits S.answers }

    -- her write, and the runs after it
    from-save : {s u v : Image} {l : List Call} → SavesRun R w h n f place bytes s u → Runs R u l v → Runs R s (write w h place bytes ∷ l) v
    from-save S m = ran S.fits S.answers not_255 m

    after-save : {s u v : Image} {l : List Call} → I s → SavesRun R w h n f place bytes s u → Runs R u l v → pair_of v ≡ led (pair_of u) l
    after-save i S m = led-after T i (from-save S none) m

  runs-saved : RunsSaved R I
  unfolding RunsSaved Saved
  runs-saved s u v z l w h n f place bytes x y k i S m A F r q =
      gave w h place (length bytes) bytes i (from-save S m) F r q
      (subst (λ (p : Pair). call_read p.arena p.table w h place (length bytes) ≡ done bytes) (sym (after-save i S m))
      (saved (pair_of s) (pair_of u) l w h n f place bytes (trusted s i).passes (saves i none S) A).gives)

  runs-both-saved : RunsBothSaved R I
  unfolding RunsBothSaved BothSaved
  runs-both-saved s u v c z a b l t w o h g n m f e place at hers his x y p q k j i S M A d S' N B C F r G F' r' G' =
      let first : Runs R s (write w h place hers ∷ l) v = from-save S M in
      let till : pair_of z ≡ led (pair_of c) t = led-after T i (joined first (from-save S' none)) N in
      let K = both-saved (pair_of s) (pair_of u) (pair_of c) l t w o h g n m f e place at hers his (trusted s i).passes (saves i none S) A d
      (subst (λ (P : Pair). Saves o g m e at his P (pair_of c)) (after-save i S M) (saves i first S')) B C in (
        gave w h place (length hers) hers i (joined first (from-save S' N)) F r G (subst (λ (P : Pair). call_read P.arena P.table w h place (length hers) ≡ done hers) (sym till) K.0.gives),
        gave o g at (length his) his i (joined first (from-save S' N)) F' r' G' (subst (λ (P : Pair). call_read P.arena P.table o g at (length his) ≡ done his) (sym till) K.1.gives),
      )

  runs-read-stays : RunsReadStays R I
  unfolding RunsReadStays ReadStays
  runs-read-stays s u v z l w h n f at room x y p q k j i O F r a m A t b =
      let G = one T i F r a in
      let same : pair_of u ≡ pair_of s = G.left ∙ read_next (pair_of s) w h at room in
      reads-alike w w h h at room G (goes_after T i (ran F r a m) F t b)
      (ap (λ (P : Pair). call_read P.arena P.table w h at room) (led-after T i (ran F r a none) m)
      ∙ read_stays (pair_of u) l w h n f at room G.trusted.passes (subst (λ (P : Pair). On P.table w h n f) (sym same) O) A
      ∙ ap (λ (P : Pair). call_read P.arena P.table w h at room) same)

  runs-rest : RunsRest R I
  unfolding RunsRest RestsAlong
  runs-rest s v l n i D m A = subst (Rested n (pair_of s)) (sym (led-after T i none m)) (rests-along (pair_of s) l n (trusted s i).passes D A)

  runs-kept : RunsKept R I
  unfolding RunsKept ClosedAndKept
  runs-kept s u v z l w o h g n f e place bytes x y k i S m A O F r q =
      let c : pair_of v ≡ led (pair_of u) l = after-save i S m in
      gave o g place (length bytes) bytes i (from-save S m) F r q
      (subst (λ (p : Pair). call_read p.arena p.table o g place (length bytes) ≡ done bytes) (sym c)
      (closed-and-kept (pair_of s) (pair_of u) l w o h g n f e place bytes (trusted s i).passes (saves i none S) A (subst (λ (p : Pair). On p.table o g n e) c O)))

  runs-read-rests : RunsReadRests R I
  unfolding RunsReadRests ReadRests
  runs-read-rests s u v z l w o h g n f e at room x y p q k j i D O F r a m A E F' t b =
      let G = one T i F r a in
      let same : pair_of u ≡ pair_of s = G.left ∙ read_next (pair_of s) w h at room in
      let c : pair_of v ≡ led (pair_of u) l = led-after T i (ran F r a none) m in
      reads-alike w o h g at room G (goes_after T i (ran F r a m) F' t b)
      (ap (λ (P : Pair). call_read P.arena P.table o g at room) c
      ∙ read-rests (pair_of u) l w o h g n f e at room G.trusted.passes (subst (Drawing n) (sym same) D) (subst (λ (P : Pair). On P.table w h n f) (sym same) O) A (subst (λ (P : Pair). On P.table o g n e) c E)
      ∙ ap (λ (P : Pair). call_read P.arena P.table w h at room) same)

  runs-names-stay : RunsNamesStay R I
  unfolding RunsNamesStay NamesStay
  runs-names-stay s v l d n name i N m A = subst (Named d name n) (sym (led-after T i none m)) (names-stay (pair_of s) l d n name (trusted s i).passes N A)

  runs-found : RunsFound R I
  unfolding RunsFound FoundByName does
  runs-found s u v j z l w o h g got n d f e name place bytes p q x y k i S N m A O F r words G t b =
      let first : Runs R s (write w h place bytes ∷ l) v = from-save S m in
      let E = goes_after T i first F r not_255 in
      let c : pair_of v ≡ led (pair_of u) l = after-save i S m in
      let X = bind-is-done (call_find (pair_of v).arena (pair_of v).table o g name) (λ a. done (pair (pair_of v).arena a.table)) (next (find o g name) (pair_of v)) (zero-done (find o g name) (pair_of v) E.number) in
      let left : pair_of j ≡ pair (pair_of v).arena X.0.table = E.left ∙ find-next (pair_of v) o g name X.0 X.1 in
      let same : got ≡ X.0.handle = words-one got X.0.handle (sym words ∙ ap (λ (a : Places). a.words) E.given ∙ find-words (pair_of v) o g name X.0 X.1 p) in
      gave o got place (length bytes) bytes i (joined first (ran F r not_255 none)) G t b
      (ap (λ (a : Pair). call_read a.arena a.table o got place (length bytes)) left
      ∙ ap (λ (a : Handle). call_read (pair_of v).arena X.0.table o a place (length bytes)) same
      ∙ ap (λ (a : Pair). call_read a.arena X.0.table o X.0.handle place (length bytes)) c
      ∙ found-by-name (pair_of s) (pair_of u) l w o h g n d f e name place bytes X.0 (trusted s i).passes (saves i none S) N A (subst (λ (a : Pair). On a.table o g d e) c O) F
      (subst (λ (a : Pair). call_find a.arena a.table o g name ≡ done X.0) c X.1))

  runs-finds-it : RunsFindsIt R I
  unfolding RunsFindsIt RunsNamesStay FindsIt
  runs-finds-it s v z l o g n d e name x y k i N m A O F r b =
      subst (λ (q : ℕ). (q ≡ 0) ⊎ (q ≡ table_full)) (sym (goes_after T i m F r b).number)
      (finds-it (pair_of v) o g n d e name (passes-after T i (trusted s i) m).passes O (runs-names-stay s v l d n name i N m A))

  runs-laid-over : RunsLaidOver R I
  unfolding RunsLaidOver LaidOver
  runs-laid-over s u z w h place new old at room a b x y k i O F r G t q =
      gave w h at room _ i (ran F r not_255 none) G t q (laid-over (pair_of s) (pair_of u) w h place new old at room (trusted s i).passes O F (went i none F r))

  runs-resized : RunsResized R I
  unfolding RunsResized ResizedTo
  runs-resized s u z w h n old at room a b x y k i O F r G t q =
      gave w h at room _ i (ran F r not_255 none) G t q (resized-to (pair_of s) (pair_of u) w h n old at room (trusted s i).passes O F (went i none F r))

  runs-read-new : RunsReadNew R I
  unfolding RunsReadNew ReadsNew
  runs-read-new s u z w h mode from len old at room a b x y k i O F r G t q =
      gave w h at room _ i (ran F r not_255 none) G t q (reads-new (pair_of s) (pair_of u) w h mode from len old at room (trusted s i).passes O (went i none F r))

  runs-read-text : RunsReadText R I
  unfolding RunsReadText ReadsText
  runs-read-text s u z w v h g mode from len j at room a b x y k i L K F r G t q =
      gave v g at room _ i (ran F r not_255 none) G t q (reads-text (pair_of s) (pair_of u) w v h g mode from len j at room (trusted s i).passes L K (went i none F r))

  runs-ranges-full : RunsRangesFull R I
  unfolding RunsRangesFull RangesFull
  runs-ranges-full s u w h mode from len j x y k i F r z q =
      ok-number (one T i F r z).number (ranges-full (pair_of s) w h mode from len j (trusted s i).passes q)

  drawings : Drawings R I
  drawings = record {
    saved = runs-saved;
    both-saved = runs-both-saved;
    read_stays = runs-read-stays;
    rest = runs-rest;
    kept = runs-kept;
    read-rests = runs-read-rests;
    names-stay = runs-names-stay;
    found = runs-found;
    finds-it = runs-finds-it;
    laid-over = runs-laid-over;
    resized = runs-resized;
    read-new = runs-read-new;
    read-text = runs-read-text;
    ranges-full = runs-ranges-full;
  }

-- of tested functions, of an owner's, of both
pub tested-drawings : Drawings Ran Passes
unfolding Linked
tested-drawings = drawings linked (λ s y. y)

pub own-drawings : Drawings Owns Ready
unfolding OwnLinked
own-drawings = drawings own-linked (λ s y. y.trusted)

pub mixed-drawings : Drawings Mixed Passes
unfolding MixedLinked
mixed-drawings = drawings mixed-linked (λ s y. y)

-- ---- on any bytes

pub number-full : NumberFull
unfolding NumberFull Does FullExactly
number-full c s u x y n r z =
    subst (λ (k : ℕ). (k ≡ table_full) ↔ (ReachesCheck (pair_of s) c × NoPlace (pair_of s).table (asker c))) (sym (number_is (does-calls c s u x y n r) z)) (full-exactly c (pair_of s))

pub number-ranges : NumberRanges
unfolding NumberRanges Does ReasonsRanges
number-ranges s u x y n w h mode from len r z =
    subst (λ (k : ℕ). (k ≡ 0) ⊎ T (has (reasons_in mode) k)) (sym (number_is (does-calls (fallocate w h mode from len) s u x y n r) z)) (reasons-ranges w h mode from len (pair_of s))

pub old-opens : OldOpens
unfolding OldOpens OldOpen CheckSays OpenDoes
old-opens κs λs a t out out' u u' n C L z =
    (open-does λs a u u' n L z).0 ∙ ap answer (old-open a.now (table_of t.now) (sym (check-says κs a t out out' 0 C not_255)))
