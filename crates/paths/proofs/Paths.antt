-- On any pair: which reasons there are, and that the climb sticks with 19 alone; root's slash; the longest path.
use mathlib.Core.Path.{◌≡◌, refl, sym, ap, subst}
use mathlib.Core.Bool.{Bool, true, false, true≢false}
use mathlib.Core.List.{List, [], ◌∷◌, ◌++◌}
use mathlib.Core.Logic.{◌≢◌}
use Prim.Native.Nat.{ℕ, zero, suc, ◌+◌, ◌*◌, ◌≤◌, ◌<◌}
use native.Mathlib.Omega.{arith}
use lib.Dec.{eqb, ltb, leb}
use lib.ListN.{length, get_or, drop, length-take, length-append}
use borrow.Author.Tests.{lt-ltb, eq-eqb, eqb-true}
use Rattle.base.specs.Out.{Out, done, refused, bind, ensure, Ok, went, said}
use Rattle.base.specs.Parts.{part}
use Rattle.base.specs.Search.{pick}
use Rattle.base.proofs.Outs.{ok-bind, ok-guard, ensure-guard, ok-done}
use Rattle.base.proofs.Searches.{lowest-at-most}
use Rattle.structs.specs.Layout.{entry_of}
use Rattle.structs.specs.Types.{is_folder}
use Rattle.structs.specs.declared.DiskINode.{DiskINode}
use Rattle.structs.specs.declared.DiskEntry.{DiskEntry}
use Rattle.utf8.specs.Names.{name_of, zero_at, stored_name}
use Rattle.utf8.specs.declared.StoredName.{StoredName}
use Rattle.utf8.specs.declared.StoredName.TheVariants.{Ended, Broken}
use Rattle.utf8.proofs.Names.{stored-says}
use Rattle.table.specs.declared.Table.{Table}
use Rattle.table.specs.declared.Handle.{Handle}
use Rattle.table.specs.Table.{row_at}
use Rattle.sefs.specs.State.{Fs}
use Rattle.sefs.specs.Slots.{is_ended, slot_bytes, slot_at}
use Rattle.sefs.specs.Ask.{admit, by_handle, start}
use Rattle.sefs.specs.Read.{readable}
use Rattle.sefs.specs.Move.{dots_of}
use Rattle.rules.specs.Image.{later_slots}
use Rattle.sefs_laws.proofs.Says.{Says, says-done, says_then, says-guard, says-ensure, says-pick, says-meta, says-slot-bytes, says_slot, says-record, says-dots, says-admit, ensure-asks}
use Rattle.sefs_laws.proofs.Handles.{says-handle}
use Rattle.paths.specs.Path.{namer_to, name_in, most_folders, folder_on, names_to, slashed, path_of, call_path}
use Rattle.paths.specs.Laws.{RootSlash, Longest}

module _ (R : ℕ → Type 0) (stuck : R 19) where
  says-namer : (a : List ℕ) (r : DiskINode) (x n : ℕ) → Says R (namer_to a r x n)
  unfolding namer_to
  says-namer a r x zero = says-done
  says-namer a r x (suc n) =
      says_then (says-namer a r x n) λ j.
      says-pick (ltb j n) (done j) (bind (slot_bytes a r (2 + n)) (λ l. done (pick (eqb (entry_of l).id x) n (suc n)))) says-done
      (says_then (says-slot-bytes R stuck a r (2 + n)) λ l. says-done)

  pub says-name : (a : List ℕ) (r : DiskINode) (x : ℕ) → Says R (name_in a r x)
  unfolding name_in
  says-name a r x =
      says_then (says-namer a r x _) λ j. says_then (says-ensure (ltb j (later_slots r)) 19 stuck) λ _. says_then (says_slot R stuck a r (2 + j)) λ e. says-done

  pub says-folder : (s : Fs) → Says R s.meta → (id : ℕ) → Says R (folder_on s id)
  unfolding folder_on
  says-folder s h id = says_then (says-record R stuck s id h) λ r. says_then (says-ensure (is_folder r.kind) 19 stuck) λ _. says-done

  -- so it is all one whether a name is looked for before the climb goes on or after it
  pub says-names : (s : Fs) → Says R s.meta → (n x : ℕ) (r : DiskINode) → Says R (names_to s n x r)
  unfolding names_to
  says-names s h zero x r = says-guard (eqb x 2) 19 stuck says-done
  says-names s h (suc n) x r =
      says-pick (eqb x 2) (done []) _ says-done
      (says_then (says-dots R stuck s r) λ y. says_then (says-folder s h y) λ d. says_then (says-names s h n y d) λ l. says_then (says-name s.arena d x) λ p. says-done)

-- the call's reasons: "7; 8 for a removed folder; 20 if it doesn't fit; 19 if ..", after those of every call by handle
pub says-path : {R : ℕ → Type 0} → R 1 → R 2 → R 3 → R 6 → R 4 → R 7 → R 8 → R 19 → R 20
    → (a : List ℕ) (t : Table) (w : ℕ) (h : Handle) (room : ℕ) → Says R (call_path a t w h room)
unfolding call_path readable
says-path {R} one two three six four seven eight stuck full a t w h room =
    says_then (says-admit one two three a t) λ _. says_then (says-handle six four t w h) λ i.
    says_then (says_then (says-ensure (leb (row_at t i).rec.kind 4) 19 stuck) λ _. says-ensure (is_folder (row_at t i).rec.kind) 7 seven) λ _.
    says_then (says-ensure (ltb 0 (row_at t i).rec.nlinks) 8 eight) λ _.
    says_then (says-names R stuck (start a t) (says-meta R stuck a) most_folders (row_at t i).id (row_at t i).rec) λ names.
    says_then (says-ensure (leb (length (path_of names)) room) 20 full) λ _. says-done

-- ---- root

pub names-root : (s : Fs) (n : ℕ) (r : DiskINode) → names_to s n 2 r ≡ done []
unfolding names_to
names-root s zero r = refl
names-root s (suc n) r = refl

-- a count that is not 0, as 8 asks it
pub linked : (n : ℕ) → n ≢ 0 → ltb 0 n ≡ true
linked zero d = absurd (d refl)
linked (suc n) d = lt-ltb 0 (suc n) (omega arith)

-- a type that is 2 is not above 4
pub kind-two : (k : ℕ) → is_folder k ≡ true → leb k 4 ≡ true
kind-two k e = ap (λ (x : ℕ). leb x 4) (eqb-true k 2 e)

pub root-slash : RootSlash
unfolding RootSlash call_path readable
root-slash a t w h i room e l two f n =
    rw (e, l, kind-two (row_at t i).rec.kind f, f, linked (row_at t i).rec.nlinks n, two, names-root (start a t) most_folders (row_at t i).rec)
    (ensure-guard (leb 1 room) 20 (done (47 ∷ [])))

-- ---- a path that was given

-- whose it is, its names, and that it fits
pub record Shown (a : List ℕ) (t : Table) (w : ℕ) (h : Handle) (room : ℕ) (l : List ℕ) : Type 0 where
  pub row : ℕ
  pub by : by_handle t w h ≡ done row
  pub names : List (List ℕ)
  pub climbed : names_to (start a t) most_folders (row_at t row).id (row_at t row).rec ≡ done names
  pub is : l ≡ path_of names
  pub folder : is_folder (row_at t row).rec.kind ≡ true
  pub links : ltb 0 (row_at t row).rec.nlinks ≡ true
  pub fits : leb (length l) room ≡ true

pub own : {A : Type 0} (m : Out A) → Ok (λ x. m ≡ done x) (λ _. Unit) m
own (done x) = went refl
own (refused n) = said tt

path-law : (a : List ℕ) (t : Table) (w : ℕ) (h : Handle) (room : ℕ) → Ok (Shown a t w h room) (λ _. Unit) (call_path a t w h room)
unfolding call_path readable
path-law a t w h room =
    ok-bind (own (admit a t)) λ _ _.
    ok-bind (own (by_handle t w h)) λ i by.
    ok-bind (ok-bind (own (ensure (leb (row_at t i).rec.kind 4) 19)) λ _ _. ensure-asks (is_folder (row_at t i).rec.kind) 7 tt) λ _ f.
    ok-bind (ensure-asks (ltb 0 (row_at t i).rec.nlinks) 8 tt) λ _ n.
    ok-bind (own (names_to (start a t) most_folders (row_at t i).id (row_at t i).rec)) λ names e.
    ok-bind (ensure-asks (leb (length (path_of names)) room) 20 tt) λ _ fits.
    went (record { row = i; by = by; names = names; climbed = e; is = refl; folder = f; links = n; fits = fits })

pub path-shows : (a : List ℕ) (t : Table) (w : ℕ) (h : Handle) (room : ℕ) (l : List ℕ) → call_path a t w h room ≡ done l → Shown a t w h room l
path-shows a t w h room l e = ok-done (subst (Ok (Shown a t w h room) (λ _. Unit)) e (path-law a t w h room))

-- ---- the longest path

first-le : (n : List ℕ) (z : ℕ) → z < length n → get_or n z 0 ≡ 0 → zero_at n ≤ z
unfolding zero_at
first-le n z h e = lowest-at-most (λ i. eqb (get_or n i 0) 0) (length n) z h (eq-eqb (get_or n z 0) 0 e)

-- a stored name has at most 255 bytes
slot-short : (a : List ℕ) (r : DiskINode) (k : ℕ) → Ok (λ (e : DiskEntry). length (name_of e.name) ≤ 255) (λ _. Unit) (slot_at a r k)
unfolding slot_at entry_of
slot-short a r k = ok-bind (own (slot_bytes a r k)) λ l _. ok-guard (is_ended (stored_name (part l 4 260))) 19 tt λ e. went (short (part l 4 260) (omega (arith, length-take 256 (drop 4 l))) (stored_name (part l 4 260)) refl e)
  where
    short : (n : List ℕ) → length n ≤ 256 → (v : StoredName) → stored_name n ≡ v → is_ended v ≡ true → length (name_of n) ≤ 255
    short n h (Ended z) q e = let E = stored-says n z q in let F : zero_at n ≤ z = first-le n z E.inside E.zero in omega (arith, E.inside, length-take (zero_at n) n)
    short n h Broken q e = absurd (true≢false (sym e))

name-short : (a : List ℕ) (r : DiskINode) (x : ℕ) → Ok (λ (p : List ℕ). length p ≤ 255) (λ _. Unit) (name_in a r x)
unfolding name_in
name-short a r x =
    ok-bind (own (namer_to a r x (later_slots r))) λ j _. ok-bind (own (ensure (ltb j (later_slots r)) 19)) λ _ _. ok-bind (slot-short a r (2 + j)) λ e h. went h

-- n names of at most 255 bytes each, with their slashes
pub slashed-last : (ps : List (List ℕ)) (p : List ℕ) → length (slashed (ps ++ (p ∷ []))) ≡ length (slashed ps) + (1 + length p)
unfolding slashed
slashed-last [] p = omega (arith, length-append p [])
slashed-last (q ∷ ps) p = omega (arith, length-append q (slashed (ps ++ (p ∷ []))), length-append q (slashed ps), slashed-last ps p)

names-short : (s : Fs) (n x : ℕ) (r : DiskINode) → Ok (λ (ps : List (List ℕ)). length (slashed ps) ≤ 256 * n) (λ _. Unit) (names_to s n x r)
unfolding names_to slashed
names-short s zero x r = ok-guard (eqb x 2) 19 tt λ _. went {a = []} (omega arith)
names-short s (suc n) x r = go (eqb x 2) (names-short s n)
  where
    go : (b : Bool) → ((y : ℕ) (d : DiskINode) → Ok (λ (ps : List (List ℕ)). length (slashed ps) ≤ 256 * n) (λ _. Unit) (names_to s n y d)) → Ok (λ (ps : List (List ℕ)). length (slashed ps) ≤ 256 * suc n) (λ _. Unit)
        (pick b (done []) (bind (dots_of s r) (λ y. bind (folder_on s y) (λ d. bind (names_to s n y d) (λ ps. bind (name_in s.arena d x) (λ p. done (ps ++ (p ∷ []))))))))
    go true again = went {a = []} (omega arith)
    go false again =
        ok-bind (own (dots_of s r)) λ y _. ok-bind (own (folder_on s y)) λ d _.
        ok-bind (again y d) λ ps h. ok-bind (name-short s.arena d x) λ p g. went (omega (arith, slashed-last ps p, h, g))

path-long : (ps : List (List ℕ)) → length (slashed ps) ≤ 1048576 → length (path_of ps) ≤ 1048576
path-long [] h = omega arith
path-long (p ∷ ps) h = h

pub longest : Longest
unfolding Longest
longest a t w h room l e =
    let S = path-shows a t w h room l e in
    subst (λ (x : List ℕ). length x ≤ 1048576) (sym S.is)
    (path-long S.names (ok-done (subst (Ok (λ (ps : List (List ℕ)). length (slashed ps) ≤ 1048576) (λ _. Unit)) S.climbed
    (names-short (start a t) most_folders (row_at t S.row).id (row_at t S.row).rec))))
