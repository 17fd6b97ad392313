-- For the code: what a step of the first pass says, what is known of the folder k steps up, and the bytes of names that follow one another.
use mathlib.Core.Path.{◌≡◌, refl, sym, ap, ◌∙◌, subst}
use mathlib.Core.List.{List, [], ◌∷◌, ◌++◌, append-nil, append_assoc}
use mathlib.Core.Logic.{◌≢◌}
use Prim.Native.Nat.{ℕ, zero, suc}
use native.Mathlib.Omega.{arith}
use lib.ListN.{length, length-append}
use Rattle.base.specs.Out.{Out, done, refused, bind, ensure, kept, Ok, went, said}
use Rattle.base.proofs.Outs.{ok-bind, ok-done, bind-is-done}
use Rattle.structs.specs.Types.{is_folder}
use Rattle.structs.specs.declared.DiskINode.{DiskINode}
use Rattle.sefs.specs.State.{Fs}
use Rattle.sefs.specs.Move.{record_on, dots_of}
use Rattle.sefs_laws.proofs.Says.{Says, says-dots}
use Rattle.walk.specs.Walk.{Spot, spot}
use Rattle.paths.specs.Path.{name_in, folder_on, names_to, slashed}
use Rattle.paths.specs.Spans.{above_of, Reached, reached, step_up, up_by, last_to}
use Rattle.paths.proofs.Paths.{says-name, says-folder, own}
use Rattle.paths.proofs.Spans.{turn-goes, turn-dots, turn-folder, turn-name}

-- ---- the folder above

pub record Above (s : Fs) (r : DiskINode) (u : Spot) : Type 0 where
  pub dots : dots_of s r ≡ done u.id
  pub folder : folder_on s u.id ≡ done u.rec

above-law : (s : Fs) (r : DiskINode) → Ok (Above s r) (λ _. Unit) (above_of s r)
unfolding above_of
above-law s r = ok-bind (own (dots_of s r)) λ y e. ok-bind (own (folder_on s y)) λ d f. went (record { dots = e; folder = f })

pub above-was : (s : Fs) (r : DiskINode) (u : Spot) → above_of s r ≡ done u → Above s r u
above-was s r u e = ok-done (subst (Ok (Above s r) (λ _. Unit)) e (above-law s r))

-- what goes on from the folder above
by-above : {A : Type 0} (s : Fs) (r : DiskINode) (f : Spot → Out A) → bind (dots_of s r) (λ y. bind (folder_on s y) (λ d. f (spot y d))) ≡ bind (above_of s r) f
unfolding above_of
by-above s r f = dots (dots_of s r)
  where
    folder : (y : ℕ) (o : Out DiskINode) → bind o (λ d. f (spot y d)) ≡ bind (bind o (λ d. done (spot y d))) f
    folder y (done d) = refl
    folder y (refused n) = refl

    dots : (o : Out ℕ) → bind o (λ y. bind (folder_on s y) (λ d. f (spot y d))) ≡ bind (bind o (λ y. bind (folder_on s y) (λ d. done (spot y d)))) f
    dots (done y) = folder y (folder_on s y)
    dots (refused n) = refl

-- a folder is a node's record
pub folder-record : (s : Fs) (id : ℕ) (r : DiskINode) → folder_on s id ≡ done r → record_on s id ≡ done r
unfolding folder_on
folder-record s id r e =
    let B = bind-is-done (record_on s id) (λ d. bind (ensure (is_folder d.kind) 19) (λ _. done d)) r e in
    B.1 ∙ (bind-is-done (ensure (is_folder B.0.kind) 19) (λ _. done B.0) r B.2).2

-- ---- a step of the first pass

-- it was done: the folder above is there, and the name of the one below in it
pub record Step (s : Fs) (x : ℕ) (r : DiskINode) (v : Reached) : Type 0 where
  pub above : above_of s r ≡ done v.up
  pub name : List ℕ
  pub named : name_in s.arena v.up.rec x ≡ done name
  pub long : length name ≡ v.long

step-law : (s : Fs) (x : ℕ) (r : DiskINode) → Ok (Step s x r) (λ _. Unit) (step_up s x r)
unfolding step_up
step-law s x r = ok-bind (own (above_of s r)) λ u e. ok-bind (own (name_in s.arena u.rec x)) λ p g. went (record { above = e; name = p; named = g; long = refl })

pub step-was : (s : Fs) (x : ℕ) (r : DiskINode) (v : Reached) → step_up s x r ≡ done v → Step s x r v
step-was s x r v e = ok-done (subst (Ok (Step s x r) (λ _. Unit)) e (step-law s x r))

module _ (s : Fs) (n x : ℕ) (r : DiskINode) (d : x ≢ 2) where
  -- the names are those of the folder above, and this one
  pub step-goes : (v : Reached) (S : Step s x r v) → names_to s (suc n) x r ≡ bind (names_to s n v.up.id v.up.rec) (λ names. done (names ++ (S.name ∷ [])))
  step-goes v S = let A = above-was s r v.up S.above in turn-goes s n x r d v.up.id v.up.rec S.name A.dots A.folder S.named

  -- a step that sticks says what the climb says, since the climb has one reason only
  pub step-sticks : Says (λ k. k ≡ 19) s.meta → (m : ℕ) → step_up s x r ≡ refused m → names_to s (suc n) x r ≡ refused m
  unfolding step_up above_of
  step-sticks h m = dots (dots_of s r) refl (says-dots (λ k. k ≡ 19) refl s r)
    where
      again : Spot → Out Reached
      again u = bind (name_in s.arena u.rec x) (λ name. done (reached u (length name)))

      name : (y : ℕ) (u : DiskINode) → dots_of s r ≡ done y → folder_on s y ≡ done u → (o : Out (List ℕ)) → name_in s.arena u x ≡ o → Says (λ k. k ≡ 19) o
          → bind o (λ name. done (reached (spot y u) (length name))) ≡ refused m → names_to s (suc n) x r ≡ refused m
      name y u q f (done l) g z e = absurd (let w : ◌≡◌ {A = ℕ} 0 1 = cc in omega arith)
      name y u q f (refused k) g (said z) e =
          let w : k ≡ m = cc in
          turn-name s n x r d h y u q f (g ∙ ap refused z) ∙ ap refused (sym z ∙ w)

      folder : (y : ℕ) → dots_of s r ≡ done y → (o : Out DiskINode) → folder_on s y ≡ o → Says (λ k. k ≡ 19) o
          → bind (bind o (λ u. done (spot y u))) again ≡ refused m → names_to s (suc n) x r ≡ refused m
      folder y q (done u) f z e = name y u q f (name_in s.arena u x) refl (says-name (λ k. k ≡ 19) refl s.arena u x) e
      folder y q (refused k) f (said z) e =
          let w : k ≡ m = cc in
          turn-folder s n x r d y q (f ∙ ap refused z) ∙ ap refused (sym z ∙ w)

      dots : (o : Out ℕ) → dots_of s r ≡ o → Says (λ k. k ≡ 19) o → bind (bind o (λ y. bind (folder_on s y) (λ u. done (spot y u)))) again ≡ refused m → names_to s (suc n) x r ≡ refused m
      dots (done y) q z e = folder y q (folder_on s y) refl (says-folder (λ k. k ≡ 19) refl s h y) e
      dots (refused k) q (said z) e =
          let w : k ≡ m = cc in
          turn-dots s n x r d (q ∙ ap refused z) ∙ ap refused (sym z ∙ w)

-- ---- the folder k steps up

up_next : (s : Fs) (k x : ℕ) (r : DiskINode) → up_by s (suc k) x r ≡ bind (above_of s r) (λ u. up_by s k u.id u.rec)
unfolding up_by
up_next s k x r = by-above s r (λ u. up_by s k u.id u.rec)

-- one step further at the top
pub up_more : (s : Fs) (k x : ℕ) (r : DiskINode) (u v : Spot) → up_by s k x r ≡ done u → above_of s u.rec ≡ done v → up_by s (suc k) x r ≡ done v
unfolding up_by
up_more s zero x r u v e f =
    let q : spot x r ≡ u = cc in
    up_next s 0 x r ∙ ap (λ (o : Out Spot). bind o (λ w. done (spot w.id w.rec))) (ap (λ (w : Spot). above_of s w.rec) q ∙ f)
up_more s (suc k) x r u v e f =
    let B = bind-is-done (above_of s r) (λ w. up_by s k w.id w.rec) u (sym (up_next s k x r) ∙ e) in
    up_next s (suc k) x r
    ∙ ap (λ (o : Out Spot). bind o (λ w. up_by s (suc k) w.id w.rec)) B.1
    ∙ up_more s k B.0.id B.0.rec u v B.2 f

-- a folder above was looked at by its id
pub up-looked : (s : Fs) (k x : ℕ) (r : DiskINode) (u : Spot) → up_by s (suc k) x r ≡ done u → folder_on s u.id ≡ done u.rec
unfolding up_by
up-looked s zero x r u e =
    let B = bind-is-done (above_of s r) (λ w. done (spot w.id w.rec)) u (sym (up_next s 0 x r) ∙ e) in
    (above-was s r u (B.1 ∙ ap done (ap (kept u) B.2))).folder
up-looked s (suc k) x r u e =
    let B = bind-is-done (above_of s r) (λ w. up_by s (suc k) w.id w.rec) u (sym (up_next s (suc k) x r) ∙ e) in
    up-looked s k B.0.id B.0.rec u B.2

-- ---- the names of the lowest k folders

last-long : (s : Fs) (k x : ℕ) (r : DiskINode) → Ok (λ l. length l ≡ k) (λ _. Unit) (last_to s k x r)
unfolding last_to
last-long s zero x r = went refl
last-long s (suc k) x r =
    ok-bind (own (dots_of s r)) λ y _. ok-bind (own (folder_on s y)) λ d _. ok-bind (last-long s k y d) λ l h. ok-bind (own (name_in s.arena d x)) λ p _.
    went (omega (arith, length-append l (p ∷ [])))

pub last-count : (s : Fs) (k x : ℕ) (r : DiskINode) (l : List (List ℕ)) → last_to s k x r ≡ done l → length l ≡ k
last-count s k x r l e = ok-done (subst (Ok (λ l. length l ≡ k) (λ _. Unit)) e (last-long s k x r))

last-next : (s : Fs) (k x : ℕ) (r : DiskINode)
    → last_to s (suc k) x r ≡ bind (above_of s r) (λ u. bind (last_to s k u.id u.rec) (λ names. bind (name_in s.arena u.rec x) (λ name. done (names ++ (name ∷ [])))))
unfolding last_to
last-next s k x r = by-above s r (λ u. bind (last_to s k u.id u.rec) (λ names. bind (name_in s.arena u.rec x) (λ name. done (names ++ (name ∷ [])))))

-- the names of the folder above, and then its own
pub record Last (s : Fs) (k x : ℕ) (u : Spot) (names : List (List ℕ)) : Type 0 where
  pub above : List (List ℕ)
  pub climbed : last_to s k u.id u.rec ≡ done above
  pub name : List ℕ
  pub named : name_in s.arena u.rec x ≡ done name
  pub is : names ≡ above ++ (name ∷ [])

module _ (s : Fs) (k x : ℕ) (r : DiskINode) (names : List (List ℕ)) (e : last_to s (suc k) x r ≡ done names) where
  -- there is a folder above
  pub last_up : (u : Spot) × (above_of s r ≡ done u)
  last_up =
      let B = bind-is-done (above_of s r) (λ u. bind (last_to s k u.id u.rec) (λ l. bind (name_in s.arena u.rec x) (λ name. done (l ++ (name ∷ []))))) names (sym (last-next s k x r) ∙ e) in
      (B.0, B.1)

  pub last-was : (u : Spot) → above_of s r ≡ done u → Last s k x u names
  last-was u f = ok-done (subst (Ok (Last s k x u) (λ _. Unit)) e (rw (last-next s k x r, f) law))
    where
      law : Ok (Last s k x u) (λ _. Unit) (bind (last_to s k u.id u.rec) (λ l. bind (name_in s.arena u.rec x) (λ name. done (l ++ (name ∷ [])))))
      law = ok-bind (own (last_to s k u.id u.rec)) λ l g. ok-bind (own (name_in s.arena u.rec x)) λ p h.
          went (record { above = l; climbed = g; name = p; named = h; is = refl })

-- ---- bytes

pub slashed-join : (ps qs : List (List ℕ)) → slashed (ps ++ qs) ≡ slashed ps ++ slashed qs
unfolding slashed
slashed-join [] qs = refl
slashed-join (p ∷ ps) qs = ap (λ (l : List ℕ). 47 ∷ (p ++ l)) (slashed-join ps qs) ∙ ap (λ (l : List ℕ). 47 ∷ l) (sym (append_assoc p (slashed ps) (slashed qs)))

pub slashed-one : (p : List ℕ) → slashed (p ∷ []) ≡ 47 ∷ p
unfolding slashed
slashed-one p = ap (λ (l : List ℕ). 47 ∷ l) (append-nil p)
