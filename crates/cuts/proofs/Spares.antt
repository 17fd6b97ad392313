-- A store that was done leaves what it does not touch as it was.
use mathlib.Core.Path.{◌≡◌, subst}
use mathlib.Core.List.{List}
use mathlib.Core.Logic.{◌≢◌, ◌⊎◌, ⊎_elim}
use Prim.Native.Nat.{ℕ, ◌+◌, ◌*◌, ◌≤◌, ◌<◌}
use lib.ListN.{length}
use Rattle.base.specs.Out.{done, Ok}
use Rattle.base.proofs.Outs.{ok-done}
use Rattle.structs.specs.Layout.{super_bytes, record_bytes, entry_bytes}
use Rattle.arena.specs.Fields.{File}
use Rattle.files.specs.Read.{byte_at}
use Rattle.files.specs.Store.{put_file, cut_file, make_file}
use Rattle.files_laws.specs.Laws.{Named, Kept, Put, PutRefused, Cut, CutRefused, Make, MakeRefused}
use Rattle.files_laws.proofs.Put.{put-law}
use Rattle.files_laws.proofs.Cut.{cut-law}
use Rattle.files_laws.proofs.Make.{make-law}
use Rattle.sefs.specs.Meta.{meta_file, map_at}
use Rattle.cuts.specs.Stores.{Store, super, map, node, slot, long, make, after_store}

-- ---- stores that were done

pub put_is : (a b : List ℕ) (f : File) (pos : ℕ) (src : List ℕ) → put_file a f pos src ≡ done b → Put a f pos src b
put_is a b f pos src e = ok-done (subst (Ok (Put a f pos src) (PutRefused a f pos (length src))) e (put-law a f pos src))

pub cut-is : (a b : List ℕ) (f : File) (len : ℕ) → cut_file a f len ≡ done b → Cut a f len b
cut-is a b f len e = ok-done (subst (Ok (Cut a f len) (CutRefused a f len)) e (cut-law a f len))

pub make-is : (a b : List ℕ) (f : File) → Named f → make_file a f ≡ done b → Make a f b
make-is a b f N e = ok-done (subst (Ok (Make a f) (MakeRefused a)) e (make-law a f N))

-- ---- what a store leaves alone

-- n bytes from pos on of file h are elsewhere than byte p of file f
abbrev Apart : File → ℕ → ℕ → File → ℕ → Type 0
Apart h pos n f p = (h ≢ f) ⊎ ((h ≡ f) × (pos ≤ p → pos + n ≤ p))

-- byte p of file f; a file that is made has a file's name
abbrev pub Spares : File → ℕ → Store → Type 0
Spares f p (super b) = Apart meta_file 0 (length (super_bytes b)) f p
Spares f p (map g l) = Apart meta_file (map_at g) (length l) f p
Spares f p (node id r) = Apart meta_file (128 * id) (length (record_bytes r)) f p
Spares f p (slot h k e) = Apart h (264 * k) (length (entry_bytes e)) f p
Spares f p (long h len) = (h ≢ f) ⊎ ((h ≡ f) × (p < len))
Spares f p (make h) = Named h × ((h ≢ f) ⊎ (h ≡ f))

put-spares : (a b : List ℕ) (h : File) (pos : ℕ) (src : List ℕ) (f : File) (p : ℕ) → Apart h pos (length src) f p → put_file a h pos src ≡ done b
    → byte_at b f p ≡ byte_at a f p
put-spares a b h pos src f p x e =
    let P = put_is a b h pos src e in
    ⊎_elim (λ d. (P.others f d).byte p) (λ y. subst (λ (g : File). byte_at b g p ≡ byte_at a g p) y.0 (P.outside p y.1)) x

pub spare-one : (s : Store) (a b : List ℕ) (f : File) (p : ℕ) → Spares f p s → after_store s a ≡ done b → byte_at b f p ≡ byte_at a f p
unfolding after_store
spare-one (super m) a b f p x e = put-spares a b meta_file 0 (super_bytes m) f p x e
spare-one (map g l) a b f p x e = put-spares a b meta_file (map_at g) l f p x e
spare-one (node id r) a b f p x e = put-spares a b meta_file (128 * id) (record_bytes r) f p x e
spare-one (slot h k s) a b f p x e = put-spares a b h (264 * k) (entry_bytes s) f p x e
spare-one (long h len) a b f p x e =
    let C = cut-is a b h len e in
    ⊎_elim (λ d. (C.others f d).byte p) (λ y. subst (λ (g : File). byte_at b g p ≡ byte_at a g p) y.0 (C.below p y.1)) x
spare-one (make h) a b f p x e =
    let M = make-is a b h x.0 e in
    ⊎_elim (λ d. (M.others f d).byte p) (λ y. subst (λ (g : File). byte_at b g p ≡ byte_at a g p) y (M.byte p)) x.1

-- ---- of another file it leaves all alone

abbrev pub Else : File → Store → Type 0
Else f (super b) = meta_file ≢ f
Else f (map g l) = meta_file ≢ f
Else f (node id r) = meta_file ≢ f
Else f (slot h k e) = h ≢ f
Else f (long h len) = h ≢ f
Else f (make h) = Named h × (h ≢ f)

pub kept-one : (s : Store) (a b : List ℕ) (f : File) → Else f s → after_store s a ≡ done b → Kept a b f
unfolding after_store
kept-one (super m) a b f x e = (put_is a b meta_file 0 _ e).others f x
kept-one (map g l) a b f x e = (put_is a b meta_file (map_at g) l e).others f x
kept-one (node id r) a b f x e = (put_is a b meta_file (128 * id) _ e).others f x
kept-one (slot h k s) a b f x e = (put_is a b h (264 * k) _ e).others f x
kept-one (long h len) a b f x e = (cut-is a b h len e).others f x
kept-one (make h) a b f x e = (make-is a b h x.0 e).others f x.1
