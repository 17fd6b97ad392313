-- Bytes that move up: the length, the blocks, and then one write. What is then known of the file, for the zeros of an insert.
use mathlib.Core.Path.{◌≡◌, sym, ap, ap₂, ◌∙◌, subst}
use mathlib.Core.Bool.{Bool, true, false, ◌||◌}
use mathlib.Core.List.{List}
use mathlib.Core.Logic.{⊎_elim}
use Prim.Native.Nat.{ℕ, suc, ◌+◌, ◌/◌, ◌≤◌}
use native.Mathlib.Omega.{arith}
use lib.ListN.{length}
use lib.Dec.{ltb}
use Rattle.base.specs.Out.{Out, done, bind}
use Rattle.base.specs.Parts.{tab}
use Rattle.base.specs.Search.{pick}
use Rattle.base.proofs.Bools.{bool_cases}
use Rattle.base.proofs.Lists.{length-tab, tab-cong}
use Rattle.base.proofs.Sames.{or_no}
use Rattle.le.specs.Le.{Bytes, le_put}
use Rattle.arena.specs.Blocks.{blk, put_blk}
use Rattle.arena.specs.Fields.{File, number_of, seal}
use Rattle.arena.specs.Places.{head_of, data_of}
use Rattle.files.specs.Read.{there, length_of, present, byte_at}
use Rattle.files.specs.Store.{raise, touched, put_file}
use Rattle.files.proofs.Puts.{raise-is}
use Rattle.files_laws.specs.Laws.{touches}
use Rattle.files_laws.proofs.Put.{Upto, put-upto, put-starts}
use Rattle.pieces.specs.Made.{made_to, Made, UpPut}
use Rattle.pieces.specs.Pieces.{pieces, copy_up}
use Rattle.pieces.proofs.Fronts.{SameFronts, fronts-there, fronts-head, fronts-data, fronts-present, over-fronts}
use Rattle.pieces.proofs.Ups.{made-goes, made-is, made-here, made_kept, up-put}
use Rattle.chains.specs.Led.{block_at}
use Rattle.plans.specs.Plan.{Places}
use Rattle.range_stores.specs.Moves.{Movable, Makable, Fillable}
use Rattle.range_stores.proofs.Makes.{made-raised}
use Rattle.range_stores.proofs.Sources.{readable_of}

module _ {a : List ℕ} {f : File} {h src dst n : ℕ} {plan source : List ℕ} (M : Movable a f h src dst n plan source) (up : src ≤ dst) (B : Bytes a) where
  abbrev moved : List ℕ
  moved = tab (byte_at a f) src n

  size : length moved ≡ n
  size = length-tab (byte_at a f) src n

  -- the length is raised
  raised : Upto a f dst moved 0 (raise a f (dst + n))
  raised =
      put-upto a f dst moved M.exists (omega (arith, size, M.range)) 0 (raise a f (dst + n)) (omega arith)
      (put-starts a f dst moved ∙ ap (λ (m : ℕ). done (raise a f (dst + m))) size)

  long : dst + n ≤ length_of (raise a f (dst + n)) f
  long = omega (arith, raised.long, size)

  -- as the code raises it
  abbrev RaisedTo : List ℕ → Type 0
  RaisedTo r = r ≡ pick (ltb (number_of (blk a h)) (dst + n)) (put_blk a h (seal (le_put (blk a h) 20 4 (dst + n)))) a

  is-raised : (r : List ℕ) → RaisedTo r → r ≡ raise a f (dst + n)
  is-raised r e = e ∙ raise-is a f h (dst + n) M.head M.exists

  -- blocks that are made after that
  pub up-made : (r d : List ℕ) → RaisedTo r → made_to r f dst n (pieces n) ≡ done d → made_to a f dst n (pieces n) ≡ done d
  up-made r d g e = sym (ap (λ (x : List ℕ). made_to x f dst n (pieces n)) (is-raised r g) ∙ made-raised a f dst n long (pieces n)) ∙ e

  -- and the blocks can be made
  pub up-makable : (r : List ℕ) → RaisedTo r → Makable r f dst n plan
  up-makable r e =
      let G = made-goes a f dst n M.exists M.range M.plan.room (pieces n) (omega arith) in
      subst (λ (x : List ℕ). Makable x f dst n plan) (sym (is-raised r e)) (record {
        most = omega (arith, M.most, raised.size);
        exists = raised.exists;
        long = long;
        range = M.range;
        few = M.plan.few;
        places = λ i l.
            M.plan.places i l ∙ ap₂ (λ (t : Bool) (k : ℕ). pick t (suc k) 0) (sym (raised.rest (dst / 480 + i) (λ _. omega arith)))
            (sym (raised.place (dst / 480 + i) (λ _. omega arith)));
        goes = (G.0, made-raised a f dst n long (pieces n) ∙ G.1);
      })

  -- the blocks are made
  module _ {m : List ℕ} (made : made_to a f dst n (pieces n) ≡ done m) where
    all : Made a f dst n m
    all = made-is a f dst n M.exists M.range M.fine B m made

    -- the bytes can be written over them, by the plan that now has them all
    pub up-fillable : (is : List ℕ) → length is ≡ length plan → Places m f dst is (touched dst n) → Fillable m f src dst n is source
    up-fillable is same P = record {
      fine = all.keeps;
      exists = all.exists;
      some = M.some;
      back = up;
      long = omega (arith, all.long);
      here = made-here a f dst n m all;
      few = omega (arith, M.plan.few);
      places = P;
      read = readable_of a m f src n source M.read (λ q y. (made_kept a f (dst + n) dst n m all q y, all.place q y)) all.byte;
    }

    -- that is the copy
    pub up-whole : (d : List ℕ) → put_file m f dst (tab (byte_at m f) src n) ≡ done d → copy_up a f src dst n ≡ done d
    unfolding UpPut
    up-whole d e =
        up-put a f src dst n M.fine B M.exists up M.some M.range M.long M.plan.room
        ∙ ap (λ (o : Out (List ℕ)). bind o (λ x. put_file x f dst moved)) made
        ∙ ap (put_file m f dst) (tab-cong (byte_at a f) (byte_at m f) src src n (λ i l. sym (all.byte (src + i))))
        ∙ e

    -- the write leaves the blocks where they are
    over : (l d : List ℕ) → length l ≡ n → put_file m f dst l ≡ done d → SameFronts m d
    over l d same e =
        over-fronts m f dst l all.exists (omega (arith, all.long)) (omega (arith, M.range))
        (λ q t. made-here a f dst n m all q (subst (λ (k : ℕ). touches dst k q ≡ true) same t)) d e

    -- and the plan holds afterwards
    pub up-places : (is d : List ℕ) → Places m f dst is (touched dst n) → put_file m f dst (tab (byte_at m f) src n) ≡ done d → Places d f dst is (touched dst n)
    up-places is d P e i l =
        let A = over (tab (byte_at m f) src n) d (length-tab (byte_at m f) src n) e in
        P i l ∙ ap₂ (λ (t : Bool) (k : ℕ). pick t (suc k) 0) (fronts-present m d A f (dst / 480 + i)) (fronts-data m d A f (dst / 480 + i))

  -- ---- what the copy leaves

  module _ {d : List ℕ} (e : copy_up a f src dst n ≡ done d) where
    m : List ℕ
    m = (made-goes a f dst n M.exists M.range M.plan.room (pieces n) (omega arith)).0

    made : made_to a f dst n (pieces n) ≡ done m
    unfolding m
    made = (made-goes a f dst n M.exists M.range M.plan.room (pieces n) (omega arith)).1

    alike : SameFronts m d
    unfolding UpPut
    alike =
        over made moved d size
        (sym (up-put a f src dst n M.fine B M.exists up M.some M.range M.long M.plan.room ∙ ap (λ (o : Out (List ℕ)). bind o (λ x. put_file x f dst moved)) made) ∙ e)

    -- the file and its head
    pub up-there : there d f ≡ true
    up-there = sym (fronts-there m d alike f) ∙ (all made).exists

    pub up-head : head_of d f ≡ head_of a f
    up-head = sym (fronts-head m d alike f) ∙ (all made).head

    -- a block that the bytes do not come to lie in stays as it is
    pub up_apart : (q : ℕ) → touches dst n q ≡ false → block_at d f q ≡ block_at a f q
    up_apart q free =
        let same : present d f q ≡ present a f q =
        sym (fronts-present m d alike f q) ∙ (all made).block q ∙ ap (λ (t : Bool). present a f q || t) free ∙ or_no (present a f q) in
        ⊎_elim
        (λ y. ap₂ (λ (t : Bool) (k : ℕ). pick t (suc k) 0) same (sym (fronts-data m d alike f q) ∙ (all made).place q y))
        (λ g. ap (λ (t : Bool). pick t (suc (data_of d f q)) 0) (same ∙ g) ∙ sym (ap (λ (t : Bool). pick t (suc (data_of a f q)) 0) g))
        (bool_cases (present a f q))
