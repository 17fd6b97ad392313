-- An insert: bytes move up, and the hole that they leave becomes zero, by the same plan.
use mathlib.Core.Path.{◌≡◌, refl, sym, ap, ◌∙◌}
use mathlib.Core.Bool.{Bool, true, false}
use mathlib.Core.List.{List, ◌++◌}
use mathlib.Core.Logic.{⊎_elim}
use Prim.Native.Nat.{ℕ, ◌+◌, ◌-◌, ◌/◌, ◌≤◌, ◌<◌}
use native.Mathlib.Decide.{ℕ_discrete}
use native.Mathlib.Omega.{arith}
use lib.ListN.{length, take, drop, get_or, length-append, get_or-append}
use lib.Dec.{leb}
use lib.Seq.{get_or-take, get_or-append-add, length-take-le}
use borrow.Author.Tests.{le-leb, leb-true, le-ltb}
use Rattle.base.specs.Out.{Out, done, bind, answer}
use Rattle.base.specs.Parts.{part, back}
use Rattle.base.specs.Search.{pick}
use Rattle.base.proofs.Lists.{length_part, get_d_part}
use Rattle.base.proofs.Numbers.{lt-or-le}
use Rattle.le.specs.Le.{Bytes}
use Rattle.arena.specs.Fields.{File}
use Rattle.arena.specs.Places.{free_count, head_of}
use Rattle.files.specs.Read.{there}
use Rattle.files.specs.Store.{lo, hi, touched}
use Rattle.files_laws.specs.Laws.{lacking}
use Rattle.pieces.specs.Counts.{ZerosNeed, InsertNeeds}
use Rattle.pieces.specs.Pieces.{write_zeros, copy_up}
use Rattle.pieces.proofs.Counts.{zeros-need, insert-needs}
use Rattle.files_laws.proofs.Lacking.{lacking-part}
use Rattle.chains.specs.Led.{block_at}
use Rattle.plans.specs.Plan.{Places, Planned}
use Rattle.plans.proofs.Plans.{touched-some, touched_none}
use Rattle.range_stores.specs.Moves.{Movable, Insertable}
use Rattle.range_stores.proofs.Ups.{up-there, up-head, up_apart}

room_of : (t : Bool) → ◌≡◌ {A = ℕ} (pick t 0 17) 0 → t ≡ true
room_of true e = refl
room_of false e = absurd (omega arith)

-- both steps are done
pub hole-whole : (a : List ℕ) (f : File) (from dst len n : ℕ) (d b : List ℕ) → copy_up a f from dst n ≡ done d → write_zeros d f from len ≡ done b
    → bind (copy_up a f from dst n) (λ c. write_zeros c f from len) ≡ done b
hole-whole a f from dst len n d b e h = ap (λ (o : Out (List ℕ)). bind o (λ c. write_zeros c f from len)) e ∙ h

-- blocks of the hole and of the bytes after it
module _ (from len n : ℕ) (some : 0 < n) where
  abbrev o : ℕ
  o = (from + len) / 480 - from / 480

  after : from / 480 + o ≡ (from + len) / 480
  after = omega arith

  both : o + touched (from + len) n ≡ touched from (len + n)
  both = omega (arith, touched-some (from + len) n (λ z. omega arith), touched-some from (len + n) (λ z. omega arith))

  starts : 0 < touched (from + len) n
  starts = omega (arith, touched-some (from + len) n (λ z. omega arith))

  -- the hole's last block may be the first after it
  hole-most : touched from len ≤ o + 1
  hole-most = elim (ℕ_discrete len 0) [
    | yes z ↦ omega (arith, touched_none from len z)
    | no x ↦ omega (arith, touched-some from len x)
  ]

module _ {a : List ℕ} {f : File} {k from len n : ℕ} {plan source : List ℕ} (I : Insertable a f k from len n plan source) where
  abbrev p : ℕ
  p = (from + len) / 480 - from / 480

  -- the plan is long enough for a later part
  pub hole-long : p ≤ length plan
  hole-long = omega (arith, both from len n I.some, I.plan.few)

  abbrev rest : List ℕ
  rest = drop (length plan - p) (drop p plan)

  later-long : length (part plan p (length plan)) ≡ length plan - p
  later-long = length_part plan p (length plan) hole-long (omega arith)

  -- the bytes are moved by the plan's later part
  pub hole-movable : Movable a f k from (from + len) n (part plan p (length plan)) source
  hole-movable = record {
    most = I.most;
    fine = I.fine;
    exists = I.exists;
    head = I.head;
    some = I.some;
    long = I.long;
    range = I.range;
    plan = record {
      few = omega (arith, both from len n I.some, I.plan.few, later-long);
      room = omega (arith, I.plan.room, lacking-part a f (from + len) n from (len + n) (omega arith) (omega arith));
      places = λ i l.
          get_d_part plan p (length plan) i (omega (arith, both from len n I.some, I.plan.few))
          ∙ I.plan.places (p + i) (omega (arith, both from len n I.some))
          ∙ ap (block_at a f) (let e : from / 480 + (p + i) ≡ (from + len) / 480 + i = omega arith in e);
    };
    read = I.read;
  }

  -- and what it then has is the zeros' plan
  module _ (B : Bytes a) {d : List ℕ} (e : copy_up a f from (from + len) n ≡ done d) where
    -- the file is there, and its head where it was
    pub hole-there : there d f ≡ true
    hole-there = up-there hole-movable (omega arith) B e

    room : lacking d f from len ≤ free_count d
    unfolding ZerosNeed InsertNeeds
    room =
        let z : answer (write_zeros d f from len) ≡ 0 =
        sym (ap (λ (x : Out (List ℕ)). answer (bind x (λ c. write_zeros c f from len))) e)
        ∙ insert-needs a f from len n I.exists I.range I.long
        ∙ ap (λ (t : Bool). pick t 0 17) (le-leb (lacking a f from (len + n)) (free_count a) I.plan.room) in
        leb-true (lacking d f from len) (free_count d)
        (room_of (leb (lacking d f from len) (free_count d)) (sym (zeros-need d f from len hole-there (omega (arith, I.range))) ∙ z))

    pub hole-head : k ≡ head_of d f
    hole-head = I.head ∙ sym (up-head hole-movable (omega arith) B e)

    -- the plan, with its later part as the copy left it
    pub hole-planned : (is : List ℕ) → length is ≡ length (part plan p (length plan)) → Places d f (from + len) is (touched (from + len) n) → Planned d f from len (back plan p (length plan) is)
    hole-planned is size P = record {
      few = omega (
        arith,
        length-append (take p plan) (is ++ rest),
        length-append is rest,
        first,
        size,
        later-long,
        I.plan.few,
        both from len n I.some,
        starts from len n
            I.some,
        hole-most from len n I.some,
      );
      room = room;
      places = places;
    }
      where
        first : length (take p plan) ≡ p
        first = length-take-le p plan hole-long

        places : (i : ℕ) → i < touched from len → get_or (take p plan ++ (is ++ rest)) i 0 ≡ block_at d f (from / 480 + i)
        places i l =
            ⊎_elim
            (λ (x : i < p).
            get_or-append (take p plan) (is ++ rest) 0 i (omega (arith, first))
            ∙ get_or-take p plan i 0 x
            ∙ I.plan.places i (omega (arith, both from len n I.some))
            ∙ sym (up_apart hole-movable (omega arith) B e (from / 480 + i)
            (le-ltb (lo (from + len) (from / 480 + i)) (hi (from + len) n (from / 480 + i)) (omega arith))))
            (λ y.
            let x : i ≡ p = omega (arith, hole-most from len n I.some) in
            ap (λ (j : ℕ). get_or (take p plan ++ (is ++ rest)) j 0) (let z : i ≡ length (take p plan) + 0 = omega (arith, first) in z)
            ∙ get_or-append-add (take p plan) (is ++ rest) 0 0
            ∙ get_or-append is rest 0 0 (omega (arith, size, later-long, I.plan.few, both from len n I.some, starts from len n I.some))
            ∙ P 0 (starts from len n I.some)
            ∙ ap (block_at d f) (let z : (from + len) / 480 + 0 ≡ from / 480 + i = omega arith in z))
            (lt-or-le i p)
