-- `sound::chain::add_block`: a free block is zero; a used one has its layout, and no block before it in its chain has its key.
use mathlib.Core.Path.{◌≡◌, sym, ◌∙◌, ap}
use mathlib.Core.Bool.{true≢false, true}
use mathlib.Core.List.{List}
use Prim.Native.Nat.{ℕ}
use native.Mathlib.Omega.{arith}
use lib.Dec.{eqb}
use lib.ListN.{get_or, length-take, length-drop}
use Rattle.base.specs.Parts.{part}
use Rattle.base.specs.Search.{last}
use Rattle.arena.specs.Blocks.{blk}
use Rattle.arena.specs.Fields.{tag_of, which_of, name_of, file_of}
use Rattle.arena.proofs.Blocks.{length-blk}
use Rattle.sound.specs.Sound.{layout}
use Rattle.sound.specs.Chain.{is_key, hash_key, hash_of, in_bucket, firsts, nexts}
use Rattle.sound.proofs.Sounds.{free-sound}
use Rattle.sound.proofs.Chains.{chains-skip, get_or-firsts, chains-insert, own_key, once-seen, once-new, alone-free, alone-bad, alone-used, layout-tag}
use Rattle.sound.proofs.chain.add_block.Goals as goal
use Rattle.sound.proofs.chain.add_block.Goals.{After-find_key, Else-not-layout_ok}

pub returns-then-part-eq0 : goal.returns-then-part-eq0
unfolding blk
returns-then-part-eq0 c =
    let t = c.if-part-eq0.true in
    let a = c.args.arena.now in record { value = c.all_zero.ensures ∙ sym (alone-free a c.args.k t ∙ free-sound (blk a c.args.k) (length-blk a c.args.k c.requires.k_bound.0) t); chains_2 = λ _. chains-skip a (firsts c.args.chains.now) (nexts c.args.chains.now) c.args.k c.requires.chains t }

pub returns-then-not-layout_ok : goal.returns-then-not-layout_ok
unfolding blk
returns-then-not-layout_ok c = record { value = sym (alone-bad c.args.arena.now c.args.k c.if-part-eq0.false (sym c.layout_ok.ensures ∙ c.if-not-layout_ok.true)); chains_2 = λ e. absurd (true≢false (sym e)) }

pub find_key-requires : goal.find_key-requires
find_key-requires c =
    let l = c.args.chains.now in
    let C = c.requires.chains in record { name_len = (simp (length-take, length-drop) (omega (arith, c.requires.k_bound.0)), (omega (arith, c.requires.k_bound.0), simp (length-take, length-drop) (omega (arith, c.requires.k_bound)))); by_index = λ j m u. ap (λ (n : ℕ). get_or (part l 4096 n) j 0) c.requires.k_bound.1.1 ∙ C.links j m u; start_value = c.index16-start.ensures ∙ sym (get_or-firsts l c.hash_key-h.result c.hash_key-h.ensures.1) ∙ C.starts c.hash_key-h.result c.hash_key-h.ensures.1 ∙ ap (λ (x : ℕ). last (in_bucket c.args.arena.now x) c.args.k) c.hash_key-h.ensures.0 }

-- what the search of the chain found, as the definition says it
found : (c : After-find_key) →
    c.find_key.result ≡ last (own_key c.args.arena.now c.args.k) c.args.k
unfolding blk
found c =
    let a = c.args.arena.now in
    let b : List ℕ = blk a c.args.k in
    let seen : ℕ → ℕ = λ q. last (λ j. is_key (eqb (tag_of b) 1) (file_of b) q (blk a j)) c.args.k in
    ◌∙◌ {b = seen c.u32_at-number.result} c.find_key.ensures (ap seen c.u32_at-number.ensures)

-- the layout is right
laid : (c : Else-not-layout_ok) → layout (blk c.args.arena.now c.args.k) ≡ true
unfolding blk
laid c = sym c.layout_ok.ensures ∙ c.if-not-layout_ok.false

pub returns-then-find_key-gt0 : goal.returns-then-find_key-gt0
unfolding blk
returns-then-find_key-gt0 c =
    let a = c.args.arena.now in
    let l = laid (goal.at.returns-then-find_key-gt0 c).Else-not-layout_ok in record { value = sym (alone-used a c.args.k c.if-part-eq0.false l ∙ once-seen a c.args.k c.requires.k_bound.0 c.if-part-eq0.false (layout-tag (blk a c.args.k) l) c.find_key.result (found (goal.at.returns-then-find_key-gt0 c).After-find_key) (omega (arith, c.if-find_key-gt0.true))); chains_2 = λ e. absurd (true≢false (sym e)) }

pub returns : goal.returns
unfolding blk hash_of
returns c =
    let a = c.args.arena.now in
    let k = c.args.k in
    let l = laid (goal.at.returns c).Else-not-layout_ok in
    let b : List ℕ = blk a k in
    let h-is : c.hash_key-h.result ≡ hash_of (blk a k) = ◌∙◌ {b = hash_key (eqb (tag_of b) 1) (which_of b) (name_of b) c.u32_at-number.result} c.hash_key-h.ensures.0 (ap (hash_key (eqb (tag_of b) 1) (which_of b) (name_of b)) c.u32_at-number.ensures) in record { value = sym (alone-used a k c.if-part-eq0.false l ∙ once-new a k c.requires.k_bound.0 c.if-part-eq0.false (layout-tag b l) c.find_key.result (found (goal.at.returns c).After-find_key) (omega (arith, c.if-find_key-gt0.false))); chains_2 = λ _. chains-insert a c.args.chains.now _ k c.hash_key-h.result c.requires.chains c.if-part-eq0.false h-is c.hash_key-h.ensures.1 c.requires.k_bound.1.0 c.requires.k_bound.1.1 c.insert.ensures }
