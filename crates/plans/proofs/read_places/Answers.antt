-- `plans::read_places`: the bytes of the first block, and of the second where there is one.
use mathlib.Core.Path.{◌≡◌, refl, ap, ◌∙◌}
use Prim.Native.Nat.{ℕ, ◌+◌, ◌-◌, ◌/◌, ◌%◌, ◌≤◌}
use native.Mathlib.Omega.{arith}
use lib.ListN.{length}
use Rattle.base.specs.Parts.{part, back, tab}
use Rattle.base.proofs.Lists.{length_part}
use Rattle.plans.specs.Plan.{payload_by, byte_by}
use Rattle.plans.proofs.Payloads.{place-run, begun, in_one, in_two, in-none}
use Rattle.plans.proofs.read_places.Goals as goal
use Rattle.plans.proofs.read_places.Goals.{After-read_block}

-- what the first part is
first : (c : After-read_block) → c.read_block.new.out ≡ tab (byte_by c.args.arena.now c.args.places.now c.args.q) c.args.p c.least-m.result
first c =
    let m = c.least-m.result in
    let k : length (part c.args.out.now 0 m) ≡ m = length_part c.args.out.now 0 m (omega arith) (omega (arith, c.least-m.ensures)) ∙ omega arith in
    c.read_block.ensures
    ∙ ap (λ (n : ℕ). tab (payload_by c.args.arena.now c.index16.result) (c.args.p % 480) n) k
    ∙ place-run c.args.arena.now c.args.places.now c.args.q c.args.p (c.args.p / 480 - c.args.q) c.index16.result (c.args.p % 480) m c.index16.ensures refl refl (omega (arith, c.least-m.ensures))

pub returns-then-n-eq0 : goal.returns-then-n-eq0
returns-then-n-eq0 c = in-none (byte_by c.args.arena.now c.args.places.now c.args.q) c.args.p c.args.out.now c.if-n-eq0.true

pub read_block-requires : goal.read_block-requires
read_block-requires c =
    let m = c.least-m.result in
    (omega (arith, c.index16.ensures, c.requires.in_arena (c.args.p / 480 - c.args.q)), omega (arith, c.least-m.ensures, length_part c.args.out.now 0 m (omega arith) (omega (arith, c.least-m.ensures))))

pub returns-then-m-n : goal.returns-then-m-n
returns-then-m-n c =
    let m = c.least-m in
    in_one (byte_by c.args.arena.now c.args.places.now c.args.q) c.args.p (length c.args.out.now) m.result c.args.out.now _ refl (omega (arith, m.ensures)) (first (goal.at.returns-then-m-n c).After-read_block) c.if-m-n.true

-- the second part has what is left
rest : (c : After-read_block) → length (part (back c.args.out.now 0 c.least-m.result c.read_block.new.out) c.least-m.result (length c.args.out.now)) ≡ length c.args.out.now - c.least-m.result
rest c =
    let m = c.least-m in
    let few : m.result ≤ length c.args.out.now = omega (arith, m.ensures) in
    length_part (back c.args.out.now 0 m.result c.read_block.new.out) m.result (length c.args.out.now) few (omega (arith, (begun (byte_by c.args.arena.now c.args.places.now c.args.q) c.args.p (length c.args.out.now) m.result c.args.out.now _ refl few (first c)).size))

pub read_block-requires-2 : goal.read_block-requires-2
read_block-requires-2 c =
    (omega (arith, c.index16-2.ensures, c.requires.in_arena (c.args.p / 480 - c.args.q + 1)), omega (arith, c.least-m.ensures, rest (goal.at.read_block-requires-2 c).After-read_block, c.requires.out_len_bound.0))

pub returns : goal.returns
returns c =
    let m = c.least-m in
    let l : m.result ≡ 480 - c.args.p % 480 = omega (arith, m.ensures, c.if-m-n.false) in
    let r = c.index16-2 in
    in_two (byte_by c.args.arena.now c.args.places.now c.args.q) c.args.p (length c.args.out.now) m.result c.args.out.now _ refl (omega (arith, m.ensures)) (first (goal.at.returns c).After-read_block) _
    (c.read_block-2.ensures
    ∙ ap (λ (n : ℕ). tab (payload_by c.args.arena.now r.result) 0 n) (rest (goal.at.returns c).After-read_block)
    ∙ place-run c.args.arena.now c.args.places.now c.args.q (c.args.p + m.result) (c.args.p / 480 - c.args.q + 1) r.result 0 (length c.args.out.now - m.result) r.ensures (omega (arith, l, c.requires.out_len_bound.1.0)) (omega (arith, l)) (omega (arith, c.requires.out_len_bound.0)))
