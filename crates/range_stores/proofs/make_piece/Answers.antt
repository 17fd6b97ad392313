-- `range_stores::make_piece`: its first block, and then its last.
use native.Mathlib.Omega.{arith}
use Rattle.range_stores.proofs.Makes.{piece-room, piece-there, piece-room-next, piece-end, piece-made}
use Rattle.range_stores.proofs.make_piece.Goals as goal

pub make_absent-at-requires : goal.make_absent-at-requires
make_absent-at-requires c =
    let P = c.requires in record { q_bound = (omega (arith, P.range), (omega (arith, P.low, P.high, P.some), (P.most, P.exists))); i_value = (P.start, (P.used, piece-room c.requires)) }

pub make_absent-requires : goal.make_absent-requires
make_absent-requires c =
    let P = c.requires in
    let e = c.make_absent-at.ensures in record {
      q_bound = (
        omega (arith, P.range),
        (
          omega (arith, P.low, P.high, P.some, c.make_absent-at.auto.plan),
          (
            omega (arith, P.most, c.make_absent-at.auto.arena),
            piece-there c.requires e.0 e.1.1,
          ),
        ),
      );
      i_value = (
        piece-end c.requires e.0 e.1.1,
        (
          e.1.0,
          piece-room-next c.requires e.0 e.1.1,
        ),
      );
    }

pub returns : goal.returns
returns c =
    let g = piece-made c.requires c.make_absent-at.ensures.0 c.make_absent-at.ensures.1.1 c.make_absent.ensures.0 c.make_absent.ensures.1.1 c.make_absent-at.auto.plan in
    (g.0, (c.make_absent.ensures.1.0, g.1))
