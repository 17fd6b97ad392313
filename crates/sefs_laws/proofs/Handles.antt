-- Who asks, and by which handle: order 5's 6 and then 4, one law each way.
use mathlib.Core.Path.{◌≡◌, refl, sym, ◌∙◌, subst}
use Prim.Native.Nat.{ℕ}
use Rattle.base.specs.Out.{done, refused, Ok, went, said}
use Rattle.std.specs.Prelude.{Option, Some, None}
use Rattle.base.proofs.Outs.{ok-bind, ok-weaken}
use Rattle.table.specs.declared.Table.{Table}
use Rattle.table.specs.declared.Handle.{Handle}
use Rattle.table.specs.Table.{is_owner, live_row}
use Rattle.table_laws.specs.Rules.{Owner, Formed}
use Rattle.table_laws.proofs.Rules.{owner_of, of_owner}
use Rattle.table_laws.proofs.Handles.{live-means}
use Rattle.sefs.specs.Ask.{an_owner, or_bad_handle, by_handle}
use Rattle.sefs_laws.proofs.Says.{Says, ensure-asks}

-- w is an owner, and the handle is live and his, on row i
pub record Owns (t : Table) (w : ℕ) (h : Handle) (i : ℕ) : Type 0 where
  pub owner : Owner w
  pub live : live_row t w h ≡ Some i

-- in a well-formed table nobody but an owner has a live handle
pub live-owns : {own : ℕ → Type 0} (t : Table) (w : ℕ) (h : Handle) (i : ℕ) → Formed own t → live_row t w h ≡ Some i → Owns t w h i
live-owns t w h i f e =
    let l = (live-means t w h i).0 e in
    record { owner = subst Owner l.owner (f.owned h.hold l.is-hold (λ z. l.given (sym l.stamp ∙ z))); live = e }

pub owner-asks : {R : ℕ → Type 0} → R 6 → (w : ℕ) → Ok (λ _. Owner w) R (an_owner w)
owner-asks {R} six w = ok-weaken (λ _ e. owner_of w e) (λ n r. r) (ensure-asks {R = R} (is_owner w) 6 six)

pub handle-asks : {R : ℕ → Type 0} → R 6 → R 4 → (t : Table) (w : ℕ) (h : Handle) → Ok (Owns t w h) R (by_handle t w h)
unfolding by_handle
handle-asks {R} six four t w h = ok-bind (owner-asks {R = R} six w) λ _ o. go o (live_row t w h) refl
  where
    go : Owner w → (f : Option ℕ) → live_row t w h ≡ f → Ok (Owns t w h) R (or_bad_handle f)
    go o (Some i) e = went (record { owner = o; live = e })
    go o None e = said four

pub says-handle : {R : ℕ → Type 0} → R 6 → R 4 → (t : Table) (w : ℕ) (h : Handle) → Says R (by_handle t w h)
says-handle {R} six four t w h = ok-weaken (λ _ _. tt) (λ n r. r) (handle-asks {R = R} six four t w h)

pub handle-done : (t : Table) (w : ℕ) (h : Handle) (i : ℕ) → Owns t w h i → by_handle t w h ≡ done i
unfolding by_handle
handle-done t w h i o = rw (of_owner w o.owner, o.live) refl

pub handle-not : (t : Table) (w : ℕ) (h : Handle) → Owner w → live_row t w h ≡ None → by_handle t w h ≡ refused 4
unfolding by_handle
handle-not t w h o e = rw (of_owner w o, e) refl
