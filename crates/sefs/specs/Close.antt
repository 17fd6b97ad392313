-- sync and close.
use Rattle.std.specs.Prelude.{Bool, List, ℕ, zero, suc, Option, Some, None}
use Rattle.base.specs.Out.{Out, done, ◌>>=◌}
use Rattle.base.specs.Search.{pick}
use Rattle.table.specs.declared.Table.{Table}
use Rattle.table.specs.declared.Handle.{Handle}
use Rattle.table.specs.Table.{next_row, close_hold}
use Rattle.sefs.specs.State.{Fs, with_table}
use Rattle.sefs.specs.Nodes.{id_at, sync_row, drop_node}
use Rattle.sefs.specs.Ask.{admit, by_handle, start}
use Rattle.sefs.specs.Create.{After, after}

-- ---- sync: dirty rows by rising id, as 000's map of open nodes is ordered

-- what is done with the row that was found; nothing where there is none
abbrev pub with_next : Option ℕ → Fs → (ℕ → Out Fs) → Out Fs
with_next (Some i) s f = f i
with_next None s f = done s

-- the rows with ids above `low`, at most n of them
unfoldable pub sync_from : Fs → ℕ → ℕ → Out Fs
sync_from s low zero = done s
sync_from s low (suc n) = with_next (next_row s.table low) s (λ i. do
  d ← sync_row s i
  sync_from d (id_at s i) n)

unfoldable pub call_sync : List ℕ → Table → Out After
call_sync a t = do
  _ ← admit a t
  s ← sync_from (start a t) 0 34
  done (after s)

-- ---- close: "Closing a row's last hold stores a dirty record; at links 0 it then frees the id .. and removes the file"

unfoldable pub close_steps : Fs → Bool → ℕ → Out Fs
close_steps s last i = pick last (drop_node s i) (done s)

unfoldable pub call_close : List ℕ → Table → ℕ → Handle → Out After
call_close a t w h = do
  _ ← admit a t
  i ← by_handle t w h
  s ← close_steps (with_table (start a t) (close_hold t h.hold).table) (close_hold t h.hold).last i
  done (after s)
