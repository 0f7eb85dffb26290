-- `version_list::fill` meets its contract. The invariant of its loop: the rows that are left, written from the base on, make of the list
-- what it shall be in the end.
-- Assumes nothing.
use mathlib.Core.Path.{◌≡◌}
use Prim.Native.Nat.{suc, ◌+◌, ◌-◌, ◌*◌, ◌≤◌}
use lib.ListN.{length}
use Rattle.fields.specs.Field.{put}
use Rattle.version_record.specs.Record.{layout}
use Rattle.version_list.specs.List.{entries_from, flat}
use Rattle.version_list.proofs.fill.Given as goal

abbrev pub invariant-loop : goal.invariant-loop
invariant-loop l =
    (l.base + (l.entries - l.counter) * suc (length (layout l.kind)) ≤ length l.out)
    × (length (entries_from l.kind l.big l.section (l.entries - l.counter) l.place).rows ≡ l.entries - l.counter)
    × (put l.initial.out 0 (flat (entries_from l.kind l.big l.section l.entries l.at).rows) ≡ put l.out l.base
    (flat (entries_from l.kind l.big l.section (l.entries - l.counter) l.place).rows))
    × (length l.out ≡ length l.initial.out)
