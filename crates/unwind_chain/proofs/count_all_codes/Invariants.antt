-- `unwind_chain::count_all_codes` meets its contract. The invariant: the chain from the record reached on, with the codes passed, has the
-- totals of the whole. The links that led there grow with each turn.
-- Assumes nothing.
use mathlib.Core.Path.{◌≡◌}
use Prim.Native.Nat.{◌-◌, ◌*◌, ◌≤◌}
use Rattle.answer.specs.Test.{file_limit}
use Rattle.unwind_chain.specs.Chain.{count_all_codes_of}
use Rattle.unwind_chain.proofs.Laws.{chain_at, totals_from}
use Rattle.unwind_chain.proofs.count_all_codes.Given as goal

abbrev pub invariant-loop-linked : goal.invariant-loop-linked
invariant-loop-linked l =
    (totals_from l.codes (chain_at l.file l.sections l.here l.links) ≡ count_all_codes_of l.file l.sections l.initial.here) ×
    (l.links ≤ 33) × (l.codes ≤ l.links * file_limit)

abbrev pub decreases-loop-linked : goal.decreases-loop-linked
decreases-loop-linked l = 33 - l.links
