-- `pe_mapping::readable` meets its contract: each sum fits, since the numbers of a row have 32 bits, and at each `return` the tests tell
-- which case it is.
-- Assumes nothing.
use Rattle.std.proofs.Common.{◌+◌, refl, sym, ◌∙◌, arith}
use Rattle.pe_mapping.proofs.Laws.{up_next, readable_none, readable_in_file_lem, readable_least}
use Rattle.pe_mapping.proofs.readable.Goals as goal

pub returns-then-raw-eq0 : goal.returns-then-raw-eq0
returns-then-raw-eq0 c = readable_none _ _ (sym c.from-raw.ensures ∙ c.if-raw-eq0.true)

pub returns-then-virt-eq0 : goal.returns-then-virt-eq0
returns-then-virt-eq0 c =
    let h = c.args.h in
    readable_in_file_lem _ _ (λ z. c.if-raw-eq0.false (c.from-raw.ensures ∙ z)) (sym c.from-virt.ensures ∙ c.if-virt-eq0.true)
    (c.min-kept.ensures
    ∙ rw (
      c.next_multiple_of-end.ensures.value,
      c.next_multiple_of.ensures.value,
      c.from-raw.ensures,
      c.from-pointer.ensures,
      c.into.ensures,
      up_next c.args.alignment (h.pointer_to_raw_data + h.size_of_raw_data) c.requires,
      up_next 4096 h.size_of_raw_data (omega arith),
    ) refl)

pub returns : goal.returns
returns c =
    let h = c.args.h in
    readable_least _ _ (λ z. c.if-raw-eq0.false (c.from-raw.ensures ∙ z)) (λ z. c.if-virt-eq0.false (c.from-virt.ensures ∙ z))
    (c.min.ensures
    ∙ rw (
      c.min-kept.ensures,
      c.next_multiple_of-2.ensures.value,
      c.next_multiple_of-end.ensures.value,
      c.next_multiple_of.ensures.value,
      c.from-raw.ensures,
      c.from-pointer.ensures,
      c.from-virt.ensures,
      c.into.ensures,
      up_next 4096 h.virtual_size (omega arith),
      up_next c.args.alignment (h.pointer_to_raw_data + h.size_of_raw_data) c.requires,
      up_next 4096 h.size_of_raw_data (omega arith),
    ) refl)
