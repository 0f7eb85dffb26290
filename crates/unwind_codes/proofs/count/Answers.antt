-- `unwind_codes::count` meets its contract: the part that is lent is the slots of the info.
-- Assumes nothing.
use Rattle.unwind_codes.specs.Codes.{codes_of}
use Rattle.unwind_codes.proofs.Laws.{slots_lent}
use Rattle.unwind_codes.proofs.count.Goals as goal

pub returns : goal.returns
unfolding codes_of
returns c =
    let a = c.args in
    rw (slots_lent a.file.now a.h) c.count_in.ensures
