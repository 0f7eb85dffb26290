-- `pe_mapping::first` meets its contract. The invariant: what is left of the search answers as the whole.
-- Assumes nothing.
use Rattle.std.proofs.Common.{◌≡◌, ◌-◌}
use Rattle.pe_mapping.specs.Mapping.{first_of}
use Rattle.pe_mapping.proofs.first.Given as goal

abbrev pub invariant-loop : goal.invariant-loop
invariant-loop l =
    let x = l.sections in
    first_of x.count l.file x.table x.alignment l.address ≡ first_of (x.count - l.counter) l.file l.at x.alignment l.address
