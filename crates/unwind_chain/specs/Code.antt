-- What the private type of src/ stands for: the contract of a private function cites this map, and no definition does.
-- Assumes nothing.
use Rattle.std.specs.Prelude.{Result, Ok, Err, Some, None, length}
use Rattle.answer.specs.declared.Refusal.{Refusal}
use Rattle.unwind_links.specs.Links.{on_chained}
use Rattle.unwind_chain.specs.Chain.{ReadLink, link, refused_link}
use Rattle.unwind_chain.specs.declared.Linked.{Linked}

-- an info by the links that led to it, the number of its codes, and the record that it is chained to, if it is
abbrev pub linked_of : ReadLink → Result Linked Refusal
linked_of (link l) =
    Ok (record { links = l.place.links; codes = length l.codes; next = on_chained l.info.follows None (λ e. Some e) })
linked_of (refused_link k) = Err k
