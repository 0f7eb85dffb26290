-- What the private enums of src/ stand for: contracts of private functions cite these maps, and no definition does.
-- Assumes nothing.
use Rattle.std.specs.Prelude.{Option, Some, None}
use Rattle.unwind_operation.specs.Operation.{Pending, allocates, saves, saves_low, saves_xmm, no_effect, Form, one, two, three, unknown}
use Rattle.unwind_operation.specs.declared.Numbered.{Numbered}
use Rattle.unwind_operation.specs.declared.Numbered.TheVariants as numbered
use Rattle.unwind_operation.specs.declared.Slots.{Slots}
use Rattle.unwind_operation.specs.declared.Slots.TheVariants as slots

abbrev pub pending_of : Numbered → Pending
pending_of numbered.Alloc = allocates
pending_of (numbered.SaveNonVolatile r) = saves r
pending_of (numbered.SaveXMM r) = saves_low r
pending_of (numbered.SaveXMM128 r) = saves_xmm r
pending_of numbered.Noop = no_effect

abbrev pub form_in : Option Slots → Form
form_in (Some (slots.One o)) = one o
form_in (Some (slots.Two k)) = two (pending_of k)
form_in (Some (slots.Three k)) = three (pending_of k)
form_in None = unknown
