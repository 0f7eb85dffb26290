-- Frame by frame: the theorem of one step, used along a stack of frames whose memory is read once, at the newest.
-- Assumes nothing.
use mathlib.Core.Path.{◌≡◌, ap, ◌∙◌}
use mathlib.Core.Bool.{true}
use mathlib.Core.List.{List, [], ◌∷◌}
use Rattle.unwind_array.specs.Arrays.{Arrays, ChainCode, joined_of}
use Rattle.unwind_state.specs.State.{Window}
use Rattle.unwind_state.specs.declared.State.{State}
use Rattle.unwind_undo.specs.Undo.{Undone, on, caller, lost, base_when_undone, unwind_of}
use Rattle.unwind_undo.specs.Distance.{Distance, undone_of}
use Rattle.strict_prolog.specs.Strict.{strict}
use Rattle.prolog_machine.specs.Machine.{Memory, Machine, Entry, caller_of}
use Rattle.prolog_machine.specs.Stop.{Every, Small, ran_of, needed, written, entry_words, Reaches, Holds}
use Rattle.prolog_theorem.proofs.Theorem.{unwinding_undoes_the_prolog, a_later_memory_serves}

-- a function that was entered at `start` and stands at `now`, by its codes and the distance of its address
pub record Standing : Type 0 where
  pub arrays : Arrays
  pub distance : Distance
  pub entry : Entry
  pub start : Machine
  pub now : Machine

abbrev ran_in : Standing → List ChainCode
ran_in f = ran_of f.distance f.arrays

abbrev pub caller_in : Standing → State
caller_in f = caller_of f.entry f.start

-- its run is one that the theorem speaks of; a later memory has what its prolog wrote and its entry's words, and the window holds of them
-- what tells its caller
pub record Stands (w : Window) (later : Memory) (f : Standing) : Type 0 where
  pub is_strict : strict f.arrays ≡ true
  pub small : Small (joined_of f.arrays)
  pub reaches : Reaches f.entry f.arrays f.distance f.start f.now
  pub wrote : Every (λ x. later x ≡ f.now.memory x) (written f.entry (ran_in f) f.start)
  pub own : Every (λ x. later x ≡ f.now.memory x) (entry_words f.entry f.start)
  pub holds : Holds w later (needed f.entry (ran_in f) f.start)

-- each function was entered from where the next one stands
abbrev pub Stack : Window → Memory → Standing → List Standing → Type 0
Stack w later f [] = Stands w later f
Stack w later f (g ∷ fs) = Stands w later f × (caller_in f ≡ g.now.registers) × Stack w later g fs

abbrev pub oldest : Standing → List Standing → State
oldest f [] = caller_in f
oldest f (g ∷ fs) = oldest g fs

-- one step after another
abbrev pub go_on : Undone → (State → Undone) → Undone
go_on (on s) k = lost
go_on (caller s) k = k s
go_on lost k = lost

abbrev pub step : Window → Standing → State → Undone
step w f s = unwind_of base_when_undone w (undone_of f.distance (joined_of f.arrays)) s

abbrev pub walk : Window → Standing → List Standing → State → Undone
walk w f [] s = step w f s
walk w f (g ∷ fs) s = go_on (step w f s) (walk w g fs)

one_step : (w : Window) (later : Memory) (f : Standing) → Stands w later f → step w f f.now.registers ≡ caller (caller_in f)
one_step w later f h =
    unwinding_undoes_the_prolog f.arrays f.distance f.entry f.start f.now w h.is_strict h.small h.reaches.sized
    h.reaches.entered h.reaches.stop h.reaches.fits
    (a_later_memory_serves f.arrays f.distance f.entry f.start f.now later w h.is_strict h.small h.reaches.entered
    h.wrote h.own h.holds)

-- Steps along a stack of frames, with the memory as it is at the newest, come to the caller of the oldest.
pub a_walk_comes_to_the_oldest_caller :
    (w : Window) (later : Memory) (f : Standing) (fs : List Standing)
    → Stack w later f fs
    → walk w f fs f.now.registers ≡ caller (oldest f fs)
a_walk_comes_to_the_oldest_caller w later f [] h = one_step w later f h
a_walk_comes_to_the_oldest_caller w later f (g ∷ fs) h =
    ap (λ u. go_on u (walk w g fs)) (one_step w later f h.0)
    ∙ ap (walk w g fs) h.1
    ∙ a_walk_comes_to_the_oldest_caller w later g fs h.2
