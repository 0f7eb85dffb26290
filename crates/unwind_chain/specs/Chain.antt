-- The chain of a runtime record: the info that it reaches, and each info that the one before is chained to, with all their codes.
-- Assumes nothing.
use Rattle.unwind_chain.specs.declared.Totals.{Totals}
use Rattle.std.specs.Prelude.{Result, Ok, Err, ℕ, zero, suc, ◌+◌, List, [], ◌∷◌, length}
use Rattle.answer.specs.Answer.{on_ok, refuse_of, links}
use Rattle.answer.specs.declared.Refusal.{Refusal}
use Rattle.runtime_function.specs.declared.RuntimeFunction.{RuntimeFunction}
use Rattle.pe_mapping.specs.declared.Sections.{Sections}
use Rattle.unwind_operation.specs.declared.UnwindCode.{UnwindCode}
use Rattle.unwind_info.specs.declared.UnwindHeader.{UnwindHeader}
use Rattle.unwind_info.specs.declared.UnwindInfo.{UnwindInfo}
use Rattle.unwind_codes.specs.Codes.{on_whole_info, whole_info_at}
use Rattle.unwind_links.specs.Links.{link_limit, locate_info_of, on_chained}
use Rattle.unwind_links.specs.declared.InfoPlace.{InfoPlace}
use Rattle.unwind_array.specs.Arrays.{Frame, CodeArray, Arrays}

-- an info of a chain: where it is, what it is, and its codes
pub record Link : Type 0 where
  pub place : InfoPlace
  pub info : UnwindInfo
  pub codes : List UnwindCode

-- an info, or the first refusal on the way to it
pub data ReadLink : Type 0 where
  link : Link → ReadLink
  refused_link : Refusal → ReadLink

abbrev pub on_link : {A : Type 0} → ReadLink → (Refusal → A) → (Link → A) → A
on_link (link l) refusal on = on l
on_link (refused_link k) refusal on = refusal k

-- 12.1, 12.10: the info of a record to which `n` links have led already: it is located, and read whole, with its codes
unfoldable pub link_at : List ℕ → Sections → RuntimeFunction → ℕ → ReadLink
link_at s sections r n =
    on_ok (locate_info_of s sections r n) refused_link (λ p.
    on_whole_info (whole_info_at s p.offset) refused_link (λ i cs. link (record { place = p; info = i; codes = cs })))

-- the found info, and those that it is chained to, in order: there is always one
pub record Chain : Type 0 where
  pub found : Link
  pub outer : List Link

-- a chain, or the first refusal on the way
pub data ReadChain : Type 0 where
  chain : Chain → ReadChain
  refused_chain : Refusal → ReadChain

abbrev pub on_chain : {A : Type 0} → ReadChain → (Refusal → A) → (Chain → A) → A
on_chain (chain c) refusal on = on c
on_chain (refused_chain k) refusal on = refusal k

-- a chain of one info
abbrev pub single : Link → Chain
single l = record { found = l; outer = [] }

-- an info before those of a chain
abbrev pub before : Link → Chain → Chain
before l c = record { found = l; outer = c.found ∷ c.outer }

-- 12.6, 12.10, 12.5: the chain of a record to which `n` links have led already: its info is read whole before what it is chained to is looked at.
-- `infos` bounds the number of infos: each has one link more than the one before it, so that 33 are enough.
unfoldable pub chain_from : ℕ → List ℕ → Sections → RuntimeFunction → ℕ → ReadChain
chain_from zero s sections r n = refused_chain (refuse_of links)
chain_from (suc infos) s sections r n =
    on_link (link_at s sections r n) refused_chain (λ l.
    on_chained l.info.follows
    (chain (single l))
    (λ e. on_chain (chain_from infos s sections e (l.place.links + 1)) refused_chain (λ c. chain (before l c))))

-- 12.6: it has 33 infos at most
abbrev pub info_limit : ℕ
info_limit = link_limit + 1

-- 12.6: the chain of a runtime record
abbrev pub chain_of : List ℕ → Sections → RuntimeFunction → ReadChain
chain_of s sections r = chain_from info_limit s sections r 0

-- 10.2: the frame register of an info, and its frame offset
abbrev pub frame_of : UnwindHeader → Frame
frame_of h = record { register = h.frame_register.0; offset = h.frame_register_offset }

-- the codes of an info, with what of its header they go by
abbrev pub array_of : Link → CodeArray
array_of l = record { frame = frame_of l.info.header; prolog = l.info.header.size_of_prolog; codes = l.codes }

abbrev pub arrays_of_links : List Link → List CodeArray
arrays_of_links [] = []
arrays_of_links (l ∷ ls) = array_of l ∷ arrays_of_links ls

-- the arrays of a chain
abbrev pub arrays_of : Chain → Arrays
arrays_of c = record { found = array_of c.found; outer = arrays_of_links c.outer }

-- how many links led to the last info
abbrev pub last_links : Link → List Link → ℕ
last_links l [] = l.place.links
last_links l (m ∷ ls) = last_links m ls

-- how many codes there are
abbrev pub codes_of_all : List Link → ℕ
codes_of_all [] = 0
codes_of_all (l ∷ ls) = length l.codes + codes_of_all ls

-- 12.10: the number of links and of codes
abbrev pub totals_of : ReadChain → Result Totals Refusal
totals_of (chain c) =
    Ok (record { links = last_links c.found c.outer; codes = codes_of_all (c.found ∷ c.outer) })
totals_of (refused_chain k) = Err k

-- 12.10: the number of links and of codes of the chain of a record
abbrev pub count_all_codes_of : List ℕ → Sections → RuntimeFunction → Result Totals Refusal
count_all_codes_of s sections r = totals_of (chain_of s sections r)
