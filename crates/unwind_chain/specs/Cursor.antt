-- A cursor over the codes of a chain: where it starts, and what comes next.
-- Assumes nothing.
use Rattle.unwind_chain.specs.declared.ChainStart.{ChainStart}
use Rattle.std.specs.Prelude.{Result, Ok, Err, ℕ, List, Bool, true, false, length, leb, ltb}
use Rattle.answer.specs.Answer.{on_ok, cut_of}
use Rattle.answer.specs.declared.Refusal.{Refusal}
use Rattle.answer.specs.Test.{pick, in_limit}
use Rattle.runtime_function.specs.declared.RuntimeFunction.{RuntimeFunction}
use Rattle.pe_mapping.specs.declared.Sections.{Sections}
use Rattle.unwind_operation.specs.Operation.{next_code_of}
use Rattle.unwind_info.specs.Unwind.{codes_end}
use Rattle.unwind_info.specs.declared.UnwindInfo.{UnwindInfo}
use Rattle.unwind_codes.specs.Codes.{slots_of}
use Rattle.unwind_links.specs.Links.{first_info_of, chained_info_of, on_chained}
use Rattle.unwind_chain.specs.declared.ChainCursor.{ChainCursor}
use Rattle.unwind_chain.specs.declared.NextChainCode.{NextChainCode}
use Rattle.unwind_chain.specs.declared.NextChainCode.TheVariants.{Code, Info, End}

-- the cursor at the first slot of an info, to which `n` links led
abbrev pub cursor_at : ℕ → UnwindInfo → Bool → ChainCursor
cursor_at n i found = record { header = i.header; follows = i.follows; links = n; found = found; slot = 0 }

-- the same cursor at another slot
abbrev pub at_slot : ChainCursor → ℕ → ChainCursor
at_slot k slot = record { header = k.header; follows = k.follows; links = k.links; found = k.found; slot = slot }

-- 12.8, 12.13: where the codes of a record's chain start
abbrev pub start_chain_of : List ℕ → Sections → RuntimeFunction → Result ChainStart Refusal
start_chain_of s sections r =
    on_ok (first_info_of s sections r) Err (λ x.
    Ok (record { begin = x.place.begin; cursor = cursor_at x.place.links x.info true }))

-- 11.9: the code at the cursor's slot, of the slots of its info, and the cursor after it
unfoldable pub code_in : List ℕ → ChainCursor → Result NextChainCode Refusal
code_in slots k =
    on_ok (next_code_of slots k.slot k.header.version k.header.frame_register.0) Err
    (λ t. Ok (Code (record { code = t.code; next = at_slot k t.next })))

-- 10.5: the slots lie in the file, else 1
unfoldable pub code_at : List ℕ → ChainCursor → Result NextChainCode Refusal
code_at s k =
    pick (leb (codes_end k.header) (length s)) (code_in (slots_of s k.header) k) (Err (cut_of (codes_end k.header)))

-- 12.3, 12.9: after the last code of an info: the info that it is chained to, at its first slot
unfoldable pub after_codes : List ℕ → Sections → ChainCursor → Result NextChainCode Refusal
after_codes s sections k =
    on_chained k.follows (Ok End) (λ r.
    on_ok (chained_info_of s sections r k.links) Err (λ x.
    Ok (Info (cursor_at x.place.links x.info false))))

-- 12.10, 12.13: what comes next
unfoldable pub next_chain_code_of : List ℕ → Sections → ChainCursor → Result NextChainCode Refusal
next_chain_code_of s sections k =
    in_limit Err s (pick (ltb k.slot k.header.count_of_codes) (code_at s k) (after_codes s sections k))
