-- From a runtime record to its unwind info, by odd addresses, and from an info to the one that it is chained to.
-- Assumes nothing.
use Rattle.unwind_links.specs.declared.InfoPlace.{InfoPlace}
use Rattle.std.specs.Prelude.{Result, Ok, Err, Option, Some, None, ℕ, zero, suc, ◌+◌, ◌-◌, ◌%◌, List, Bool, leb, eqb}
use Rattle.answer.specs.Answer.{on_ok, refuse_of, links}
use Rattle.answer.specs.declared.Refusal.{Refusal}
use Rattle.answer.specs.Test.{pick, must, in_limit}
use Rattle.runtime_function.specs.RuntimeFunction.{read_of}
use Rattle.runtime_function.specs.declared.RuntimeFunction.{RuntimeFunction}
use Rattle.pe_mapping.specs.Mapping.{find_offset_of}
use Rattle.pe_mapping.specs.declared.Sections.{Sections}
use Rattle.unwind_info.specs.Unwind.{read_info_of}
use Rattle.unwind_info.specs.declared.Follows.{Follows}
use Rattle.unwind_info.specs.declared.Follows.TheVariants.{Nothing, Chained, Handler}
use Rattle.unwind_links.specs.declared.ReachedInfo.{ReachedInfo}

-- 1.5: at most 32 links are followed from one runtime record
abbrev pub link_limit : ℕ
link_limit = 32

-- 12.7: the runtime record at an address
unfoldable pub record_at_of : List ℕ → Sections → ℕ → Result RuntimeFunction Refusal
record_at_of s sections address = on_ok (find_offset_of s sections address) Err (λ o. read_of s o)

-- 12.1: where the info is that a record names itself; `n` links led there
unfoldable pub place_of : List ℕ → Sections → RuntimeFunction → ℕ → Result InfoPlace Refusal
place_of s sections r n =
    on_ok (find_offset_of s sections r.unwind) Err
    (λ o. Ok (record { begin = r.begin; offset = o; links = n }))

-- 12.2: an odd unwind address leads to another record
abbrev pub is_odd : RuntimeFunction → Bool
is_odd r = eqb (r.unwind % 2) 1

-- 12.2, 12.4: odd addresses are followed, where `left` links may be; one more is 8, before anything there is mapped or read
unfoldable pub locate_from : ℕ → List ℕ → Sections → RuntimeFunction → Result InfoPlace Refusal
locate_from zero s sections r = pick (is_odd r) (Err (refuse_of links)) (place_of s sections r link_limit)
locate_from (suc left) s sections r =
    pick (is_odd r)
    (on_ok (record_at_of s sections (r.unwind - 1)) Err (λ e. locate_from left s sections e))
    (place_of s sections r (link_limit - suc left))

-- 12.4, 12.11: where the info of a record is, to which `n` links have led already; more than 32 of them are 8
unfoldable pub locate_info_of : List ℕ → Sections → RuntimeFunction → ℕ → Result InfoPlace Refusal
locate_info_of s sections r n =
    in_limit Err s
    (must Err (leb n link_limit) links (locate_from (link_limit - n) s sections r))

-- 12.1: the info there
unfoldable pub info_at : List ℕ → Result InfoPlace Refusal → Result ReachedInfo Refusal
info_at s l =
    on_ok l Err (λ p.
    on_ok (read_info_of s p.offset) Err (λ i. Ok (record { place = p; info = i })))

-- 12.8: the info of a runtime record
abbrev pub first_info_of : List ℕ → Sections → RuntimeFunction → Result ReachedInfo Refusal
first_info_of s sections r = info_at s (locate_info_of s sections r 0)

-- 12.3: what an info is chained to
abbrev pub on_chained : {A : Type 0} → Follows → A → (RuntimeFunction → A) → A
on_chained Nothing end on = end
on_chained (Chained r) end on = on r
on_chained (Handler h) end on = end

-- 12.3, 12.9, 12.11: the info of the record that an info is chained to; that is a link more than the `n` that led to the other
abbrev pub chained_info_of : List ℕ → Sections → RuntimeFunction → ℕ → Result ReachedInfo Refusal
chained_info_of s sections r n = info_at s (locate_info_of s sections r (n + 1))

-- 12.9: the info that another one is chained to
unfoldable pub next_info_of : List ℕ → Sections → ReachedInfo → Result (Option ReachedInfo) Refusal
next_info_of s sections here =
    in_limit Err s
    (on_chained here.info.follows (Ok None)
    (λ r. on_ok (chained_info_of s sections r here.place.links) Err (λ there. Ok (Some there))))
