-- `version_list::list` meets its contract: the checks are made in order, and where they pass the section is a part of the file.
-- Assumes nothing.
use Rattle.std.proofs.Common.{◌≡◌, ◌∙◌, ◌+◌, ◌≤◌, length, Err, leb-true, arith, rules}
use Rattle.version_section.specs.Section.{section_of}
use Rattle.version_section.proofs.Laws.{length_section, section_found, section_missed}
use Rattle.version_list.proofs.Laws.{long_file, many_stated, past_file_lem, in_file_lem}
use Rattle.version_list.proofs.list.Goals as goal
use Rattle.version_list.proofs.list.Goals.{then-file-gt-FILE_LIMIT-via-then-file-gt-FILE_LIMIT, then-file-gt-FILE_LIMIT-via-else-file-gt-FILE_LIMIT+then-stated-gt-RECORD_LIMIT}

pub returns-then-file-gt-FILE_LIMIT : goal.returns-then-file-gt-FILE_LIMIT
returns-then-file-gt-FILE_LIMIT c =
    elim c.then-file-gt-FILE_LIMIT.branch [
      | then-file-gt-FILE_LIMIT-via-then-file-gt-FILE_LIMIT w ↦ long_file _ _ _ _ _ _ _ _ w.if-file-gt-FILE_LIMIT.true c.into.ensures
      | then-file-gt-FILE_LIMIT-via-else-file-gt-FILE_LIMIT+then-stated-gt-RECORD_LIMIT w ↦
          many_stated _ _ _ _ _ _ _ _ w.if-file-gt-FILE_LIMIT.false (omega (arith, w.if-stated-gt-RECORD_LIMIT.true)) c.into.ensures
    ]

pub returns-in_err-section : goal.returns-in_err-section
returns-in_err-section c =
    let k : c.from_residual.result ≡ Err c.in_err-section.field-0.0 = search rules in
    let h = section_missed c.args.file c.args.start c.args.len c.section.ensures c.in_err-section.was in
    let p = past_file_lem _ _ _ _ _ _ _ _ c.if-file-gt-FILE_LIMIT.false c.if-stated-gt-RECORD_LIMIT.false h.0 h.1 in
    (k ∙ p.0, p.1)

pub list_in-requires : goal.list_in-requires
list_in-requires c =
    let h = section_found c.args.file c.args.start c.args.len c.section.ensures c.in_ok-section.was in
    let i : c.args.start + c.args.len ≤ length c.args.file.now = leb-true _ _ h.0 in
    let l : length (section_of c.args.file.now c.args.start c.args.len) ≡ c.args.len = length_section _ _ _ i in
    (rw (h.1, l) (omega arith), c.if-stated-gt-RECORD_LIMIT.false)

pub returns : goal.returns
returns c =
    let h = section_found c.args.file c.args.start c.args.len c.section.ensures c.in_ok-section.was in
    in_file_lem _ _ _ _ _ _ _ _ c.if-file-gt-FILE_LIMIT.false c.if-stated-gt-RECORD_LIMIT.false h.0 (rw h.1 at c.list_in.ensures)
