-- `exception_data::open` meets its contract: each test is a check of the definition, in its order.
-- Assumes nothing.
use Rattle.std.proofs.Common.{◌≡◌, sym, ap, ◌∙◌, Err, rules}
use Rattle.pe_mapping.specs.Mapping.{find_offset_of}
use Rattle.exception_data.specs.Exception.{sections_of}
use Rattle.exception_data.proofs.Laws.{open_refused, open_other, open_missing, open_empty, open_size, open_unmapped, open_unaligned, open_unchecked, open_ordered}
use Rattle.exception_data.proofs.open.Goals as goal

pub returns-in_err-h : goal.returns-in_err-h
returns-in_err-h c =
    let k : c.from_residual.result ≡ Err c.in_err-h.field-0.0 = search rules in
    k ∙ open_refused _ c.«open».ensures c.in_err-h.was

pub returns-then-h : goal.returns-then-h
returns-then-h c = open_other _ c.«open».ensures c.in_ok-h.was c.if-h.true c.into.ensures

pub returns-in_default : goal.returns-in_default
returns-in_default c = open_missing _ c.«open».ensures c.in_ok-h.was c.if-h.false c.in_default.is c.into-in_default.ensures

pub returns-then-is_empty : goal.returns-then-is_empty
returns-then-is_empty c =
    open_empty _ c.«open».ensures c.in_ok-h.was c.if-h.false c.in-Some.is (sym c.if-is_empty.ensures) c.into-then-is_empty.ensures

pub returns-then-size-ne0 : goal.returns-then-size-ne0
returns-then-size-ne0 c =
    open_size _ c.«open».ensures c.in_ok-h.was c.if-h.false c.in-Some.is (sym c.if-is_empty.ensures) c.if-size-ne0.true
    c.into-then-size-ne0.ensures

pub returns-in_err-offset : goal.returns-in_err-offset
returns-in_err-offset c =
    let k : c.from_residual-in_err-offset.result ≡ Err c.in_err-offset.field-0.0 = search rules in
    let f = c.find_offset.ensures ∙ ap (find_offset_of c.args.file.now (sections_of c.in_ok-h.h)) c.into-2.ensures in
    k ∙ open_unmapped _ c.«open».ensures c.in_ok-h.was c.if-h.false c.in-Some.is (sym c.if-is_empty.ensures) c.if-size-ne0.false f
    c.in_err-offset.was

pub returns-then-offset-ne0 : goal.returns-then-offset-ne0
returns-then-offset-ne0 c =
    let f = c.find_offset.ensures ∙ ap (find_offset_of c.args.file.now (sections_of c.in_ok-h.h)) c.into-2.ensures in
    open_unaligned _ c.«open».ensures c.in_ok-h.was c.if-h.false c.in-Some.is (sym c.if-is_empty.ensures) c.if-size-ne0.false f
    c.in_ok-offset.was c.if-offset-ne0.true c.into-then-offset-ne0.ensures

pub returns-in_err-check : goal.returns-in_err-check
returns-in_err-check c =
    let k : c.from_residual-in_err-check.result ≡ Err c.in_err-check.field-0.0 = search rules in
    let f = c.find_offset.ensures ∙ ap (find_offset_of c.args.file.now (sections_of c.in_ok-h.h)) c.into-2.ensures in
    k ∙ open_unchecked _ c.«open».ensures c.in_ok-h.was c.if-h.false c.in-Some.is (sym c.if-is_empty.ensures) c.if-size-ne0.false f
    c.in_ok-offset.was c.if-offset-ne0.false c.check.ensures c.in_err-check.was

pub returns : goal.returns
returns c =
    let f = c.find_offset.ensures ∙ ap (find_offset_of c.args.file.now (sections_of c.in_ok-h.h)) c.into-2.ensures in
    open_ordered _ c.«open».ensures c.in_ok-h.was c.if-h.false c.in-Some.is (sym c.if-is_empty.ensures) c.if-size-ne0.false f
    c.in_ok-offset.was c.if-offset-ne0.false c.check.ensures c.in_ok-check.was
