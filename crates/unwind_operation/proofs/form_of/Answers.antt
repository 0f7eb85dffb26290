-- `unwind_operation::form_of` meets its contract: the operation number, and where it counts the info or the version, tell the row of the
-- table.
-- Assumes nothing.
use native.Mathlib.Omega.{arith}
use borrow.Author.Tests.{eq-eqb, ne_eqb}
use Rattle.unwind_operation.specs.Operation.{form_of}
use Rattle.unwind_operation.proofs.Laws.{info_of_lem}
use Rattle.unwind_operation.proofs.form_of.Goals as goal

pub returns-in-0 : goal.returns-in-0
unfolding form_of
returns-in-0 c = simp (info_of_lem c.args.byte (omega arith), c.in-0.is)

pub returns-in-0-info : goal.returns-in-0-info
unfolding form_of
returns-in-0-info c = simp (c.in-1.is, c.in-0-info.is)

pub returns-in-1-info : goal.returns-in-1-info
unfolding form_of
returns-in-1-info c = simp (c.in-1.is, c.in-1-info.is)

pub returns-in_default-info : goal.returns-in_default-info
unfolding form_of
returns-in_default-info c =
    simp (
      info_of_lem c.args.byte (omega arith),
      c.in-1.is,
      ne_eqb _ _ c.in_default-info.in_default-info-own.rest.0.1,
      ne_eqb _ _
          c.in_default-info.in_default-info-own.rest.1,
    )

pub returns-in-2 : goal.returns-in-2
unfolding form_of
returns-in-2 c = simp (info_of_lem c.args.byte (omega arith), c.in-2.is, c.from.ensures)

pub returns-in-3 : goal.returns-in-3
unfolding form_of
returns-in-3 c = simp (info_of_lem c.args.byte (omega arith), c.in-3.is)

pub returns-in-4 : goal.returns-in-4
unfolding form_of
returns-in-4 c = simp (info_of_lem c.args.byte (omega arith), c.in-4.is)

pub returns-in-5 : goal.returns-in-5
unfolding form_of
returns-in-5 c = simp (info_of_lem c.args.byte (omega arith), c.in-5.is)

pub returns-then-version-eq1 : goal.returns-then-version-eq1
unfolding form_of
returns-then-version-eq1 c = simp (info_of_lem c.args.byte (omega arith), c.in-6.is, eq-eqb _ _ c.if-version-eq1.true)

pub returns-else-version-eq1 : goal.returns-else-version-eq1
unfolding form_of
returns-else-version-eq1 c = simp (info_of_lem c.args.byte (omega arith), c.in-6.is, ne_eqb _ _ c.if-version-eq1.false)

pub returns-then-version-eq1-2 : goal.returns-then-version-eq1-2
unfolding form_of
returns-then-version-eq1-2 c = simp (info_of_lem c.args.byte (omega arith), c.in-7.is, eq-eqb _ _ c.if-version-eq1-2.true)

pub returns-else-version-eq1-2 : goal.returns-else-version-eq1-2
unfolding form_of
returns-else-version-eq1-2 c = simp (info_of_lem c.args.byte (omega arith), c.in-7.is, ne_eqb _ _ c.if-version-eq1-2.false)

pub returns-in-8 : goal.returns-in-8
unfolding form_of
returns-in-8 c = simp (info_of_lem c.args.byte (omega arith), c.in-8.is)

pub returns-in-9 : goal.returns-in-9
unfolding form_of
returns-in-9 c = simp (info_of_lem c.args.byte (omega arith), c.in-9.is)

pub returns-in-0-info-2 : goal.returns-in-0-info-2
unfolding form_of
returns-in-0-info-2 c = simp (c.in-10.is, c.in-0-info-2.is)

pub returns-in-1-info-2 : goal.returns-in-1-info-2
unfolding form_of
returns-in-1-info-2 c = simp (c.in-10.is, c.in-1-info-2.is)

pub returns-in_default-info-2 : goal.returns-in_default-info-2
unfolding form_of
returns-in_default-info-2 c =
    simp (
      info_of_lem c.args.byte (omega arith),
      c.in-10.is,
      ne_eqb _ _ c.in_default-info-2.in_default-info-2-own.rest.0.1,
      ne_eqb _ _
          c.in_default-info-2.in_default-info-2-own.rest.1,
    )

pub returns-in_default : goal.returns-in_default
unfolding form_of
returns-in_default c =
    let k = c.in_default.in_default-own.rest in
    simp (
      ne_eqb _ _ k.0.0.0.0.0.0.0.0.0.0.1,
      ne_eqb _ _ k.0.0.0.0.0.0.0.0.0.1,
      ne_eqb _ _ k.0.0.0.0.0.0.0.0.1,
      ne_eqb _ _ k.0.0.0.0.0.0.0.1,
      ne_eqb _ _ k.0.0.0.0.0.0.1,
      ne_eqb _ _ k.0.0.0.0.0.1,
      ne_eqb _ _ k.0.0.0.0.1,
      ne_eqb _ _ k.0.0.0.1,
      ne_eqb _ _ k.0.0.1,
      ne_eqb _ _ k.0.1,
      ne_eqb _ _ k.1,
    )
