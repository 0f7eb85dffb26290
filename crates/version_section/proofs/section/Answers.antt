-- `version_section::section` meets its contract: where it lies in the file, it is a part of it; else it is refused at its end.
-- Assumes nothing.
use Rattle.std.proofs.Common.{sym, ◌∙◌, Err}
use Rattle.version_section.proofs.Laws.{section_past, lent_there}
use Rattle.version_section.proofs.section.Goals as goal

pub returns-then-not-fits : goal.returns-then-not-fits
returns-then-not-fits c = section_past _ _ _ Err _ (sym c.fits.ensures ∙ c.if-not-fits.true) c.cut.ensures

pub returns : goal.returns
returns c = lent_there _ _ _ (sym c.fits.ensures ∙ c.if-not-fits.false)
