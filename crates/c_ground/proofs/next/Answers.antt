-- `c_ground::next` meets its contract: what was read at a new cursor, with the place past it.
-- Assumes nothing.
use Rattle.std.proofs.Common.{◌≡◌, ◌∙◌, get_or, Err, rules}
use Rattle.cursor.proofs.Laws.{next_given, next_refused}
use Rattle.c_ground.proofs.next.Goals as goal

pub returns-in_err-value : goal.returns-in_err-value
returns-in_err-value g c =
    let a = c.args in
    let k : c.from_residual.result ≡ Err c.in_err-value.field-0.0 = search rules in
    k ∙ next_refused g.T.Unsigned.of (λ x p. record { number = get_or (g.T.Numbers.numbers x) 0 0; place = p }) a.big _ a.bytes.now a.at
    c.new-cursor.ensures c.next.ensures c.in_err-value.was

pub returns : goal.returns
returns g c =
    let a = c.args in
    rw c.numbers.ensures
    (next_given g.T.Unsigned.of (λ x p. record { number = get_or (g.T.Numbers.numbers x) 0 0; place = p }) a.big _ a.bytes.now a.at
    c.new-cursor.ensures c.next.ensures c.in_ok-value.was)
