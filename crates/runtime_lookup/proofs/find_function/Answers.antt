-- `runtime_lookup::find_function` meets its contract: the end of the search says which answer it is; a record that is not there is never
-- answered.
-- Assumes nothing.
use Rattle.std.proofs.Common.{◌≡◌, Err, rules}
use Rattle.runtime_lookup.proofs.Laws.{lookup_long, lookup_none, lookup_at, lookup_counted, lookup_refused}
use Rattle.runtime_lookup.proofs.find_function.Goals as goal

pub returns-then-file-gt-FILE_LIMIT : goal.returns-then-file-gt-FILE_LIMIT
returns-then-file-gt-FILE_LIMIT c = (lookup_long _ _ _ c.if-file-gt-FILE_LIMIT.true c.into.ensures, tt)

pub returns-in_default : goal.returns-in_default
returns-in_default c = (
  lookup_none _ _ _ c.if-file-gt-FILE_LIMIT.false c.search_table-search.ensures c.in_default.is c.into-in_default.ensures,
  tt,
)

pub returns-in_err-holder : goal.returns-in_err-holder
returns-in_err-holder c =
    let k : c.from_residual.result ≡ Err c.in_err-holder.field-0.0 = search rules in
    lookup_refused _ _ _ k
    (lookup_at _ _ _ c.if-file-gt-FILE_LIMIT.false c.search_table-search.ensures c.sought_at.ensures c.in-Some.is c.in_err-holder.was)

pub returns : goal.returns
returns c =
    let l = c.if-file-gt-FILE_LIMIT.false in
    let w = c.search_table-search.ensures in
    let f = c.sought_at.ensures in (
      lookup_at _ _ _ l w f c.in-Some.is c.in_ok-holder.was,
      lookup_counted _ c.args.opened _ l w f c.in-Some.is c.in_ok-holder.was,
    )
