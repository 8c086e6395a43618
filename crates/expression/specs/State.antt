-- Bookkeeping of contracts between our own functions; no promise of an entry point rests on it.
-- What writing errors does to the lent list.
use Rattle.std.specs.Prelude.{List, ◌++◌, ◌≡◌, ℕ, ◌+◌, ◌*◌, length, take, drop}
use Rattle.expression.specs.ParserError.{all_numbers}
use Rattle.expression.specs.declared.parser_error.Errors.{Errors}
use Rattle.expression.specs.declared.parser_error.ParserError.{ParserError}

-- the first n errors became the first r, with `more` behind them, and the rest of the list is untouched
pub record Wrote (n r : ℕ) (more : List ParserError) (es es' : List ℕ) : Type 0 where
  pub list : take (4 * r) es' ≡ take (4 * n) es ++ all_numbers more
  pub rest : drop (4 * r) es' ≡ drop (4 * r) es
  pub count : r ≡ n + length more

-- the errors `more` came behind those that a lent list began with; it is the same list, as long as before
pub record Gained (a b : Errors) (more : List ParserError) : Type 0 where
  pub wrote : Wrote a.count b.count more a.list.now b.list.now
  pub size : length b.list.now ≡ length a.list.now
  pub place : b.list.ghost_name ≡ a.list.ghost_name
