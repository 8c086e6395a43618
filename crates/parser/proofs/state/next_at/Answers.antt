-- Where there is no token it is what a token of no type is.
use Rattle.std.proofs.Common.{sym, ap}
use lib.ListN.{get_or-eq_default}
use Rattle.lookahead.specs.Next.{next_of}
use Rattle.token.specs.Token.{token, type_of}
use Rattle.token.specs.declared.Token.{Token}
use Rattle.parser.proofs.state.next_at.Goals as goal

pub returns-in-None : goal.returns-in-None
unfolding type_of
returns-in-None c =
    let behind = get_or-eq_default c.args.tokens.now (token 0 0 0) c.in-None.ensures.lookup.3 in
    sym (ap (λ (t : Token). next_of (type_of t.kind)) behind)
