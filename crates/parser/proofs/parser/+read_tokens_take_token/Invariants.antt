-- The loop of the bracket reader by the laws of the walk: tokens were taken, and the same brackets are open. Twice the tokens left falls
-- from call to call, with one more for the bracket reader, which calls the token step before any token is taken.
use Rattle.std.proofs.Common.{◌≡◌, ◌+◌, ◌-◌, ◌*◌, length}
use Rattle.parser.proofs.Walk.{Within}
use Rattle.parser.proofs.parser.+read_tokens_take_token.Given as goal

abbrev pub decreases-read_tokens : goal.decreases-read_tokens
decreases-read_tokens l = 2 * (length l.tokens.now - l.st.at) + 1

abbrev pub decreases-take_token : goal.decreases-take_token
decreases-take_token l = 2 * (length l.tokens.now - l.st.at)

abbrev pub invariant-read_tokens-loop-s : goal.invariant-read_tokens-loop-s
invariant-read_tokens-loop-s l =
    Within l.tokens l.inside l.initial.s l.s l.initial.errs l.errs l.initial.exps l.exps
    × (length l.errs ≡ length l.initial.errs)
    × (length l.exps ≡ length l.initial.exps)

abbrev pub decreases-read_tokens-loop-s : goal.decreases-read_tokens-loop-s
decreases-read_tokens-loop-s l = length l.tokens - l.s.at
