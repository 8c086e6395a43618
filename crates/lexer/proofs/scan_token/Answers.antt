-- A letter begins a run, which is cut as a whole; any other head is one step of the scan.
use Rattle.std.proofs.Common.{sym, ◌∙◌, arith}
use Rattle.lexer.proofs.Runs.{run_stop, run_turn}
use Rattle.lexer.proofs.Steps.{step_asks, step_head, step_went, step-place}
use Rattle.lexer.proofs.scan_token.Goals as goal

pub parse_string-requires : goal.parse_string-requires
parse_string-requires c =
    let p = c.requires in
    let e = sym c.is_letter.ensures ∙ c.if-is_letter.true in
    (p.0, omega (arith, c.run_end-end.ensures, run_turn c.args.text.now c.args.s.at p.1 e))

pub head_at-requires : goal.head_at-requires
head_at-requires c =
    let p = c.requires in
    let e = sym c.is_letter.ensures ∙ c.if-is_letter.false in
    (run_stop c.args.text.now c.args.s.at p.1 e, p.1, p.0.short)

pub emit-requires : goal.emit-requires
emit-requires c =
    let p = c.requires in
    step_asks p.0.few p.1 c.head_at.ensures _ p.0.short p.0.room

pub returns : goal.returns
returns c =
    let p = c.requires in
    let f = p.0.few in
    let h = c.head_at.ensures in
    let e = c.emit.ensures in
    (step_went f p.1 h (omega (arith, f.some, p.1, p.0.room)) e, omega (arith, step-place f p.1 h e, (step_head f p.1 h).0))
