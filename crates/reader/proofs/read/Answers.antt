-- Question by question.
use Rattle.std.proofs.Common.{◌∙◌, refl, sym, length}
use Rattle.chord.proofs.Record.{no_chord-back}
use Rattle.reader.proofs.Answers.{is-blank, is-text, long_list, long_text, not_utf8, short-list}
use Rattle.reader.proofs.Judge.{gave_no_chord, gave_same, no, yes}
use Rattle.reader.proofs.read.Goals as goal

pub returns-then-errs-lt1028 : goal.returns-then-errs-lt1028
returns-then-errs-lt1028 c =
    let a = c.args in
    gave_no_chord a.errs.now (short-list (length a.errs.now) a.text.now c.if-errs-lt1028.true) refl refl refl no_chord-back refl

pub returns-then-text-gt256 : goal.returns-then-text-gt256
returns-then-text-gt256 c =
    let a = c.args in
    let o = long_list (length a.errs.now) a.text.now c.if-errs-lt1028.false in
    gave_no_chord a.errs.now (o ∙ long_text a.text.now c.if-text-gt256.true) refl refl refl no_chord-back refl

pub returns-then-not-well_formed : goal.returns-then-not-well_formed
returns-then-not-well_formed c =
    let a = c.args in
    let o = long_list (length a.errs.now) a.text.now c.if-errs-lt1028.false in
    let u = sym c.well_formed-2.ensures ∙ no c.well_formed-2.result c.if-not-well_formed.true-raw in
    gave_no_chord a.errs.now (o ∙ not_utf8 a.text.now c.if-text-gt256.false u) refl refl refl no_chord-back refl

pub returns-then-is_blank : goal.returns-then-is_blank
returns-then-is_blank c =
    let a = c.args in
    let o = long_list (length a.errs.now) a.text.now c.if-errs-lt1028.false in
    let w = c.well_formed-2 in
    let u = sym w.ensures ∙ yes w.result c.if-not-well_formed.false-raw in
    let b = sym c.is_blank.ensures ∙ c.if-is_blank.true in
    gave_no_chord a.errs.now (o ∙ is-blank a.text.now c.if-text-gt256.false u b) refl refl refl c.new.ensures.1 c.new.ensures.0

pub returns : goal.returns
returns c =
    let a = c.args in
    let o = long_list (length a.errs.now) a.text.now c.if-errs-lt1028.false in
    let w = c.well_formed-2 in
    let u = sym w.ensures ∙ yes w.result c.if-not-well_formed.false-raw in
    let b = sym c.is_blank.ensures ∙ c.if-is_blank.false in
    gave_same (o ∙ is-text a.text.now c.if-text-gt256.false u b) c.read_text.ensures
